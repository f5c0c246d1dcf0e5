use Rattle.cx_race.proofs.ReadAllLemmas.{all_reads_reached, reached_all_reads}
use Rattle.cx_race.proofs.laws.reads_all_by_links.Goals as goal

pub returns : goal.returns
returns c = λ part g s cell links. (all_reads_reached part s g links cell, reached_all_reads part s g links cell)
