use Rattle.cx_race.proofs.ReadLemmas.{reads_reached, reached_reads}
use Rattle.cx_race.proofs.laws.reads_by_links.Goals as goal

pub returns : goal.returns
returns c = λ part g s cell links. (reads_reached part s g links cell, reached_reads part s g links cell)
