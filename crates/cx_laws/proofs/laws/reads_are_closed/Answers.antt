use Rattle.cx_laws.proofs.ReadsLemmas.{reads_closed}
use Rattle.cx_laws.proofs.laws.reads_are_closed.Goals as goal

pub returns : goal.returns
returns c = λ part s. reads_closed part s
