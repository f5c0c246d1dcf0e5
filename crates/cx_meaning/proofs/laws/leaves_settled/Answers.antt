use Rattle.cx_meaning.proofs.RunningLemmas.{settles_statement}
use Rattle.cx_meaning.proofs.laws.leaves_settled.Goals as goal

pub returns : goal.returns
returns c = λ i held statement s n keep h. settles_statement i keep held statement s n h
