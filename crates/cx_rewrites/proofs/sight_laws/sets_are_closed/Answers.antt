use Rattle.cx_rewrites.proofs.ClosedLemmas.{is_closed}
use Rattle.cx_rewrites.proofs.sight_laws.sets_are_closed.Goals as goal

pub returns : goal.returns
returns g c = λ i act p q named read here leads. is_closed i act g.W.Rewriting.inside named read p q here leads
