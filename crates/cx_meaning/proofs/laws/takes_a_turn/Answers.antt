use Rattle.cx_meaning.proofs.RunningLemmas.{takes_statement}
use Rattle.cx_meaning.proofs.laws.takes_a_turn.Goals as goal

pub returns : goal.returns
returns c = λ i held statement s n. takes_statement i held statement s n
