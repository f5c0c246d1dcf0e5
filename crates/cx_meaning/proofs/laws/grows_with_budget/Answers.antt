use Rattle.cx_meaning.proofs.RunningLemmas.{steady_statement}
use Rattle.cx_meaning.proofs.laws.grows_with_budget.Goals as goal

pub returns : goal.returns
returns c = λ i held statement s n m le. steady_statement i held statement s n m le
