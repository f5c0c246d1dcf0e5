use Rattle.cx_meaning.proofs.RunningLemmas.{start_idle}
use Rattle.cx_meaning.proofs.laws.start_is_settled.Goals as goal

pub returns : goal.returns
returns c = λ i keep path. start_idle i keep path
