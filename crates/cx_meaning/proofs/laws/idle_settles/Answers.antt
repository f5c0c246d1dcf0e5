use Rattle.cx_meaning.proofs.RunningLemmas.{idle_settles}
use Rattle.cx_meaning.proofs.laws.idle_settles.Goals as goal

pub returns : goal.returns
returns c = λ i s keep. idle_settles i keep s
