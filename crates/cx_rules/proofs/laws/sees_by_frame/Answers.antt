use Rattle.cx_rules.proofs.FrameLemmas.{carried}
use Rattle.cx_rules.proofs.laws.sees_by_frame.Goals as goal

pub returns : goal.returns
returns c = λ i held other_held act other s t set p x frame inside sees. carried i held other_held act other s t set frame inside sees
