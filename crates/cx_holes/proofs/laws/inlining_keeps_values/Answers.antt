use Rattle.cx_net.specs.NetRuns.{AreWords}
use Rattle.cx_holes.proofs.RenamedRuns.{inlined_grounded}
use Rattle.cx_holes.proofs.laws.inlining_keeps_values.Goals as goal

pub returns : goal.returns
returns c = λ n d names. inlined_grounded n names (AreWords d)
