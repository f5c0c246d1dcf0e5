use Rattle.cx_holes.proofs.RenamedFits.{inlined_targets}
use Rattle.cx_holes.proofs.laws.inlining_keeps_targets.Goals as goal

pub returns : goal.returns
returns c = inlined_targets
