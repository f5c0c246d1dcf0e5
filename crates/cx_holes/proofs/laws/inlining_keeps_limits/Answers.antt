use Rattle.cx_holes.proofs.RenamedLimits.{inlined_writable}
use Rattle.cx_holes.proofs.laws.inlining_keeps_limits.Goals as goal

pub returns : goal.returns
returns c = inlined_writable
