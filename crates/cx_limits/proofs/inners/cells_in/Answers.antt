use Rattle.std.proofs.Common.{refl, arith}
use Rattle.cx_design_sizes.proofs.Caps.{ended}
use Rattle.cx_limits.specs.Inners.{cell_counts}
use Rattle.cx_limits.specs.Rows.{plain_inners}
use Rattle.cx_limits.proofs.inners.cells_in.Goals as goal

pub returns : goal.returns
returns c = ended (λ below. cell_counts (plain_inners below)) c.args.below.now c.loop-inner.inner-index c.loop-inner.count refl (omega arith) c.loop-inner.invariant.1 c.loop-inner.invariant.0
