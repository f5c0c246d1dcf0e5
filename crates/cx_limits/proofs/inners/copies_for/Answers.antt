use Rattle.std.proofs.Common.{map, refl, arith}
use Rattle.cx_design.specs.PlainForms.{plain_invoke}
use Rattle.cx_rules.specs.Counts as counts
use Rattle.cx_design_sizes.proofs.Caps.{ended}
use Rattle.cx_limits.specs.Rows.{plain_inners}
use Rattle.cx_limits.proofs.inners.copies_for.Goals as goal

pub returns : goal.returns
returns c =
    ended (λ invokes. counts.copies_for (plain_inners c.args.below.now) (map plain_invoke invokes)) c.args.invokes.now c.loop-invoke.invoke-index c.loop-invoke.count refl (omega arith)
    c.loop-invoke.invariant.1 c.loop-invoke.invariant.0
