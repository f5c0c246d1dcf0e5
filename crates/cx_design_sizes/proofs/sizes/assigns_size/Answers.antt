use Rattle.std.proofs.Common.{refl, arith}
use Rattle.cx_design.specs.PlainForms.{plain_assigns}
use Rattle.cx_rules.specs.Sizes as sizes
use Rattle.cx_design_sizes.proofs.Caps.{ended}
use Rattle.cx_design_sizes.proofs.sizes.assigns_size.Goals as goal

pub returns : goal.returns
returns c = ended (λ assigns. sizes.assigns_size (plain_assigns assigns)) c.args.assigns.now c.loop-assign.assign-index c.loop-assign.size refl (omega arith) c.loop-assign.invariant.1 c.loop-assign.invariant.0
