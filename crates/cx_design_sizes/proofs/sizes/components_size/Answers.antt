use Rattle.std.proofs.Common.{map, refl, arith}
use Rattle.cx_design.specs.PlainForms.{plain_component}
use Rattle.cx_rules.specs.Sizes as sizes
use Rattle.cx_design_sizes.proofs.Caps.{ended}
use Rattle.cx_design_sizes.proofs.sizes.components_size.Goals as goal

pub returns : goal.returns
returns c = ended (λ parts. sizes.sizes_of (map plain_component parts)) c.args.parts.now c.loop-part.part-index c.loop-part.size refl (omega arith) c.loop-part.invariant.1 c.loop-part.invariant.0
