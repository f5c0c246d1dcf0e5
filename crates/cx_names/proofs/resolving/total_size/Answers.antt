use Rattle.std.proofs.Common.{map, refl, arith}
use Rattle.cx_design.specs.PlainForms.{plain_component}
use Rattle.cx_rules.specs.Sizes.{sizes_of}
use Rattle.cx_design_sizes.proofs.Caps.{ended}
use Rattle.cx_names.proofs.resolving.total_size.Goals as goal

pub returns : goal.returns
returns c = ended (λ components. sizes_of (map plain_component components)) c.args.components.now c.loop-component.component-index c.loop-component.size refl (omega arith) c.loop-component.invariant.1 c.loop-component.invariant.0
