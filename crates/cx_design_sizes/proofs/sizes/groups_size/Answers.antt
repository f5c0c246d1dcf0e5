use Rattle.std.proofs.Common.{map, refl, arith}
use Rattle.cx_design.specs.PlainForms.{plain_group}
use Rattle.cx_rules.specs.Sizes as sizes
use Rattle.cx_design_sizes.proofs.Caps.{ended}
use Rattle.cx_design_sizes.proofs.sizes.groups_size.Goals as goal

pub returns : goal.returns
returns c = ended (λ groups. sizes.groups_size (map plain_group groups)) c.args.groups.now c.loop-group.group-index c.loop-group.size refl (omega arith) c.loop-group.invariant.1 c.loop-group.invariant.0
