use Rattle.std.proofs.Common.{◌≤◌, ◌-◌, ◌^◌, ◌≡◌, ◌+◌, drop, map}
use Rattle.cx_design.specs.PlainForms.{plain_component}
use Rattle.cx_rules.specs.Sizes as sizes
use Rattle.cx_design_sizes.specs.Capped.{capped}
use Rattle.cx_design_sizes.proofs.sizes.components_size.Given as goal

abbrev pub invariant-loop-part : goal.invariant-loop-part
invariant-loop-part l = (capped (l.size + sizes.sizes_of (map plain_component (drop l.part-index l.parts))) ≡ capped (sizes.sizes_of (map plain_component l.parts))) × (l.size ≤ 2 ^ 64 - 1)
