use Rattle.std.proofs.Common.{◌≤◌, ◌-◌, ◌^◌, ◌≡◌, ◌+◌, drop, map}
use Rattle.cx_design.specs.PlainForms.{plain_group}
use Rattle.cx_rules.specs.Sizes as sizes
use Rattle.cx_design_sizes.specs.Capped.{capped}
use Rattle.cx_design_sizes.proofs.sizes.groups_size.Given as goal

abbrev pub invariant-loop-group : goal.invariant-loop-group
invariant-loop-group l = (capped (l.size + sizes.groups_size (map plain_group (drop l.group-index l.groups))) ≡ capped (sizes.groups_size (map plain_group l.groups))) × (l.size ≤ 2 ^ 64 - 1)
