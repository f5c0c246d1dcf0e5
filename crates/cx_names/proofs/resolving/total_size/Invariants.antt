use Rattle.std.proofs.Common.{◌≤◌, ◌-◌, ◌^◌, ◌≡◌, ◌+◌, drop, map}
use Rattle.cx_design.specs.PlainForms.{plain_component}
use Rattle.cx_rules.specs.Sizes.{sizes_of}
use Rattle.cx_design_sizes.specs.Capped.{capped}
use Rattle.cx_names.proofs.resolving.total_size.Given as goal

-- the size so far, with that of the components that are left, is that of all
abbrev pub invariant-loop-component : goal.invariant-loop-component
invariant-loop-component l = (capped (l.size + sizes_of (map plain_component (drop l.component-index l.components))) ≡ capped (sizes_of (map plain_component l.components))) × (l.size ≤ 2 ^ 64 - 1)
