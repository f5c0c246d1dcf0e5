use Rattle.std.proofs.Common.{◌≡◌, drop}
use Rattle.cx_rules.specs.Ports.{component_of, is_part_port}
use Rattle.cx_rules.specs.ShapeRules.{some_target}
use Rattle.cx_design.specs.PlainDesigns.{plain_design}
use Rattle.cx_design.specs.PlainForms.{plain_assigns}
use Rattle.cx_promote.proofs.lengths.drives_part.Given as goal

-- one that drives such a port is among those that are left
abbrev pub invariant-loop-assign : goal.invariant-loop-assign
invariant-loop-assign l =
    some_target (is_part_port (component_of (plain_design l.design) l.number)) (plain_assigns (drop l.assign-index l.assigns))
    ≡ some_target (is_part_port (component_of (plain_design l.design) l.number)) (plain_assigns l.assigns)
