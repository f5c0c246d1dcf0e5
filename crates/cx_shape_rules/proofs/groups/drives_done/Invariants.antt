use Rattle.std.proofs.Common.{◌≡◌, drop}
use Rattle.cx_rules.specs.ShapeRules.{is_hole, some_target}
use Rattle.cx_design.specs.PlainForms.{plain_assigns}
use Rattle.cx_shape_rules.proofs.groups.drives_done.Given as goal

-- one that drives a done is among those that are left
abbrev pub invariant-loop-assign : goal.invariant-loop-assign
invariant-loop-assign l = some_target is_hole (plain_assigns (drop l.assign-index l.assigns)) ≡ some_target is_hole (plain_assigns l.assigns)
