use Rattle.std.proofs.Common.{◌≡◌, drop}
use Rattle.cx_rules.specs.ShapeRules.{is_hole_of, some_target}
use Rattle.cx_design.specs.PlainForms.{plain_assigns}
use Rattle.cx_shape_rules.proofs.groups.drives_done_of.Given as goal

-- one that drives the done is among those that are left
abbrev pub invariant-loop-assign : goal.invariant-loop-assign
invariant-loop-assign l = some_target (is_hole_of l.number) (plain_assigns (drop l.assign-index l.assigns)) ≡ some_target (is_hole_of l.number) (plain_assigns l.assigns)
