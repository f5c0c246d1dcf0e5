use Rattle.std.proofs.Common.{◌≡◌, ◌++◌, drop, filter, option_map}
use Rattle.cx_rules.specs.Items.{option_list}
use Rattle.cx_rules.specs.ShapeRules.{is_hole}
use Rattle.cx_design.specs.PlainForms.{plain_assign, plain_assigns}
use Rattle.cx_promote.proofs.lengths.only_done.Given as goal

-- the one that was met, and those that are left
abbrev pub invariant-loop-assign : goal.invariant-loop-assign
invariant-loop-assign l =
    option_list (option_map (λ a. plain_assign a.now) l.found) ++ filter (λ a. is_hole a.target) (plain_assigns (drop l.assign-index l.assigns))
    ≡ filter (λ a. is_hole a.target) (plain_assigns l.assigns)
