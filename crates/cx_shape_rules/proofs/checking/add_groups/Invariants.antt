use Rattle.std.proofs.Common.{◌≡◌, drop, map}
use Rattle.cx_design.specs.PlainForms.{plain_group}
use Rattle.cx_design_parts.specs.Breaks.{first_of}
use Rattle.cx_design_parts.specs.Numbered.{numbered}
use Rattle.cx_shape_rules.specs.ShapeBreaks.{group_breaks_at}
use Rattle.cx_shape_rules.proofs.checking.add_groups.Given as goal

-- the first so far, with the groups that are left, is the first of all
abbrev pub invariant-loop-place : goal.invariant-loop-place
invariant-loop-place l =
    let f = group_breaks_at l.number in
    first_of l.first (numbered f l.place (map plain_group (drop l.place l.groups))) ≡ first_of l.initial.first (numbered f 0 (map plain_group l.groups))
