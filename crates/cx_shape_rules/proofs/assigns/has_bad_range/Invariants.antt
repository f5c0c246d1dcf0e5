use Rattle.std.proofs.Common.{◌≡◌, drop, map}
use Rattle.cx_design_parts.specs.Items.{plain_range}
use Rattle.cx_shape_rules.specs.ShapeBreaks.{some_bad}
use Rattle.cx_shape_rules.proofs.assigns.has_bad_range.Given as goal

-- a bad one is among those that are left
abbrev pub invariant-loop-range : goal.invariant-loop-range
invariant-loop-range l = some_bad l.length (map plain_range (drop l.range-index l.ranges)) ≡ some_bad l.length (map plain_range l.ranges)
