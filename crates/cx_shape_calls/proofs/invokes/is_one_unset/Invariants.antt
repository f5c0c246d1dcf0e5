use Rattle.std.proofs.Common.{◌≡◌, drop, not}
use Rattle.std.specs.List.{list_any}
use Rattle.cx_shape_calls.proofs.invokes.is_one_unset.Given as goal

-- one of all is not set if one of those that are left is
abbrev pub invariant-loop-mark : goal.invariant-loop-mark
invariant-loop-mark l = list_any not (drop l.mark-index l.marks) ≡ list_any not l.marks
