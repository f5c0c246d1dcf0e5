use Rattle.std.proofs.Common.{◌≡◌, drop, map}
use Rattle.cx_callees.specs.Callees.{plain_callee}
use Rattle.cx_shape_calls.specs.Decisions.{calls_other}
use Rattle.cx_shape_calls.proofs.assigns.calls_other.Given as goal

-- one of all is another if one of those that are left is
abbrev pub invariant-loop-callee : goal.invariant-loop-callee
invariant-loop-callee l = calls_other (map plain_callee (drop l.callee-index l.called)) l.cell ≡ calls_other (map plain_callee l.called) l.cell
