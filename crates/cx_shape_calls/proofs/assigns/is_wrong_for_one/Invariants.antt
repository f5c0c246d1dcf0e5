use Rattle.std.proofs.Common.{◌≡◌, ◌&&◌, ◌∷◌, [], drop, map, not}
use Rattle.std.specs.List.{list_any}
use Rattle.cx_rules.specs.CallShape.{is_right_enable}
use Rattle.cx_design.specs.PlainForms.{plain_assign}
use Rattle.cx_callees.specs.Callees.{PlainCallee, plain_callee, done_of}
use Rattle.cx_shape_calls.proofs.assigns.is_wrong_for_one.Given as goal

-- it is wrong for one of all if it is for one of those that are left
abbrev pub invariant-loop-callee : goal.invariant-loop-callee
invariant-loop-callee l =
    let f = λ (k : PlainCallee). not (l.alone && is_right_enable (done_of k) (plain_assign l.assign ∷ [])) in list_any f (map plain_callee (drop l.callee-index l.called)) ≡ list_any f (map plain_callee l.called)
