use Rattle.std.proofs.Common.{◌≡◌, ◌&&◌, drop, map, nat_eq, not}
use Rattle.std.specs.List.{list_any}
use Rattle.cx_callees.specs.Callees.{PlainCallee, plain_callee}
use Rattle.cx_shape_calls.specs.Forms.{times}
use Rattle.cx_shape_calls.proofs.forms.lacks.Given as goal

-- one of all lacks it if one of those that are left does
abbrev pub invariant-loop-callee : goal.invariant-loop-callee
invariant-loop-callee l =
    let f = λ (k : PlainCallee). not (not (nat_eq (times l.driven k.cell 0) 0) && l.has_done) in
    list_any f (map plain_callee (drop l.callee-index l.called)) ≡ list_any f (map plain_callee l.called)
