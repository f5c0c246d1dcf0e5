use Rattle.std.proofs.Common.{◌≡◌, drop, map}
use Rattle.cx_design.specs.PlainForms.{plain_assign}
use Rattle.cx_callees.specs.Callees.{plain_callee}
use Rattle.cx_shape_calls.specs.Forms.{is_wrong_done}
use Rattle.cx_shape_calls.proofs.dones.is_wrong_for_one.Given as goal

-- it is wrong for one of all if it is for one of those that are left
abbrev pub invariant-loop-callee : goal.invariant-loop-callee
invariant-loop-callee l =
    let dones = map (λ a. plain_assign a.now) l.dones in
    is_wrong_done (map plain_callee (drop l.callee-index l.called)) l.captured dones ≡ is_wrong_done (map plain_callee l.called) l.captured dones
