use Rattle.std.proofs.Common.{◌+◌, length, sym, ap, ◌∙◌, subst, arith}
use Rattle.cx_prim.specs.Table.{row_of}
use Rattle.cx_eval_cycle.specs.Stepping.{on_side}
use Rattle.cx_eval_cycle.proofs.PortLemmas.{AreSoFar, so_far_skips, so_far_takes}
use Rattle.cx_eval_cycle.proofs.sides.ports_on.Goals.{then-has_side+in_ok-push, else-has_side}
use Rattle.cx_eval_cycle.proofs.sides.ports_on.Goals as goal

pub loop-port-preserved : goal.loop-port-preserved
loop-port-preserved c =
    let row = row_of c.args.primitive.now in
    let test = on_side c.args.side row in
    let p = c.loop-port.port in
    let far = c.loop-port.invariant in
    let count = c.port_count-port-end.ensures.value in
    let inside = c.loop-port-test.true in
    elim c.if-has_side.branch [
      | then-has_side+in_ok-push w ↦ so_far_takes test (length row.ports) c.loop-port.numbers.items c.if-has_side.numbers.items p (omega (arith, count, inside)) (sym w.if-has_side.ensures.value) (ap (λ v. v.items) w.numbers-is ∙ w.in_ok-push.ensures.items) far
      | else-has_side w ↦ subst (λ v. AreSoFar test (length row.ports) v.items (p + 1)) (sym w.numbers-is) (so_far_skips test (length row.ports) c.loop-port.numbers.items p (omega (arith, count, inside)) (sym w.if-has_side.ensures.value) far)
    ]
