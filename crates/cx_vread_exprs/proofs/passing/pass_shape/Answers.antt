use Rattle.std.proofs.Common.{◌≡◌, ◌∙◌, ap, sym, length, reverse, arith}
use Rattle.std.proofs.lemmas.Result.{err_from_is_err_and}
use Rattle.cx_vscope.specs.ScopeValues.{scope_by}
use Rattle.cx_vread_exprs.specs.Answers.{place_of}
use Rattle.cx_vread_exprs.specs.Passing.{pass_on}
use Rattle.cx_vread_exprs.proofs.PassSteps.{opens_on, opens_none, closes_on, closes_none, ended, out_of_steps}
use Rattle.cx_vread_exprs.proofs.passing.pass_shape.Goals as goal
use Rattle.cx_vread_exprs.proofs.passing.pass_shape.Goals.{in-Within+in_ok-push-in-Within+in_ok-found-in-Within, in-Ended+in-Some+in_ok-found-in-Ended}

pub returns-in_err-found-in-Within : goal.returns-in_err-found-in-Within
returns-in_err-found-in-Within c =
    let p = err_from_is_err_and c.from_residual-in_err-found-in-Within.result c.from_residual-in_err-found-in-Within.ensures.1 in
    rw (p.1, p.2)
    (opens_none (scope_by c.args.scope.now) c.in_err-found-in-Within.field-0.0 c.loop-left.left c.in-Within.after (reverse c.loop-left.awaited.items) (place_of c.loop-left.here) _
    (ap (λ o. pass_on (scope_by c.args.scope.now) c.loop-left.left o (reverse c.loop-left.awaited.items) (place_of c.loop-left.here)) (sym c.in-Within.is) ∙ c.loop-left.invariant) c.loop-left-test.true c.in_err-found-in-Within.ensures)

pub returns-in_default : goal.returns-in_default
returns-in_default c =
    let none : length c.loop-left.awaited.items ≡ 0 = omega (arith, c.loop-left.awaited.ok.0, c.in_default.ensures.cases.0) in
    ended (scope_by c.args.scope.now) c.loop-left.left c.in-Ended.shape c.loop-left.awaited.items (place_of c.loop-left.here) _
    (ap (λ o. pass_on (scope_by c.args.scope.now) c.loop-left.left o (reverse c.loop-left.awaited.items) (place_of c.loop-left.here)) (sym c.in-Ended.is) ∙ c.loop-left.invariant) c.loop-left-test.true none

pub returns-in_err-found-in-Ended : goal.returns-in_err-found-in-Ended
returns-in_err-found-in-Ended c =
    let p = err_from_is_err_and c.from_residual-in_err-found-in-Ended.result c.from_residual-in_err-found-in-Ended.ensures.1 in
    rw (p.1, p.2)
    (closes_none (scope_by c.args.scope.now) c.in_err-found-in-Ended.field-0.0 c.loop-left.left c.in-Ended.shape c.in-Some.last c.loop-left.awaited.items c.pop.new.self.items (place_of c.loop-left.here) _
    (ap (λ o. pass_on (scope_by c.args.scope.now) c.loop-left.left o (reverse c.loop-left.awaited.items) (place_of c.loop-left.here)) (sym c.in-Ended.is) ∙ c.loop-left.invariant) c.loop-left-test.true c.in-Some.ensures.items c.in_err-found-in-Ended.ensures)

pub loop-left-preserved : goal.loop-left-preserved
loop-left-preserved c =
    elim c.match-next.branch [
      | in-Within+in_ok-push-in-Within+in_ok-found-in-Within w ↦
          rw (w.next-is, w.awaited-is, w.here-is)
          (opens_on (scope_by c.args.scope.now) c.loop-left.left w.in-Within.after w.in_ok-found-in-Within.found c.loop-left.awaited.items w.push.new.self.items (place_of c.loop-left.here) (place_of w.in_ok-found-in-Within.behind) _
          (ap (λ o. pass_on (scope_by c.args.scope.now) c.loop-left.left o (reverse c.loop-left.awaited.items) (place_of c.loop-left.here)) (sym w.in-Within.is) ∙ c.loop-left.invariant) c.loop-left-test.true w.in_ok-push-in-Within.ensures.items w.in_ok-found-in-Within.ensures)
      | in-Ended+in-Some+in_ok-found-in-Ended w ↦
          rw (w.next-is, w.awaited-is, w.here-is)
          (closes_on (scope_by c.args.scope.now) c.loop-left.left w.in-Ended.shape w.in-Some.last w.in_ok-found-in-Ended.found c.loop-left.awaited.items w.pop.new.self.items (place_of c.loop-left.here) (place_of w.in_ok-found-in-Ended.behind) _
          (ap (λ o. pass_on (scope_by c.args.scope.now) c.loop-left.left o (reverse c.loop-left.awaited.items) (place_of c.loop-left.here)) (sym w.in-Ended.is) ∙ c.loop-left.invariant) c.loop-left-test.true w.in-Some.ensures.items w.in_ok-found-in-Ended.ensures)
    ]

pub returns : goal.returns
returns c =
    let none : c.loop-left.left ≡ 0 = omega (arith, c.loop-left-test.false) in
    out_of_steps (scope_by c.args.scope.now) c.loop-left.left c.loop-left.next (reverse c.loop-left.awaited.items) (place_of c.loop-left.here) _ c.loop-left.invariant none
