use Rattle.std.proofs.Common.{◌≡◌, ◌∷◌, ℕ, ◌<◌, false, ◌++◌, [], ◌∙◌, length, sym, ap, arith, filter, get_or, ◌+◌, ◌-◌}
use Rattle.cx_static.specs.PlainLowered.{plain_lowereds}
use Rattle.cx_wiring.specs.Reached.{count, has_number, numbers_from, reached_from}
use Rattle.cx_fsm.proofs.OrderingLemmas.{kept_number, left_number}
use Rattle.cx_fsm.proofs.ordering.reached.Goals as goal
use Rattle.cx_fsm.proofs.ordering.reached.Goals.{then-is_marked+in_ok-number_of+in_ok-push, else-is_marked}

pub loop-component-preserved : goal.loop-component-preserved
loop-component-preserved c =
    let d = plain_lowereds c.args.design.now in
    let is_reached = λ (k : ℕ). has_number k (reached_from d (count d) d.main) in
    let n = c.loop-component.component in
    let items = c.as_slice-is_marked-items.result.now in
    let same : length items ≡ count d = ap length c.as_slice-is_marked-items.ensures.value ∙ c.in_ok-marks.ensures.value.all in
    let here : n < length items = c.loop-component-test.true in
    let within : n < count d = omega arith in
    let right : is_reached n ≡ get_or items n false = sym (c.in_ok-marks.ensures.value.right n within) ∙ ap (λ l. get_or l n false) (sym c.as_slice-is_marked-items.ensures.value) in
    elim c.if-is_marked.branch [
      | then-is_marked+in_ok-number_of+in_ok-push w ↦
          kept_number is_reached n (count d) c.loop-component.list.items c.if-is_marked.list.items _ within (right ∙ w.if-is_marked.true)
          (ap (λ v. v.items) w.list-is ∙ w.in_ok-push.ensures.items ∙ ap (λ m. c.loop-component.list.items ++ m ∷ []) w.in_ok-number_of.ensures.value) c.loop-component.invariant
      | else-is_marked w ↦
          ap (λ v. v.items ++ filter is_reached (numbers_from (n + 1) (count d - (n + 1)))) w.list-is
          ∙ left_number is_reached n (count d) c.loop-component.list.items _ within (right ∙ w.if-is_marked.false) c.loop-component.invariant
    ]
