use Rattle.std.proofs.Common.{◌≡◌, ℕ, ◌+◌, ◌-◌, ◌++◌, ◌<◌, [], ◌∙◌, List, sym, ap, ap₂, arith, nat_eq, filter, flat_map, get_or, append-nil}
use Rattle.cx_static.specs.PlainLowered.{plain_lowereds}
use Rattle.cx_wiring.specs.Reached.{numbers_from}
use Rattle.cx_fsm.proofs.OrderingLemmas.{number_flat, numbers_none, order_is}
use Rattle.cx_fsm.proofs.ordering.ordered.Goals as goal

pub loop-height-preserved : goal.loop-height-preserved
loop-height-preserved c =
    let all : c.in_ok-height-end.height-end ≡ c.in_ok-heights.levels + 1 = c.in_ok-height-end.ensures.value in
    let within : c.loop-height.height < c.in_ok-heights.levels + 1 = omega arith in
    let at = λ (h : ℕ). filter (λ k. nat_eq (get_or c.in_ok-heights.heights.items k 0) h) c.in_ok-reached.reached.items in
    number_flat at c.loop-height.height (c.in_ok-heights.levels + 1) c.loop-height.list.items c.add_height.new.list.items _ within
    (c.in_ok-add_height.ensures.value
    ∙ ap₂ (λ (hs : List ℕ) (ks : List ℕ). c.loop-height.list.items ++ filter (λ k. nat_eq (get_or hs k 0) c.loop-height.height) ks) c.deref-in-loop-height.ensures.value c.deref.ensures.value)
    c.loop-height.invariant

pub returns : goal.returns
returns c =
    let d = plain_lowereds c.args.design.now in
    let all : c.in_ok-height-end.height-end ≡ c.in_ok-heights.levels + 1 = c.in_ok-height-end.ensures.value in
    let none : numbers_from c.loop-height.height (c.in_ok-heights.levels + 1 - c.loop-height.height) ≡ [] = numbers_none c.loop-height.height (c.in_ok-heights.levels + 1) (omega arith) in
    record {
      value =
          sym (append-nil c.loop-height.list.items)
          ∙ (rw none at c.loop-height.invariant)
          ∙ ap (λ (ks : List ℕ). flat_map (λ h. filter (λ k. nat_eq (get_or c.in_ok-heights.heights.items k 0) h) ks) (numbers_from 0 (c.in_ok-heights.levels + 1))) c.in_ok-reached.ensures.value
          ∙ order_is d c.in_ok-heights.levels c.in_ok-heights.heights.items c.in_ok-heights.ensures.value c.in_ok-heights.ensures.within c.in_ok-heights.ensures.few;
    }
