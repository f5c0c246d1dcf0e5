use Rattle.std.proofs.Common.{◌≡◌, ◌∷◌, ◌+◌, ◌∙◌, Some, None, drop, get_or, length, map, option_map, slice_get, refl, sym, ap, add-one, drop-cons}
use Rattle.std.proofs.lemmas.List.{map_push}
use Rattle.std.proofs.lemmas.Option.{slice_get-map, slice_get_past, slice_get_read}
use Rattle.cx_net.specs.PlainNets.{plain_net_component}
use Rattle.cx_static.specs.PlainLowered.{plain_lowered, plain_lowereds}
use Rattle.cx_wiring.specs.Wiring.{net_component}
use Rattle.cx_fsm.proofs.ComponentLemmas.{net_more, net_same}
use Rattle.cx_fsm.proofs.building.net_components.Goals as goal
use Rattle.cx_fsm.proofs.building.net_components.Goals.{in-Some+in_ok-net_component+in_ok-push, in_default}

pub loop-number-preserved : goal.loop-number-preserved
loop-number-preserved c =
    let d = plain_lowereds c.args.design.now in
    let i = c.loop-number.number-index in
    let n = get_or c.args.order.now i 0 in
    let rest = drop (i + 1) c.args.order.now in
    let other : drop i c.args.order.now ≡ n ∷ rest = drop-cons c.args.order.now i 0 c.loop-number-test.true ∙ ap (λ j. n ∷ drop j c.args.order.now) (sym (add-one i)) in
    let items = c.components-components.result.now in
    let made = map plain_net_component c.loop-number.parts.items in
    let given : slice_get d.components n ≡ option_map plain_lowered (slice_get items n) = ap (λ l. slice_get l n) (sym c.components-components.ensures.value) ∙ slice_get-map plain_lowered items n in
    elim c.match-get.branch [
      | in-Some+in_ok-net_component+in_ok-push w ↦
          let there : slice_get d.components n ≡ Some (plain_lowered w.in-Some.component.now) =
          given ∙ ap (option_map plain_lowered) (slice_get_read items (length items) n w.in-Some.component.now refl w.in-Some.ensures.lookup.3.0 w.in-Some.ensures.lookup.1) in
          rw (ap (λ v. v.items) w.parts-is, w.in_ok-push.ensures.items, map_push plain_net_component c.loop-number.parts.items w.in_ok-net_component.field-0)
          (net_more (net_component d) (slice_get d.components) n rest made _ (plain_lowered w.in-Some.component.now) (plain_net_component w.in_ok-net_component.field-0) there w.in_ok-net_component.ensures.value
          (rw other at c.loop-number.invariant))
      | in_default w ↦
          let none : slice_get d.components n ≡ None = given ∙ ap (option_map plain_lowered) (slice_get_past items n w.in_default.ensures.lookup.3) in
          rw (ap (λ v. v.items) w.parts-is) (net_same (net_component d) (slice_get d.components) n rest made _ none (rw other at c.loop-number.invariant))
    ]
