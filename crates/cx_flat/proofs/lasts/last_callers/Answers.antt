use Rattle.std.proofs.Common.{◌≡◌, ◌∙◌, ◌<◌, Some, get_or, length, map, sym, ap, subst}
use Rattle.std.specs.Prelude.{is_some}
use Rattle.std.specs.List.{slice_get}
use Rattle.std.proofs.lemmas.List.{length-map}
use Rattle.std.proofs.lemmas.Option.{slice_get-get_or}
use Rattle.cx_meaning.specs.Designs.{PlainComponent, component_at}
use Rattle.cx_design.proofs.DesignFacts.{component_is}
use Rattle.cx_design.specs.PlainForms.{plain_cell, plain_component}
use Rattle.cx_design.specs.PlainDesigns.{plain_design}
use Rattle.cx_design_sizes.proofs.TallyLemmas.{turn_there}
use Rattle.cx_flat.proofs.LastLemmas.{lasts_turn}
use Rattle.cx_flat.proofs.lasts.last_callers.Goals as goal

pub bounds-components-order : goal.bounds-components-order
bounds-components-order c =
    let d = plain_design c.args.design.now in
    subst (λ n. get_or c.args.order.now c.loop-place.place 0 < n)
    (length-map c.args.design.now.components.items plain_component ∙ sym (ap length c.as_slice-components.ensures.value)) (turn_there d c.args.order.now c.loop-place.place 0 c.requires.first c.loop-place-test.true)

pub loop-place-preserved : goal.loop-place-preserved
loop-place-preserved c =
    let d = plain_design c.args.design.now in
    let order = c.args.order.now in
    let i = c.loop-place.place in
    let k = get_or order i 0 in
    let at : slice_get order i ≡ Some k = slice_get-get_or order i 0 c.loop-place-test.true in
    let there : k < length d.components = turn_there d order i 0 c.requires.first c.loop-place-test.true in
    let part = c.index-components-order.result in
    let own : plain_component part ≡ component_at d k =
    component_is c.args.design.now.components.items k part
    (subst (λ n. k < n) (length-map c.args.design.now.components.items plain_component) there)
    (c.index-components-order.is ∙ ap (λ xs. get_or xs k part) c.as_slice-components.ensures.value) in
    lasts_turn d order i k c.last_place-last.result c.loop-place.lasts.items c.raised-lasts.result.items c.deref.result.now c.requires.first c.loop-place.invariant at
    (ap (map plain_cell) c.deref.ensures.value ∙ ap (λ (p : PlainComponent). p.cells) own) c.last_place-last.ensures.place
    (λ moves. c.last_place-last.ensures.end (ap (λ (p : PlainComponent). is_some p.latency) own ∙ moves)) c.raised-lasts.ensures.sized c.raised-lasts.ensures.more c.raised-lasts.ensures.least
