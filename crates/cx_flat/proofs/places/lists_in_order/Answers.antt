use Rattle.std.proofs.Common.{◌≡◌, ◌<◌, Some, get_or, length, sym, ap, ◌∙◌, subst, arith}
use Rattle.std.specs.List.{slice_get}
use Rattle.std.specs.Vec.{vec_len}
use Rattle.std.proofs.lemmas.List.{length-map}
use Rattle.std.proofs.lemmas.Option.{slice_get-get_or}
use Rattle.cx_text.proofs.MemberLaws.{in_at}
use Rattle.cx_meaning.specs.Designs.{component_at}
use Rattle.cx_design.proofs.DesignFacts.{component_is}
use Rattle.cx_design.specs.PlainForms.{plain_component}
use Rattle.cx_design.specs.PlainDesigns.{plain_design}
use Rattle.cx_flat.specs.Places.{component_places, listed}
use Rattle.cx_flat.specs.Tables.{kids_of, plain_table}
use Rattle.cx_flat.proofs.PlaceLemmas.{places_begin, places_turn, places_end}
use Rattle.cx_flat.proofs.TableLemmas.{kids_begin}
use Rattle.cx_flat.proofs.places.lists_in_order.Goals as goal

pub loop-place-init : goal.loop-place-init
loop-place-init c =
    let d = plain_design c.args.design.now in
    let sized : length c.as_slice-components.result.now ≡ length d.components = ap length c.as_slice-components.ensures.value ∙ sym (length-map c.args.design.now.components.items plain_component) in
    record {
      kids = kids_begin d c.args.order.now c.args.lasts.now c.in_ok-kids.kids.items (c.in_ok-kids.ensures.value ∙ sized);
      lists = places_begin d c.args.order.now c.args.lasts.now c.requires.first c.requires.lasts c.in_ok-lists.lists.items (c.in_ok-lists.ensures.value ∙ sized);
    }

pub bounds-components-number : goal.bounds-components-number
bounds-components-number c =
    let k = get_or c.args.order.now c.loop-place.place 0 in
    let at : slice_get c.args.order.now c.loop-place.place ≡ Some k = slice_get-get_or c.args.order.now c.loop-place.place 0 c.loop-place-test.true in
    subst (λ n. k < n)
    (length-map c.args.design.now.components.items plain_component ∙ sym (ap length c.as_slice-components.ensures.value)) (c.requires.first.there k (in_at c.args.order.now c.loop-place.place k at))

pub index_mut-requires : goal.index_mut-requires
index_mut-requires c =
    let k = get_or c.args.order.now c.loop-place.place 0 in
    let at : slice_get c.args.order.now c.loop-place.place ≡ Some k = slice_get-get_or c.args.order.now c.loop-place.place 0 c.loop-place-test.true in
    let size : vec_len c.loop-place.lists ≡ length c.loop-place.lists.items = omega (arith, c.loop-place.lists.ok.0) in
    subst (λ n. k < n) (sym c.loop-place.invariant.lists.sized ∙ sym size) (c.requires.first.there k (in_at c.args.order.now c.loop-place.place k at))

pub loop-place-preserved : goal.loop-place-preserved
loop-place-preserved c =
    let d = plain_design c.args.design.now in
    let i = c.loop-place.place in
    let k = get_or c.args.order.now c.loop-place.place 0 in
    let at : slice_get c.args.order.now i ≡ Some k = slice_get-get_or c.args.order.now i 0 c.loop-place-test.true in
    let there : k < length d.components = c.requires.first.there k (in_at c.args.order.now i k at) in
    let part = c.index-components-number.result in
    let own : plain_component part ≡ component_at d k =
    component_is c.args.design.now.components.items k part
    (subst (λ n. k < n) (length-map c.args.design.now.components.items plain_component) there)
    (c.index-components-number.is ∙ ap (λ xs. get_or xs k part) c.as_slice-components.ensures.value) in
    record {
      kids = c.in_ok-kids-2.ensures.value;
      lists = places_turn d c.args.order.now c.args.lasts.now c.requires.first c.requires.lasts c.loop-place.kids.items c.loop-place.lists.items i k (plain_component part) c.in_ok-list.list c.loop-place.invariant.kids c.loop-place.invariant.lists at own
          (c.in_ok-list.ensures.value
          ∙ ap (λ ts. component_places (kids_of (plain_table ts) (plain_component part).cells) (plain_component part) (listed c.deref-in-loop-place.result.now)) c.deref.ensures.value
          ∙ ap (λ ls. component_places (kids_of (plain_table c.loop-place.kids.items) (plain_component part).cells) (plain_component part) (listed ls)) c.deref-in-loop-place.ensures.value);
    }

pub returns : goal.returns
returns c =
    record { value = places_end (plain_design c.args.design.now) c.args.order.now c.args.lasts.now c.requires.first c.requires.lasts c.loop-place.place c.loop-place.lists.items c.loop-place-test.false c.loop-place.auto.place-end c.loop-place.invariant.lists }
