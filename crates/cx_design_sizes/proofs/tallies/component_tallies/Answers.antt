use Rattle.std.proofs.Common.{◌≡◌, ◌<◌, get_or, length, sym, ap, ◌∙◌, subst}
use Rattle.std.proofs.lemmas.List.{length-map, length-replicate}
use Rattle.cx_meaning.specs.Designs.{component_at}
use Rattle.cx_design.proofs.DesignFacts.{component_is}
use Rattle.cx_design.specs.PlainForms.{plain_component}
use Rattle.cx_design.specs.PlainDesigns.{plain_design}
use Rattle.cx_design_sizes.specs.Tallies.{no_tally, above, cells_tally}
use Rattle.cx_design_sizes.proofs.TallyLemmas.{tally_begin, turn_there, tally_turn, tally_end}
use Rattle.cx_design_sizes.proofs.tallies.component_tallies.Goals as goal

pub loop-component-init : goal.loop-component-init
loop-component-init c =
    let d = plain_design c.args.design.now in
    tally_begin d c.args.order.now c.in_ok-tallies.tallies.items
    (ap length (c.in_ok-tallies.ensures.items_if_clones_equal (λ y h. h)) ∙ length-replicate (length c.as_slice-components.result.now) no_tally
    ∙ ap length c.as_slice-components.ensures.value ∙ sym (length-map c.args.design.now.components.items plain_component))

pub bounds-components-number : goal.bounds-components-number
bounds-components-number c =
    let d = plain_design c.args.design.now in
    let there : get_or c.args.order.now c.loop-component.component-index 0 < length d.components = turn_there d c.args.order.now c.loop-component.component-index 0 c.requires.first c.loop-component-test.true in
    subst (λ n. get_or c.args.order.now c.loop-component.component-index 0 < n)
    (length-map c.args.design.now.components.items plain_component ∙ sym (ap length c.as_slice-components.ensures.value)) there

pub index_mut-requires : goal.index_mut-requires
index_mut-requires c =
    let d = plain_design c.args.design.now in
    let there : get_or c.args.order.now c.loop-component.component-index 0 < length d.components = turn_there d c.args.order.now c.loop-component.component-index 0 c.requires.first c.loop-component-test.true in
    subst (λ n. get_or c.args.order.now c.loop-component.component-index 0 < n)
    (sym c.loop-component.invariant.sized ∙ sym (ap length c.deref.ensures.value) ∙ c.deref.ensures.len) there

pub loop-component-preserved : goal.loop-component-preserved
loop-component-preserved c =
    let d = plain_design c.args.design.now in
    let there : get_or c.args.order.now c.loop-component.component-index 0 < length d.components = turn_there d c.args.order.now c.loop-component.component-index 0 c.requires.first c.loop-component-test.true in
    let part = c.index-components-number.result in
    let own : plain_component c.index-components-number.result ≡ component_at d (get_or c.args.order.now c.loop-component.component-index 0) =
    component_is c.args.design.now.components.items (get_or c.args.order.now c.loop-component.component-index 0) c.index-components-number.result
    (subst (λ n. get_or c.args.order.now c.loop-component.component-index 0 < n) (length-map c.args.design.now.components.items plain_component) there)
    (c.index-components-number.is ∙ ap (λ xs. get_or xs (get_or c.args.order.now c.loop-component.component-index 0) c.index-components-number.result) c.as_slice-components.ensures.value) in
    tally_turn d c.args.order.now c.loop-component.component-index 0 c.loop-component.tallies.items (plain_component part) c.component_tally.result c.requires.first c.loop-component.invariant
    c.loop-component-test.true own
    (c.component_tally.ensures ∙ ap (λ ts. above (plain_component part) (cells_tally ts (plain_component part).cells)) c.deref.ensures.value)

pub returns : goal.returns
returns c =
    let d = plain_design c.args.design.now in
    record {
      sized = c.loop-component.invariant.sized ∙ length-map c.args.design.now.components.items plain_component;
      value = tally_end d c.args.order.now c.loop-component.component-index c.loop-component.tallies.items c.loop-component-test.false c.loop-component.auto.component-index-end c.loop-component.invariant;
    }
