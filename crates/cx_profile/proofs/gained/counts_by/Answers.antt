use Rattle.std.proofs.Common.{◌≡◌, ◌<◌, get_or, length, sym, ap, ◌∙◌, subst}
use Rattle.std.proofs.lemmas.List.{length-map}
use Rattle.cx_meaning.specs.Designs.{component_at}
use Rattle.cx_design.proofs.DesignFacts.{component_is}
use Rattle.cx_design.specs.PlainForms.{plain_component}
use Rattle.cx_design.specs.PlainDesigns.{plain_design}
use Rattle.cx_profile.specs.Gains.{shown_count}
use Rattle.cx_profile.proofs.GainLemmas.{turn_within, counted_next, counted_all}
use Rattle.cx_profile.proofs.gained.counts_by.Goals as goal

pub bounds-components-number : goal.bounds-components-number
bounds-components-number c =
    let d = plain_design c.args.design.now in
    let there : get_or c.args.order.now c.loop-component.component-index 0 < length d.components = turn_within d c.args.order.now c.requires.first c.loop-component.component-index 0 c.loop-component-test.true in
    subst (λ n. get_or c.args.order.now c.loop-component.component-index 0 < n)
    (length-map c.args.design.now.components.items plain_component ∙ sym (ap length c.as_slice-components.ensures.value)) there

pub index_mut-requires : goal.index_mut-requires
index_mut-requires c =
    let d = plain_design c.args.design.now in
    let there : get_or c.args.order.now c.loop-component.component-index 0 < length d.components = turn_within d c.args.order.now c.requires.first c.loop-component.component-index 0 c.loop-component-test.true in
    subst (λ n. get_or c.args.order.now c.loop-component.component-index 0 < n)
    (sym c.loop-component.invariant.sized ∙ sym (ap length c.deref.ensures.value) ∙ c.deref.ensures.len) there

pub loop-component-preserved : goal.loop-component-preserved
loop-component-preserved c =
    let d = plain_design c.args.design.now in
    let there : get_or c.args.order.now c.loop-component.component-index 0 < length d.components = turn_within d c.args.order.now c.requires.first c.loop-component.component-index 0 c.loop-component-test.true in
    let own : plain_component c.index-components-number.result ≡ component_at d (get_or c.args.order.now c.loop-component.component-index 0) =
    component_is c.args.design.now.components.items (get_or c.args.order.now c.loop-component.component-index 0) c.index-components-number.result
    (subst (λ n. get_or c.args.order.now c.loop-component.component-index 0 < n) (length-map c.args.design.now.components.items plain_component) there)
    (c.index-components-number.is ∙ ap (λ xs. get_or xs (get_or c.args.order.now c.loop-component.component-index 0) c.index-components-number.result) c.as_slice-components.ensures.value) in
    counted_next d c.args.order.now c.requires.first c.loop-component.component-index 0 c.loop-component.counts.items (plain_component c.index-components-number.result) c.in_ok-counts-2.field-0
    c.loop-component.invariant c.loop-component-test.true own
    (c.in_ok-counts-2.ensures.value ∙ ap (λ ns. shown_count ns (plain_component c.index-components-number.result)) c.deref.ensures.value)

pub returns : goal.returns
returns c =
    let d = plain_design c.args.design.now in
    record { value = counted_all d c.args.order.now c.requires.first c.args.design.now.keeps c.loop-component.component-index c.loop-component.counts.items c.loop-component-test.false c.loop-component.invariant }
