use Rattle.std.proofs.Common.{◌≡◌, ◌<◌, Some, get_or, length, sym, ap, ◌∙◌, subst, arith}
use Rattle.std.specs.Prelude.{slice_get}
use Rattle.std.proofs.lemmas.List.{length-map}
use Rattle.std.proofs.lemmas.Option.{slice_get-get_or}
use Rattle.cx_graphs.specs.Ways.{IsOrder}
use Rattle.cx_meaning.specs.Designs.{component_at}
use Rattle.cx_rules.specs.Counts.{needed_groups}
use Rattle.cx_design.proofs.DesignFacts.{component_is}
use Rattle.cx_design.specs.PlainForms.{plain_component}
use Rattle.cx_design.specs.PlainDesigns.{plain_design}
use Rattle.cx_limits.specs.Order.{component_edges}
use Rattle.cx_limits.specs.Inners.{needs_of}
use Rattle.cx_limits.specs.Rows.{inners_by, trees_by, IsRowWith, IsTable}
use Rattle.cx_limits.proofs.NeededLemmas.{needs_at}
use Rattle.cx_limits.proofs.TableLemmas.{table_there, table_turn, table_end}
use Rattle.cx_limits.proofs.table.table.Goals as goal

pub bounds-components-number : goal.bounds-components-number
bounds-components-number c =
    let d = plain_design c.args.design.now in
    let items = c.as_slice-component-items.result.now in
    let k = get_or items c.loop-component.component-index 0 in
    let is : IsOrder (component_edges d) items = subst (IsOrder (component_edges d)) (sym c.as_slice-component-items.ensures.value) c.in_ok-order.ensures in
    let there : k < length d.components = table_there d items is c.loop-component.component-index k (slice_get-get_or items c.loop-component.component-index 0 c.loop-component-test.true) in
    subst (λ n. k < n) (length-map c.args.design.now.components.items plain_component ∙ sym (ap length c.as_slice-components.ensures.value)) there

pub component_row-requires : goal.component_row-requires
component_row-requires c =
    let d = plain_design c.args.design.now in
    let items = c.as_slice-component-items.result.now in
    let k = get_or items c.loop-component.component-index 0 in
    let is : IsOrder (component_edges d) items = subst (IsOrder (component_edges d)) (sym c.as_slice-component-items.ensures.value) c.in_ok-order.ensures in
    let there : k < length d.components = table_there d items is c.loop-component.component-index k (slice_get-get_or items c.loop-component.component-index 0 c.loop-component-test.true) in
    let own : plain_component c.index-components-number.result ≡ component_at d k =
    component_is c.args.design.now.components.items k c.index-components-number.result (subst (λ n. k < n) (length-map c.args.design.now.components.items plain_component) there)
    (c.index-components-number.is ∙ ap (λ xs. get_or xs k c.index-components-number.result) c.as_slice-components.ensures.value) in
    record { needs = subst (λ p. needs_of p ≡ needed_groups p) (sym own) (needs_at d k c.args.design.now.keeps there) }

pub index_mut-requires : goal.index_mut-requires
index_mut-requires c =
    let d = plain_design c.args.design.now in
    let items = c.as_slice-component-items.result.now in
    let k = get_or items c.loop-component.component-index 0 in
    let is : IsOrder (component_edges d) items = subst (IsOrder (component_edges d)) (sym c.as_slice-component-items.ensures.value) c.in_ok-order.ensures in
    let there : k < length d.components = table_there d items is c.loop-component.component-index k (slice_get-get_or items c.loop-component.component-index 0 c.loop-component-test.true) in
    subst (λ n. k < n) (sym c.loop-component.invariant.sized ∙ sym (ap length c.as_slice.ensures.value) ∙ c.as_slice.ensures.len) there

pub loop-component-preserved : goal.loop-component-preserved
loop-component-preserved c =
    let d = plain_design c.args.design.now in
    let items = c.as_slice-component-items.result.now in
    let rows = c.loop-component.rows.items in
    let row = c.in_ok-rows-2.field-0 in
    let k = get_or items c.loop-component.component-index 0 in
    let is : IsOrder (component_edges d) items = subst (IsOrder (component_edges d)) (sym c.as_slice-component-items.ensures.value) c.in_ok-order.ensures in
    let at : slice_get items c.loop-component.component-index ≡ Some k = slice_get-get_or items c.loop-component.component-index 0 c.loop-component-test.true in
    let there : k < length d.components = table_there d items is c.loop-component.component-index k at in
    let part = plain_component c.index-components-number.result in
    let own : part ≡ component_at d k =
    component_is c.args.design.now.components.items k c.index-components-number.result (subst (λ n. k < n) (length-map c.args.design.now.components.items plain_component) there)
    (c.index-components-number.is ∙ ap (λ xs. get_or xs k c.index-components-number.result) c.as_slice-components.ensures.value) in
    table_turn d items is c.loop-component.component-index k rows row at c.loop-component.invariant
    (subst (λ p. IsRowWith p (inners_by d rows p.cells) (trees_by d rows p.cells) row) own
    (subst (λ rs. IsRowWith part (inners_by d rs part.cells) (trees_by d rs part.cells) row) c.as_slice.ensures.value c.in_ok-rows-2.ensures))

pub returns : goal.returns
returns c =
    let d = plain_design c.args.design.now in
    let items = c.as_slice-component-items.result.now in
    let is : IsOrder (component_edges d) items = subst (IsOrder (component_edges d)) (sym c.as_slice-component-items.ensures.value) c.in_ok-order.ensures in
    let done : c.loop-component.component-index ≡ length items = omega (arith, c.loop-component-test.false, c.loop-component.auto.component-index-end) in
    table_end d items is c.loop-component.rows.items (subst (λ n. IsTable d items n c.loop-component.rows.items) done c.loop-component.invariant)
