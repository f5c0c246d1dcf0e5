use Rattle.std.proofs.Common.{◌≡◌, ◌+◌, ◌<◌, ◌≤◌, map, length, set, drop, replicate, refl, sym, ap, ◌∙◌, subst, arith}
use Rattle.std.proofs.lemmas.List.{length-map, length-set}
use Rattle.cx_meaning.specs.Designs.{component_at}
use Rattle.cx_meaning.specs.Instances.{tree_of}
use Rattle.cx_rules.specs.Sizes.{instances_below}
use Rattle.cx_design.specs.PlainForms.{plain_cell, plain_component}
use Rattle.cx_design.specs.PlainDesigns.{plain_design}
use Rattle.cx_design_sizes.proofs.WayLemmas.{own_cells}
use Rattle.cx_state.specs.Filling.{HaveSome, placed, total}
use Rattle.cx_state.specs.Tables.{row_at}
use Rattle.cx_state.proofs.FillLemmas.{placed_length}
use Rattle.cx_state.proofs.TableLemmas.{IsFilled, begin, Here, here, row_is, turned, front_all, finish}
use Rattle.cx_state.proofs.tables.table.Goals as goal

pub loop-number-init : goal.loop-number-init
loop-number-init c =
    let d = plain_design c.args.design.now in
    subst (λ numbers. IsFilled d c.args.order.now 0 c.in_ok-rows.rows.items numbers) (sym c.new-children.ensures.items)
    (begin d c.args.order.now c.in_ok-rows.rows.items (record { component = c.args.design.now.main; parent = 0; cell = 0; first = 0 }) c.requires.first
    (c.in_ok-rows.ensures.items_if_clones_equal (λ y h. h) ∙ ap (λ n. replicate n (record { component = c.args.design.now.main; parent = 0; cell = 0; first = 0 })) c.instance_count-count.ensures) refl)

pub bounds-components-component : goal.bounds-components-component
bounds-components-component c =
    let d = plain_design c.args.design.now in
    let count : length c.loop-number.rows.items ≡ instances_below (tree_of d) = c.loop-number.invariant.count in
    let all = c.instance_count-count.ensures in
    let lt : c.loop-number.number < length c.loop-number.rows.items = omega (arith, count, all) in
    let is : c.index.result.now ≡ row_at c.loop-number.rows.items c.loop-number.number = row_is c.loop-number.rows.items c.loop-number.number c.index.result.now lt c.index.ensures in
    let h : Here d c.args.order.now c.args.tallies.now c.loop-number.number (row_at c.loop-number.rows.items c.loop-number.number).component =
    here d c.args.order.now c.args.tallies.now c.loop-number.number c.loop-number.rows.items c.loop-number.children.items c.requires.first c.requires.known c.requires.few c.loop-number.invariant lt in
    subst (λ n. c.index.result.now.component < n) (length-map c.args.design.now.components.items plain_component ∙ sym (ap length c.as_slice-components.ensures.value))
    (subst (λ r. r.component < length (map plain_component c.args.design.now.components.items)) (sym is) h.there)

pub add_cells-requires-clause-some : goal.add_cells-requires-clause-some
add_cells-requires-clause-some c =
    let d = plain_design c.args.design.now in
    let count : length c.loop-number.rows.items ≡ instances_below (tree_of d) = c.loop-number.invariant.count in
    let all = c.instance_count-count.ensures in
    let lt : c.loop-number.number < length c.loop-number.rows.items = omega (arith, count, all) in
    let is : c.index.result.now ≡ row_at c.loop-number.rows.items c.loop-number.number = row_is c.loop-number.rows.items c.loop-number.number c.index.result.now lt c.index.ensures in
    let h : Here d c.args.order.now c.args.tallies.now c.loop-number.number (row_at c.loop-number.rows.items c.loop-number.number).component =
    here d c.args.order.now c.args.tallies.now c.loop-number.number c.loop-number.rows.items c.loop-number.children.items c.requires.first c.requires.known c.requires.few c.loop-number.invariant lt in
    let there : c.index.result.now.component < length (map plain_component c.args.design.now.components.items) = subst (λ r. r.component < length (map plain_component c.args.design.now.components.items)) (sym is) h.there in
    let own : map plain_cell c.as_slice-cells.result.now ≡ (component_at d c.index.result.now.component).cells =
    own_cells c.args.design.now.components.items c.args.design.now.main c.index.result.now.component c.as_slice-components.result.now c.index-components-component.result c.as_slice-cells.result.now
    there c.as_slice-components.ensures.value c.index-components-component.is c.as_slice-cells.ensures.value in
    subst (λ cells. HaveSome c.args.tallies.now cells) (sym (own ∙ ap (λ r. (component_at d r.component).cells) is)) h.some

pub add_cells-requires-clause-room : goal.add_cells-requires-clause-room
add_cells-requires-clause-room c =
    let d = plain_design c.args.design.now in
    let count : length c.loop-number.rows.items ≡ instances_below (tree_of d) = c.loop-number.invariant.count in
    let all = c.instance_count-count.ensures in
    let lt : c.loop-number.number < length c.loop-number.rows.items = omega (arith, count, all) in
    let is : c.index.result.now ≡ row_at c.loop-number.rows.items c.loop-number.number = row_is c.loop-number.rows.items c.loop-number.number c.index.result.now lt c.index.ensures in
    let h : Here d c.args.order.now c.args.tallies.now c.loop-number.number (row_at c.loop-number.rows.items c.loop-number.number).component =
    here d c.args.order.now c.args.tallies.now c.loop-number.number c.loop-number.rows.items c.loop-number.children.items c.requires.first c.requires.known c.requires.few c.loop-number.invariant lt in
    let there : c.index.result.now.component < length (map plain_component c.args.design.now.components.items) = subst (λ r. r.component < length (map plain_component c.args.design.now.components.items)) (sym is) h.there in
    let own : map plain_cell c.as_slice-cells.result.now ≡ (component_at d c.index.result.now.component).cells =
    own_cells c.args.design.now.components.items c.args.design.now.main c.index.result.now.component c.as_slice-components.result.now c.index-components-component.result c.as_slice-cells.result.now
    there c.as_slice-components.ensures.value c.index-components-component.is c.as_slice-cells.ensures.value in
    let long : length c.deref_mut.result.now ≡ length c.loop-number.rows.items = ap length c.deref_mut.ensures.value ∙ length-set c.loop-number.rows.items c.loop-number.number _ in
    let sum : total c.args.tallies.now (map plain_cell c.as_slice-cells.result.now) ≡ total c.args.tallies.now (component_at d (row_at c.loop-number.rows.items c.loop-number.number).component).cells =
    ap (total c.args.tallies.now) (own ∙ ap (λ r. (component_at d r.component).cells) is) in
    let room = h.room in
    omega (arith, long, sum, room, count)

pub loop-number-preserved : goal.loop-number-preserved
loop-number-preserved c =
    let d = plain_design c.args.design.now in
    let count : length c.loop-number.rows.items ≡ instances_below (tree_of d) = c.loop-number.invariant.count in
    let all = c.instance_count-count.ensures in
    let lt : c.loop-number.number < length c.loop-number.rows.items = omega (arith, count, all) in
    let is : c.index.result.now ≡ row_at c.loop-number.rows.items c.loop-number.number = row_is c.loop-number.rows.items c.loop-number.number c.index.result.now lt c.index.ensures in
    let h : Here d c.args.order.now c.args.tallies.now c.loop-number.number (row_at c.loop-number.rows.items c.loop-number.number).component =
    here d c.args.order.now c.args.tallies.now c.loop-number.number c.loop-number.rows.items c.loop-number.children.items c.requires.first c.requires.known c.requires.few c.loop-number.invariant lt in
    let there : c.index.result.now.component < length (map plain_component c.args.design.now.components.items) = subst (λ r. r.component < length (map plain_component c.args.design.now.components.items)) (sym is) h.there in
    let own : map plain_cell c.as_slice-cells.result.now ≡ (component_at d c.index.result.now.component).cells =
    own_cells c.args.design.now.components.items c.args.design.now.main c.index.result.now.component c.as_slice-components.result.now c.index-components-component.result c.as_slice-cells.result.now
    there c.as_slice-components.ensures.value c.index-components-component.is c.as_slice-cells.ensures.value in
    let same : c.index_mut.result.now ≡ c.index.result.now =
    row_is c.loop-number.rows.items c.loop-number.number c.index_mut.result.now lt c.index_mut.ensures.value ∙ sym is in
    let numbers : c.len.result ≡ length c.loop-number.children.items = omega arith in
    let rows1 = set c.loop-number.rows.items c.loop-number.number (record { component = c.index_mut.result.now.component; parent = c.index_mut.result.now.parent; cell = c.index_mut.result.now.cell; first = c.len.result }) in
    let placed_rows : c.add_cells.new.rows ≡ placed c.args.tallies.now (map plain_cell c.as_slice-cells.result.now) c.loop-number.number 0 (c.loop-number.number + 1) rows1 =
    c.in_ok-add_cells.ensures.rows ∙ ap (placed c.args.tallies.now (map plain_cell c.as_slice-cells.result.now) c.loop-number.number 0 (c.loop-number.number + 1)) c.deref_mut.ensures.value in
    let sized : length c.add_cells.new.rows ≡ length c.loop-number.rows.items =
    ap length placed_rows ∙ placed_length c.args.tallies.now (map plain_cell c.as_slice-cells.result.now) c.loop-number.number 0 (c.loop-number.number + 1) rows1
    ∙ length-set c.loop-number.rows.items c.loop-number.number _ in
    let whole : length c.add_cells.new.rows ≡ c.loop-number.rows.len = omega (arith, sized) in
    subst (λ rows. IsFilled d c.args.order.now (c.loop-number.number + 1) rows c.add_cells.new.children.items)
    (sym (front_all c.add_cells.new.rows (drop (length c.add_cells.new.rows) rows1) c.loop-number.rows.len whole))
    (turned d c.args.order.now c.args.tallies.now c.loop-number.number c.loop-number.rows.items c.add_cells.new.rows c.index_mut.result.now c.loop-number.children.items c.add_cells.new.children.items
    (map plain_cell c.as_slice-cells.result.now) c.requires.first c.requires.known c.requires.few c.loop-number.invariant lt (same ∙ is)
    (own ∙ ap (λ r. (component_at d r.component).cells) (sym same))
    (placed_rows ∙ ap (λ n. placed c.args.tallies.now (map plain_cell c.as_slice-cells.result.now) c.loop-number.number 0 (c.loop-number.number + 1) (set c.loop-number.rows.items c.loop-number.number (record { component = c.index_mut.result.now.component; parent = c.index_mut.result.now.parent; cell = c.index_mut.result.now.cell; first = n }))) numbers)
    c.in_ok-add_cells.ensures.children)

pub returns : goal.returns
returns c =
    let d = plain_design c.args.design.now in
    let all = c.instance_count-count.ensures in
    let le : instances_below (tree_of d) ≤ c.loop-number.number = omega (arith, all) in
    finish d c.args.order.now c.loop-number.number c.loop-number.rows.items c.loop-number.children.items c.requires.first c.loop-number.invariant le
