use Rattle.std.proofs.Common.{rules, ◌≡◌, ◌<◌, length, refl, sym, ap, ◌∙◌, subst, arith}
use Rattle.std.proofs.lemmas.List.{length-map}
use Rattle.cx_design.specs.PlainDesigns.{plain_design}
use Rattle.cx_design.specs.PlainForms.{plain_cell, plain_component}
use Rattle.cx_meaning.specs.Designs.{component_at}
use Rattle.cx_state.specs.declared.tables.InstanceRow.{InstanceRow}
use Rattle.cx_state.specs.Tables.{no_row, row_at}
use Rattle.cx_eval_network.proofs.FoundLemmas.{get_same}
use Rattle.cx_eval.specs.Firsts.{AreFirsts}
use Rattle.cx_eval.proofs.FirstLemmas.{all_rows, rows_more}
use Rattle.cx_eval.proofs.MakingLemmas.{cells_are, few_cells}
use Rattle.cx_eval.proofs.firsts.all_firsts.Goals as goal

pub component-part-requires : goal.component-part-requires
component-part-requires c =
    let d = plain_design c.args.design.now in
    let rows = c.args.table.now.rows.items in
    let n = c.loop-instance.instance in
    let lt : n < length rows = search rules in
    let row : row_at rows n ≡ c.index.result.now = get_same rows n no_row c.index.result.now lt ∙ sym c.index.ensures in
    record {
      within = subst (λ m. c.index.result.now.component < m) (length-map c.args.design.now.components.items plain_component)
          (subst (λ (r : InstanceRow). r.component < length d.components) row (c.requires.table.there n lt));
    }

pub first_nodes-requires : goal.first_nodes-requires
first_nodes-requires c =
    let d = plain_design c.args.design.now in
    let part = c.component-part.result.now in
    let few = few_cells d c.index.result.now.component part c.component-part.ensures.value part.cells.items refl c.requires.design in
    record { few = omega (arith, few, c.len.ensures, part.cells.ok) }

pub loop-instance-preserved : goal.loop-instance-preserved
loop-instance-preserved c =
    let d = plain_design c.args.design.now in
    let rows = c.args.table.now.rows.items in
    let n = c.loop-instance.instance in
    let part = c.component-part.result.now in
    let own = c.in_ok-first_nodes.field-0 in
    let lt : n < length rows = search rules in
    let row : row_at rows n ≡ c.index.result.now = get_same rows n no_row c.index.result.now lt ∙ sym c.index.ensures in
    let long : c.len.result ≡ length part.cells.items = omega (arith, c.len.ensures, part.cells.ok) in
    let count : c.len.result ≡ length (component_at d (row_at rows n).component).cells =
    long
    ∙ sym (length-map part.cells.items plain_cell)
    ∙ ap length (cells_are d c.index.result.now.component part c.component-part.ensures.value part.cells.items refl)
    ∙ ap (λ (r : InstanceRow). length (component_at d r.component).cells) (sym row) in
    rows_more d rows n c.loop-instance.firsts.items c.push.new.self.items own c.loop-instance.invariant c.in_ok-push.ensures.items
    (subst (λ m. AreFirsts d rows n m own.items) count (c.in_ok-first_nodes.ensures.value d rows c.requires.numbered lt))

pub returns : goal.returns
returns c =
    let rows = c.args.table.now.rows.items in
    let all : c.loop-instance.instance ≡ length rows = search rules in
    record { value = all_rows (plain_design c.args.design.now) rows c.loop-instance.instance c.loop-instance.firsts.items c.loop-instance.invariant all }
