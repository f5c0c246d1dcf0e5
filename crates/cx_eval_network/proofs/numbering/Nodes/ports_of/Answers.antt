use Rattle.std.proofs.Common.{◌≡◌, Some, slice_get, get_or, refl, ap, ◌∙◌, arith}
use Rattle.cx_design.specs.PlainDesigns.{plain_design}
use Rattle.cx_state.specs.declared.tables.InstanceRow.{InstanceRow}
use Rattle.cx_state.specs.Tables.{row_at}
use Rattle.cx_eval_network.proofs.FoundLemmas.{get_same, get_some, ports_are, row_part}
use Rattle.cx_eval_network.proofs.numbering.Nodes.ports_of.Goals as goal

pub returns : goal.returns
returns c =
    let nodes = c.args.self.now in
    let d = plain_design c.args._design.now in
    let rows = c.args.table.now.rows.items in
    let n = c.args.instance in
    let h = c.requires.numbered in
    let sized = h.placed.sized in
    let within = c.requires.within in
    let same : c.index.result.now.component ≡ (row_at rows n).component = ap (λ (r : InstanceRow). r.component) (c.index.ensures ∙ get_same rows n _ _ within) in
    let place : slice_get nodes.instances.items n ≡ Some c.index-2.result.now = get_some nodes.instances.items n c.index-2.result.now (omega (arith, sized, within)) c.index-2.ensures in
    let part : slice_get nodes.parts.items (row_at rows n).component ≡ Some c.index-part.result.now =
    get_some nodes.parts.items (row_at rows n).component c.index-part.result.now (row_part d rows nodes h n within) (c.index-part.ensures ∙ ap (λ k. get_or nodes.parts.items k c.index-part.result.now) same) in
    record { value = ports_are d rows nodes h n c.index-2.result.now c.index-part.result.now _ within place part refl refl }
