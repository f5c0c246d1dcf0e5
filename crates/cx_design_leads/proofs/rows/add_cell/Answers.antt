use Rattle.std.proofs.Common.{sym, ◌∙◌}
use Rattle.cx_graphs.specs.Graphs.{edges_of}
use Rattle.cx_prim.specs.Table.{row_of}
use Rattle.cx_rules.specs.Ports.{component_of}
use Rattle.cx_design.specs.PlainDesigns.{plain_design}
use Rattle.cx_design_leads.proofs.EdgeLemmas.{cell_added, no_cell_added}
use Rattle.cx_meaning.proofs.InstancesLemmas.{nothing_row, instance_row}
use Rattle.cx_design_leads.proofs.rows.add_cell.Goals as goal

pub returns-in_ok-add_outputs-in-Primitive : goal.returns-in_ok-add_outputs-in-Primitive
returns-in_ok-add_outputs-in-Primitive c =
    let i = component_of (plain_design c.args.design.now) c.args.number in
    record {
      value = cell_added i (edges_of c.args.graph.now.items) (edges_of c.add_outputs.new.graph.items) c.args.cell (row_of c.in-Primitive.primitive.now) c.in-Primitive.ensures.value
          c.in_ok-add_outputs-in-Primitive.ensures.value;
    }

pub returns-in-Nothing : goal.returns-in-Nothing
returns-in-Nothing c =
    let i = component_of (plain_design c.args.design.now) c.args.number in
    record { value = no_cell_added i (edges_of c.args.graph.now.items) c.args.cell (λ row e. nothing_row row (sym c.in-Nothing.ensures.value ∙ e)) }

pub returns-in-Part : goal.returns-in-Part
returns-in-Part c =
    let i = component_of (plain_design c.args.design.now) c.args.number in
    let at = c.in-Part.ensures.value in
    record { value = no_cell_added i (edges_of c.args.graph.now.items) c.args.cell (λ row e. instance_row at.0 row (sym at.1 ∙ e)) }
