use Rattle.std.proofs.Common.{◌<◌, ◌∙◌, ap, nat_lt, sym, subst}
use Rattle.cx_graphs.specs.Graphs.{edges_of}
use Rattle.cx_prim.specs.Table.{row_of}
use Rattle.cx_meaning.specs.Rows.{side_of}
use Rattle.cx_meaning.specs.declared.ports.PortRef.TheVariants.{Cell}
use Rattle.cx_rules.specs.Ports.{component_of}
use Rattle.cx_design.specs.PlainDesigns.{plain_design}
use Rattle.cx_design_leads.proofs.NodeLemmas.{within}
use Rattle.cx_design_leads.proofs.EdgeLemmas.{combinational_is, not_combinational, port_of_row, no_output, no_node_output}
use Rattle.cx_design_leads.proofs.rows.add_output.Goals as goal

pub add_inputs-requires : goal.add_inputs-requires
add_inputs-requires c =
    let i = component_of (plain_design c.args.design.now) c.args.number in
    record { from = subst (λ n. c.in-Some.from < n) (sym c.requires.graph) (within i (Cell c.args.cell c.args.port) c.in-Some.from (sym (c.in-Some.ensures.value i c.requires.nodes))) }

pub returns-in_ok-add_inputs-in-Some : goal.returns-in_ok-add_inputs-in-Some
returns-in_ok-add_inputs-in-Some c =
    let i = component_of (plain_design c.args.design.now) c.args.number in
    let row = row_of c.args.primitive.now in
    let side = combinational_is (side_of row c.args.port) (sym c.is_output.ensures.value ∙ c.if-not-is_output.false) in
    let count = c.in_ok-count-in-Some.count in
    record {
      value = port_of_row i (edges_of c.args.graph.now.items) (edges_of c.add_inputs.new.graph.items) c.in-Some.from c.args.cell c.args.port count row side
          (sym (c.in-Some.ensures.value i c.requires.nodes))
          (λ q. (c.outputs_read_first.ensures c.args.primitive.now).first c.args.port q side ∙ ap (λ k. nat_lt q k) (sym (c.in_ok-count-in-Some.ensures.value ∙ c.read_count.ensures.value)))
          (c.in_ok-add_inputs-in-Some.ensures.value i c.requires.nodes);
    }

pub returns-then-not-is_output : goal.returns-then-not-is_output
returns-then-not-is_output c =
    let i = component_of (plain_design c.args.design.now) c.args.number in
    let row = row_of c.args.primitive.now in
    record { value = no_output i (edges_of c.args.graph.now.items) c.args.cell c.args.port row (not_combinational (side_of row c.args.port) (sym c.is_output.ensures.value ∙ c.if-not-is_output.true)) }

pub returns-in-None : goal.returns-in-None
returns-in-None c =
    let i = component_of (plain_design c.args.design.now) c.args.number in
    record { value = no_node_output i (edges_of c.args.graph.now.items) c.args.cell c.args.port (row_of c.args.primitive.now) (sym (c.in-None.ensures.value i c.requires.nodes)) }
