use Rattle.std.proofs.Common.{◌∙◌, subst}
use Rattle.cx_graphs.specs.Graphs.{edges_of}
use Rattle.cx_graphs.specs.Additions.{Adds}
use Rattle.cx_graphs.proofs.Additions.{same_nodes}
use Rattle.cx_prim.specs.Table.{row_of}
use Rattle.cx_rules.specs.Ports.{component_of}
use Rattle.cx_design.specs.PlainDesigns.{plain_design}
use Rattle.cx_design_leads.specs.Links.{OfPort, OfPorts}
use Rattle.cx_design_leads.proofs.EdgeLemmas.{no_outputs, more_outputs}
use Rattle.cx_design_leads.proofs.rows.add_outputs.Goals as goal

pub loop-port-init : goal.loop-port-init
loop-port-init c = no_outputs (component_of (plain_design c.args.design.now) c.args.number) (edges_of c.args.graph.now.items) c.args.cell (row_of c.args.primitive.now)

pub add_output-requires : goal.add_output-requires
add_output-requires c =
    let i = component_of (plain_design c.args.design.now) c.args.number in
    record {
      within = c.requires.within;
      nodes = c.requires.nodes;
      graph = same_nodes c.args.graph.now.items c.loop-port.graph.items (OfPorts i c.args.cell (row_of c.args.primitive.now) c.loop-port.port) c.loop-port.invariant ∙ c.requires.graph;
    }

pub loop-port-preserved : goal.loop-port-preserved
loop-port-preserved c =
    let i = component_of (plain_design c.args.design.now) c.args.number in
    let row = row_of c.args.primitive.now in
    let mid = edges_of c.loop-port.graph.items in
    let after = edges_of c.add_output.new.graph.items in
    more_outputs i (edges_of c.args.graph.now.items) mid after c.args.cell c.loop-port.port row c.loop-port.invariant
    (subst (λ p. Adds mid (OfPort i c.args.cell row p) after) c.in_ok-port_number.ensures.value c.in_ok-add_output.ensures.value)
