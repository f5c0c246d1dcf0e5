use Rattle.std.proofs.Common.{sym}
use Rattle.cx_graphs.specs.Graphs.{edges_of}
use Rattle.cx_graphs.proofs.Additions.{same_nodes}
use Rattle.cx_graphs.specs.Additions.{IsEdge}
use Rattle.cx_design_leads.proofs.EdgeLemmas.{port_added, no_port_added}
use Rattle.cx_design_leads.proofs.assigns.add_port.Goals as goal

pub returns-in_ok-add_edge-in-Some : goal.returns-in_ok-add_edge-in-Some
returns-in_ok-add_edge-in-Some c =
    let g = edges_of c.args.graph.now.items in
    let after = edges_of c.add_edge.new.graph.items in
    record {
      len = same_nodes c.args.graph.now.items c.add_edge.new.graph.items (IsEdge c.args.from c.in-Some.to) c.in_ok-add_edge-in-Some.ensures.value;
      value = λ i h. port_added i g after c.args.from c.in-Some.to c.args.port (sym (c.in-Some.ensures.value i h)) c.in_ok-add_edge-in-Some.ensures.value;
    }

pub returns-in-None-clause-value : goal.returns-in-None-clause-value
returns-in-None-clause-value c = λ i h. no_port_added i (edges_of c.args.graph.now.items) c.args.from c.args.port (sym (c.in-None.ensures.value i h))
