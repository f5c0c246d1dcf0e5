use Rattle.std.proofs.Common.{◌≡◌, take, length}
use Rattle.cx_graphs.specs.Graphs.{edges_of}
use Rattle.cx_graphs.specs.Additions.{Adds}
use Rattle.cx_meaning.specs.Instances.{Instance}
use Rattle.cx_design_leads.specs.Nodes.{IsNodesOf}
use Rattle.cx_design_leads.specs.Links.{ToPorts}
use Rattle.cx_design_leads.proofs.assigns.add_ports.Given as goal

-- the ports so far
abbrev pub invariant-loop-port : goal.invariant-loop-port
invariant-loop-port l = record {
  len : length l.graph.items ≡ length l.initial.graph.items;
  value : (i : Instance) → IsNodesOf i l.nodes → Adds (edges_of l.initial.graph.items) (ToPorts i l.from (take l.port-index l.ports)) (edges_of l.graph.items);
}
