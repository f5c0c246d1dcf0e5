use Rattle.std.proofs.Common.{◌≡◌, length}
use Rattle.cx_graphs.specs.Graphs.{edges_of}
use Rattle.cx_graphs.specs.Additions.{Adds}
use Rattle.cx_meaning.specs.Instances.{Instance}
use Rattle.cx_design_leads.specs.Nodes.{IsNodesOf}
use Rattle.cx_design_leads.specs.Links.{ToInputs}
use Rattle.cx_design_leads.proofs.rows.add_inputs.Given as goal

-- the inputs so far
abbrev pub invariant-loop-input : goal.invariant-loop-input
invariant-loop-input l = record {
  len : length l.graph.items ≡ length l.initial.graph.items;
  value : (i : Instance) → IsNodesOf i l.nodes → Adds (edges_of l.initial.graph.items) (ToInputs i l.from l.cell l.input) (edges_of l.graph.items);
}
