use Rattle.std.proofs.Common.{◌-◌, ◌≤◌, length}
use Rattle.cx_graphs.specs.Graphs.{edges_of}
use Rattle.cx_graphs.specs.Additions.{IsBare}
use Rattle.cx_graphs.proofs.adding.bare.Given as goal

-- the nodes so far have no edges
abbrev pub invariant-nodes : goal.invariant-nodes
invariant-nodes l = record { few : length l.graph.items ≤ l.count; none : IsBare (length l.graph.items) (edges_of l.graph.items) }

abbrev pub decreases-nodes : goal.decreases-nodes
decreases-nodes l = l.count - length l.graph.items
