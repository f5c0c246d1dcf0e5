use Rattle.std.proofs.Common.{◌≡◌, ◌≤◌, ◌-◌, [], length, replicate}
use Rattle.cx_graphs.specs.Graphs.{edges_of}
use Rattle.cx_race.proofs.linking.no_edges.Given as goal

-- so far all have no edge
abbrev pub invariant-loop-alloc : goal.invariant-loop-alloc
invariant-loop-alloc l = (length l.graph.items ≤ l.count) × (edges_of l.graph.items ≡ replicate (length l.graph.items) [])

abbrev pub decreases-loop-alloc : goal.decreases-loop-alloc
decreases-loop-alloc l = l.count - length l.graph.items
