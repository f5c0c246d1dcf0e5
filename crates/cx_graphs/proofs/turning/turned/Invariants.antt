use Rattle.cx_graphs.specs.Graphs.{edges_of}
use Rattle.cx_graphs.specs.Additions.{Adds, IsBackOfFirst}
use Rattle.cx_graphs.proofs.turning.turned.Given as goal

-- the edges of the nodes so far
abbrev pub invariant-loop-node : goal.invariant-loop-node
invariant-loop-node l = Adds (edges_of l.initial.turned.items) (IsBackOfFirst (edges_of l.graph) l.node) (edges_of l.turned.items)
