use Rattle.std.proofs.Common.{take}
use Rattle.cx_graphs.specs.Graphs.{edges_of}
use Rattle.cx_graphs.specs.Additions.{Adds, IntoNode}
use Rattle.cx_graphs.proofs.turning.add_edges.Given as goal

-- the nodes so far
abbrev pub invariant-loop-node : goal.invariant-loop-node
invariant-loop-node l = Adds (edges_of l.initial.graph.items) (IntoNode (take l.node-index l.nodes) l.to) (edges_of l.graph.items)
