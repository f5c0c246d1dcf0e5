use Rattle.std.proofs.Common.{◌≡◌}
use Rattle.cx_graphs.specs.Graphs.{edges_of}
use Rattle.cx_graphs.specs.Edges.{no_edges}
use Rattle.cx_graphs.proofs.edges.no_edges.Given as goal

abbrev pub invariant-loop : goal.invariant-loop
invariant-loop l = edges_of l.graph.items ≡ no_edges l.counter
