use Rattle.std.proofs.Common.{[]}
use Rattle.cx_graphs.specs.Graphs.{edges_of}
use Rattle.cx_graphs.specs.GroundSearch.{IsSearch, work}
use Rattle.cx_graphs.proofs.grounding.grounded.Given as goal

abbrev pub invariant-loop-node : goal.invariant-loop-node
invariant-loop-node l = IsSearch (edges_of l.graph) l.search []

abbrev pub decreases-loop-node : goal.decreases-loop-node
decreases-loop-node l = work l.search
