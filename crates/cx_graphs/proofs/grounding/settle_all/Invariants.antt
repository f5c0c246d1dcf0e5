use Rattle.std.proofs.Common.{◌≤◌, drop}
use Rattle.cx_graphs.specs.Graphs.{edges_of}
use Rattle.cx_graphs.specs.GroundSearch.{IsSearch, work}
use Rattle.cx_graphs.proofs.grounding.settle_all.Given as goal

-- the rest of the nodes have yet to be settled
abbrev pub invariant-loop-node : goal.invariant-loop-node
invariant-loop-node l = record { way : IsSearch (edges_of l.graph) l.search (drop l.node-index l.nodes); less : work l.search ≤ work l.initial.search }
