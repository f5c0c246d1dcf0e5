use Rattle.cx_graphs.specs.Graphs.{edges_of}
use Rattle.cx_comb.proofs.TargetLemmas.{IsKeptSo}
use Rattle.cx_comb.proofs.pruning.kept.Given as goal

-- the nodes so far
abbrev pub invariant-loop-node : goal.invariant-loop-node
invariant-loop-node l = IsKeptSo (edges_of l.graph) l.marks l.node (edges_of l.kept.items)
