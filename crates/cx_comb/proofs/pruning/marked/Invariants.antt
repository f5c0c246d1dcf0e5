use Rattle.std.proofs.Common.{take}
use Rattle.cx_comb.specs.Pruning.{AreMarked}
use Rattle.cx_comb.proofs.pruning.marked.Given as goal

-- the nodes so far
abbrev pub invariant-loop-node : goal.invariant-loop-node
invariant-loop-node l = AreMarked (take l.node-index l.nodes) l.marks l.marked.items
