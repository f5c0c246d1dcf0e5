use Rattle.std.proofs.Common.{take}
use Rattle.cx_graphs.specs.Graphs.{Appends}
use Rattle.cx_graphs.proofs.reaching.mark_all.Given as goal

-- the nodes so far are marked
abbrev pub invariant-loop-node : goal.invariant-loop-node
invariant-loop-node l = Appends l.initial.marks.items l.initial.waiting.items (take l.node-index l.nodes) l.marks.items l.waiting.items
