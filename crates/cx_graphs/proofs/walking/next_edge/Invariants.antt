use Rattle.std.proofs.Common.{◌++◌}
use Rattle.cx_graphs.specs.Walks.{AreLeft}
use Rattle.cx_graphs.proofs.walking.next_edge.Given as goal

-- the edges so far lead to what is left, where those before the first do
abbrev pub invariant-loop-at : goal.invariant-loop-at
invariant-loop-at l = AreLeft (l.first ++ l.second) l.marks l.from → AreLeft (l.first ++ l.second) l.marks l.at
