use Rattle.std.proofs.Common.{ℕ, length}
use Rattle.cx_graphs.specs.Graphs.{Bounded}
use Rattle.cx_graphs.specs.Walks.{IsKnown}
use Rattle.cx_graphs.proofs.walking.refresh.Given as goal

-- each node is fresh, or is still in the list
abbrev pub invariant-loop-node : goal.invariant-loop-node
invariant-loop-node l = record {
  within : Bounded (length l.marks.items) l.entered.items;
  known : (count : ℕ) → IsKnown count l.initial.marks.items l.initial.entered.items → IsKnown count l.marks.items l.entered.items;
}

abbrev pub decreases-loop-node : goal.decreases-loop-node
decreases-loop-node l = length l.entered.items
