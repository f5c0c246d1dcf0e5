use Rattle.std.proofs.Common.{ℕ, ◌<◌, ◌≤◌}
use Rattle.cx_graphs.specs.Graphs.{Marked}
use Rattle.cx_graphs.proofs.searching.is_marked_between.Given as goal

-- none before is marked
abbrev pub invariant-loop-node : goal.invariant-loop-node
invariant-loop-node l = (n : ℕ) → l.first ≤ n → n < l.node → Marked l.marks n → ⊥
