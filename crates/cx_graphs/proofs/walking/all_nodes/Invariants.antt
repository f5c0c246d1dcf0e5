use Rattle.std.proofs.Common.{ℕ, ◌<◌}
use Rattle.cx_text.specs.Members.{In}
use Rattle.cx_graphs.specs.Graphs.{Bounded}
use Rattle.cx_graphs.proofs.walking.all_nodes.Given as goal

-- the nodes so far
abbrev pub invariant-loop-node : goal.invariant-loop-node
invariant-loop-node l = record { within : Bounded l.node l.nodes.items; all : (n : ℕ) → n < l.node → In l.nodes.items n }
