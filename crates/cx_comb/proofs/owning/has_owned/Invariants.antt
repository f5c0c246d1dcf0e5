use Rattle.std.proofs.Common.{ℕ, take}
use Rattle.cx_text.specs.Members.{In}
use Rattle.cx_graphs.specs.Owners.{Covers, owners_at}
use Rattle.cx_comb.proofs.owning.has_owned.Given as goal

-- none of the nodes so far
abbrev pub invariant-loop-node : goal.invariant-loop-node
invariant-loop-node l = (n : ℕ) → In (take l.node-index l.nodes) n → Covers (owners_at l.owners n) l.group → ⊥
