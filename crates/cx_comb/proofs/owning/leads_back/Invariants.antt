use Rattle.std.proofs.Common.{ℕ, take}
use Rattle.cx_text.specs.Members.{In}
use Rattle.cx_graphs.specs.Graphs.{edges_of, targets_of}
use Rattle.cx_graphs.specs.Owners.{Covers, owners_at}
use Rattle.cx_comb.proofs.owning.leads_back.Given as goal

-- no edge of the targets so far
abbrev pub invariant-loop-target : goal.invariant-loop-target
invariant-loop-target l = (m n : ℕ) → In (take l.target-index l.more.targets.items) m → In (targets_of (edges_of l.more.edges.items) m) n → Covers (owners_at l.owners n) l.group → ⊥
