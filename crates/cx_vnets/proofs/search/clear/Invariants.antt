use Rattle.std.proofs.Common.{◌≡◌, ℕ, ◌<◌}
use Rattle.cx_vnets.specs.declared.marks.NetMark.TheVariants.{Unseen}
use Rattle.cx_vnets.specs.Search.{mark_at}
use Rattle.cx_vnets.proofs.search.clear.Given as goal

abbrev pub invariant-loop-mark : goal.invariant-loop-mark
invariant-loop-mark l = (f : ℕ) → f < l.mark-index → mark_at l.marks f ≡ Unseen
