use Rattle.std.proofs.Common.{◌≡◌, ℕ, ◌<◌, true, length}
use Rattle.cx_vnets.specs.Stale.{is_stale}
use Rattle.cx_vnets.proofs.stale.mark_all.Given as goal

abbrev pub invariant-loop-mark : goal.invariant-loop-mark
invariant-loop-mark l = record {
  long : length l.stale ≡ length l.fn.stale;
  all : (k : ℕ) → k < l.mark-index → is_stale l.stale k ≡ true;
}
