use Rattle.std.proofs.Common.{◌≡◌, ℕ, ◌<◌, ◌≤◌, Some, slice_get}
use Rattle.cx_vnets.specs.Gates.{IsShut}
use Rattle.cx_vnets.specs.Stale.{SameBelow, Tells, rank_at}
use Rattle.cx_vnets.proofs.gates.mark_open_row.Given as goal

abbrev pub invariant-loop-net : goal.invariant-loop-net
invariant-loop-net l = record {
  tells : Tells l.ranks l.fn.stale l.stale (λ f. l.from ≤ rank_at l.ranks f → (j : ℕ) → j < l.net-index → slice_get l.row j ≡ Some f → IsShut l.gates l.nonzero l.changed f);
  below : SameBelow l.from l.fn.stale l.stale;
}
