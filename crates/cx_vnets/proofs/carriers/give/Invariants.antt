use Rattle.std.proofs.Common.{◌≡◌, ℕ, ◌<◌, Some, length, slice_get}
use Rattle.cx_vnets.proofs.carriers.give.Given as goal

abbrev pub invariant-loop-net : goal.invariant-loop-net
invariant-loop-net l = record {
  long : length l.values ≡ length l.fn.values;
  here : (j f : ℕ) → j < l.net-index → slice_get l.row j ≡ Some f → slice_get l.values f ≡ Some l.value;
  kept : (f : ℕ) → slice_get l.fn.values f ≡ Some l.value → slice_get l.values f ≡ Some l.value;
  others : (f : ℕ) → ((j : ℕ) → j < l.net-index → slice_get l.row j ≡ Some f → ⊥) → slice_get l.values f ≡ slice_get l.fn.values f;
}
