use Rattle.std.proofs.Common.{◌≡◌, ℕ, ◌<◌, Some, length, slice_get}
use Rattle.cx_vnets.specs.Carriers.{origin_at}
use Rattle.cx_vnets.proofs.carriers.is_row_of.Given as goal

abbrev pub invariant-loop-other : goal.invariant-loop-other
invariant-loop-other l = (j f : ℕ) → j < l.other-index → slice_get l.row j ≡ Some f → (f < length l.origins) × (origin_at l.origins f ≡ l.net)
