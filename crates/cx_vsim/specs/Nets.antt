-- The instance of a net by where instances begin.
use Rattle.std.specs.Prelude.{◌≡◌, ℕ, ◌<◌, ◌≤◌, ◌⊎◌, List, Some, slice_get}
use Rattle.cx_vnets.specs.declared.codes.NetPosition.{NetPosition}

-- of the first `count` instances, the last whose nets begin at this number or before it; 0 where there is none
pub record IsLastBegun (places : List NetPosition) (net count found : ℕ) : Type 0 where
  pub so_far : (j : ℕ) (p : NetPosition) → j < count → slice_get places j ≡ Some p → p.nets ≤ net → j ≤ found
  pub here : (found ≡ 0) ⊎ ((p : NetPosition) × (slice_get places found ≡ Some p) × (p.nets ≤ net))
