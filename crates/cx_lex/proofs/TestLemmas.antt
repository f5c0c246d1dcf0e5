-- Definitions by tests.
use Rattle.std.proofs.Common.{◌≡◌, Bool, true, false, if◌then◌else◌, ◌⊎◌, inl, inr, refl, ap}

pub pick_true : {A : Type 0} (t : Bool) (x y : A) → t ≡ true → (if t then x else y) ≡ x
pick_true t x y e = ap (λ t. if t then x else y) e

-- which side was chosen
pub chosen : {A : Type 0} (t : Bool) (x y z : A) → (if t then x else y) ≡ z → ((t ≡ true) × (x ≡ z)) ⊎ ((t ≡ false) × (y ≡ z))
chosen true x y z e = inl (refl, e)
chosen false x y z e = inr (refl, e)
