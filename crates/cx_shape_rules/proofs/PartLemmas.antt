-- Groups by their numbers, the component of an instance, and Bools.
use Rattle.std.proofs.Common.{◌≡◌, ◌<◌, ℕ, zero, suc, List, [], ◌∷◌, Option, Some, None, length, get_or, slice_get, refl, ap, ◌∙◌, arith}
use Rattle.cx_meaning.specs.Designs.{PlainGroup, no_group}

abbrev pub group_or : Option PlainGroup → PlainGroup
group_or None = no_group
group_or (Some g) = g

pub group_number : (groups : List PlainGroup) (g : ℕ) → get_or groups g no_group ≡ group_or (slice_get groups g)
group_number [] g = refl
group_number (group ∷ groups) zero = refl
group_number (group ∷ groups) (suc g) = group_number groups g

pub group_there : (groups : List PlainGroup) (n : ℕ) (g : PlainGroup) → slice_get groups n ≡ Some g → get_or groups n no_group ≡ g
group_there groups n g e = group_number groups n ∙ ap group_or e

pub below_there : (groups : List PlainGroup) (n : ℕ) (g : PlainGroup) → slice_get groups n ≡ Some g → n < length groups
below_there [] n g e = absurd (cc)
below_there (group ∷ groups) zero g e = omega arith
below_there (group ∷ groups) (suc n) g e = let h : n < length groups = below_there groups n g e in omega arith
