-- Assignments of groups, by the numbers of the groups.
use Rattle.std.proofs.Common.{◌≡◌, ℕ, zero, suc, List, [], ◌∷◌, Option, Some, None, slice_get, get_or, refl}
use Rattle.cx_meaning.specs.Designs.{PlainAssign, PlainGroup, no_group}

-- the assignments of what there is
abbrev pub assigns_or : Option PlainGroup → List PlainAssign
assigns_or None = []
assigns_or (Some x) = x.assigns

pub assigns_of_group : (groups : List PlainGroup) (g : ℕ) → (get_or groups g no_group).assigns ≡ assigns_or (slice_get groups g)
assigns_of_group [] g = refl
assigns_of_group (group ∷ groups) zero = refl
assigns_of_group (group ∷ groups) (suc g) = assigns_of_group groups g
