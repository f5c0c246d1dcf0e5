-- The length of a group by the one assignment of its done.
use Rattle.std.specs.Prelude.{ℕ, List, [], ◌∷◌, Option, Some, None, if◌then◌else◌}
use Rattle.cx_meaning.specs.Designs.{PlainAssign, PlainGroup}
use Rattle.cx_meaning.specs.Instances.{Instance}
use Rattle.cx_rules.specs.CallShape.{is_always}
use Rattle.cx_promotion.specs.Promotable.{of_source}

-- the item of a list of one
abbrev pub only : {A : Type 0} → List A → Option A
only [] = None
only (x ∷ []) = Some x
only (x ∷ y ∷ rest) = None

abbrev pub of_done : Instance → PlainGroup → PlainAssign → Option ℕ
of_done i x a = if is_always a.guard then of_source i x a.source.port else None

abbrev pub of_only : Instance → PlainGroup → Option PlainAssign → Option ℕ
of_only i x None = None
of_only i x (Some a) = of_done i x a
