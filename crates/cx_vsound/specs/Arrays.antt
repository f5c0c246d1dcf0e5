-- How many arrays a module has, and the only one.
use Rattle.std.specs.Prelude.{ℕ, suc, ◌==◌, not, List, [], ◌∷◌, Bool, true, false}
use Rattle.cx_vsound.specs.declared.externals.Arrays.{Arrays}
use Rattle.cx_vsound.specs.declared.externals.Arrays.TheVariants as arrays

-- none, one of a width and a length, or several
pub data PlainArrays : Type 0 where
  Empty : PlainArrays
  One : (width length : ℕ) → PlainArrays
  Several : PlainArrays

abbrev pub seen : Arrays → PlainArrays
seen arrays.Empty = Empty
seen (arrays.One w last) = One w (suc last.now)
seen arrays.Several = Several

abbrev pub arrays_among : List (ℕ × ℕ) → PlainArrays
arrays_among [] = Empty
arrays_among (a ∷ []) = One a.0 a.1
arrays_among (a ∷ b ∷ rest) = Several

-- with those that come after
abbrev pub with_arrays : PlainArrays → List (ℕ × ℕ) → PlainArrays
with_arrays Empty rest = arrays_among rest
with_arrays (One w k) [] = One w k
with_arrays (One w k) (a ∷ rest) = Several
with_arrays Several rest = Several

-- one more
abbrev pub one_more : PlainArrays → ℕ → ℕ → PlainArrays
one_more Empty w k = One w k
one_more (One v j) w k = Several
one_more Several w k = Several

abbrev pub other_length : PlainArrays → ℕ → Bool
other_length Empty words = true
other_length (One w k) words = not (k == words)
other_length Several words = true

abbrev pub other_width : PlainArrays → ℕ → Bool
other_width Empty width = false
other_width (One w k) width = not (w == width)
other_width Several width = false
