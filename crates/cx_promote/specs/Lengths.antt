-- The lengths of the groups of a component, and by name.
use Rattle.std.specs.Prelude.{◌≡◌, ℕ, Bool, List, ◌++◌, Option, Some, None, is_some, map, slice_get}
use Rattle.cx_names_scopes.specs.Numbered.{number_in}
use Rattle.cx_promote.specs.declared.by_name.Lengths.{Lengths}

-- a list begins with what a function gives of the items of another
abbrev pub Begins : {A B : Type 0} → (A → B) → List B → List A → Type 0
Begins {A} {B} f found items = (rest : List B) × (found ≡ map f items ++ rest)

-- the length of a number; none where there is none
abbrev pub found_length : Option (Option ℕ) → Option ℕ
found_length None = None
found_length (Some length) = length

abbrev pub length_at : List (Option ℕ) → Option ℕ → Option ℕ
length_at lengths None = None
length_at lengths (Some n) = found_length (slice_get lengths n)

-- whether a name is that of a group with a length
abbrev pub long_in : Lengths → List ℕ → Bool
long_in lengths name = is_some (length_at lengths.cycles.now (number_in lengths.numbers.now name))
