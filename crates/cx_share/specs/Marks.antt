-- Sets of a component's cells, as marks by number.
use Rattle.std.specs.Prelude.{◌≡◌, ℕ, ◌<◌, Bool, false, ◌||◌, List, get_or, length, map}
use Rattle.std.specs.List.{list_any, range_with_len}
use Rattle.std.specs.declared.vec.Vec.{Vec}
use Rattle.cx_meaning.specs.Instances.{Set}

-- the marks are those of a set
abbrev pub AreMarks : List Bool → Set → Type 0
AreMarks marks set = (c : ℕ) → c < length marks → get_or marks c false ≡ set c

-- the marks of so many cells
abbrev pub marks_by : ℕ → Set → List Bool
marks_by count set = map set (range_with_len 0 count)

-- the marks of a set are added
pub record Adds (old new : List Bool) (set : Set) : Type 0 where
  pub count : length new ≡ length old
  pub marks : (c : ℕ) → c < length old → get_or new c false ≡ (get_or old c false || set c)

-- the cells that are in some set of a list
abbrev pub any_of : {A : Type 0} → (A → Set) → List A → Set
any_of f xs c = list_any (λ x. f x c) xs

-- lists of lists as they lie in memory
abbrev pub lists_of : {E A : Type 0} → List (Vec E A) → List (List E)
lists_of vectors = map (λ v. v.items) vectors
