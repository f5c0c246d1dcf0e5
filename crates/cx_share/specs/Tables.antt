-- TABLES: for each cell the marks of the cells that stand with it.
use Rattle.std.specs.Prelude.{◌≡◌, ℕ, ◌<◌, Bool, false, ◌||◌, ◌&&◌, nat_lt, not, List, [], ◌∷◌, get_or, length}
use Rattle.std.specs.List.{list_any}
use Rattle.cx_meaning.specs.Designs.{PlainComponent}
use Rattle.cx_meaning.specs.Instances.{Set}
use Rattle.cx_sharing.specs.Meeting.{meet}
use Rattle.cx_share.specs.Marks.{AreMarks, Adds, any_of}

abbrev pub row_at : List (List Bool) → ℕ → List Bool
row_at rows x = get_or rows x []

-- a table over so many cells
pub record IsTable (count : ℕ) (rows : List (List Bool)) : Type 0 where
  pub height : length rows ≡ count
  pub width : (x : ℕ) → x < count → length (row_at rows x) ≡ count

-- marks of so many cells each
abbrev pub AreWide : ℕ → List (List Bool) → Type 0
AreWide count sets = (k : ℕ) → k < length sets → length (get_or sets k []) ≡ count

-- the marks of pairs are added
pub record Joins (old new : List (List Bool)) (pair : ℕ → Set) : Type 0 where
  pub count : length new ≡ length old
  pub rows : (x : ℕ) → x < length old → Adds (row_at old x) (row_at new x) (pair x)

-- the pairs that are among those of some element of a list
abbrev pub pairs_of : {A : Type 0} → (A → ℕ → Set) → List A → ℕ → Set
pairs_of f xs x = any_of (λ a. f a x) xs

-- each cell of one set with each of another
abbrev pub marked_pairs : List Bool → List Bool → ℕ → Set
marked_pairs ones others x y = get_or ones x false && get_or others y false

-- the pairs whose first cell is of a range of numbers
abbrev pub between : ℕ → ℕ → (ℕ → Set) → ℕ → Set
between from end pair x y = not (nat_lt x from) && (nat_lt x end && pair x y)

-- the first cell is in one of several sets, and the second in a later one
abbrev pub in_order : List (List Bool) → ℕ → Set
in_order [] x y = false
in_order (set ∷ later) x y = (get_or set x false && list_any (λ s. get_or s y false) later) || in_order later x y

-- with each cell stand those that it meets
pub record IsMeeting (part : PlainComponent) (rows : List (List Bool)) : Type 0 where
  pub table : IsTable (length part.cells) rows
  pub pairs : (x : ℕ) → x < length part.cells → AreMarks (row_at rows x) (meet part x)
