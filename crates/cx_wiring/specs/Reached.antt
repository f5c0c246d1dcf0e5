-- Which components a net has: those that main reaches, each behind those of its cells.
use Rattle.std.specs.Prelude.{ℕ, zero, suc, nat_eq, max, List, [], ◌∷◌, length, map, filter, flat_map, Option, Some, None, slice_get, if◌then◌else◌}
use Rattle.cx_meaning.specs.Designs.{PlainCell}
pub use Rattle.cx_meaning.specs.Designs.{component_of_kind, components_of, has_number}
use Rattle.cx_static.specs.Islands.{PlainLowered, PlainLowereds}

-- so many numbers from one on
abbrev pub numbers_from : ℕ → ℕ → List ℕ
numbers_from n zero = []
numbers_from n (suc k) = n ∷ numbers_from (suc n) k

abbrev pub cells_at : Option PlainLowered → List PlainCell
cells_at None = []
cells_at (Some lowered) = lowered.part.cells

-- the place of a number in a list; 0 for one that is not there
abbrev pub place_in : ℕ → List ℕ → ℕ
place_in k [] = 0
place_in k (n ∷ rest) = if nat_eq k n then 0 else (if has_number k rest then suc (place_in k rest) else 0)

module _ (d : PlainLowereds) where
  abbrev pub below : ℕ → List ℕ
  below k = components_of (cells_at (slice_get d.components k))

  -- a component, those of its cells, and so on, so many levels down
  abbrev pub reached_from : ℕ → ℕ → List ℕ
  reached_from zero k = k ∷ []
  reached_from (suc levels) k = k ∷ flat_map (reached_from levels) (below k)

  abbrev pub highest : List ℕ → ℕ
  highest [] = 0
  highest (n ∷ rest) = max n (highest rest)

  -- THE HEIGHT of a component: 0 without cells of components, else above those of its cells
  abbrev pub height_of : ℕ → ℕ → ℕ
  height_of zero k = 0
  height_of (suc levels) k = highest (map (λ c. suc (height_of levels c)) (below k))

  -- no chain of components that stand in each other's cells is longer than there are components
  abbrev pub count : ℕ
  count = length d.components

  abbrev pub height : ℕ → ℕ
  height = height_of count

  abbrev pub reached : List ℕ
  reached = filter (λ k. has_number k (reached_from count d.main)) (numbers_from 0 count)

  -- THE COMPONENTS OF THE NET: those that main reaches, by height, and at one height by number
  abbrev pub order : List ℕ
  order = flat_map (λ h. filter (λ k. nat_eq (height k) h) reached) (numbers_from 0 (suc count))
