-- Which components are reached, and how high they stand, round by round.
use Rattle.std.specs.Prelude.{◌≡◌, ℕ, suc, ◌<◌, ◌||◌, ◌&&◌, Bool, false, List, [], ◌∷◌, get_or, length, map}
use Rattle.cx_meaning.specs.Designs.{PlainCell}
use Rattle.cx_static.specs.Islands.{PlainLowereds}
use Rattle.cx_wiring.specs.Reached.{components_of, has_number, below, reached_from, highest, height_of, count}

module _ (d : PlainLowereds) where
  -- a component is among those of the cells of marked ones, whose numbers begin with this one
  abbrev pub below_marked : ℕ → List Bool → ℕ → Bool
  below_marked n [] k = false
  below_marked n (marked ∷ marks) k = (marked && has_number k (below d n)) || below_marked (suc n) marks k

  -- the marks, and those of the components of the cells of marked ones
  pub record IsSpread (marks further : List Bool) : Type 0 where
    pub count : length further ≡ length marks
    pub right : (k : ℕ) → k < length marks → get_or further k false ≡ (get_or marks k false || below_marked 0 marks k)

  -- what main reaches so many levels down is marked
  pub record MarksReached (levels : ℕ) (marks : List Bool) : Type 0 where
    pub all : length marks ≡ count d
    pub right : (k : ℕ) → k < count d → get_or marks k false ≡ has_number k (reached_from d levels d.main)

  -- the height above the components of cells
  abbrev pub height_above : List ℕ → List PlainCell → ℕ
  height_above heights cells = highest d (map (λ c. suc (get_or heights c 0)) (components_of cells))

  -- the components above those of their cells
  abbrev pub raised : List ℕ → List ℕ
  raised heights = map (λ c. height_above heights c.part.cells) d.components

  -- the heights of the components, as far as so many levels tell
  pub record HasHeights (levels : ℕ) (heights : List ℕ) : Type 0 where
    pub right : (k : ℕ) → get_or heights k 0 ≡ height_of d levels k
