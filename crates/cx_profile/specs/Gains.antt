-- Which components are reached, and how many counts each shows, in lists by the numbers of the components.
use Rattle.std.specs.Prelude.{◌≡◌, ℕ, ◌+◌, ◌<◌, Bool, true, List, [], ◌∷◌, Some, get_or, length, slice_get}
use Rattle.cx_meaning.specs.Designs.{PlainKind, OfPrimitive, OfComponent, PlainCell, PlainComponent, PlainDesign, component_at}
use Rattle.cx_meaning.specs.Instances.{Node, cells_for}
use Rattle.cx_rules.specs.Ports.{component_of}
use Rattle.cx_profiling.specs.Counters.{shown_in, entry_count}
use Rattle.cx_profiling.specs.Instrumented.{is_reached}
use Rattle.cx_profile.specs.declared.gained.Gains.{Gains}
use Rattle.cx_profile.specs.Counted.{counted_among}
use Rattle.cx_profile.specs.Renumbering.{AreGained}

abbrev pub AreReached : PlainDesign → List Bool → Type 0
AreReached d marks = (k : ℕ) → k < length d.components → slice_get marks k ≡ Some (is_reached d k)

-- the counts of a component and all below it, by those of the components
abbrev pub kind_count : List ℕ → PlainKind → ℕ
kind_count counts (OfPrimitive primitive) = 0
kind_count counts (OfComponent k) = get_or counts k 0

abbrev pub cells_count : List ℕ → List PlainCell → ℕ
cells_count counts [] = 0
cells_count counts (cell ∷ cells) = kind_count counts cell.kind + cells_count counts cells

abbrev pub shown_count : List ℕ → PlainComponent → ℕ
shown_count counts part = counted_among part.cells part.groups + cells_count counts part.cells

-- of each reached component the counts of it and all below it. Its tree stands on the trees of its cells' components
pub record AreShown (d : PlainDesign) (counts : List ℕ) : Type 0 where
  pub sized : length counts ≡ length d.components
  pub shown : (k : ℕ) → is_reached d k ≡ true → get_or counts k 0 ≡ length (shown_in (component_of d k))
  pub trees : (k : ℕ) → is_reached d k ≡ true
      → component_of d k ≡ Node (component_at d k) (cells_for (component_of d) (component_at d k).cells)

pub record AreGains (d : PlainDesign) (gains : Gains) : Type 0 where
  pub reached : AreReached d gains.reached.items
  pub outputs : AreGained d gains.outputs.items
  pub entries : gains.entries ≡ entry_count d
  pub trees : (k : ℕ) → is_reached d k ≡ true
      → component_of d k ≡ Node (component_at d k) (cells_for (component_of d) (component_at d k).cells)
