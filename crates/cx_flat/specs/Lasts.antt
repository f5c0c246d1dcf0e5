-- How long the flat component of a static one is needed while an order of components is gone through.
use Rattle.std.specs.Prelude.{◌≡◌, ℕ, ◌<◌, ◌≤◌, false, List, Some, get_or, is_some, length, slice_get}
use Rattle.cx_meaning.specs.Designs.{OfComponent, PlainCell, PlainDesign, component_at}
use Rattle.cx_text.specs.Members.{In}

-- of the first so many of an order none that has a cell of a component stands behind the place that is told for this,
-- which is that of the end where one of them is not static
pub record AreLasts (d : PlainDesign) (order : List ℕ) (i : ℕ) (lasts : List ℕ) : Type 0 where
  pub sized : length lasts ≡ length d.components
  pub last : (n k j : ℕ) (cell : PlainCell) → n < i → slice_get order n ≡ Some k
      → In (component_at d k).cells cell → cell.kind ≡ OfComponent j → n ≤ get_or lasts j 0
  pub end : (n k j : ℕ) (cell : PlainCell) → n < i → slice_get order n ≡ Some k
      → In (component_at d k).cells cell → cell.kind ≡ OfComponent j
      → is_some (component_at d k).latency ≡ false → length order ≤ get_or lasts j 0
