-- Orders of components in which those of a component's cells come before it.
use Rattle.std.specs.Prelude.{◌≡◌, ℕ, ◌<◌, ◌≤◌, Bool, true, false, List, Option, Some, None, length, take, slice_get}
use Rattle.cx_meaning.specs.Designs.{PlainKind, OfPrimitive, OfComponent, PlainCell, PlainDesign, component_at}
use Rattle.cx_text.specs.Members.{In}

-- each component stands behind those of its cells, main is among them, and they are no more than the design has
pub record IsChildrenFirst (d : PlainDesign) (order : List ℕ) : Type 0 where
  pub there : (k : ℕ) → In order k → k < length d.components
  pub behind : (i k j : ℕ) (cell : PlainCell) → slice_get order i ≡ Some k
      → In (component_at d k).cells cell → cell.kind ≡ OfComponent j → In (take i order) j
  pub main : In order d.main
  pub few : length order ≤ length d.components

-- the component of a cell, where it is not yet placed
abbrev pub if_unplaced : Option Bool → ℕ → Option ℕ
if_unplaced None k = None
if_unplaced (Some true) k = None
if_unplaced (Some false) k = Some k

abbrev pub unplaced : List Bool → PlainKind → Option ℕ
unplaced placed (OfPrimitive primitive) = None
unplaced placed (OfComponent k) = if_unplaced (slice_get placed k) k

-- no cell from one number to before another has a component that is not placed
abbrev pub ArePlaced : List Bool → List PlainCell → ℕ → ℕ → Type 0
ArePlaced placed cells from to =
    (i : ℕ) (cell : PlainCell) → from ≤ i → i < to → slice_get cells i ≡ Some cell
    → unplaced placed cell.kind ≡ None

-- the first cell from a number on whose component is not placed
pub record IsNext (placed : List Bool) (cells : List PlainCell) (from number component : ℕ) : Type 0 where
  pub later : from ≤ number
  pub cell : PlainCell
  pub stands : slice_get cells number ≡ Some cell
  pub waits : unplaced placed cell.kind ≡ Some component
  pub before : ArePlaced placed cells from number
