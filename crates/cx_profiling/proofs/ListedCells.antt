-- The cells of an instance by the cells of its component.
use Rattle.std.proofs.Common.{◌≡◌, ℕ, zero, suc, ◌<◌, List, Option, Some, None, slice_get, refl, ap, ◌∙◌, arith}
use Rattle.cx_prim.specs.Table.{PrimitiveRow, row_of}
use Rattle.cx_meaning.specs.Designs.{PlainKind, OfPrimitive, OfComponent, PlainCell, PlainDesign, component_at}
use Rattle.cx_meaning.specs.Instances.{Instance, Nothing, OfRow, OfInstance, cell_at, cells_of, part_of, cells_for, tree_within}
use Rattle.cx_meaning.proofs.DesignsLemmas.{same_part}
use Rattle.cx_meaning.proofs.InstancesLemmas.{at_kind, at_cell, at_number}

pub at_row : (child : ℕ → Instance) (cells : List PlainCell) (c : ℕ) (cell : PlainCell) (primitive : PrimitiveRow) → slice_get cells c ≡ Some cell → cell.kind ≡ OfPrimitive primitive
    → cell_at (cells_for child cells) c ≡ OfRow (row_of primitive)
at_row child cells c cell primitive at is = at_number child cells c ∙ ap (at_cell child) at ∙ ap (at_kind child) is

pub at_component : (child : ℕ → Instance) (cells : List PlainCell) (c : ℕ) (cell : PlainCell) (k : ℕ) → slice_get cells c ≡ Some cell → cell.kind ≡ OfComponent k
    → cell_at (cells_for child cells) c ≡ OfInstance (child k)
at_component child cells c cell k at is = at_number child cells c ∙ ap (at_cell child) at ∙ ap (at_kind child) is

-- WHAT A CELL IS: none, a primitive, or of a component
pub data CellIs (cells : List PlainCell) (c : ℕ) : Type 0 where
  is_none : slice_get cells c ≡ None → CellIs cells c
  is_primitive : (cell : PlainCell) (primitive : PrimitiveRow) → slice_get cells c ≡ Some cell → cell.kind ≡ OfPrimitive primitive → CellIs cells c
  is_component : (cell : PlainCell) (k : ℕ) → slice_get cells c ≡ Some cell → cell.kind ≡ OfComponent k → CellIs cells c

pub cell_is : (cells : List PlainCell) (c : ℕ) → CellIs cells c
cell_is cells c = by (slice_get cells c) refl
  where
    by_kind : (cell : PlainCell) → slice_get cells c ≡ Some cell → (kind : PlainKind) → cell.kind ≡ kind → CellIs cells c
    by_kind cell at (OfPrimitive primitive) is = is_primitive cell primitive at is
    by_kind cell at (OfComponent k) is = is_component cell k at is

    by : (o : Option PlainCell) → slice_get cells c ≡ o → CellIs cells c
    by None at = is_none at
    by (Some cell) at = by_kind cell at cell.kind refl

pub at_none : (child : ℕ → Instance) (cells : List PlainCell) (c : ℕ) → slice_get cells c ≡ None → cell_at (cells_for child cells) c ≡ Nothing
at_none child cells c at = at_number child cells c ∙ ap (at_cell child) at

pub child_in_tree : (d : PlainDesign) (n k c : ℕ) (cell : PlainCell) (j : ℕ) → 0 < n → slice_get (component_at d k).cells c ≡ Some cell → cell.kind ≡ OfComponent j
    → (child : Instance) × (cell_at (cells_of (tree_within d n k)) c ≡ OfInstance child) × (part_of child ≡ component_at d j)
child_in_tree d zero k c cell j some at is = absurd (omega (arith, some))
child_in_tree d (suc n) k c cell j some at is = (tree_within d n j, at_component (tree_within d n) (component_at d k).cells c cell j at is, same_part d n j)
