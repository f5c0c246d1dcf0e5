-- Facts of what `Instances` defines, that several crates above take.
use Rattle.std.proofs.Common.{◌≡◌, ℕ, zero, suc, true, false, refl, ap, [], ◌∷◌, ◌++◌, ◌<◌, arith, tests, nat_eq, Option, Some, None, length, List, inl, inr, ◌∙◌}
use Rattle.cx_text.specs.Members.{In}
use Rattle.cx_text.proofs.NumberLaws.{eq_next}
use Rattle.cx_meaning.specs.Instances.{just, Instance, Node, instance_at, Cells, add_cell, cell_at, OfInstance, OfRow, no_cells, Path, a_primitive, an_instance, idle_below, Nothing, cells_for, cells_of, tree_within, paths_of, State, idle_at, child_at, At}
use Rattle.cx_meaning.specs.Designs.{PlainKind, OfPrimitive, OfComponent, no_component, PlainDesign, component_at, PlainCell}
use Rattle.cx_prim.specs.Rows.{Row}
use Rattle.cx_prim.specs.CellStates.{CellState}
use Rattle.std.specs.List.{slice_get}
use Rattle.cx_meaning.specs.declared.ports.PortRef.TheVariants as ports
use Rattle.cx_meaning.specs.declared.sights.Seen.TheVariants.{Value}
use Rattle.cx_meaning.specs.Active.{Active}
use Rattle.cx_meaning.specs.Sights.{Held, seen}
use Rattle.cx_prim.specs.Table.{row_of}

pub just_true : (k c : ℕ) → just k c ≡ true → k ≡ c
just_true zero zero e = refl
just_true zero (suc c) e = absurd (let f : false ≡ true = e in cc)
just_true (suc k) zero e = absurd (let f : false ≡ true = e in cc)
just_true (suc k) (suc c) e = ap suc (just_true k c e)

pub just_is : (k c : ℕ) → just k c ≡ nat_eq k c
just_is zero zero = refl
just_is zero (suc c) = grind (arith, tests)
just_is (suc k) zero = grind (arith, tests)
just_is (suc k) (suc c) = just_is k c ∙ eq_next k c

pub here : (i : Instance) → instance_at i [] ≡ i
here (Node part cells) = refl

pub kind_skip : (trees : ℕ → Instance) (kind : PlainKind) (rest : Cells) (c : ℕ) → cell_at (add_cell trees kind rest) (suc c) ≡ cell_at rest c
kind_skip trees (OfPrimitive p) rest c = refl
kind_skip trees (OfComponent k) rest c = refl

pub instance_is : (a b : Instance) → OfInstance a ≡ OfInstance b → a ≡ b
instance_is a b e = cc

pub row_is : (a b : Row) → OfRow a ≡ OfRow b → a ≡ b
row_is a b e = cc

pub instance_row : (child : Instance) (row : Row) → OfInstance child ≡ OfRow row → ⊥
instance_row child row e = cc

pub nowhere : (path : Path) → instance_at (Node no_component no_cells) path ≡ Node no_component no_cells
nowhere [] = refl
nowhere (c ∷ path) = refl

pub row_instance : (row : Row) (child : Instance) → OfRow row ≡ OfInstance child → ⊥
row_instance row child e = cc

pub just_same : (k : ℕ) → just k k ≡ true
just_same zero = refl
just_same (suc k) = just_same k

-- the idle edge of a row, and that of a cell of a child
pub idle_below-row : (cells : Cells) (c : ℕ) (row : Row) (d : CellState) → cell_at cells c ≡ OfRow row → idle_below cells c [] d ≡ row.idle d
idle_below-row no_cells c row d e = absurd (cc)
idle_below-row (a_primitive own rest) zero row d e = let same : own ≡ row = cc in ap (λ (x : Row). x.idle d) same
idle_below-row (a_primitive own rest) (suc c) row d e = idle_below-row rest c row d e
idle_below-row (an_instance own rest) zero row d e = absurd (cc)
idle_below-row (an_instance own rest) (suc c) row d e = idle_below-row rest c row d e

pub nothing_instance : (child : Instance) → Nothing ≡ OfInstance child → ⊥
nothing_instance child e = cc

pub nothing_row : (row : Row) → Nothing ≡ OfRow row → ⊥
nothing_row row e = cc

pub not_just : (k c : ℕ) → (c ≡ k → ⊥) → just k c ≡ false
not_just zero zero h = absurd (h refl)
not_just zero (suc c) h = refl
not_just (suc k) zero h = refl
not_just (suc k) (suc c) h = not_just k c (λ e. h (ap suc e))

pub some_cells : (d : PlainDesign) (n k : ℕ) → 0 < n → (trees : ℕ → Instance) × (cells_of (tree_within d n k) ≡ cells_for trees (component_at d k).cells)
some_cells d zero k lt = absurd (omega arith)
some_cells d (suc n) k lt = (tree_within d n, refl)

-- below what is no child nothing is idle
pub no_child : (cells : Cells) (c e : ℕ) (below : Path) (x : CellState) → ((child : Instance) → cell_at cells c ≡ OfInstance child → ⊥) → idle_below cells c (e ∷ below) x ≡ x
no_child no_cells c e below x none = refl
no_child (a_primitive row rest) zero e below x none = refl
no_child (a_primitive row rest) (suc c) e below x none = no_child rest c e below x none
no_child (an_instance child rest) zero e below x none = absurd (none child refl)
no_child (an_instance child rest) (suc c) e below x none = no_child rest c e below x none

pub main_path : (i : Instance) (q : Path) → slice_get (paths_of i) 0 ≡ Some q → q ≡ []
main_path (Node part cells) q e = let f : Some [] ≡ Some q = e in cc

pub literal_is : (i : Instance) (held : Held) (act : Active) (s : State) (w v : ℕ) → seen i held act s (ports.Literal w v) ≡ Value (record { width = w; value = v })
literal_is (Node own cells) held act s w v = refl

pub top_idle : (i : Instance) (state : CellState) → idle_at i [] state ≡ state
top_idle (Node part cells) state = refl

pub main_there : (i : Instance) → 0 < length (paths_of i)
main_there (Node part cells) = omega arith

pub main_first : (i : Instance) → slice_get (paths_of i) 0 ≡ Some []
main_first (Node part cells) = refl

pub child_is : (cells : Cells) (c : ℕ) (child : Instance) → cell_at cells c ≡ OfInstance child → (path : Path) → child_at cells c path ≡ instance_at child path
child_is no_cells c child e path = absurd (nothing_instance child e)
child_is (a_primitive row rest) zero child e path = absurd (row_instance row child e)
child_is (a_primitive row rest) (suc c) child e path = child_is rest c child e path
child_is (an_instance other rest) zero child e path = ap (λ i. instance_at i path) (instance_is other child e)
child_is (an_instance other rest) (suc c) child e path = child_is rest c child e path

-- the same trees at the cells of a list
pub kind_same : (f g : ℕ → Instance) (kind : PlainKind) (rest : Cells) → ((j : ℕ) → kind ≡ OfComponent j → f j ≡ g j) → add_cell f kind rest ≡ add_cell g kind rest
kind_same f g (OfPrimitive p) rest h = refl
kind_same f g (OfComponent k) rest h = ap (λ i. an_instance i rest) (h k refl)

pub cells_same : (f g : ℕ → Instance) (cells : List PlainCell) → ((cell : PlainCell) (j : ℕ) → In cells cell → cell.kind ≡ OfComponent j → f j ≡ g j) → cells_for f cells ≡ cells_for g cells
cells_same f g [] h = refl
cells_same f g (c ∷ cs) h =
    ap (add_cell f c.kind) (cells_same f g cs (λ cell j i. h cell j (inr i))) ∙ kind_same f g c.kind (cells_for g cs) (λ j e. h c j (inl refl) e)

-- what stands at a cell of a kind
abbrev pub at_kind : (ℕ → Instance) → PlainKind → At
at_kind child (OfPrimitive primitive) = OfRow (row_of primitive)
at_kind child (OfComponent k) = OfInstance (child k)

pub first_at : (child : ℕ → Instance) (kind : PlainKind) (rest : Cells) → cell_at (add_cell child kind rest) 0 ≡ at_kind child kind
first_at child (OfPrimitive primitive) rest = refl
first_at child (OfComponent k) rest = refl

abbrev pub at_cell : (ℕ → Instance) → Option PlainCell → At
at_cell child None = Nothing
at_cell child (Some cell) = at_kind child cell.kind

pub at_number : (child : ℕ → Instance) (cells : List PlainCell) (c : ℕ) → cell_at (cells_for child cells) c ≡ at_cell child (slice_get cells c)
at_number child [] c = refl
at_number child (cell ∷ cells) zero = first_at child cell.kind (cells_for child cells)
at_number child (cell ∷ cells) (suc c) = kind_skip child cell.kind (cells_for child cells) c ∙ at_number child cells c

pub cell_stands : (child : ℕ → Instance) (cells : List PlainCell) (c : ℕ) (cell : PlainCell) → slice_get cells c ≡ Some cell → cell_at (cells_for child cells) c ≡ at_kind child cell.kind
cell_stands child cells c cell e = at_number child cells c ∙ ap (at_cell child) e

pub just_other : (c d : ℕ) → (c ≡ d → ⊥) → just c d ≡ false
just_other zero zero h = absurd (h refl)
just_other zero (suc d) h = refl
just_other (suc c) zero h = refl
just_other (suc c) (suc d) h = just_other c d (λ e. h (ap suc e))

-- below an instance stands what stands at the joined path
mutual
  pub instance_along : (i : Instance) (path below : Path) → instance_at (instance_at i path) below ≡ instance_at i (path ++ below)
  instance_along (Node part cells) [] below = refl
  instance_along (Node part cells) (c ∷ path) below = cells_along cells c path below

  cells_along : (cells : Cells) (c : ℕ) (path below : Path) → instance_at (child_at cells c path) below ≡ child_at cells c (path ++ below)
  cells_along no_cells c path below = nowhere below
  cells_along (a_primitive row rest) zero path below = nowhere below
  cells_along (a_primitive row rest) (suc c) path below = cells_along rest c path below
  cells_along (an_instance child rest) zero path below = instance_along child path below
  cells_along (an_instance child rest) (suc c) path below = cells_along rest c path below
