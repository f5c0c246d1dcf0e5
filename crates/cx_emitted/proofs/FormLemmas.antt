-- A state that holds what the rows of a net can has their forms.
use Rattle.std.proofs.Common.{◌≡◌, ℕ, zero, suc, true, List, [], ◌∷◌, length, Some, slice_get, refl}
use Rattle.cx_prim.specs.CellStates as states
use Rattle.cx_prim.specs.CellStates.{CellState, StateShape, IsState}
use Rattle.cx_prim.specs.Table.{row_of}
use Rattle.cx_meaning.specs.Designs.{PlainKind, OfPrimitive, OfComponent, PlainCell}
use Rattle.cx_meaning.specs.Instances.{Path}
use Rattle.cx_net.specs.Nets.{PlainNet}
use Rattle.cx_net.specs.NetTree.{NetInstance, add_net_cell, net_cells_for, net_component_at, net_within, net_tree}
use Rattle.cx_net.specs.NetMeaning.{NetState, below_cell}
use Rattle.cx_net.specs.NetHolds.{Holds}
use Rattle.cx_net.proofs.WidthLaws.{holds_below}
use Rattle.cx_wiring_runs.proofs.StateForms.{has_form}
use Rattle.cx_wiring_runs.proofs.CellForms.{AreForms, FormsBelow}

state_form : (shape : StateShape) (state : CellState) → IsState shape state → has_form shape state ≡ true
state_form states.NoState state h = refl
state_form (states.RegisterOf width) (states.Register value done) h = refl
state_form (states.MemoryOf width count) (states.Memory words done) h = refl
state_form (states.SequentialMemoryOf width count) (states.SequentialMemory words read_data done) h = refl
state_form (states.MultiplierOf width latency) (states.Multiplier run product) h = refl
state_form (states.DividerOf width latency) (states.Divider run quotient remainder) h = refl
state_form (states.TimerOf length) (states.Timer count done) h = refl
state_form _ _ h = absurd h

-- what stands at a cell of this kind
abbrev HasForms : (ℕ → NetInstance) → PlainKind → (Path → CellState) → Type 0
HasForms child (OfPrimitive p) s = has_form (row_of p).shape (s []) ≡ true
HasForms child (OfComponent k) s = AreForms (child k) s

module _ (child : ℕ → NetInstance) where
  kind_forms : (kind : PlainKind) (cells : List PlainCell) (s : ℕ → Path → CellState) → HasForms child kind (s 0) → FormsBelow (net_cells_for child cells) (λ c. s (suc c))
      → FormsBelow (add_net_cell child kind (net_cells_for child cells)) s
  kind_forms (OfPrimitive p) cells s own rest = (((p, refl), own), rest)
  kind_forms (OfComponent k) cells s own rest = (own, rest)

  cells_forms : (cells : List PlainCell) (s : ℕ → Path → CellState) → ((c : ℕ) (cell : PlainCell) → slice_get cells c ≡ Some cell → HasForms child cell.kind (s c)) → FormsBelow (net_cells_for child cells) s
  cells_forms [] s each = tt
  cells_forms (cell ∷ cells) s each = kind_forms cell.kind cells s (each 0 cell refl) (cells_forms cells (λ c. s (suc c)) (λ c other at. each (suc c) other at))

module _ (net : PlainNet) where
  cell_forms : (child : ℕ → NetInstance) → ((k : ℕ) (s : NetState) → Holds net k s → AreForms (child k) s.cell) → (k : ℕ) (s : NetState) → Holds net k s
      → (c : ℕ) (cell : PlainCell) → slice_get (net_component_at net k).cells c ≡ Some cell → (kind : PlainKind) → cell.kind ≡ kind → HasForms child kind (λ path. s.cell (c ∷ path))
  cell_forms child each k s h c cell at (OfPrimitive p) is = state_form (row_of p).shape (s.cell (c ∷ [])) (h.cells [] k c cell p refl at is)
  cell_forms child each k s h c cell at (OfComponent j) is = each j (below_cell c s) (holds_below net k s h c cell j at is)

  within_forms : (levels k : ℕ) (s : NetState) → Holds net k s → AreForms (net_within net levels k) s.cell
  within_forms zero k s h = tt
  within_forms (suc levels) k s h =
      cells_forms (net_within net levels) (net_component_at net k).cells (λ c path. s.cell (c ∷ path)) (λ c cell at. cell_forms (net_within net levels) (within_forms levels) k s h c cell at cell.kind refl)

  pub net_forms : (s : NetState) → Holds net net.main s → AreForms (net_tree net) s.cell
  net_forms s h = within_forms (length net.components) net.main s h
