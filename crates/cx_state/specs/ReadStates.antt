-- A state that is read off rows.
use Rattle.std.specs.Prelude.{ℕ, zero, suc, ◌+◌, List, [], ◌∷◌, Option, unwrap_or}
use Rattle.cx_prim.specs.CellStates.{CellState, Stateless}
use Rattle.cx_meaning.specs.Instances.{Instance, Node, Cells, no_cells, a_primitive, an_instance, Path, State}
use Rattle.cx_rules.specs.Sizes.{instances_below}
use Rattle.cx_state.specs.States.{PlainInstance, cell_held}

-- of an instance with the number n; own is what its cells hold, and c the cell that is left to go to
abbrev mutual
  pub state_from : Instance → List PlainInstance → ℕ → State
  state_from (Node part cells) rows n [] = Stateless
  state_from (Node part cells) rows n (c ∷ path) = held_from cells (cell_held rows n) rows (suc n) c path

  pub held_from : Cells → (ℕ → Option CellState) → List PlainInstance → ℕ → ℕ → Path → CellState
  held_from no_cells own rows n c path = Stateless
  held_from (a_primitive row rest) own rows n zero path = unwrap_or (own 0) Stateless
  held_from (a_primitive row rest) own rows n (suc c) path = held_from rest (λ k. own (suc k)) rows n c path
  held_from (an_instance child rest) own rows n zero path = state_from child rows n path
  held_from (an_instance child rest) own rows n (suc c) path =
      held_from rest (λ k. own (suc k)) rows (n + instances_below child) c path

-- each primitive cell of the tree holds what stands in its row
abbrev pub state_in : Instance → List PlainInstance → State
state_in tree rows path = state_from tree rows 0 path
