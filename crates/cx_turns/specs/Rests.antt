-- Idle edges of some cells of an instance.
use Rattle.std.specs.Prelude.{ℕ, zero, suc, Bool, List, [], ◌∷◌, Option, Some, None, set, if◌then◌else◌}
use Rattle.cx_prim.specs.CellStates.{CellState}
use Rattle.cx_prim.specs.Table.{row_of}
use Rattle.cx_meaning.specs.Designs.{PlainKind, OfPrimitive, OfComponent, PlainCell}
use Rattle.cx_meaning.specs.Instances.{Set}
use Rattle.cx_state.specs.States.{PlainInstance, instance_state}

-- what a cell holds after its idle edge; a component's cell holds nothing of its own
abbrev pub kind_rested : PlainKind → Option CellState → Option CellState
kind_rested (OfPrimitive p) (Some held) = Some ((row_of p).idle held)
kind_rested (OfPrimitive p) None = None
kind_rested (OfComponent k) held = held

abbrev pub rested_cells : Set → List PlainCell → List (Option CellState) → List (Option CellState)
rested_cells listed [] hs = hs
rested_cells listed (x ∷ xs) [] = []
rested_cells listed (x ∷ xs) (h ∷ hs) =
    (if listed 0 then kind_rested x.kind h else h) ∷ rested_cells (λ c. listed (suc c)) xs hs

-- the rows, with the idle edges of listed cells of instance n
abbrev pub rows_rested : Set → List PlainCell → ℕ → List PlainInstance → List PlainInstance
rows_rested listed cells n rows =
    set rows n (record {
      cells = rested_cells listed cells (instance_state rows n).cells;
      held = (instance_state rows n).held;
    })
