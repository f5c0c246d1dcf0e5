-- Steps of cells with what stands at their ports.
use Rattle.std.specs.Prelude.{◌≡◌, ℕ, true, List, Option, Some, None}
use Rattle.cx_prim.specs.CellStates.{CellState, IsState}
use Rattle.cx_prim.specs.Rows.{FitsPorts, Inputs, IsLookedAt, Row}
use Rattle.cx_prim.specs.Table.{row_of}
use Rattle.cx_meaning.specs.Cycles.{Next, cell_outcome}
use Rattle.cx_meaning.specs.Instances.{Set}
use Rattle.cx_meaning.specs.Sights.{Look}
use Rattle.cx_eval_cycle.specs.declared.rooms.CellRoom.{CellRoom}
use Rattle.cx_eval_cycle.specs.declared.stepping.SteppingCell.{SteppingCell}
use Rattle.cx_eval_cycle.specs.Passes.{cell_held}
use Rattle.cx_eval_cycle.specs.Rooms.{inputs_at}
use Rattle.cx_eval_cycle.specs.Stepping.{kept_at}

-- what a cell holds after a step; one that cannot step stays
abbrev pub stepped_with : Row → Inputs → Option CellState → Option CellState
stepped_with row inputs None = None
stepped_with row inputs (Some d) = Some (row.next d inputs)

abbrev pub after_kept : Option SteppingCell → Inputs → Option CellState → Option CellState
after_kept None inputs held = held
after_kept (Some stepping) inputs held = stepped_with (row_of stepping.primitive.now) inputs held

abbrev pub after_room : List (Option SteppingCell) → List CellRoom → ℕ → Option CellState → Option CellState
after_room kept rooms c held = after_kept (kept_at kept c) (inputs_at rooms c) held

-- a step can be made: the state is one of the row, what stands at the ports fits them, and all that is looked at is there
pub record StepsWith (row : Row) (inputs : Inputs) (state : CellState) : Type 0 where
  pub state_fits : IsState row.shape state
  pub fits : FitsPorts row.ports inputs
  pub looked_at : IsLookedAt row state inputs

abbrev pub CanStep : Row → Inputs → Option CellState → Type 0
CanStep row inputs held = (d : CellState) → held ≡ Some d → StepsWith row inputs d

abbrev pub CanStepAt : List (Option SteppingCell) → List CellRoom → ℕ → Option CellState → Type 0
CanStepAt kept rooms c held =
    (stepping : SteppingCell) → kept_at kept c ≡ Some stepping
    → CanStep (row_of stepping.primitive.now) (inputs_at rooms c) held

-- cells that can step hold states of their rows
abbrev pub HoldFitting : List (Option SteppingCell) → List (Option CellState) → Type 0
HoldFitting kept held =
    (c : ℕ) (stepping : SteppingCell) (d : CellState) → kept_at kept c ≡ Some stepping
    → cell_held held c ≡ Some d → IsState (row_of stepping.primitive.now).shape d

-- WHAT WAS GATHERED over a look at the ports of a cell that nothing stops: it comes to the step that its row makes with it
pub record IsGathered (look : Look) (c : ℕ) (row : Row) (state : CellState) (inputs : Inputs) : Type 0 where
  pub outcome : Next (row.next state inputs) ≡ cell_outcome look c row state
  pub fits : FitsPorts row.ports inputs
  pub looked_at : IsLookedAt row state inputs

abbrev pub IsGatheredAt : Look → List (Option SteppingCell) → List (Option CellState) → List CellRoom → ℕ → Type 0
IsGatheredAt look kept held rooms c =
    (stepping : SteppingCell) (d : CellState) → kept_at kept c ≡ Some stepping → cell_held held c ≡ Some d
    → IsGathered look c (row_of stepping.primitive.now) d (inputs_at rooms c)

-- of each cell of a set
abbrev pub AreGathered : Set → Look → List (Option SteppingCell) → List (Option CellState) → List CellRoom → Type 0
AreGathered set look kept held rooms = (c : ℕ) → set c ≡ true → IsGatheredAt look kept held rooms c
