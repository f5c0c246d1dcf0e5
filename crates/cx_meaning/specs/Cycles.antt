-- A cycle of an instance under an active set: the next state, or exactly its fault.
use Rattle.std.specs.Prelude.{ℕ, zero, suc, ◌||◌, Bool, true, [], ◌∷◌, Option, Some, None, Result, Ok, Err, if◌then◌else◌}
use Rattle.cx_meaning.specs.declared.ports.PortRef.{PortRef}
use Rattle.cx_meaning.specs.declared.ports.PortRef.TheVariants as ports
use Rattle.cx_meaning.specs.declared.sights.Seen.{Seen}
use Rattle.cx_meaning.specs.declared.sights.Seen.TheVariants as sights
use Rattle.cx_meaning.specs.declared.sights.FaultKind.{FaultKind}
use Rattle.cx_meaning.specs.declared.sights.FaultKind.TheVariants as faults
use Rattle.cx_prim.specs.CellStates.{CellState}
use Rattle.cx_prim.specs.Rows.{Inputs, Row, edge, is_enable_side}
use Rattle.cx_meaning.specs.Rows.{side_of}
use Rattle.cx_meaning.specs.Instances.{Instance, Cells, At, Nothing, OfRow, OfInstance, cell_at, cell_count, cells_of, Path, State, Set}
use Rattle.cx_meaning.specs.Active.{Active}
use Rattle.cx_meaning.specs.Sights.{Look, Held, seen, Gathered, Given, Lacks, gather}

-- a fault: its kind, the path of the instance, and the port
pub record Fault : Type 0 where
  pub kind : FaultKind
  pub path : Path
  pub port : PortRef

-- the kind of the fault where a port is looked at that is no value
abbrev pub kind_of : Seen → FaultKind
kind_of (sights.Value b) = faults.Undefined
kind_of sights.Conflict = faults.Conflict
kind_of sights.Undefined = faults.Undefined

-- the fault of a port of the instance itself
abbrev pub fault_at : FaultKind → PortRef → Fault
fault_at kind port = record { kind = kind; path = []; port = port }

-- what a cell comes to: its next state, or a port of it that is a fault
pub data Outcome : Type 0 where
  Next : (after : CellState) → Outcome
  Stops : (kind : FaultKind) (port : ℕ) → Outcome

abbrev pub after_edge : Result CellState ℕ → Outcome
after_edge (Ok after) = Next after
after_edge (Err port) = Stops faults.Range port

abbrev pub after_data : Row → CellState → Gathered → Outcome
after_data row state (Given inputs) = after_edge (edge row state inputs)
after_data row state (Lacks p x) = Stops (kind_of x) p

abbrev pub enables : Row → ℕ → Bool
enables row p = is_enable_side (side_of row p)

-- the enabling ports, and the ports that the row demands at their values
abbrev pub looks_at : Row → CellState → Inputs → ℕ → Bool
looks_at row state enabling p = enables row p || row.demands state enabling p

abbrev pub after_enabling : (ℕ → Seen) → Row → CellState → Gathered → Outcome
after_enabling look row state (Given enabling) =
    after_data row state (gather look (looks_at row state enabling) 0 row.ports)
after_enabling look row state (Lacks p x) = Stops (kind_of x) p

-- A CELL IN A CYCLE: its enabling ports are seen in port order, then the data ports that its row demands at their values,
-- then the row compares each address with its size
abbrev pub cell_outcome : Look → ℕ → Row → CellState → Outcome
cell_outcome look c row state =
    after_enabling (λ p. look (ports.Cell c p)) row state
    (gather (λ p. look (ports.Cell c p)) (enables row) 0 row.ports)

-- a primitive cell comes to its outcome; a component's cell stays as it is
abbrev pub outcome_at : Look → ℕ → At → CellState → Outcome
outcome_at look c Nothing state = Next state
outcome_at look c (OfRow row) state = cell_outcome look c row state
outcome_at look c (OfInstance child) state = Next state

-- WHAT EACH CELL COMES TO, by the old state: one that is not listed is not looked at, and stays as it is
abbrev pub outcome_of : Set → Look → Cells → State → ℕ → Outcome
outcome_of listed look cells s c =
    if listed c then outcome_at look c (cell_at cells c) (s (c ∷ [])) else Next (s (c ∷ []))

-- the fault of cell c, or else a later one
abbrev pub first_of : ℕ → Outcome → Option Fault → Option Fault
first_of c (Next after) later = later
first_of c (Stops kind p) later = Some (fault_at kind (ports.Cell c p))

-- the first fault, in cell order, of so many cells from cell c on
abbrev pub first_fault : (ℕ → Outcome) → ℕ → ℕ → Option Fault
first_fault outcome c zero = None
first_fault outcome c (suc more) = first_of c (outcome c) (first_fault outcome (suc c) more)

abbrev pub stepped : CellState → Outcome → CellState
stepped d (Next after) = after
stepped d (Stops kind p) = d

-- all cells step at once; what is below a component's cell stays as it is
abbrev pub state_after : (ℕ → Outcome) → State → State
state_after outcome s [] = s []
state_after outcome s (c ∷ []) = stepped (s (c ∷ [])) (outcome c)
state_after outcome s (c ∷ e ∷ path) = s (c ∷ e ∷ path)

-- the state after a cycle, or its fault
pub data Ended : Type 0 where
  Goes : (after : State) → Ended
  Faults : (fault : Fault) → Ended

abbrev pub unless_fault : Option Fault → State → Ended
unless_fault (Some fault) after = Faults fault
unless_fault None after = Goes after

-- how a cycle of so many cells ends, by what each of them comes to: with the first fault, or with all the steps
abbrev pub ended : (ℕ → Outcome) → ℕ → State → Ended
ended outcome count s = unless_fault (first_fault outcome 0 count) (state_after outcome s)

abbrev pub cycle_by : Set → Look → Cells → State → Ended
cycle_by listed look cells s = ended (outcome_of listed look cells s) (cell_count cells) s

-- A CYCLE OF THE LISTED CELLS: only they are looked at, and only they make a step
abbrev pub cycle_of : Instance → Held → Active → Set → State → Ended
cycle_of i held act listed s = cycle_by listed (seen i held act s) (cells_of i) s

abbrev pub every_cell : Set
every_cell c = true

-- A CYCLE
abbrev pub cycle : Instance → Held → Active → State → Ended
cycle i held act s = cycle_of i held act every_cell s
