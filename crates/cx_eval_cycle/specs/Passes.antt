-- Passes over the listed cells of an instance: the first fault, and what each cell holds afterwards.
use Rattle.std.specs.Prelude.{◌≡◌, ◌<◌, ℕ, suc, ◌||◌, nat_eq, false, List, [], ◌∷◌, get_or, Option, Some, None, option_map, Result, Ok, Err, slice_get, if◌then◌else◌}
use Rattle.cx_prim.specs.CellStates.{CellState}
use Rattle.cx_prim.specs.Table.{PrimitiveRow, row_of}
use Rattle.cx_meaning.specs.declared.ports.PortRef.TheVariants.{Cell}
use Rattle.cx_meaning.specs.Designs.{PlainKind, OfPrimitive, PlainCell}
use Rattle.cx_meaning.specs.Instances.{Set, State}
use Rattle.cx_meaning.specs.Sights.{Look}
use Rattle.cx_meaning.specs.Cycles.{Fault, fault_at, Ended, Goes, Faults, cell_outcome, stepped}
use Rattle.cx_eval_cycle.specs.declared.looking.CellStop.{CellStop}
use Rattle.cx_eval_cycle.specs.declared.passes.CellFault.{CellFault}
use Rattle.cx_eval_cycle.specs.Stops.{stop_in}

-- what a cell is of, where it is there
abbrev pub kind_at : List PlainCell → ℕ → Option PlainKind
kind_at cells c = option_map (λ cell. cell.kind) (slice_get cells c)

abbrev pub cell_held : List (Option CellState) → ℕ → Option CellState
cell_held held c = get_or held c None

-- the port at which a cell stops, and what it holds after its step
abbrev pub stop_of_kind : Look → ℕ → Option PlainKind → Option CellState → Option CellStop
stop_of_kind look c (Some (OfPrimitive p)) (Some d) = stop_in (cell_outcome look c (row_of p) d)
stop_of_kind look c _ _ = None

abbrev pub after_kind : Look → ℕ → Option PlainKind → Option CellState → Option CellState
after_kind look c (Some (OfPrimitive p)) (Some d) = Some (stepped d (cell_outcome look c (row_of p) d))
after_kind look c _ h = h

abbrev pub fault_of : Look → List PlainCell → List (Option CellState) → ℕ → Option CellFault
fault_of look cells held c =
    option_map (λ stop. record { cell = c; stop = stop })
    (stop_of_kind look c (kind_at cells c) (cell_held held c))

abbrev pub after_of : Look → List PlainCell → ℕ → Option CellState → Option CellState
after_of look cells c held = after_kind look c (kind_at cells c) held

-- the first fault of listed cells
abbrev pub first_some : Option CellFault → Option CellFault → Option CellFault
first_some None later = later
first_some (Some fault) later = Some fault

abbrev pub first_among : (ℕ → Option CellFault) → List ℕ → Option CellFault
first_among fault [] = None
first_among fault (c ∷ cs) = first_some (fault c) (first_among fault cs)

abbrev pub listed_in : List ℕ → Set
listed_in [] c = false
listed_in (x ∷ xs) c = nat_eq x c || listed_in xs c

-- each cell of the set holds what it comes to, by what it held, and each other one what it held
abbrev pub AreStepped : Set → (ℕ → Option CellState → Option CellState) → List (Option CellState)
    → List (Option CellState) → Type 0
AreStepped listed after old new =
    (c : ℕ) → cell_held new c ≡ (if listed c then after c (cell_held old c) else cell_held old c)

-- each number is greater than the one before
abbrev pub IsAscending : List ℕ → Type 0
IsAscending cells = (k m n : ℕ) → slice_get cells k ≡ Some m → slice_get cells (suc k) ≡ Some n → m < n

-- each primitive holds what a state says
abbrev pub HeldAt : List PlainCell → List (Option CellState) → State → Type 0
HeldAt cells held s =
    (c : ℕ) (p : PrimitiveRow) → kind_at cells c ≡ Some (OfPrimitive p)
    → cell_held held c ≡ Some (s (c ∷ []))

abbrev pub told_fault : CellFault → Fault
told_fault f = fault_at f.stop.kind (Cell f.cell f.stop.port)

-- a cycle of cells that hold what a state says ends as it does in cx_meaning: the cells hold the next state, or its
-- fault is told and nothing changes
abbrev pub EndsSo : List PlainCell → List (Option CellState) → List (Option CellState)
    → Result (Unit {0}) CellFault → Ended → Type 0
EndsSo cells old new (Ok done) (Goes after) = HeldAt cells new after
EndsSo cells old new (Ok done) (Faults fault) = ⊥
EndsSo cells old new (Err told) (Goes after) = ⊥
EndsSo cells old new (Err told) (Faults fault) = (told_fault told ≡ fault) × (new ≡ old)
