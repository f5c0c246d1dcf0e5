-- What the cells of an instance come to in a cycle, beside those of another instance.
use Rattle.std.specs.Prelude.{◌≡◌, ℕ, suc, [], ◌∷◌}
use Rattle.cx_prim.specs.CellStates.{CellState}
use Rattle.cx_prim.specs.Rows.{Row}
use Rattle.cx_meaning.specs.declared.ports.PortRef.TheVariants as ports
use Rattle.cx_meaning.specs.Instances.{Instance, OfRow, cell_at, cells_of, State}
use Rattle.cx_meaning.specs.Active.{Active}
use Rattle.cx_meaning.specs.Sights.{Held, seen}
use Rattle.cx_meaning.specs.Cycles.{Fault, fault_at, Outcome, Next, Stops, outcome_of, state_after, every_cell}

-- what each cell of an instance comes to in a cycle, and the state in which all have made their steps
abbrev pub comes_to : Instance → Held → Active → State → ℕ → Outcome
comes_to i held act s = outcome_of every_cell (seen i held act s) (cells_of i) s

abbrev pub left_by : Instance → Held → Active → State → State
left_by i held act s = state_after (comes_to i held act s) s

-- cell e of the other instance is a primitive with the row and the state of cell c, and its ports are seen alike
pub record CellAlike (i j : Instance) (held twin_held : Held) (act more : Active) (s z : State) (c e : ℕ) : Type 0 where
  pub row : Row
  pub here : cell_at (cells_of i) c ≡ OfRow row
  pub there : cell_at (cells_of j) e ≡ OfRow row
  pub state : z (e ∷ []) ≡ s (c ∷ [])
  pub ports : (p : ℕ) → seen j twin_held more z (ports.Cell e p) ≡ seen i held act s (ports.Cell c p)

-- a cell of the other instance goes on where the first instance does: it is as a cell of the first, or goes on by itself
pub data CellGoes (i j : Instance) (held twin_held : Held) (act more : Active) (s z : State) (e : ℕ) : Type 0 where
  as_cell : (c : ℕ) → CellAlike i j held twin_held act more s z c e → CellGoes i j held twin_held act more s z e
  by_itself : (after : CellState) → comes_to j twin_held more z e ≡ Next after
      → CellGoes i j held twin_held act more s z e

-- what one cell comes to, and what the other does: both go on, or both stop, and the fault of the one is told as that of the other
abbrev pub OutcomeFollows : (Fault → Fault) → ℕ → Outcome → ℕ → Outcome → Type 0
OutcomeFollows faults c (Next d) e o = (after : CellState) × (o ≡ Next after)
OutcomeFollows faults c (Stops kind p) e o =
    (q : ℕ) × (o ≡ Stops kind q)
    × (faults (fault_at kind (ports.Cell c p)) ≡ fault_at kind (ports.Cell e q))

-- n cells from c on, in their order, beside m cells from e on, between which cells stand that go on
pub data OutcomesFollow (faults : Fault → Fault) (x y : ℕ → Outcome) : (c n e m : ℕ) → Type 0 where
  no_more : {c e : ℕ} → OutcomesFollow faults x y c 0 e 0
  both : {c n e m : ℕ} → OutcomeFollows faults c (x c) e (y e)
      → OutcomesFollow faults x y (suc c) n (suc e) m → OutcomesFollow faults x y c (suc n) e (suc m)
  new_one : {c n e m : ℕ} (after : CellState) → y e ≡ Next after → OutcomesFollow faults x y c n (suc e) m
      → OutcomesFollow faults x y c n e (suc m)
