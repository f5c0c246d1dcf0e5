-- What the invariant of an instance's control is kept by: a step without a fault, from rest to rest.
use Rattle.std.specs.Prelude.{◌≡◌, ℕ, false, [], None}
use Rattle.cx_prim.specs.CellStates.{CellState}
use Rattle.cx_meaning.specs.Instances.{Path}
use Rattle.cx_lockstep.specs.Worlds.{Control, At, Done, Machine, edge}
use Rattle.cx_control.specs.Codings.{Coding, at_fine}
use Rattle.cx_control.specs.Spots.{Input, Kept}
use Rattle.cx_control.specs.Numbers.{idle_by}
use Rattle.cx_control.specs.Leaves.{Coded}
use Rattle.cx_control.specs.Standing.{Bare, bare}

module _ (child : Coded) (good : Control (Machine.Place child.machine) → Bare → Type 0)
    (of_cell : Path → CellState → CellState) (of_number : Path → ℕ → ℕ → ℕ) where
  -- all cells rest and the numbers below are 0
  pub record AllRest (b : Bare) : Type 0 where
    pub cells : (path : Path) → of_cell path (b.cell path) ≡ b.cell path
    pub numbers : (c : ℕ) (path : Path) (n : ℕ) → b.number c path n ≡ 0

  pub record Keeps : Type 0 where
    pub kept : (p : Machine.Place child.machine) (s : Kept) → Coding.IsFine child.coding p
        → good (At p) (bare s) → Machine.faults child.machine p s ≡ false
        → good (Machine.step child.machine p s) (bare (edge (idle_by of_cell of_number) child.machine (At p) s))
    pub fine : (p : Machine.Place child.machine) (s : Kept) → Coding.IsFine child.coding p
        → at_fine (Coding.IsFine child.coding) (Machine.step child.machine p s)
    pub started : (b : Bare) → AllRest b → good (Machine.start child.machine) b
    pub ended : (b : Bare) → good Done b → AllRest b
    pub zero_stays : (path : Path) (n : ℕ) → of_number path n 0 ≡ 0
    pub leaves_end : of_number [] 0 (Coding.size child.coding) ≡ 0
    -- nothing writes the inputs
    pub inputs : (p : Machine.Place child.machine) (s : Kept) (n : ℕ)
        → Machine.writes child.machine p s (Input n) ≡ None
