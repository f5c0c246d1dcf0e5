-- The machine of a whole design, and that it runs as main does.
use Rattle.std.specs.Prelude.{◌≡◌, ℕ, ◌<◌, ◌≤◌, false, true, List}
use Rattle.cx_meaning.specs.Designs.{PlainDesign}
use Rattle.cx_meaning.specs.Instances.{Path, State, tree_of, start}
use Rattle.cx_meaning.specs.Sights.{unheld}
use Rattle.cx_meaning.specs.Answers.{End, More}
use Rattle.cx_meaning.specs.Running.{run_main}
use Rattle.cx_lockstep.specs.Worlds.{Machine, Moment, after_cycles, is_done, IsQuiet}
use Rattle.cx_control.specs.Spots.{Spot, Cell, Holds, shown}
use Rattle.cx_control.specs.Leaves.{Coded}
use Rattle.cx_control.specs.Controls.{coded_control}
use Rattle.cx_control.specs.Numbers.{spot_idle}

abbrev pub design_machine : PlainDesign → Machine Spot Holds
design_machine d = Coded.machine (coded_control (tree_of d))

-- after so many cycles, from the start with the loaded words
abbrev pub moment_of : (d : PlainDesign) → List (List ℕ) → ℕ → Moment (design_machine d)
moment_of d words k =
    after_cycles (spot_idle (tree_of d)) (design_machine d) k
    (record { control = Machine.start (design_machine d); store = shown unheld (start (tree_of d) words) })

-- what the machine does where main ends after t turns
pub record EndsSo (d : PlainDesign) (words : List (List ℕ)) (n t : ℕ) (after : State) : Type 0 where
  pub in_budget : t ≤ n
  pub quiet : (k : ℕ) → k < t → IsQuiet (design_machine d) (moment_of d words k)
  pub is_over : is_done (Moment.control (moment_of d words t)) ≡ true
  pub cells : (path : Path) → Moment.store (moment_of d words t) (Cell path) ≡ after path

-- and where main needs more than n
pub record GoesOnSo (d : PlainDesign) (words : List (List ℕ)) (n : ℕ) : Type 0 where
  pub quiet : (k : ℕ) → k < n → IsQuiet (design_machine d) (moment_of d words k)
  pub undone : (k : ℕ) → k ≤ n → is_done (Moment.control (moment_of d words k)) ≡ false

-- THE MACHINE OF A DESIGN ends as its main does, and is not done where that still runs; of a fault nothing is said
pub record MachineRuns (d : PlainDesign) : Type 0 where
  pub ends : (words : List (List ℕ)) (n t : ℕ) (after : State) → run_main d words n ≡ End after t
      → EndsSo d words n t after
  pub goes_on : (words : List (List ℕ)) (n : ℕ) → run_main d words n ≡ More → GoesOnSo d words n
