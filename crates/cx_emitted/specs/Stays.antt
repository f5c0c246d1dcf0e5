-- WHAT A SCRIPT MEANS on a design: to wait is nothing, and each run is main from the state in which the run before ended.
use Rattle.std.specs.Prelude.{◌≡◌, ℕ, List, [], ◌∷◌}
use Rattle.cx_meaning.specs.Answers.{Answer, End}
use Rattle.cx_meaning.specs.Cycles.{Fault}
use Rattle.cx_meaning.specs.Designs.{PlainDesign}
use Rattle.cx_meaning.specs.Instances.{State, tree_of}
use Rattle.cx_meaning.specs.Running.{run_control}
use Rattle.cx_meaning.specs.Sights.{unheld}
use Rattle.cx_emitted.specs.Scripts.{Stay, Wait, Run}

-- MAIN FROM A STATE, without inputs; from the start with loaded words it is the run of main
abbrev pub run_from : PlainDesign → State → ℕ → Answer State Fault
run_from d s n = run_control (tree_of d) unheld s n

-- within some budget of turns each run ends, in the turn that the script says
pub data Stays (d : PlainDesign) : State → List Stay → State → Type 0 where
  at_once : {s : State} → Stays d s [] s
  after_wait : {s after : State} {later : List Stay} → Stays d s later after → Stays d s (Wait ∷ later) after
  after_run : {s middle after : State} {turns : ℕ} {later : List Stay} (budget : ℕ)
      → run_from d s budget ≡ End middle turns → Stays d middle later after
      → Stays d s (Run turns ∷ later) after
