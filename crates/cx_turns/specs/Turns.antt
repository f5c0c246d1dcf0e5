-- What turns of a group leave, before the idle turn of its cells.
use Rattle.std.specs.Prelude.{◌≡◌, ℕ, false, List, [], ◌∷◌, Result, Ok, Err, if◌then◌else◌}
use Rattle.cx_meaning.specs.declared.ports.PortRef.TheVariants as ports
use Rattle.cx_meaning.specs.declared.sights.FaultKind.TheVariants as faults
use Rattle.cx_meaning.specs.Truths.{Truth, One, Zero}
use Rattle.cx_meaning.specs.Truths as truths
use Rattle.cx_meaning.specs.Designs.{PlainDesign}
use Rattle.cx_meaning.specs.Instances.{Instance, Path, State, Set, idle, instance_at, tree_of, IsSettled}
use Rattle.cx_meaning.specs.Cycles.{Fault}
use Rattle.cx_meaning.specs.Answers as answers
use Rattle.cx_meaning.specs.Calls.{group_turn}
use Rattle.cx_design.specs.declared.actives.PortFault.{PortFault}
use Rattle.cx_design.specs.PlainActives.{TellsFault}
use Rattle.cx_state.specs.Tables.{IsNumber}
use Rattle.cx_state.specs.States.{PlainInstance, inputs_held, IsStateOf, StandsFor, under_path, put_path}
use Rattle.cx_eval.specs.Evaluated.{fault_along, HeldAlike}
use Rattle.cx_turns.specs.declared.turns.Turn.{Turn}
use Rattle.cx_turns.specs.declared.turns.Turn.TheVariants as turns
use Rattle.cx_turns.specs.Groups.{Driving}

-- only driven cells of the instance itself differ
pub record IsBusy (driven : Set) (s now : State) : Type 0 where
  pub top : now [] ≡ s []
  pub others : (c : ℕ) (below : Path) → driven c ≡ false → now (c ∷ below) ≡ s (c ∷ below)
  pub deeper : (c e : ℕ) (below : Path) → now (c ∷ e ∷ below) ≡ s (c ∷ e ∷ below)

-- the listed cells of the instance itself take their idle edges
abbrev pub rested : Set → Instance → State → State
rested listed i s [] = s []
rested listed i s (c ∷ []) = if listed c then idle i s (c ∷ []) else s (c ∷ [])
rested listed i s (c ∷ e ∷ below) = s (c ∷ e ∷ below)

-- what a turn tells: it is the last, or goes on to a state, or stops at a fault
abbrev pub TellsTurn : PlainDesign → Path → State → List PlainInstance → List PlainInstance → Set → Turn
    → answers.Turn State Fault → Type 0
TellsTurn d path s old new driven turns.Ends x = (x ≡ answers.Ends) × (new ≡ old)
TellsTurn d path s old new driven turns.Goes x =
    (after : State) × (x ≡ answers.Goes after) × StandsFor (tree_of d) new (put_path path after s)
    × IsBusy driven (under_path path s) after × HeldAlike old new
TellsTurn d path s old new driven (turns.Faults fault) x =
    (f : Fault) × TellsFault (tree_of d) (fault_along path f) fault × (x ≡ answers.Faults f) × (new ≡ old)

-- A TURN in instance n, in each state that differs from a settled one in driven cells alone
pub record Taken (d : PlainDesign) (old new : List PlainInstance) (n g : ℕ) (driving : Driving)
    (turn : Turn) : Type 0 where
  pub tells : (path : Path) (s now : State) → IsNumber d n path → IsSettled (tree_of d) s
      → IsBusy (driving (instance_at (tree_of d) path)) (under_path path s) now
      → StandsFor (tree_of d) old (put_path path now s)
      → TellsTurn d path s old new (driving (instance_at (tree_of d) path)) turn
      (group_turn (instance_at (tree_of d) path) (inputs_held old n) g now)
  pub fits : IsStateOf d new

-- LISTED CELLS of instance n have taken their idle edges
pub record Rested (d : PlainDesign) (old new : List PlainInstance) (n : ℕ) (listed : Set) : Type 0 where
  pub stands : (path : Path) (s : State) → IsNumber d n path → StandsFor (tree_of d) old s
      → StandsFor (tree_of d) new
      (put_path path (rested listed (instance_at (tree_of d) path) (under_path path s)) s)
  pub held : HeldAlike old new
  pub fits : IsStateOf d new

-- a cycle as a turn
abbrev pub cycle_as : Result (Unit {0}) PortFault → Turn
cycle_as (Ok done) = turns.Goes
cycle_as (Err fault) = turns.Faults fault

-- the turn of a group whose done hole is seen as a truth that is not 0
abbrev pub HoleTurn : ℕ → ℕ → Truth → Turn → Type 0
HoleTurn n g One turn = turn ≡ turns.Ends
HoleTurn n g Zero turn = ⊥
HoleTurn n g truths.Conflict turn =
    turn ≡ turns.Faults (record { kind = faults.Conflict; instance = n; port = ports.Done g })
HoleTurn n g truths.Undefined turn =
    turn ≡ turns.Faults (record { kind = faults.Undefined; instance = n; port = ports.Done g })
