-- What an evaluator tells of the instances of a design.
use Rattle.std.specs.Prelude.{◌≡◌, ◌≢◌, ℕ, true, List, ◌++◌, Result, Err}
use Rattle.cx_meaning.specs.declared.ports.PortRef.{PortRef}
use Rattle.cx_meaning.specs.declared.ports.PortRef.TheVariants as ports
use Rattle.cx_meaning.specs.declared.sights.Seen.{Seen}
use Rattle.cx_meaning.specs.Designs.{PlainDesign}
use Rattle.cx_meaning.specs.Instances.{Path, State, Set, instance_at, tree_of}
use Rattle.cx_meaning.specs.Sights.{seen}
use Rattle.cx_meaning.specs.Truths.{Zero, truth_of}
use Rattle.cx_meaning.specs.Cycles.{Fault, Ended, Goes, Faults, cycle_of}
use Rattle.cx_rules.specs.Ports.{keeps_literal}
use Rattle.cx_rules.specs.Wellformed.{IsThere}
use Rattle.cx_design.specs.declared.actives.Active.{Active}
use Rattle.cx_design.specs.declared.actives.Active.TheVariants.{Group}
use Rattle.cx_design.specs.declared.actives.PortFault.{PortFault}
use Rattle.cx_design.specs.PlainActives.{plain_active, TellsFault}
use Rattle.cx_state.specs.Tables.{IsNumber}
use Rattle.cx_state.specs.States.{PlainInstance, inputs_held, StandsFor, under_path, put_path}
use Rattle.cx_eval_drives.specs.Actives.{CanBeActive}
use Rattle.cx_eval.specs.declared.turns.GroupTurn.{GroupTurn}
use Rattle.cx_eval.specs.declared.turns.GroupTurn.TheVariants as turns

-- what can be active in instance n, and a port of it; a literal is one that the rules accept
abbrev pub CanAct : PlainDesign → ℕ → Active → Type 0
CanAct d n active = (path : Path) → IsNumber d n path → CanBeActive (instance_at (tree_of d) path) active

abbrev pub IsKept : PortRef → Type 0
IsKept (ports.Cell c p) = Unit {0}
IsKept (ports.Input n) = Unit {0}
IsKept (ports.Output n) = Unit {0}
IsKept (ports.Done g) = Unit {0}
IsKept (ports.Literal w v) = keeps_literal w v ≡ true

abbrev pub IsPort : PlainDesign → ℕ → PortRef → Type 0
IsPort d n port = (path : Path) → IsNumber d n path → IsThere (instance_at (tree_of d) path) port × IsKept port

-- WHAT A PORT OF AN INSTANCE IS SEEN AS, in every state that the rows stand for
abbrev pub IsSeen : PlainDesign → List PlainInstance → ℕ → Active → PortRef → Seen → Type 0
IsSeen d rows n active port x =
    (path : Path) (s : State) → IsNumber d n path → StandsFor (tree_of d) rows s
    → x ≡ seen (instance_at (tree_of d) path) (inputs_held rows n)
    (plain_active (instance_at (tree_of d) path) active) (under_path path s) port

-- a fault of the instance at a path, from main on
abbrev pub fault_along : Path → Fault → Fault
fault_along path f = record { kind = f.kind; path = path ++ f.path; port = f.port }

-- every input is held as before
abbrev pub HeldAlike : List PlainInstance → List PlainInstance → Type 0
HeldAlike old new = (n input : ℕ) → inputs_held new n input ≡ inputs_held old n input

-- a cycle that goes on leaves its state at the path, and nothing else changes; a fault is told, and leaves the rows
abbrev pub EndsAs : PlainDesign → Path → State → List PlainInstance → List PlainInstance
    → Result (Unit {0}) PortFault → Ended → Type 0
EndsAs d path s old new result (Goes after) =
    ((told : PortFault) → result ≡ Err told → ⊥) × StandsFor (tree_of d) new (put_path path after s) × HeldAlike old new
EndsAs d path s old new result (Faults fault) =
    (told : PortFault) × (result ≡ Err told) × TellsFault (tree_of d) (fault_along path fault) told
    × (new ≡ old)

-- A CYCLE OF AN INSTANCE, in every state that the rows stand for
abbrev pub Cycled : PlainDesign → List PlainInstance → List PlainInstance → ℕ → Active → Set
    → Result (Unit {0}) PortFault → Type 0
Cycled d old new n active listed result =
    (path : Path) (s : State) → IsNumber d n path → StandsFor (tree_of d) old s
    → EndsAs d path s old new result (cycle_of (instance_at (tree_of d) path) (inputs_held old n)
    (plain_active (instance_at (tree_of d) path) active) listed (under_path path s))

-- A TURN OF A GROUP: its done hole is seen as something else than 0 under the group, and nothing changes
pub record IsSeenAlone (d : PlainDesign) (old new : List PlainInstance) (n group : ℕ) (hole : Seen) : Type 0 where
  pub seen : IsSeen d old n (Group group) (ports.Done group) hole
  pub not_zero : truth_of hole ≢ Zero
  pub same : new ≡ old

-- or it is seen as 0, and the listed cells have a cycle under the group
pub record HasCycled (d : PlainDesign) (old new : List PlainInstance) (n group : ℕ) (listed : Set)
    (result : Result (Unit {0}) PortFault) : Type 0 where
  pub hole : Seen
  pub seen : IsSeen d old n (Group group) (ports.Done group) hole
  pub zero : truth_of hole ≡ Zero
  pub cycled : Cycled d old new n (Group group) listed result

abbrev pub Turned : PlainDesign → List PlainInstance → List PlainInstance → ℕ → ℕ → Set → GroupTurn → Type 0
Turned d old new n group listed (turns.Seen hole) = IsSeenAlone d old new n group hole
Turned d old new n group listed (turns.Cycled result) = HasCycled d old new n group listed result
