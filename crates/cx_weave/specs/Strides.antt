-- What a turn of a leaf leaves of a strand, and of the rows that stand for the state.
use Rattle.std.specs.Prelude.{◌≡◌, ℕ, suc, ◌≤◌, Bool, true, false, List, Option, Some, None, Result, Ok, Err}
use Rattle.cx_meaning.specs.Designs.{PlainDesign, PlainComponent, PlainForm, PlainStatement, PlainStatements}
use Rattle.cx_meaning.specs.Islands.{History}
use Rattle.cx_laws.specs.Samples.{Samples}
use Rattle.cx_design.specs.declared.actives.PortFault.{PortFault}
use Rattle.cx_turns.specs.Turns.{cycle_as}
use Rattle.cx_meaning.specs.Instances.{Instance, Path, State, Set, part_of, instance_at, tree_of}
use Rattle.cx_meaning.specs.Sights.{Held}
use Rattle.cx_meaning.specs.Cycles.{Fault}
use Rattle.cx_meaning.specs.Answers as answers
use Rattle.cx_design.specs.PlainActives.{TellsFault}
use Rattle.cx_state.specs.Tables.{IsNumber}
use Rattle.cx_state.specs.States.{PlainInstance, inputs_held, StandsFor, under_path, put_path}
use Rattle.cx_eval.specs.Evaluated.{fault_along, HeldAlike}
use Rattle.cx_turns.specs.declared.turns.Turn.{Turn}
use Rattle.cx_turns.specs.declared.turns.Turn.TheVariants as turns
use Rattle.cx_weave.specs.declared.strands.Strand.{Strand}
use Rattle.cx_weave.specs.declared.strands.Arms.{Arms}
use Rattle.cx_orders.specs.Open.{Open, Opens, no_arms, open_statement, open_statements}
use Rattle.cx_orders.specs.Leaves.{own_island, rested, samples_now}
use Rattle.cx_orders.specs.Steps.{Stepped, Now, Stops, step, step_arms}
use Rattle.cx_weave.specs.Strands.{PlainStrand, APar, PlainArms, one_arm, Knows, plain_strand, plain_arms, Shows, ShowsAll, IsBoth}

-- A TURN in instance n, in every state that the rows stand for
abbrev pub TurnTold : PlainDesign → Path → State → List PlainInstance → List PlainInstance → Turn
    → answers.Turn State Fault → Type 0
TurnTold d path s old new turns.Ends x = (x ≡ answers.Ends) × (new ≡ old)
TurnTold d path s old new turns.Goes x =
    (after : State) × (x ≡ answers.Goes after) × StandsFor (tree_of d) new (put_path path after s)
    × HeldAlike old new
TurnTold d path s old new (turns.Faults told) x =
    (fault : Fault) × TellsFault (tree_of d) (fault_along path fault) told × (x ≡ answers.Faults fault)
    × (new ≡ old)

abbrev pub TakesTurn : PlainDesign → List PlainInstance → List PlainInstance → ℕ → Turn
    → (Instance → Held → State → answers.Turn State Fault) → Type 0
TakesTurn d old new n turn doing =
    (path : Path) (s : State) → IsNumber d n path → StandsFor (tree_of d) old s
    → TurnTold d path s old new turn (doing (instance_at (tree_of d) path) (inputs_held old n) (under_path path s))

-- A CYCLE t OF AN ISLAND in instance n, from samples to the next
abbrev pub IslandTaken : PlainDesign → List PlainInstance → List PlainInstance → ℕ → PlainForm → ℕ
    → Samples → Samples → Result (Unit {0}) PortFault → Type 0
IslandTaken d old new n form t kept next result =
    (path : Path) (s : State) (h : History) → IsNumber d n path → StandsFor (tree_of d) old s
    → Knows (part_of (instance_at (tree_of d) path)) form t h kept
    → Knows (part_of (instance_at (tree_of d) path)) form (suc t)
    (samples_now (instance_at (tree_of d) path) (inputs_held old n) form h t (under_path path s)) next
    × TurnTold d path s old new (cycle_as result)
    (own_island (instance_at (tree_of d) path) (inputs_held old n) form t
    (samples_now (instance_at (tree_of d) path) (inputs_held old n) form h t (under_path path s))
    (under_path path s))

-- driven cells of instance n, and what is below them, have made their idle edges
pub record HasRested (d : PlainDesign) (old new : List PlainInstance) (n : ℕ)
    (driven : PlainComponent → Set) : Type 0 where
  pub rests : (path : Path) (s : State) → IsNumber d n path → StandsFor (tree_of d) old s
      → StandsFor (tree_of d) new (put_path path
      (rested (instance_at (tree_of d) path) (driven (part_of (instance_at (tree_of d) path)))
      (under_path path s)) s)
  pub held : HeldAlike old new

-- a statement of instance n, as it is opened
abbrev pub OpensAs : PlainDesign → ℕ → PlainStatement → Strand → Type 0
OpensAs d n st strand =
    (path : Path) → IsNumber d n path
    → Shows d n (plain_strand strand) (open_statement (instance_at (tree_of d) path) st)

-- and some arms of a par
abbrev pub OpenAs : PlainDesign → ℕ → PlainStatements → Arms → Type 0
OpenAs d n sts arms =
    (path : Path) → IsNumber d n path
    → ShowsAll d n (plain_arms arms) (open_statements (instance_at (tree_of d) path) sts)

-- what is left of a thing in place, where it is told whether anything is; and behind what may fault
abbrev pub kept_if : {A : Type 0} → Bool → A → Option A
kept_if true kept = Some kept
kept_if false kept = None

abbrev pub left_by : {A E : Type 0} → Result Bool E → A → Result (Option A) E
left_by (Ok goes) kept = Ok (kept_if goes kept)
left_by (Err fault) kept = Err fault

-- where something is left always
abbrev pub some_left : {A E : Type 0} → Result A E → Result (Option A) E
some_left (Ok kept) = Ok (Some kept)
some_left (Err fault) = Err fault

-- what is left of a statement
abbrev pub LeftShown : PlainDesign → ℕ → Option Strand → Option Open → Type 0
LeftShown d n None None = Unit {0}
LeftShown d n None (Some o) = ⊥
LeftShown d n (Some strand) None = ⊥
LeftShown d n (Some strand) (Some o) = Shows d n (plain_strand strand) o

-- what is left of a statement around it
abbrev pub LeavesAs : PlainDesign → ℕ → Option Strand → Option Strand → (Instance → Option Open → Option Open) → Type 0
LeavesAs d n left after around =
    (path : Path) (o : Option Open) → IsNumber d n path → LeftShown d n left o
    → LeftShown d n after (around (instance_at (tree_of d) path) o)

abbrev pub StepTold : PlainDesign → ℕ → Path → State → List PlainInstance
    → Result (Option Strand) PortFault → Stepped (Option Open) → Type 0
StepTold d n path s rows (Ok left) (Now o after) =
    StandsFor (tree_of d) rows (put_path path after s) × LeftShown d n left o
StepTold d n path s rows (Ok left) (Stops fault) = ⊥
StepTold d n path s rows (Err told) (Now o after) = ⊥
StepTold d n path s rows (Err told) (Stops fault) = TellsFault (tree_of d) (fault_along path fault) told

-- A TURN OF LEAF k of a strand of instance n; inputs that are held change only below the instance
pub record HasStepped (d : PlainDesign) (old new : List PlainInstance) (n : ℕ) (p : PlainStrand) (k : ℕ)
    (result : Result (Option Strand) PortFault) : Type 0 where
  pub tells : (path : Path) (s : State) (o : Open) → IsNumber d n path → StandsFor (tree_of d) old s → Shows d n p o
      → StepTold d n path s new result (step (instance_at (tree_of d) path) (inputs_held old n) o k (under_path path s))
  pub held : (m input : ℕ) → m ≤ n → inputs_held new m input ≡ inputs_held old m input

-- what is left of some arms
abbrev pub ArmsLeft : PlainDesign → ℕ → Option Arms → Opens → Type 0
ArmsLeft d n None list = list ≡ no_arms
ArmsLeft d n (Some arms) list = ShowsAll d n (plain_arms arms) list

abbrev pub ArmsTold : PlainDesign → ℕ → Path → State → List PlainInstance → Result (Option Arms) PortFault
    → Stepped Opens → Type 0
ArmsTold d n path s rows (Ok left) (Now list after) =
    StandsFor (tree_of d) rows (put_path path after s) × ArmsLeft d n left list
ArmsTold d n path s rows (Ok left) (Stops fault) = ⊥
ArmsTold d n path s rows (Err told) (Now list after) = ⊥
ArmsTold d n path s rows (Err told) (Stops fault) = TellsFault (tree_of d) (fault_along path fault) told

-- a turn of leaf k of some arms of a par of instance n
pub record HaveStepped (d : PlainDesign) (old new : List PlainInstance) (n : ℕ) (arms : PlainArms) (k : ℕ)
    (result : Result (Option Arms) PortFault) : Type 0 where
  pub tells : (path : Path) (s : State) (list : Opens) → IsNumber d n path → StandsFor (tree_of d) old s
      → ShowsAll d n arms list
      → ArmsTold d n path s new result
      (step_arms (instance_at (tree_of d) path) (inputs_held old n) list k (under_path path s))
  pub held : (m input : ℕ) → m ≤ n → inputs_held new m input ≡ inputs_held old m input

-- what is left of an arm, as some arms
abbrev pub IsArmOf : Option Strand → Option Arms → Type 0
IsArmOf None after = after ≡ None
IsArmOf (Some arm) after = (arms : Arms) × (after ≡ Some arms) × (plain_arms arms ≡ one_arm (plain_strand arm))

-- what is left of a par with these arms
abbrev pub IsParOf : Option Arms → Option Strand → Type 0
IsParOf None after = after ≡ None
IsParOf (Some arms) after = (strand : Strand) × (after ≡ Some strand) × (plain_strand strand ≡ APar (plain_arms arms))

-- what is left of the first half in front of the second, and of the second behind the first
abbrev pub IsInFront : Option Arms → PlainArms → PlainArms → Type 0
IsInFront None other after = after ≡ other
IsInFront (Some one) other after = IsBoth (plain_arms one) other after

abbrev pub IsBehind : Option Arms → PlainArms → PlainArms → Type 0
IsBehind None one after = after ≡ one
IsBehind (Some other) one after = IsBoth one (plain_arms other) after
