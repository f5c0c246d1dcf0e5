-- What a run on the rows of a state has done.
use Rattle.std.specs.Prelude.{◌≡◌, ℕ, ◌+◌, ◌<◌, ◌≤◌, max, List}
use Rattle.cx_meaning.specs.Designs.{PlainDesign}
use Rattle.cx_meaning.specs.Instances.{Path, State, instance_at, tree_of, IsSettled}
use Rattle.cx_meaning.specs.Cycles as cycles
use Rattle.cx_design.specs.PlainActives.{TellsFault}
use Rattle.cx_state.specs.Tables.{IsNumber}
use Rattle.cx_state.specs.States.{PlainInstance, inputs_held, IsStateOf, StandsFor, under_path, put_path}
use Rattle.cx_eval.specs.Evaluated.{fault_along}
use Rattle.cx_frames.specs.Ran.{Outcome, Ended, Faulted, Unfinished, Ran}
use Rattle.cx_turns.specs.Groups.{Driving}
use Rattle.cx_interp.specs.declared.answers.Answer.{Answer}
use Rattle.cx_interp.specs.declared.answers.Answer.TheVariants.{End, Fault, More}
use Rattle.cx_interp.specs.Doings.{Doing}

-- what an answer tells of the outcome of a run in the instance at a path
abbrev pub Tells : PlainDesign → Path → Answer → Outcome → Type 0
Tells d path (End turns) o = o ≡ Ended turns
Tells d path (Fault told turn) o =
    (fault : cycles.Fault) × TellsFault (tree_of d) (fault_along path fault) told × (o ≡ Faulted fault turn)
Tells d path More o = o ≡ Unfinished

-- an end takes no more turns than the budget, and a fault comes in one of them
abbrev pub IsWithin : ℕ → Answer → Type 0
IsWithin budget (End turns) = turns ≤ budget
IsWithin budget (Fault told turn) = turn < budget
IsWithin budget More = Unit {0}

-- so many turns later
abbrev pub later : ℕ → Answer → Answer
later k (End turns) = End (k + turns)
later k (Fault told turn) = Fault told (k + turn)
later k More = More

-- the inputs of the first instances, up to number n, are held as before
abbrev pub KeepsHeld : ℕ → List PlainInstance → List PlainInstance → Type 0
KeepsHeld n old new = (m input : ℕ) → m ≤ n → inputs_held new m input ≡ inputs_held old m input

-- what a run leaves in every settled state that the rows stand for, and what its answer tells
pub record Leaves (d : PlainDesign) (old new : List PlainInstance) (n : ℕ) (driving : Driving)
    (doing : Doing) (budget : ℕ) (answer : Answer) (path : Path) (s : State) : Type 0 where
  pub after : State
  pub outcome : Outcome
  pub stands : StandsFor (tree_of d) new (put_path path after s)
  pub told : Tells d path answer outcome
  pub held : KeepsHeld n old new
  pub ran : Ran (instance_at (tree_of d) path) (driving (instance_at (tree_of d) path))
      (doing (instance_at (tree_of d) path) (inputs_held old n)) (under_path path s) budget after outcome

-- A RUN IN INSTANCE n, from some rows to others
pub record Done (d : PlainDesign) (old new : List PlainInstance) (n : ℕ) (driving : Driving)
    (doing : Doing) (budget : ℕ) (answer : Answer) : Type 0 where
  pub leaves : (path : Path) (s : State) → IsNumber d n path → StandsFor (tree_of d) old s
      → IsSettled (tree_of d) s → Leaves d old new n driving doing budget answer path s
  pub within : IsWithin budget answer
  pub fits : IsStateOf d new

-- the turns in which a later arm still matters: after a fault those before it
abbrev pub limit_of : ℕ → Answer → ℕ
limit_of budget (End turns) = budget
limit_of budget (Fault told turn) = turn
limit_of budget More = budget

-- the answer of two arms, where the second had the turns that the first left
abbrev pub join : Answer → Answer → Answer
join (End t) (End u) = End (max t u)
join (End t) (Fault g u) = Fault g u
join (End t) More = More
join (Fault f t) (End u) = Fault f t
join (Fault f t) (Fault g u) = Fault g u
join (Fault f t) More = Fault f t
join More (End u) = More
join More (Fault g u) = Fault g u
join More More = More
