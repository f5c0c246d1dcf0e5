-- What turns leave before the idle turn that ends them.
use Rattle.std.specs.Prelude.{◌≡◌, ℕ, List}
use Rattle.cx_meaning.specs.Designs.{PlainDesign}
use Rattle.cx_meaning.specs.Instances.{Instance, Path, State, idle, instance_at, tree_of, IsSettled}
use Rattle.cx_meaning.specs.Cycles.{Fault}
use Rattle.cx_meaning.specs.Answers.{Answer, End, More}
use Rattle.cx_meaning.specs.Answers as answers
use Rattle.cx_state.specs.Tables.{IsNumber}
use Rattle.cx_state.specs.States.{PlainInstance, inputs_held, IsStateOf, StandsFor, under_path, put_path}
use Rattle.cx_eval.specs.Evaluated.{HeldAlike}
use Rattle.cx_frames.specs.Ran.{Outcome, Ended, Faulted, Unfinished}
use Rattle.cx_turns.specs.Groups.{Driving}
use Rattle.cx_turns.specs.Turns.{IsBusy}
use Rattle.cx_interp.specs.declared.answers.Answer as told
use Rattle.cx_interp.specs.Doings.{Doing}
use Rattle.cx_interp.specs.Done.{Tells, IsWithin}

-- an answer, where the end is in the idle turn behind a state
abbrev pub AnswersIdle : Instance → State → Answer State Fault → Outcome → Type 0
AnswersIdle i now (End a t) o = (o ≡ Ended t) × (a ≡ idle i now)
AnswersIdle i now (answers.Fault f t) o = o ≡ Faulted f t
AnswersIdle i now More o = o ≡ Unfinished

-- what turns leave before the idle turn
pub record Pauses (d : PlainDesign) (old new : List PlainInstance) (n : ℕ) (driving : Driving)
    (doing : Doing) (budget : ℕ) (answer : told.Answer) (path : Path) (s : State) : Type 0 where
  pub now : State
  pub outcome : Outcome
  pub stands : StandsFor (tree_of d) new (put_path path now s)
  pub busy : IsBusy (driving (instance_at (tree_of d) path)) (under_path path s) now
  pub told : Tells d path answer outcome
  pub held : HeldAlike old new
  pub means : AnswersIdle (instance_at (tree_of d) path) now
      (doing (instance_at (tree_of d) path) (inputs_held old n) (under_path path s) budget) outcome

-- TURNS in instance n, up to the idle turn that ends them
pub record Paused (d : PlainDesign) (old new : List PlainInstance) (n : ℕ) (driving : Driving)
    (doing : Doing) (budget : ℕ) (answer : told.Answer) : Type 0 where
  pub pauses : (path : Path) (s : State) → IsNumber d n path → StandsFor (tree_of d) old s
      → IsSettled (tree_of d) s → Pauses d old new n driving doing budget answer path s
  pub within : IsWithin budget answer
  pub fits : IsStateOf d new
