-- Runs of arms one after another on one state: what each leaves, and what it answers.
use Rattle.std.specs.Prelude.{◌≡◌, ℕ, max, false, [], ◌∷◌}
use Rattle.cx_meaning.specs.Instances.{Instance, State, Path, Set, IsSettled}
use Rattle.cx_meaning.specs.Cycles.{Fault}
use Rattle.cx_meaning.specs.Answers.{Answer, End, More, Meaning}
use Rattle.cx_meaning.specs.Answers as answers

-- how a run within a budget came out: ended, with its turns; or with its fault and the turn of it; or neither yet
pub data Outcome : Type 0 where
  Ended : (turns : ℕ) → Outcome
  Faulted : (fault : Fault) (turn : ℕ) → Outcome
  Unfinished : Outcome

-- an answer with this outcome, and with this state where it is an end
abbrev pub AnswersAs : State → Answer State Fault → Outcome → Type 0
AnswersAs after (End a t) o = (o ≡ Ended t) × ((path : Path) → after path ≡ a path)
AnswersAs after (answers.Fault f t) o = o ≡ Faulted f t
AnswersAs after More o = o ≡ Unfinished

-- what a run leaves: a settled state in which only driven cells differ, whether it ended or not, and its answer
pub record Ran (i : Instance) (driven : Set) (meaning : Meaning State Fault) (s : State) (n : ℕ)
    (after : State) (outcome : Outcome) : Type 0 where
  pub settled : IsSettled i after
  pub top : after [] ≡ s []
  pub others : (c : ℕ) (below : Path) → driven c ≡ false → after (c ∷ below) ≡ s (c ∷ below)
  pub answer : AnswersAs after (meaning s n) outcome

-- the budget in which a later arm still matters: after a fault that of the turns before it
abbrev pub limit : ℕ → Outcome → ℕ
limit n (Ended t) = n
limit n (Faulted f t) = t
limit n Unfinished = n

-- the outcome of two runs beside each other, where the second had the limit that the first left
abbrev pub joined : Outcome → Outcome → Outcome
joined (Ended t) (Ended u) = Ended (max t u)
joined (Ended t) (Faulted g u) = Faulted g u
joined (Ended t) Unfinished = Unfinished
joined (Faulted f t) (Ended u) = Faulted f t
joined (Faulted f t) (Faulted g u) = Faulted g u
joined (Faulted f t) Unfinished = Faulted f t
joined Unfinished (Ended u) = Unfinished
joined Unfinished (Faulted g u) = Faulted g u
joined Unfinished Unfinished = Unfinished
