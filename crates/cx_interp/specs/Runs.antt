-- The run of a design.
use Rattle.std.specs.Prelude.{◌≡◌, ℕ, List}
use Rattle.cx_meaning.specs.Designs.{PlainDesign}
use Rattle.cx_meaning.specs.Instances.{State, tree_of, words_of}
use Rattle.cx_meaning.specs.Cycles as cycles
use Rattle.cx_meaning.specs.Answers as answers
use Rattle.cx_meaning.specs.Running.{run_main}
use Rattle.cx_text.specs.Loading.{PlainMemory, with_words}
use Rattle.cx_design.specs.PlainActives.{TellsFault}
use Rattle.cx_design.specs.PlainDesigns.{plain_design}
use Rattle.cx_state.specs.States.{PlainInstance, plain_state, IsStateOf, StandsFor}
use Rattle.cx_design.specs.declared.designs.Design.{Design}
use Rattle.cx_interp.specs.declared.answers.Answer.{Answer}
use Rattle.cx_interp.specs.declared.answers.Answer.TheVariants.{End, Fault, More}
use Rattle.cx_interp.specs.declared.interp.Ran.{Ran}
use Rattle.cx_interp.specs.Done.{IsWithin}

-- what rows and an answer tell of a run of main: where it ends they stand for its state, and a fault is told by its instance
abbrev pub Answered : PlainDesign → List PlainInstance → Answer → answers.Answer State cycles.Fault → Type 0
Answered d rows (End turns) x = (after : State) × (x ≡ answers.End after turns) × StandsFor (tree_of d) rows after
Answered d rows (Fault told turn) x =
    (fault : cycles.Fault) × TellsFault (tree_of d) fault told × (x ≡ answers.Fault fault turn)
Answered d rows More x = x ≡ answers.More

-- WHAT A DESIGN WITH THESE WORDS HAS COME TO within a budget of turns
pub record HasRun (given : Design) (words : List (List ℕ)) (budget : ℕ) (ran : Ran) : Type 0 where
  pub design : ran.design.now ≡ given
  pub state : IsStateOf (plain_design given) (plain_state ran.state)
  pub answered : Answered (plain_design given) (plain_state ran.state) ran.answer
      (run_main (plain_design given) words budget)
  pub within : IsWithin budget ran.answer

-- memories get the words of the state in which the run of main ends
abbrev pub GetsWords : Ran → List PlainMemory → List PlainMemory → Type 0
GetsWords ran old new =
    (given : Design) (words : List (List ℕ)) (budget turns : ℕ) (after : State)
    → HasRun given words budget ran
    → run_main (plain_design given) words budget ≡ answers.End after turns
    → new ≡ with_words old (words_of (tree_of (plain_design given)) after)
