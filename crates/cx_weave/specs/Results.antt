-- What a woven run of a design has come to.
use Rattle.std.specs.Prelude.{◌≡◌, ◌≤◌, ℕ, suc, List}
use Rattle.cx_text.specs.Loading.{PlainMemory, with_words}
use Rattle.cx_meaning.specs.Designs.{PlainDesign}
use Rattle.cx_meaning.specs.Instances.{State, tree_of, words_of}
use Rattle.cx_meaning.specs.Answers as answers
use Rattle.cx_meaning.specs.Cycles as cycles
use Rattle.cx_meaning.specs.Running.{run_main}
use Rattle.cx_design.specs.PlainActives.{TellsFault}
use Rattle.cx_state.specs.States.{PlainInstance, StandsFor}
use Rattle.cx_weave.specs.declared.weaving.Wove.{Wove}
use Rattle.cx_weave.specs.declared.weaving.Wove.TheVariants.{End, Fault, More}
use Rattle.cx_orders.specs.Alone.{LeafHasAlone}
use Rattle.cx_orders.specs.Woven as woven
use Rattle.cx_orders.specs.Woven.{Choices, Woven}

-- what is told of a woven run: a fault by its instance
abbrev pub TellsWoven : PlainDesign → Wove → Woven → Type 0
TellsWoven d (End made sum) x = (after : State) × (x ≡ woven.Ends after made sum)
TellsWoven d (Fault told made) x =
    (fault : cycles.Fault) × TellsFault (tree_of d) fault told × (x ≡ woven.Faults fault made)
TellsWoven d More x = x ≡ woven.More

-- and rows stand for the state in which it ends
abbrev pub EndsIn : PlainDesign → List PlainInstance → Wove → Woven → Type 0
EndsIn d rows (End made sum) x = (after : State) × (x ≡ woven.Ends after made sum) × StandsFor (tree_of d) rows after
EndsIn d rows (Fault told made) x =
    (fault : cycles.Fault) × TellsFault (tree_of d) fault told × (x ≡ woven.Faults fault made)
EndsIn d rows More x = x ≡ woven.More

-- memories get the words of the state in which it ends; after any other they are as they were
abbrev pub LeavesWords : PlainDesign → List PlainMemory → List PlainMemory → Woven → Type 0
LeavesWords d old new (woven.Ends after made sum) = new ≡ with_words old (words_of (tree_of d) after)
LeavesWords d old new (woven.Faults fault made) = new ≡ old
LeavesWords d old new woven.More = new ≡ old

-- what it tells of the run of main: where an order ends the run ends in the same state, within as many turns as the order has
-- choices; where it comes to a fault the run has one in as many turns or the next
abbrev pub TellsRun : PlainDesign → List (List ℕ) → Wove → Woven → Type 0
TellsRun d words (End made sum) x =
    (after : State) × (turns : ℕ) × (x ≡ woven.Ends after made sum)
    × (run_main d words made ≡ answers.End after turns) × (turns ≤ made)
TellsRun d words (Fault told made) x =
    (first : cycles.Fault) × (turn : ℕ) × (run_main d words (suc made) ≡ answers.Fault first turn)
    × (turn ≤ made)
TellsRun d words More x = Unit {0}

-- and the fault is one that the arm of the chosen leaf has alone, in one of as many turns or the next
abbrev pub TellsArm : PlainDesign → List (List ℕ) → Choices → Wove → Woven → Type 0
TellsArm d words choice (End made sum) x = Unit {0}
TellsArm d words choice (Fault told made) x =
    (fault : cycles.Fault) × (x ≡ woven.Faults fault made) × LeafHasAlone d words choice fault made
TellsArm d words choice More x = Unit {0}
