-- The answer of a run as the program's own type.
use Rattle.std.specs.Prelude.{◌≡◌, ℕ, ◌<◌, List, [], length}
use Rattle.cx_vtree.specs.Plain.{PlainSource}
use Rattle.cx_vtree.specs.InstanceTree.{instances_of, nets_at}
use Rattle.cx_vtree.specs.SimRun.{Outcome, DoneAt, LoopAt, NotDone}
use Rattle.cx_vsim.specs.declared.answers.SimAnswer.{SimAnswer}
use Rattle.cx_vsim.specs.declared.answers.SimAnswer.TheVariants.{Done, Loop, More}

abbrev pub answer_of : Outcome → SimAnswer
answer_of (DoneAt cycle words) = Done cycle
answer_of (LoopAt instance net) = Loop instance net
answer_of NotDone = More

-- the numbers of a loop name an instance of the source and a net of it
abbrev pub NamesNet : PlainSource → SimAnswer → Type 0
NamesNet s (Done cycle) = Unit {0}
NamesNet s (Loop instance net) =
    (instance < length (instances_of s)) × (net < length (nets_at (instances_of s) instance))
NamesNet s More = Unit {0}

-- the words at the end of a run that ends; there are none otherwise
abbrev pub final_words : Outcome → List (List ℕ)
final_words (DoneAt cycle words) = words
final_words (LoopAt instance net) = []
final_words NotDone = []

-- `done` came
abbrev pub IsDone : Outcome → Type 0
IsDone outcome = (cycle : ℕ) × (words : List (List ℕ)) × (outcome ≡ DoneAt cycle words)
