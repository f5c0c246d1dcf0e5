-- How a run of the flat instance ends beside one of the tree.
use Rattle.std.specs.Prelude.{◌≡◌}
use Rattle.cx_meaning.specs.Instances.{Instance, State}
use Rattle.cx_meaning.specs.Cycles.{Fault}
use Rattle.cx_meaning.specs.Answers.{Answer, End, More}
use Rattle.cx_meaning.specs.Answers as answers
use Rattle.cx_flattening.specs.Embedded.{Stands}
use Rattle.cx_flattening.specs.FlatFaults.{flat_fault}

-- in as many turns in a state of the same cells, with the fault in the same turn, or not yet
abbrev pub AnswerAs : Instance → Answer State Fault → Answer State Fault → Type 0
AnswerAs i (End after n) flat = (z : State) × (flat ≡ End z n) × Stands i 0 after z
AnswerAs i (answers.Fault fault n) flat = flat ≡ answers.Fault (flat_fault i 0 fault) n
AnswerAs i More flat = flat ≡ More
