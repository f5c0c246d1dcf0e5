use Rattle.std.proofs.Common.{◌≡◌, map}
use Rattle.cx_design.specs.PlainForms.{plain_cell}
use Rattle.cx_eval_cycle.specs.Passes.{listed_in}
use Rattle.cx_state.specs.States.{HoldCells}
use Rattle.cx_turns.specs.Rests.{rested_cells}
use Rattle.cx_turns.proofs.EveryLemmas.{first_numbers}
use Rattle.cx_turns.proofs.rest.rest_every.Given as goal

-- the first cells have rested
abbrev pub invariant-loop-number : goal.invariant-loop-number
invariant-loop-number l =
    (l.held ≡ rested_cells (listed_in (first_numbers l.number)) (map plain_cell l.cells) l.initial.held) × HoldCells (map plain_cell l.cells) l.held
