use Rattle.std.proofs.Common.{◌≡◌, take, map}
use Rattle.cx_design.specs.PlainForms.{plain_cell}
use Rattle.cx_eval_cycle.specs.Passes.{listed_in}
use Rattle.cx_state.specs.States.{HoldCells}
use Rattle.cx_turns.specs.Rests.{rested_cells}
use Rattle.cx_turns.proofs.rest.rest_cells.Given as goal

-- the listed cells so far have rested
abbrev pub invariant-loop-cell : goal.invariant-loop-cell
invariant-loop-cell l =
    (l.held ≡ rested_cells (listed_in (take l.cell-index l.listed)) (map plain_cell l.cells) l.initial.held) × HoldCells (map plain_cell l.cells) l.held
