use Rattle.std.proofs.Common.{◌≡◌, max, drop, map}
use Rattle.cx_design.specs.PlainForms.{plain_cell}
use Rattle.cx_static.specs.Islands.{PlainLowereds}
use Rattle.cx_fsm.specs.Rounds as rounds
use Rattle.cx_fsm.proofs.ordering.height_above.Given as goal

-- the height so far, or that above what is left
abbrev pub invariant-loop-cell : goal.invariant-loop-cell
invariant-loop-cell l = (d : PlainLowereds) → max l.height (rounds.height_above d l.heights (map plain_cell (drop l.cell-index l.cells))) ≡ rounds.height_above d l.heights (map plain_cell l.cells)
