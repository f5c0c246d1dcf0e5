use Rattle.std.proofs.Common.{◌≡◌, map, drop}
use Rattle.cx_design.specs.PlainForms.{plain_cell}
use Rattle.cx_state.specs.Steps as steps
use Rattle.cx_state.proofs.steps.step_below.Given as goal

abbrev pub invariant-loop-cell : goal.invariant-loop-cell
invariant-loop-cell l = steps.step_below l.tallies (map plain_cell (drop l.cell l.cells)) l.cell l.left ≡ steps.step_below l.tallies (map plain_cell l.cells) 0 l.number
