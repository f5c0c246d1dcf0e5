use Rattle.cx_prim.specs.CellStates.{IsState}
use Rattle.cx_prim.specs.Table.{row_of}
use Rattle.cx_cell_tests.proofs.turns.plays_from.Given as goal

abbrev pub invariant-loop-line : goal.invariant-loop-line
invariant-loop-line g l = IsState (row_of l.cell).shape l.state
