use Rattle.cx_prim.specs.CellStates.{IsState}
use Rattle.cx_prim.specs.Table.{row_of}
use Rattle.cx_cell_tests.proofs.turns.turn.Given as goal

abbrev pub invariant-loop-time : goal.invariant-loop-time
invariant-loop-time g l = IsState (row_of l.cell).shape l.state
