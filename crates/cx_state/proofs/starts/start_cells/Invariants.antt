use Rattle.cx_state.specs.States.{words_in}
use Rattle.cx_state.proofs.StartLemmas.{AreSoFar}
use Rattle.cx_state.proofs.starts.start_cells.Given as goal

abbrev pub invariant-loop-cell : goal.invariant-loop-cell
invariant-loop-cell l = AreSoFar l.cells (words_in l.memories) l.cell-index l.next l.held.items
