use Rattle.std.proofs.Common.{map}
use Rattle.cx_text.specs.Loading.{plain_memory}
use Rattle.cx_design.specs.PlainForms.{plain_cell}
use Rattle.cx_state.proofs.WriteLemmas.{AreWritten}
use Rattle.cx_state.proofs.words.write_cells.Given as goal

abbrev pub invariant-loop-n : goal.invariant-loop-n
invariant-loop-n l = AreWritten (map plain_cell l.cells) l.held (map plain_memory l.initial.memories) (map plain_memory l.memories) l.n l.next
