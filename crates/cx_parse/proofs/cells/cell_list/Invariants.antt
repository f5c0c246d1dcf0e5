use Rattle.std.proofs.Common.{ℕ, map}
use Rattle.cx_ast.specs.PlainTree.{plain_cell}
use Rattle.cx_grammar.specs.Calyx.{cell}
use Rattle.cx_parse.specs.Readings.{state_of}
use Rattle.cx_parse.proofs.Lists.{left, SoFar, reading_many}
use Rattle.cx_parse.proofs.cells.cell_list.Given as goal

abbrev pub invariant-loop-reader : goal.invariant-loop-reader
invariant-loop-reader l = (levels : ℕ) → SoFar (reading_many levels cell) (reading_many levels cell) (state_of l.fn.reader) (state_of l.reader) (map plain_cell l.all.items)

abbrev pub decreases-loop-reader : goal.decreases-loop-reader
decreases-loop-reader l = left (state_of l.reader)
