use Rattle.std.proofs.Common.{map}
use Rattle.cx_ast.specs.PlainTree.{plain_assign}
use Rattle.cx_grammar.specs.Calyx.{assign}
use Rattle.cx_parse.specs.Readings.{state_of}
use Rattle.cx_parse.proofs.Lists.{left, SoFar, reading_many}
use Rattle.cx_parse.proofs.assignments.assigns.Given as goal

abbrev pub invariant-loop-reader : goal.invariant-loop-reader
invariant-loop-reader l = SoFar (reading_many l.levels assign) (reading_many l.levels assign) (state_of l.fn.reader) (state_of l.reader) (map plain_assign l.all.items)

abbrev pub decreases-loop-reader : goal.decreases-loop-reader
decreases-loop-reader l = left (state_of l.reader)
