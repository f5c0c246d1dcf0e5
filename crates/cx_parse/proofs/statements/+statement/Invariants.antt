use Rattle.std.proofs.Common.{map, ◌+◌, ◌*◌}
use Rattle.cx_ast.specs.PlainStatements.{plain_statement}
use Rattle.cx_grammar.specs.Calyx.{statement}
use Rattle.cx_parse.specs.Readings.{state_of}
use Rattle.cx_parse.proofs.Lists.{left, SoFar, reading_many}
use Rattle.cx_parse.proofs.statements.+statement.Given as goal

abbrev pub invariant-statements-loop-reader : goal.invariant-statements-loop-reader
invariant-statements-loop-reader l = SoFar (reading_many l.levels statement) (reading_many l.levels statement) (state_of l.fn.reader) (state_of l.reader) (map plain_statement l.all.items)

abbrev pub decreases-statements-loop-reader : goal.decreases-statements-loop-reader
decreases-statements-loop-reader l = left (state_of l.reader)

abbrev pub decreases-block : goal.decreases-block
decreases-block l = 8 * l.levels + 0

abbrev pub decreases-otherwise : goal.decreases-otherwise
decreases-otherwise l = 8 * l.levels + 1

abbrev pub decreases-marked_block : goal.decreases-marked_block
decreases-marked_block l = 8 * l.levels + 1

abbrev pub decreases-repeat_rest : goal.decreases-repeat_rest
decreases-repeat_rest l = 8 * l.levels + 1

abbrev pub decreases-static_if : goal.decreases-static_if
decreases-static_if l = 8 * l.levels + 2

abbrev pub decreases-static_rest : goal.decreases-static_rest
decreases-static_rest l = 8 * l.levels + 3

abbrev pub decreases-seq : goal.decreases-seq
decreases-seq l = 8 * l.levels + 2

abbrev pub decreases-par : goal.decreases-par
decreases-par l = 8 * l.levels + 2

abbrev pub decreases-if_form : goal.decreases-if_form
decreases-if_form l = 8 * l.levels + 2

abbrev pub decreases-while_form : goal.decreases-while_form
decreases-while_form l = 8 * l.levels + 1

abbrev pub decreases-repeat : goal.decreases-repeat
decreases-repeat l = 8 * l.levels + 2

abbrev pub decreases-static_statement : goal.decreases-static_statement
decreases-static_statement l = 8 * l.levels + 4

abbrev pub decreases-form : goal.decreases-form
decreases-form l = 8 * l.levels + 5

abbrev pub decreases-statement : goal.decreases-statement
decreases-statement l = 8 * l.levels + 6

abbrev pub decreases-statements : goal.decreases-statements
decreases-statements l = 8 * l.levels + 7
