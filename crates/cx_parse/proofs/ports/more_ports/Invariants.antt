use Rattle.std.proofs.Common.{ℕ, map}
use Rattle.cx_ast.specs.PlainTree.{plain_port}
use Rattle.cx_grammar.specs.Calyx.{port}
use Rattle.cx_parse.specs.Readings.{state_of, commas_behind}
use Rattle.cx_parse.proofs.Lists.{left, SoFar}
use Rattle.cx_parse.proofs.Commas.{reading_commas}
use Rattle.cx_parse.proofs.ports.more_ports.Given as goal

abbrev pub invariant-loop-reader : goal.invariant-loop-reader
invariant-loop-reader l = (levels : ℕ) → SoFar (reading_commas levels port) (commas_behind levels port (plain_port l.fn.first)) (state_of l.fn.reader) (state_of l.reader) (map plain_port l.all.items)

abbrev pub decreases-loop-reader : goal.decreases-loop-reader
decreases-loop-reader l = left (state_of l.reader)
