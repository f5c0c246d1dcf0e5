use Rattle.std.proofs.Common.{ℕ}
use Rattle.cx_grammar.specs.Calyx.{bind}
use Rattle.cx_parse.specs.Readings.{state_of, commas_behind}
use Rattle.cx_parse.proofs.Lists.{left, SoFar}
use Rattle.cx_parse.proofs.Commas.{reading_commas}
use Rattle.cx_parse.proofs.statements.more_binds.Given as goal

abbrev pub invariant-loop-reader : goal.invariant-loop-reader
invariant-loop-reader l = (levels : ℕ) → SoFar (reading_commas levels bind) (commas_behind levels bind l.fn.first) (state_of l.fn.reader) (state_of l.reader) l.all.items

abbrev pub decreases-loop-reader : goal.decreases-loop-reader
decreases-loop-reader l = left (state_of l.reader)
