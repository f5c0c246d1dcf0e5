use Rattle.std.proofs.Common.{ℕ}
use Rattle.cx_grammar.specs.Calyx.{import}
use Rattle.cx_parse.specs.Readings.{state_of}
use Rattle.cx_parse.proofs.Lists.{left, SoFar, reading_many}
use Rattle.cx_parse.proofs.files.imports.Given as goal

abbrev pub invariant-loop-reader : goal.invariant-loop-reader
invariant-loop-reader l = (levels : ℕ) → SoFar (reading_many levels import) (reading_many levels import) (state_of l.fn.reader) (state_of l.reader) l.all.items

abbrev pub decreases-loop-reader : goal.decreases-loop-reader
decreases-loop-reader l = left (state_of l.reader)
