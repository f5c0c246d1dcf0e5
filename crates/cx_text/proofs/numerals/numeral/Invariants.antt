use Rattle.std.proofs.Common.{drop}
use Rattle.cx_text.proofs.NumeralLemmas.{NumeralSoFar}
use Rattle.cx_text.proofs.numerals.numeral.Given as goal

abbrev pub invariant-loop-byte : goal.invariant-loop-byte
invariant-loop-byte l = NumeralSoFar l.base l.value (drop l.byte-index l.digits) l.digits
