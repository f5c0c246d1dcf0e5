use Rattle.std.proofs.Common.{◌≡◌, length}
use Rattle.cx_text.specs.Spans.{back}
use Rattle.cx_vread_exprs.specs.Tokens.{is_digit_in}
use Rattle.cx_vread_exprs.proofs.numbers.behind.Given as goal

abbrev pub invariant-loop-byte : goal.invariant-loop-byte
invariant-loop-byte l = back (is_digit_in l.base) l.rest ≡ back (is_digit_in l.base) l.text

abbrev pub decreases-loop-byte : goal.decreases-loop-byte
decreases-loop-byte l = length l.rest
