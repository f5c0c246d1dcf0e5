use Rattle.std.proofs.Common.{◌≡◌, length}
use Rattle.cx_lex.specs.Classes.{passes}
use Rattle.cx_text.specs.Spans.{back}
use Rattle.cx_lex.proofs.classes.behind.Given as goal

abbrev pub invariant-loop-byte : goal.invariant-loop-byte
invariant-loop-byte l = back (passes l.class) l.rest ≡ back (passes l.class) l.text

abbrev pub decreases-loop-byte : goal.decreases-loop-byte
decreases-loop-byte l = length l.rest
