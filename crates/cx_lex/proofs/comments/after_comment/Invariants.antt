use Rattle.std.proofs.Common.{◌≡◌, false, length}
use Rattle.cx_lex.specs.Reading.{after_close}
use Rattle.cx_lex.proofs.comments.after_comment.Given as goal

abbrev pub invariant-loop-byte : goal.invariant-loop-byte
invariant-loop-byte l = after_close l.star l.rest ≡ after_close false l.text

abbrev pub decreases-loop-byte : goal.decreases-loop-byte
decreases-loop-byte l = length l.rest
