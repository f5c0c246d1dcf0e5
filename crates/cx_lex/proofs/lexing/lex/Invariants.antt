use Rattle.std.proofs.Common.{length}
use Rattle.cx_lex.proofs.WholeLemmas.{Lexing}
use Rattle.cx_lex.proofs.lexing.lex.Given as goal

abbrev pub invariant-loop-byte : goal.invariant-loop-byte
invariant-loop-byte l = Lexing l.text l.cursor l.rest l.tokens.items

abbrev pub decreases-loop-byte : goal.decreases-loop-byte
decreases-loop-byte l = length l.rest
