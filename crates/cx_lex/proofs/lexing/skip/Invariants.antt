use Rattle.std.proofs.Common.{◌≡◌, ◌+◌}
use Rattle.cx_lex.proofs.lexing.skip.Given as goal

abbrev pub invariant-loop-byte : goal.invariant-loop-byte
invariant-loop-byte l = l.cursor ≡ record { text = l.fn.cursor.text; read = l.fn.cursor.read + l._byte }
