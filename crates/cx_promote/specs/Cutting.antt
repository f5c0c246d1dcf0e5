-- Statements that are being cut: those that are done, and the open piece.
use Rattle.std.specs.Prelude.{ℕ, Bool, List, [], ◌∷◌, length}
use Rattle.cx_ast.specs.PlainStatements.{PlainStatement, PlainStatements, StatementThen, plain_statements}
use Rattle.cx_promotion.specs.Rewriting.{cut}
use Rattle.cx_promote.specs.declared.pieces.Pieces.{Pieces}

-- statements before others
abbrev pub before : List PlainStatement → PlainStatements → PlainStatements
before [] later = later
before (s ∷ ss) later = StatementThen s (before ss later)

abbrev pub done_of : Pieces → List PlainStatement
done_of pieces = plain_statements pieces.done.items

abbrev pub open_of : Pieces → List PlainStatement
open_of pieces = plain_statements pieces.piece.items

-- all that comes of it, where these statements are left
abbrev pub cut_with : (List ℕ → Bool) → Pieces → PlainStatements → PlainStatements
cut_with long pieces left = before (done_of pieces) (cut long (open_of pieces) (length (open_of pieces)) left)
