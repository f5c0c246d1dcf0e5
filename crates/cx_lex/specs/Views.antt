-- What the readers of the code answer, without where it lies in memory.
use Rattle.std.specs.Prelude.{ℕ, List, [], ◌∷◌, Option, Some, None, Result, Ok, Err}
use Rattle.std.specs.Borrow.{Bor}
use Rattle.cx_ast.specs.declared.tokens.TokenKind.{TokenKind}
use Rattle.cx_ast.specs.declared.tokens.TokenKind.TheVariants as kinds
use Rattle.cx_text.specs.declared.places.Place.{Place}
use Rattle.cx_ast.specs.declared.tokens.Token.{Token}
use Rattle.cx_lex.specs.declared.faults.LexKind.{LexKind}
use Rattle.cx_lex.specs.declared.items.Found.{Found}
use Rattle.cx_lex.specs.declared.items.Found.TheVariants as items
use Rattle.cx_lex.specs.Reading.{Read}

-- the kind of a token; none for a blank or comment
abbrev pub kind_of : Found → Option TokenKind
kind_of items.Gap = None
kind_of (items.Word bytes) = Some (kinds.Word bytes.now)
kind_of (items.Number n) = Some (kinds.Number n)
kind_of (items.Literal width value) = Some (kinds.Literal width value)
kind_of (items.Text bytes) = Some (kinds.Text bytes.now)
kind_of (items.Sign s) = Some (kinds.Sign s)

abbrev pub read_of : Result (Found × Bor (List ℕ)) LexKind → Read
read_of (Ok x) = Ok (kind_of x.0, x.1.now)
read_of (Err kind) = Err kind

-- the list of the token, where the item is one
abbrev pub added : Option TokenKind → Place → List Token
added None place = []
added (Some kind) place = record { kind = kind; place = place } ∷ []
