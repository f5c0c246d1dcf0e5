-- Tokens are plain data already: a name is the list of its bytes. This file only names their places and kinds.
use Rattle.std.specs.Prelude.{List, map}
use Rattle.cx_text.specs.declared.places.Place.{Place}
use Rattle.cx_ast.specs.declared.tokens.Token.{Token}
use Rattle.cx_ast.specs.declared.tokens.TokenKind.{TokenKind}

-- what the tokens are, without their places
abbrev pub kinds_of : List Token → List TokenKind
kinds_of tokens = map (λ t. t.kind) tokens

-- where the tokens begin
abbrev pub places_of : List Token → List Place
places_of tokens = map (λ t. t.place) tokens
