-- How tokens are written, and what stands between them.
use Rattle.std.specs.Prelude.{◌≡◌, ◌≢◌, ℕ, ◌^◌, ◌<◌, ◌≤◌, true, List, [], ◌∷◌, ◌++◌, length, decimal}
use Rattle.std.specs.List.{list_all, AllByRecursion}
use Rattle.cx_ast.specs.declared.tokens.Token.{Token}
use Rattle.cx_ast.specs.declared.tokens.TokenKind.{TokenKind}
use Rattle.cx_ast.specs.declared.tokens.TokenKind.TheVariants as kinds
use Rattle.cx_ast.specs.PlainTokens.{kinds_of}
use Rattle.cx_lex.specs.Bytes.{is_blank, is_name_start, is_name_byte, is_in_string}
use Rattle.cx_lex.specs.Lex.{sign_bytes, Lex}
use Rattle.cx_print.specs.declared.pieces.Gap.{Gap}
use Rattle.cx_print.specs.declared.pieces.Gap.TheVariants.{Tight, Space, Line}
use Rattle.cx_print.specs.declared.pieces.Piece.{Piece}

-- a name or reserved word: a letter or `_`, then letters, `_` and digits, 255 bytes at most
abbrev pub IsWritableWord : List ℕ → Type 0
IsWritableWord [] = ⊥
IsWritableWord (first ∷ more) =
    (is_name_start first ≡ true) × (list_all is_name_byte more ≡ true) × (length (first ∷ more) ≤ 255)

-- a token that a text can have
abbrev pub IsWritable : TokenKind → Type 0
IsWritable (kinds.Word bytes) = IsWritableWord bytes
IsWritable (kinds.Number n) = n < 2 ^ 64
IsWritable (kinds.Literal width value) = (width < 2 ^ 32) × (value < 2 ^ 128)
IsWritable (kinds.Text bytes) = (list_all is_in_string bytes ≡ true) × (length bytes ≤ 255)
IsWritable (kinds.Sign s) = Unit {0}

abbrev pub AreWritable : List TokenKind → Type 0
AreWritable = AllByRecursion IsWritable

-- how a token is written: numbers in decimal, and literals too
abbrev pub token_bytes : TokenKind → List ℕ
token_bytes (kinds.Word bytes) = bytes
token_bytes (kinds.Number n) = decimal n
token_bytes (kinds.Literal width value) = decimal width ++ 39 ∷ 100 ∷ decimal value
token_bytes (kinds.Text bytes) = 34 ∷ bytes ++ 34 ∷ []
token_bytes (kinds.Sign s) = sign_bytes s

-- nothing, or blanks and one at least
abbrev pub IsGapOf : Gap → List ℕ → Type 0
IsGapOf Tight blanks = blanks ≡ []
IsGapOf Space blanks = (blanks ≢ []) × (list_all is_blank blanks ≡ true)
IsGapOf Line blanks = (blanks ≢ []) × (list_all is_blank blanks ≡ true)

-- the text is these tokens with what stands before each, and a line feed
pub data IsLaidOut : List Piece → List ℕ → Type 0 where
  ended : IsLaidOut [] (10 ∷ [])
  piece : {p : Piece} {ps : List Piece} (blanks : List ℕ) {rest : List ℕ} → IsGapOf p.gap blanks
      → IsLaidOut ps rest → IsLaidOut (p ∷ ps) (blanks ++ (token_bytes p.kind ++ rest))

abbrev pub AppendsLayout : List Piece → List ℕ → List ℕ → Type 0
AppendsLayout ps old new = (text : List ℕ) × (new ≡ old ++ text) × IsLaidOut ps text

abbrev pub AppendsBlanks : List ℕ → List ℕ → Type 0
AppendsBlanks old new = (blanks : List ℕ) × (new ≡ old ++ blanks) × (list_all is_blank blanks ≡ true)

abbrev pub AppendsGap : Gap → List ℕ → List ℕ → Type 0
AppendsGap gap old new = (blanks : List ℕ) × (new ≡ old ++ blanks) × IsGapOf gap blanks

-- what is appended is a text whose tokens are of these kinds
pub record AppendsTokens (wanted : List TokenKind) (old new : List ℕ) : Type 0 where
  pub text : List ℕ
  pub tokens : List Token
  pub appended : new ≡ old ++ text
  pub lexed : Lex text tokens
  pub same : kinds_of tokens ≡ wanted
