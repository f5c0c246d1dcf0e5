-- The tokens of a design's text, and the first that cannot be read. Whole texts, by cases: one for each kind of token,
-- blank, comment and fault.
use Rattle.std.specs.Prelude.{◌≡◌, ◌≢◌, ℕ, ◌^◌, ◌<◌, ◌≤◌, true, false, List, [], ◌∷◌, ◌++◌, length, codes, Some}
use Rattle.std.specs.List.{list_all}
use Rattle.std.specs.Str.Parse.{IsNumeral, digits_value}
use Rattle.cx_text.specs.declared.places.Place.{Place}
use Rattle.cx_text.specs.Places.{start, after_bytes}
use Rattle.cx_ast.specs.declared.signs.Sign.{Sign}
use Rattle.cx_ast.specs.declared.signs.Sign.TheVariants as signs
use Rattle.cx_ast.specs.declared.tokens.TokenKind.{TokenKind}
use Rattle.cx_ast.specs.declared.tokens.TokenKind.TheVariants as kinds
use Rattle.cx_ast.specs.declared.tokens.Token.{Token}
use Rattle.cx_lex.specs.declared.faults.LexKind.{LexKind}
use Rattle.cx_lex.specs.declared.faults.LexKind.TheVariants.{BadByte, OpenComment, OpenString, BadLiteral}
use Rattle.cx_text.specs.Spans.{Stops}
use Rattle.cx_lex.specs.Bytes.{is_blank, is_name_start, is_digit, is_name_byte, goes_on, is_in_line, is_in_string, base_of}

-- how a sign is written
abbrev pub sign_bytes : Sign → List ℕ
sign_bytes signs.OpenBrace = codes "{"
sign_bytes signs.CloseBrace = codes "}"
sign_bytes signs.OpenParen = codes "("
sign_bytes signs.CloseParen = codes ")"
sign_bytes signs.OpenBracket = codes "["
sign_bytes signs.CloseBracket = codes "]"
sign_bytes signs.Less = codes "<"
sign_bytes signs.Greater = codes ">"
sign_bytes signs.Semicolon = codes ";"
sign_bytes signs.Colon = codes ":"
sign_bytes signs.Comma = codes ","
sign_bytes signs.Dot = codes "."
sign_bytes signs.Equal = codes "="
sign_bytes signs.Question = codes "?"
sign_bytes signs.Not = codes "!"
sign_bytes signs.And = codes "&"
sign_bytes signs.Or = codes "|"
sign_bytes signs.At = codes "@"
sign_bytes signs.Percent = codes "%"
sign_bytes signs.EqualEqual = codes "=="
sign_bytes signs.NotEqual = codes "!="
sign_bytes signs.LessEqual = codes "<="
sign_bytes signs.GreaterEqual = codes ">="
sign_bytes signs.Arrow = codes "->"

-- the bytes are those of a name before the rest, as long as they go: a letter or `_`, then letters, `_` and digits
pub record IsWord (first : ℕ) (more rest : List ℕ) : Type 0 where
  pub begins : is_name_start first ≡ true
  pub each : list_all is_name_byte more ≡ true
  pub longest : Stops is_name_byte rest

-- the longest sign that the text begins with
abbrev pub IsLongest : Sign → List ℕ → Type 0
IsLongest sign text =
    (other : Sign) (rest : List ℕ) → text ≡ sign_bytes other ++ rest
    → length (sign_bytes other) ≤ length (sign_bytes sign)

-- the first bytes are a token of this kind, before the rest
pub data IsToken : List ℕ → List ℕ → TokenKind → Type 0 where
  name : {first : ℕ} {more rest : List ℕ} → IsWord first more rest → length (first ∷ more) ≤ 255
      → IsToken (first ∷ more) rest (kinds.Word (first ∷ more))
  number : {digits rest : List ℕ} → IsNumeral 10 digits → digits_value 10 digits < 2 ^ 64
      → Stops goes_on rest → IsToken digits rest (kinds.Number (digits_value 10 digits))
  literal : (width : List ℕ) (letter base : ℕ) (digits : List ℕ) {rest : List ℕ} → IsNumeral 10 width
      → digits_value 10 width < 2 ^ 32 → base_of letter ≡ Some base → IsNumeral base digits
      → digits_value base digits < 2 ^ 128 → Stops goes_on rest
      → IsToken (width ++ 39 ∷ letter ∷ digits) rest (kinds.Literal (digits_value 10 width) (digits_value base digits))
  string : (body : List ℕ) {rest : List ℕ} → list_all is_in_string body ≡ true → length body ≤ 255
      → IsToken (34 ∷ body ++ 34 ∷ []) rest (kinds.Text body)
  sign : (s : Sign) {rest : List ℕ} → IsLongest s (sign_bytes s ++ rest) → IsToken (sign_bytes s) rest (kinds.Sign s)

-- no `*/` stands in the bytes
abbrev pub HasNoClose : List ℕ → Type 0
HasNoClose bytes = (before after : List ℕ) → bytes ≢ before ++ 42 ∷ 47 ∷ after

-- the first bytes are a blank or a comment, before the rest
pub data IsGap : List ℕ → List ℕ → Type 0 where
  blank : {b : ℕ} {rest : List ℕ} → is_blank b ≡ true → IsGap (b ∷ []) rest
  line_comment : {body rest : List ℕ} → list_all is_in_line body ≡ true → Stops is_in_line rest
      → IsGap (47 ∷ 47 ∷ body) rest
  block_comment : (body : List ℕ) {rest : List ℕ} → HasNoClose body → IsGap (47 ∷ 42 ∷ body ++ 42 ∷ 47 ∷ []) rest

-- no token begins the text
abbrev pub BeginsNoToken : List ℕ → Type 0
BeginsNoToken text = (bytes rest : List ℕ) (kind : TokenKind) → text ≡ bytes ++ rest → ¬ IsToken bytes rest kind

-- no name, number, literal, string, blank or comment begins with the byte before these, and no sign does
pub record IsStray (b : ℕ) (rest : List ℕ) : Type 0 where
  pub no_blank : is_blank b ≡ false
  pub no_name : is_name_start b ≡ false
  pub no_digit : is_digit b ≡ false
  pub no_quote : b ≢ 34
  pub no_line_comment : (after : List ℕ) → b ∷ rest ≢ 47 ∷ 47 ∷ after
  pub no_block_comment : (after : List ℕ) → b ∷ rest ≢ 47 ∷ 42 ∷ after
  pub no_sign : (sign : Sign) (after : List ℕ) → b ∷ rest ≢ sign_bytes sign ++ after

-- the text begins with what cannot be read
pub data IsFault : List ℕ → LexKind → Type 0 where
  bad_byte : {b : ℕ} {rest : List ℕ} → IsStray b rest → IsFault (b ∷ rest) BadByte
  open_comment : {rest : List ℕ} → HasNoClose rest → IsFault (47 ∷ 42 ∷ rest) OpenComment
  open_string : (body rest : List ℕ) → list_all is_in_string body ≡ true → Stops is_in_line rest
      → IsFault (34 ∷ body ++ rest) OpenString
  long_string : (body rest : List ℕ) → list_all is_in_string body ≡ true → 255 < length body
      → IsFault (34 ∷ body ++ 34 ∷ rest) BadLiteral
  long_name : (first : ℕ) (more rest : List ℕ) → IsWord first more rest → 255 < length (first ∷ more)
      → IsFault (first ∷ more ++ rest) BadLiteral
  bad_literal : {digit : ℕ} {rest : List ℕ} → is_digit digit ≡ true → BeginsNoToken (digit ∷ rest)
      → IsFault (digit ∷ rest) BadLiteral

-- the text, whose first byte has this place, has these tokens
pub data HasTokens : Place → List ℕ → List Token → Type 0 where
  ended : {place : Place} → HasTokens place [] []
  gap : {place : Place} (bytes rest : List ℕ) {tokens : List Token} → IsGap bytes rest
      → HasTokens (after_bytes place bytes) rest tokens → HasTokens place (bytes ++ rest) tokens
  token : {place : Place} (bytes rest : List ℕ) (kind : TokenKind) {tokens : List Token}
      → IsToken bytes rest kind → HasTokens (after_bytes place bytes) rest tokens
      → HasTokens place (bytes ++ rest) (record { kind = kind; place = place } ∷ tokens)

-- the text, whose first byte has this place, has tokens, blanks and comments up to that fault
pub data HasFault : Place → List ℕ → LexKind → Place → Type 0 where
  here : {place : Place} {text : List ℕ} {kind : LexKind} → IsFault text kind → HasFault place text kind place
  behind_gap : {place fault : Place} (bytes rest : List ℕ) {kind : LexKind} → IsGap bytes rest
      → HasFault (after_bytes place bytes) rest kind fault → HasFault place (bytes ++ rest) kind fault
  behind_token : {place fault : Place} (bytes rest : List ℕ) (found : TokenKind) {kind : LexKind}
      → IsToken bytes rest found → HasFault (after_bytes place bytes) rest kind fault
      → HasFault place (bytes ++ rest) kind fault

-- the text has these tokens
abbrev pub Lex : List ℕ → List Token → Type 0
Lex text tokens = HasTokens start text tokens

-- the first token that cannot be read is of this kind, at this place
abbrev pub FirstFault : List ℕ → LexKind → Place → Type 0
FirstFault text kind place = HasFault start text kind place
