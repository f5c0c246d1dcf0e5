-- Reading the front of a text, as functions on lists. Laws tie them to the cases of `Lex`.
use Rattle.std.specs.Prelude.{ℕ, ◌^◌, ◌==◌, Bool, false, ◌&&◌, ◌||◌, nat_lt, Option, Some, None, Result, Ok, Err, List, [], ◌∷◌, length, if◌then◌else◌}
use Rattle.std.specs.Str.Parse.{digits_value}
use Rattle.cx_text.specs.Places.{start}
use Rattle.cx_ast.specs.declared.signs.Sign.{Sign}
use Rattle.cx_ast.specs.declared.signs.Sign.TheVariants as signs
use Rattle.cx_ast.specs.declared.tokens.TokenKind.{TokenKind}
use Rattle.cx_ast.specs.declared.tokens.TokenKind.TheVariants as kinds
use Rattle.cx_lex.specs.declared.faults.LexKind.{LexKind}
use Rattle.cx_lex.specs.declared.faults.LexKind.TheVariants.{BadByte, OpenComment, OpenString, BadLiteral, Memory}
use Rattle.cx_lex.specs.declared.faults.LexFault.{LexFault}
use Rattle.cx_lex.specs.Bytes.{is_blank, is_name_start, is_digit, is_name_byte, goes_on, is_in_line, is_in_string, base_of, is_digit_in}
use Rattle.cx_text.specs.Spans.{front, back}

-- what is told where memory is wanting
abbrev pub memory_fault : LexFault
memory_fault = record { kind = Memory; place = start }

-- a token, or None for a blank or comment, with the text behind it; or why there is none
abbrev pub Read : Type 0
Read = Result (Option TokenKind × List ℕ) LexKind

abbrev pub name_at : List ℕ → Read
name_at text =
    if nat_lt 255 (length (front is_name_byte text)) then Err BadLiteral
    else Ok (Some (kinds.Word (front is_name_byte text)), back is_name_byte text)

-- whether a token ends here
abbrev pub goes_on_at : List ℕ → Bool
goes_on_at [] = false
goes_on_at (b ∷ bs) = goes_on b

abbrev pub number_of : List ℕ → List ℕ → Read
number_of digits rest =
    if length digits == 0 then Err BadLiteral else if nat_lt (digits_value 10 digits) (2 ^ 64)
    then Ok (Some (kinds.Number (digits_value 10 digits)), rest) else Err BadLiteral

abbrev pub literal_of : List ℕ → ℕ → List ℕ → List ℕ → Read
literal_of width base digits rest =
    if goes_on_at rest || length width == 0 || length digits == 0 then Err BadLiteral
    else if nat_lt (digits_value 10 width) (2 ^ 32) && nat_lt (digits_value base digits) (2 ^ 128)
    then Ok (Some (kinds.Literal (digits_value 10 width) (digits_value base digits)), rest)
    else Err BadLiteral

abbrev pub based_at : List ℕ → Option ℕ → List ℕ → Read
based_at width None text = Err BadLiteral
based_at width (Some base) text = literal_of width base (front (is_digit_in base) text) (back (is_digit_in base) text)

-- a literal from its letter on
abbrev pub literal_at : List ℕ → List ℕ → Read
literal_at width [] = Err BadLiteral
literal_at width (letter ∷ text) = based_at width (base_of letter) text

-- a number or literal, whose first digits stand before the text
abbrev pub behind_digits : List ℕ → List ℕ → Read
behind_digits digits [] = number_of digits []
behind_digits digits (b ∷ text) =
    if b == 39 then literal_at digits text else if goes_on b then Err BadLiteral
    else number_of digits (b ∷ text)

abbrev pub numeric_at : List ℕ → Read
numeric_at text = behind_digits (front (is_digit_in 10) text) (back (is_digit_in 10) text)

-- a string, whose body stands before the text
abbrev pub behind_body : List ℕ → List ℕ → Read
behind_body body [] = Err OpenString
behind_body body (b ∷ text) =
    if b == 34 then (if nat_lt 255 (length body) then Err BadLiteral else Ok (Some (kinds.Text body), text))
    else Err OpenString

-- a string from the byte behind its first `"` on
abbrev pub string_at : List ℕ → Read
string_at text = behind_body (front is_in_string text) (back is_in_string text)

-- the text behind the first `*/`, where a star may stand before it
abbrev pub after_close : Bool → List ℕ → Option (List ℕ)
after_close star [] = None
after_close star (b ∷ bs) = if star && b == 47 then Some bs else after_close (b == 42) bs

abbrev pub commented : Option (List ℕ) → Read
commented None = Err OpenComment
commented (Some rest) = Ok (None, rest)

-- a comment from its second byte on
abbrev pub comment_at : List ℕ → Read
comment_at [] = Err BadByte
comment_at (b ∷ text) =
    if b == 47 then Ok (None, back is_in_line text) else if b == 42 then commented (after_close false text)
    else Err BadByte

-- what stands beside a byte in a table
abbrev pub look_up : {K : Type 0} → (K → K → Bool) → List (K × Sign) → K → Option Sign
look_up same [] key = None
look_up same (entry ∷ entries) key = if same key entry.0 then Some entry.1 else look_up same entries key

abbrev pub short_signs : List (ℕ × Sign)
short_signs =
    (123, signs.OpenBrace) ∷ (125, signs.CloseBrace) ∷ (40, signs.OpenParen) ∷ (41, signs.CloseParen)
    ∷ (91, signs.OpenBracket) ∷ (93, signs.CloseBracket)
    ∷ (60, signs.Less) ∷ (62, signs.Greater) ∷ (59, signs.Semicolon) ∷ (58, signs.Colon)
    ∷ (44, signs.Comma) ∷ (46, signs.Dot) ∷ (61, signs.Equal)
    ∷ (63, signs.Question) ∷ (33, signs.Not) ∷ (38, signs.And) ∷ (124, signs.Or) ∷ (64, signs.At)
    ∷ (37, signs.Percent) ∷ []

-- the sign of one byte, where the byte is one
abbrev pub short_sign : ℕ → Option Sign
short_sign = look_up ◌==◌ short_signs

-- the sign of two bytes, where they are one
abbrev pub long_sign : ℕ → ℕ → Option Sign
long_sign a b =
    if b == 61 then (if a == 61 then Some signs.EqualEqual else if a == 33 then Some signs.NotEqual
    else if a == 60 then Some signs.LessEqual else if a == 62 then Some signs.GreaterEqual else None)
    else if b == 62 then (if a == 45 then Some signs.Arrow else None)
    else None

abbrev pub signed : Option Sign → List ℕ → Read
signed None rest = Err BadByte
signed (Some s) rest = Ok (Some (kinds.Sign s), rest)

abbrev pub longest_of : Option Sign → ℕ → ℕ → List ℕ → Read
longest_of None a b rest = signed (short_sign a) (b ∷ rest)
longest_of (Some s) a b rest = Ok (Some (kinds.Sign s), rest)

-- a sign from its first byte on
abbrev pub sign_at : ℕ → List ℕ → Read
sign_at a [] = signed (short_sign a) []
sign_at a (b ∷ rest) = longest_of (long_sign a b) a b rest

-- what stands at the front of a text that is not empty
abbrev pub item_at : ℕ → List ℕ → Read
item_at b text =
    if is_blank b then Ok (None, text)
    else if is_name_start b then name_at (b ∷ text)
    else if is_digit b then numeric_at (b ∷ text)
    else if b == 34 then string_at text
    else if b == 47 then comment_at text
    else sign_at b text
