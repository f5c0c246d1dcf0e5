-- Each case of `Lex` is read again: what is a token, a blank or a comment is what `front_at` answers.
use Rattle.std.proofs.Common.{◌≡◌, ◌≢◌, ℕ, ◌<◌, ◌≤◌, ◌^◌, ◌==◌, Bool, true, false, ◌&&◌, ◌||◌, nat_lt, if◌then◌else◌, Option, Some, None, List, [], ◌∷◌, ◌++◌, length, ⊎_elim, refl, sym, ◌∙◌, ap, subst, lit≤, arith, append_assoc}
use Rattle.std.proofs.lemmas.Bool.{eqb-true, ne_eqb, lt-ltb, le-ltb, and_from}
use Rattle.std.specs.List.{list_all}
use Rattle.std.specs.Prelude.{Ok, Err}
use Rattle.std.specs.Str.Parse.{AllDigits, IsNumeral, digits_value}
use Rattle.cx_ast.specs.declared.signs.Sign.{Sign}
use Rattle.cx_ast.specs.declared.tokens.TokenKind.{TokenKind}
use Rattle.cx_ast.specs.declared.tokens.TokenKind.TheVariants as kinds
use Rattle.cx_ast.specs.declared.signs.Sign.TheVariants as signs
use Rattle.cx_lex.specs.declared.faults.LexKind.TheVariants.{BadByte, OpenString, BadLiteral}
use Rattle.cx_text.specs.Spans.{Stops, front, back}
use Rattle.cx_text.proofs.SpanLemmas.{front_again, back_again}
use Rattle.cx_lex.specs.Bytes.{is_blank, is_name_start, is_digit, is_name_byte, goes_on, is_in_line, is_in_string, base_of, is_digit_in}
use Rattle.cx_lex.specs.Lex.{sign_bytes, IsLongest, IsWord, IsToken, name, number, literal, string, sign, HasNoClose, IsStray, IsGap, blank, line_comment, block_comment}
use Rattle.cx_lex.specs.Reading.{Read, name_at, goes_on_at, number_of, literal_of, based_at, behind_digits, numeric_at, behind_body, string_at, after_close, commented, comment_at, short_sign, long_sign, signed, longest_of, sign_at, item_at}
use Rattle.cx_lex.proofs.TestLemmas.{pick_true}
use Rattle.cx_lex.proofs.DigitLemmas.{all_digits_pass}
use Rattle.cx_lex.proofs.ByteLemmas.{is_name_start-not_blank, is_digit-not_blank, is_digit-not_name, is_name_start-name_byte, digit_value-is_digit, not_goes_on-digit, not_in_line-not_in_string, no_tick, no_quote_at_end}
use Rattle.cx_lex.proofs.SignLemmas.{short_or_long, IsShort, IsLong, short_sign-bytes, long_sign-bytes}
use Rattle.cx_text.proofs.BoolLaws.{by_test, pick_false}

-- what stands at the front of any text
abbrev pub front_at : List ℕ → Read
front_at [] = Err BadByte
front_at (b ∷ text) = item_at b text

pub item_at-name : (b : ℕ) (text : List ℕ) → is_name_start b ≡ true → item_at b text ≡ name_at (b ∷ text)
item_at-name b text h = pick_false (is_blank b) _ _ (is_name_start-not_blank b h) ∙ pick_true (is_name_start b) _ _ h

pub item_at-digit : (b : ℕ) (text : List ℕ) → is_digit b ≡ true → item_at b text ≡ numeric_at (b ∷ text)
item_at-digit b text h = pick_false (is_blank b) _ _ (is_digit-not_blank b h) ∙ pick_false (is_name_start b) _ _ (is_digit-not_name b h) ∙ pick_true (is_digit b) _ _ h

name_of : (bytes rest : List ℕ) → list_all is_name_byte bytes ≡ true → Stops is_name_byte rest → name_at (bytes ++ rest) ≡ (if nat_lt 255 (length bytes) then Err BadLiteral else Ok (Some (kinds.Word bytes), rest))
name_of bytes rest each stop =
    ap (λ f. if nat_lt 255 (length f) then Err BadLiteral else Ok (Some (kinds.Word f), back is_name_byte (bytes ++ rest))) (front_again is_name_byte bytes rest each stop)
    ∙ ap (λ r. if nat_lt 255 (length bytes) then Err BadLiteral else Ok (Some (kinds.Word bytes), r)) (back_again is_name_byte bytes rest each stop)

pub word_at : (first : ℕ) (more rest : List ℕ) → IsWord first more rest → item_at first (more ++ rest) ≡ (if nat_lt 255 (length (first ∷ more)) then Err BadLiteral else Ok (Some (kinds.Word (first ∷ more)), rest))
word_at first more rest w = item_at-name first (more ++ rest) w.begins ∙ name_of (first ∷ more) rest (and_from (is_name_byte first) (list_all is_name_byte more) (is_name_start-name_byte first w.begins) w.each) w.longest

-- digits before what goes on with none
digit_front : (base : ℕ) (digits rest : List ℕ) → AllDigits base digits → Stops (is_digit_in base) rest → front (is_digit_in base) (digits ++ rest) ≡ digits
digit_front base digits rest each stop = front_again (is_digit_in base) digits rest (all_digits_pass base digits each) stop

digit_back : (base : ℕ) (digits rest : List ℕ) → AllDigits base digits → Stops (is_digit_in base) rest → back (is_digit_in base) (digits ++ rest) ≡ rest
digit_back base digits rest each stop = back_again (is_digit_in base) digits rest (all_digits_pass base digits each) stop

digits_stop : (base : ℕ) (rest : List ℕ) → base ≤ 36 → Stops goes_on rest → Stops (is_digit_in base) rest
digits_stop base [] le h = tt
digits_stop base (b ∷ rest) le h = not_goes_on-digit base b le h

numeric_digits : (digits rest : List ℕ) → AllDigits 10 digits → Stops (is_digit_in 10) rest → numeric_at (digits ++ rest) ≡ behind_digits digits rest
numeric_digits digits rest each stop = ap (λ f. behind_digits f (back (is_digit_in 10) (digits ++ rest))) (digit_front 10 digits rest each stop) ∙ ap (behind_digits digits) (digit_back 10 digits rest each stop)

some_digits : (digits : List ℕ) → 0 < length digits → (length digits == 0) ≡ false
some_digits digits h = ne_eqb (length digits) 0 (λ e. omega arith)

number_read : (digits rest : List ℕ) → IsNumeral 10 digits → digits_value 10 digits < 2 ^ 64 → number_of digits rest ≡ Ok (Some (kinds.Number (digits_value 10 digits)), rest)
number_read digits rest numeral fits = pick_false (length digits == 0) _ _ (some_digits digits numeral.0) ∙ pick_true (nat_lt (digits_value 10 digits) (2 ^ 64)) _ _ (lt-ltb _ _ fits)

number_behind : (digits rest : List ℕ) → Stops goes_on rest → behind_digits digits rest ≡ number_of digits rest
number_behind digits [] stop = refl
number_behind digits (b ∷ rest) stop = pick_false (b == 39) _ _ (no_tick b stop) ∙ pick_false (goes_on b) _ _ stop

no_going_on : (rest : List ℕ) → Stops goes_on rest → goes_on_at rest ≡ false
no_going_on [] h = refl
no_going_on (b ∷ rest) h = h

none_of : (a b c : Bool) → a ≡ false → b ≡ false → c ≡ false → (a || b || c) ≡ false
none_of a b c ea eb ec = cc

literal_read : (width : List ℕ) (base : ℕ) (digits rest : List ℕ) → IsNumeral 10 width → digits_value 10 width < 2 ^ 32 → IsNumeral base digits → digits_value base digits < 2 ^ 128 → Stops goes_on rest
    → literal_of width base digits rest ≡ Ok (Some (kinds.Literal (digits_value 10 width) (digits_value base digits)), rest)
literal_read width base digits rest wide width_fits numeral fits stop =
    pick_false (goes_on_at rest || length width == 0 || length digits == 0) _ _ (none_of _ _ _ (no_going_on rest stop) (some_digits width wide.0) (some_digits digits numeral.0))
    ∙ pick_true (nat_lt (digits_value 10 width) (2 ^ 32) && nat_lt (digits_value base digits) (2 ^ 128)) _ _ (and_from _ _ (lt-ltb _ _ width_fits) (lt-ltb _ _ fits))

abbrev Small : Option ℕ → Type 0
Small o = (base : ℕ) → o ≡ Some base → base ≤ 36

small : (m n : ℕ) → m ≤ 36 → Some m ≡ Some n → n ≤ 36
small m n le e = let same : m ≡ n = cc in subst (λ k. k ≤ 36) same le

-- a base is 36 at most
base_of-le : (letter base : ℕ) → base_of letter ≡ Some base → base ≤ 36
base_of-le letter base e =
    by_test Small (letter == 100) _ _ (λ _ n h. small 10 n (lit≤ tt) h) (λ _. by_test Small (letter == 98) _ _ (λ _ n h. small 2 n (lit≤ tt) h) (λ _.
    by_test Small (letter == 111) _ _ (λ _ n h. small 8 n (lit≤ tt) h) (λ _. by_test Small (letter == 120 || letter == 104) _ _ (λ _ n h. small 16 n (lit≤ tt) h) (λ _ n h. absurd (cc))))) base e

-- a text that begins with digits begins with a digit
begins_digit : (digits rest : List ℕ) → IsNumeral 10 digits → front_at (digits ++ rest) ≡ numeric_at (digits ++ rest)
begins_digit [] rest numeral = absurd (let some = numeral.0 in omega arith)
begins_digit (d ∷ digits) rest numeral = item_at-digit d (digits ++ rest) (digit_value-is_digit d (lt-ltb _ _ numeral.1.0))

literal_again : (width : List ℕ) (letter base : ℕ) (digits rest : List ℕ) → IsNumeral 10 width → digits_value 10 width < 2 ^ 32 → base_of letter ≡ Some base → IsNumeral base digits → digits_value base digits < 2 ^ 128 → Stops goes_on rest
    → front_at ((width ++ 39 ∷ letter ∷ digits) ++ rest) ≡ Ok (Some (kinds.Literal (digits_value 10 width) (digits_value base digits)), rest)
literal_again width letter base digits rest wide width_fits eb numeral fits stop =
    let le = base_of-le letter base eb in
    let stops = digits_stop base rest le stop in
    ap front_at (append_assoc width (39 ∷ letter ∷ digits) rest)
    ∙ begins_digit width (39 ∷ letter ∷ digits ++ rest) wide
    ∙ numeric_digits width (39 ∷ letter ∷ digits ++ rest) wide.1 refl
    ∙ ap (λ o. based_at width o (digits ++ rest)) eb
    ∙ ap (λ f. literal_of width base f (back (is_digit_in base) (digits ++ rest))) (digit_front base digits rest numeral.1 stops)
    ∙ ap (literal_of width base digits) (digit_back base digits rest numeral.1 stops)
    ∙ literal_read width base digits rest wide width_fits numeral fits stop

string_read : (body rest : List ℕ) → list_all is_in_string body ≡ true → Stops is_in_string rest → string_at (body ++ rest) ≡ behind_body body rest
string_read body rest each stop = ap (λ f. behind_body f (back is_in_string (body ++ rest))) (front_again is_in_string body rest each stop) ∙ ap (behind_body body) (back_again is_in_string body rest each stop)

string_again : (body rest : List ℕ) → list_all is_in_string body ≡ true → length body ≤ 255 → front_at ((34 ∷ body ++ 34 ∷ []) ++ rest) ≡ Ok (Some (kinds.Text body), rest)
string_again body rest each short =
    ap string_at (append_assoc body (34 ∷ []) rest)
    ∙ string_read body (34 ∷ rest) each refl
    ∙ pick_false (nat_lt 255 (length body)) _ _ (le-ltb 255 (length body) short)

-- a text that begins with a sign
abbrev signs_at : List ℕ → Read
signs_at [] = Err BadByte
signs_at (b ∷ text) = sign_at b text

begins_sign : (s : Sign) (rest : List ℕ) → front_at (sign_bytes s ++ rest) ≡ signs_at (sign_bytes s ++ rest)
begins_sign signs.OpenBrace rest = refl
begins_sign signs.CloseBrace rest = refl
begins_sign signs.OpenParen rest = refl
begins_sign signs.CloseParen rest = refl
begins_sign signs.OpenBracket rest = refl
begins_sign signs.CloseBracket rest = refl
begins_sign signs.Less rest = refl
begins_sign signs.Greater rest = refl
begins_sign signs.Semicolon rest = refl
begins_sign signs.Colon rest = refl
begins_sign signs.Comma rest = refl
begins_sign signs.Dot rest = refl
begins_sign signs.Equal rest = refl
begins_sign signs.Question rest = refl
begins_sign signs.Not rest = refl
begins_sign signs.And rest = refl
begins_sign signs.Or rest = refl
begins_sign signs.At rest = refl
begins_sign signs.Percent rest = refl
begins_sign signs.EqualEqual rest = refl
begins_sign signs.NotEqual rest = refl
begins_sign signs.LessEqual rest = refl
begins_sign signs.GreaterEqual rest = refl
begins_sign signs.Arrow rest = refl

short_read : (s : Sign) (a : ℕ) (rest : List ℕ) → sign_bytes s ≡ a ∷ [] → short_sign a ≡ Some s → IsLongest s (a ∷ rest) → sign_at a rest ≡ Ok (Some (kinds.Sign s), rest)
short_read s a [] bytes found longest = ap (λ o. signed o []) found
short_read s a (c ∷ rest) bytes found longest = behind (long_sign a c) refl
  where
    behind : (o : Option Sign) → long_sign a c ≡ o → longest_of o a c rest ≡ Ok (Some (kinds.Sign s), c ∷ rest)
    behind None e = ap (λ o. signed o (c ∷ rest)) found
    behind (Some t) e =
        let longer = long_sign-bytes t a c e in
        let le = longest t rest (ap (λ bytes. bytes ++ rest) (sym longer)) in
        let two = ap length longer in
        let one = ap length bytes in
        absurd (omega arith)

sign_again : (s : Sign) (rest : List ℕ) → IsLongest s (sign_bytes s ++ rest) → front_at (sign_bytes s ++ rest) ≡ Ok (Some (kinds.Sign s), rest)
sign_again s rest longest = begins_sign s rest ∙ ⊎_elim
    (λ (h : IsShort s). subst (λ bytes. IsLongest s (bytes ++ rest) → signs_at (bytes ++ rest) ≡ Ok (Some (kinds.Sign s), rest)) (sym h.1) (short_read s h.0 rest h.1 h.2) longest)
    (λ (h : IsLong s). ap (λ bytes. signs_at (bytes ++ rest)) h.2 ∙ ap (λ o. longest_of o h.0 h.1 rest) h.3)
    (short_or_long s)

pub token_again : {bytes rest : List ℕ} {kind : TokenKind} → IsToken bytes rest kind → front_at (bytes ++ rest) ≡ Ok (Some kind, rest)
token_again (name {first = first} {more = more} {rest = rest} w short) = word_at first more rest w ∙ pick_false (nat_lt 255 (length (first ∷ more))) _ _ (le-ltb 255 (length (first ∷ more)) short)
token_again (number {digits = digits} {rest = rest} numeral fits stop) = begins_digit digits rest numeral ∙ numeric_digits digits rest numeral.1 (digits_stop 10 rest (lit≤ tt) stop) ∙ number_behind digits rest stop ∙ number_read digits rest numeral fits
token_again (literal width letter base digits {rest = rest} wide width_fits eb numeral fits stop) = literal_again width letter base digits rest wide width_fits eb numeral fits stop
token_again (string body {rest = rest} each short) = string_again body rest each short
token_again (sign s {rest = rest} longest) = sign_again s rest longest

-- bytes behind a star or not, in which no comment is closed
abbrev Behind : Bool → List ℕ → Type 0
Behind true body = HasNoClose (42 ∷ body)
Behind false body = HasNoClose body

tail_open : (b : ℕ) (body : List ℕ) → HasNoClose (b ∷ body) → HasNoClose body
tail_open b body h before after e = h (b ∷ before) after (ap (λ bytes. b ∷ bytes) e)

starless : (star : Bool) (body : List ℕ) → Behind star body → HasNoClose body
starless true body h = tail_open 42 body h
starless false body h = h

next_behind : (t : Bool) (b : ℕ) (body : List ℕ) → (b == 42) ≡ t → HasNoClose (b ∷ body) → Behind t body
next_behind true b body e h = subst (λ c. HasNoClose (c ∷ body)) (eqb-true b 42 e) h
next_behind false b body e h = tail_open b body h

not_closed : (star : Bool) (b : ℕ) (body : List ℕ) → Behind star (b ∷ body) → (star && b == 47) ≡ false
not_closed true b body h = ne_eqb b 47 (λ e. h [] body (ap (λ c. 42 ∷ c ∷ body) e))
not_closed false b body h = refl

close_again : (star : Bool) (body rest : List ℕ) → Behind star body → after_close star (body ++ 42 ∷ 47 ∷ rest) ≡ Some rest
close_again true [] rest h = refl
close_again false [] rest h = refl
close_again star (b ∷ body) rest h = pick_false (star && b == 47) _ _ (not_closed star b body h) ∙ close_again (b == 42) body rest (next_behind (b == 42) b body refl (starless star (b ∷ body) h))

pub close_none : (star : Bool) (body : List ℕ) → Behind star body → after_close star body ≡ None
close_none star [] h = refl
close_none star (b ∷ body) h = pick_false (star && b == 47) _ _ (not_closed star b body h) ∙ close_none (b == 42) body (next_behind (b == 42) b body refl (starless star (b ∷ body) h))

pub gap_again : {bytes rest : List ℕ} → IsGap bytes rest → front_at (bytes ++ rest) ≡ Ok (None, rest)
gap_again (blank {b = b} {rest = rest} h) = pick_true (is_blank b) _ _ h
gap_again (line_comment {body = body} {rest = rest} each stop) = ap (λ r. Ok (None, r)) (back_again is_in_line body rest each stop)
gap_again (block_comment body {rest = rest} open_body) = ap (λ bytes. commented (after_close false bytes)) (append_assoc body (42 ∷ 47 ∷ []) rest) ∙ ap commented (close_again false body rest open_body)

-- faults
no_sign_at : (b : ℕ) (rest : List ℕ) → ((s : Sign) (after : List ℕ) → b ∷ rest ≢ sign_bytes s ++ after) → sign_at b rest ≡ Err BadByte
no_sign_at b rest none = within rest none
  where
    no_short : (rest : List ℕ) → ((s : Sign) (after : List ℕ) → b ∷ rest ≢ sign_bytes s ++ after) → (o : Option Sign) → short_sign b ≡ o → signed o rest ≡ Err BadByte
    no_short rest none None e = refl
    no_short rest none (Some s) e = absurd (none s rest (ap (λ bytes. bytes ++ rest) (sym (short_sign-bytes b s e))))

    no_long : (c : ℕ) (rest : List ℕ) → ((s : Sign) (after : List ℕ) → b ∷ c ∷ rest ≢ sign_bytes s ++ after) → (o : Option Sign) → long_sign b c ≡ o → longest_of o b c rest ≡ Err BadByte
    no_long c rest none None e = no_short (c ∷ rest) none (short_sign b) refl
    no_long c rest none (Some s) e = absurd (none s rest (ap (λ bytes. bytes ++ rest) (sym (long_sign-bytes s b c e))))

    within : (rest : List ℕ) → ((s : Sign) (after : List ℕ) → b ∷ rest ≢ sign_bytes s ++ after) → sign_at b rest ≡ Err BadByte
    within [] none = no_short [] none (short_sign b) refl
    within (c ∷ rest) none = no_long c rest none (long_sign b c) refl

no_comment_at : (rest : List ℕ) → ((after : List ℕ) → 47 ∷ rest ≢ 47 ∷ 47 ∷ after) → ((after : List ℕ) → 47 ∷ rest ≢ 47 ∷ 42 ∷ after) → comment_at rest ≡ Err BadByte
no_comment_at [] line block = refl
no_comment_at (c ∷ rest) line block =
    pick_false (c == 47) _ _ (ne_eqb c 47 (λ e. line rest (ap (λ d. 47 ∷ d ∷ rest) e)))
    ∙ pick_false (c == 42) _ _ (ne_eqb c 42 (λ e. block rest (ap (λ d. 47 ∷ d ∷ rest) e)))

pub stray_again : (b : ℕ) (rest : List ℕ) → IsStray b rest → item_at b rest ≡ Err BadByte
stray_again b rest h =
    pick_false (is_blank b) _ _ h.no_blank ∙ pick_false (is_name_start b) _ _ h.no_name ∙ pick_false (is_digit b) _ _ h.no_digit ∙ pick_false (b == 34) _ _ (ne_eqb b 34 h.no_quote)
    ∙ by_test (λ r. r ≡ Err BadByte) (b == 47) (comment_at rest) (sign_at b rest)
    (λ e. let slash = eqb-true b 47 e in no_comment_at rest (λ after same. h.no_line_comment after (ap (λ c. c ∷ rest) slash ∙ same)) (λ after same. h.no_block_comment after (ap (λ c. c ∷ rest) slash ∙ same)))
    (λ _. no_sign_at b rest h.no_sign)

string_stops : (rest : List ℕ) → Stops is_in_line rest → Stops is_in_string rest
string_stops [] h = tt
string_stops (b ∷ rest) h = not_in_line-not_in_string b h

open_body : (body rest : List ℕ) → Stops is_in_line rest → behind_body body rest ≡ Err OpenString
open_body body [] h = refl
open_body body (b ∷ rest) h = pick_false (b == 34) _ _ (no_quote_at_end b h)

pub open_string_again : (body rest : List ℕ) → list_all is_in_string body ≡ true → Stops is_in_line rest → front_at (34 ∷ body ++ rest) ≡ Err OpenString
open_string_again body rest each stop = string_read body rest each (string_stops rest stop) ∙ open_body body rest stop

pub long_string_again : (body rest : List ℕ) → list_all is_in_string body ≡ true → 255 < length body → front_at (34 ∷ body ++ 34 ∷ rest) ≡ Err BadLiteral
long_string_again body rest each long = string_read body (34 ∷ rest) each refl ∙ pick_true (nat_lt 255 (length body)) _ _ (lt-ltb 255 (length body) long)

pub long_name_again : (first : ℕ) (more rest : List ℕ) → IsWord first more rest → 255 < length (first ∷ more) → front_at (first ∷ more ++ rest) ≡ Err BadLiteral
long_name_again first more rest w long = word_at first more rest w ∙ pick_true (nat_lt 255 (length (first ∷ more))) _ _ (lt-ltb 255 (length (first ∷ more)) long)
