-- What `item_at` answers is a case of `Lex`: a token, a blank or a comment with the text behind it, or a fault.
use Rattle.std.proofs.Common.{◌≡◌, ◌≢◌, ℕ, ◌≤◌, ◌^◌, ◌==◌, Bool, true, false, ◌&&◌, ◌||◌, nat_lt, if◌then◌else◌, Option, Some, None, List, [], ◌∷◌, ◌++◌, length, ◌⊎◌, inl, inr, ⊎_elim, refl, sym, ◌∙◌, ap, subst, arith, append_assoc, length-append}
use Rattle.std.proofs.lemmas.Bool.{eqb-true, eqb-false, eq-eqb, ltb-true, ltb-false, and_parts}
use Rattle.std.specs.List.{list_all}
use Rattle.std.specs.Prelude.{Ok, Err}
use Rattle.std.specs.Str.Parse.{AllDigits, digits_value}
use Rattle.cx_ast.specs.declared.signs.Sign.{Sign}
use Rattle.cx_ast.specs.declared.tokens.TokenKind.{TokenKind}
use Rattle.cx_ast.specs.declared.tokens.TokenKind.TheVariants as kinds
use Rattle.cx_lex.specs.declared.faults.LexKind.{LexKind}
use Rattle.cx_lex.specs.declared.faults.LexKind.TheVariants.{BadByte, BadLiteral}
use Rattle.cx_text.specs.Spans.{Stops, front, back}
use Rattle.cx_text.proofs.SpanLemmas.{front-back, front_passes, back_stops}
use Rattle.cx_lex.specs.Bytes.{is_blank, is_name_start, is_digit, is_name_byte, goes_on, is_in_line, is_in_string, base_of, is_digit_in}
use Rattle.cx_lex.specs.Lex.{sign_bytes, IsLongest, IsWord, IsToken, name, number, literal, string, sign, HasNoClose, IsGap, blank, line_comment, block_comment, BeginsNoToken, IsFault, bad_byte, open_comment, open_string, long_string, long_name, bad_literal}
use Rattle.cx_lex.specs.Reading.{Read, name_at, goes_on_at, number_of, literal_of, based_at, literal_at, behind_digits, numeric_at, behind_body, string_at, after_close, commented, comment_at, short_sign, long_sign, signed, longest_of, sign_at, item_at}
use Rattle.cx_lex.proofs.TestLemmas.{chosen, pick_true}
use Rattle.cx_lex.proofs.DigitLemmas.{front_digits}
use Rattle.cx_lex.proofs.ByteLemmas.{is_name_start-name_byte, string_stop, some_of_zero}
use Rattle.cx_lex.proofs.SignLemmas.{short_or_long, IsShort, IsLong, short_sign-bytes, long_sign-bytes, length-sign_bytes-le}
use Rattle.cx_lex.proofs.AgainLemmas.{front_at, item_at-digit, token_again, stray_again, open_string_again, long_string_again, long_name_again, close_none}
use Rattle.cx_text.proofs.BoolLaws.{by_test, none_goes_on}

-- the first bytes are a token of this kind or, with none, a blank or a comment
abbrev pub IsItem : Option TokenKind → List ℕ → List ℕ → Type 0
IsItem None bytes rest = IsGap bytes rest
IsItem (Some kind) bytes rest = IsToken bytes rest kind

-- the text is an item and the rest
pub record Taken (text : List ℕ) (found : Option TokenKind) (rest : List ℕ) : Type 0 where
  pub bytes : List ℕ
  pub whole : text ≡ bytes ++ rest
  pub item : IsItem found bytes rest

-- the answer is right of the text
abbrev pub Reads : List ℕ → Read → Type 0
Reads text (Ok x) = Taken text x.0 x.1
Reads text (Err kind) = IsFault text kind

-- a token is taken, and no blank or comment
abbrev TakesToken : List ℕ → Option TokenKind → List ℕ → Type 0
TakesToken text None rest = ⊥
TakesToken text (Some kind) rest = Taken text (Some kind) rest

taken_token : (text : List ℕ) (found : Option TokenKind) (rest : List ℕ) → TakesToken text found rest → Taken text found rest
taken_token text None rest h = absurd h
taken_token text (Some kind) rest h = h

-- the same, where there is a token or a bad literal
abbrev ReadsNumeric : List ℕ → Read → Type 0
ReadsNumeric text (Ok x) = TakesToken text x.0 x.1
ReadsNumeric text (Err kind) = kind ≡ BadLiteral

-- names
word_reads : (b : ℕ) (more rest : List ℕ) → IsWord b more rest → Reads (b ∷ more ++ rest) (if nat_lt 255 (length (b ∷ more)) then Err BadLiteral else Ok (Some (kinds.Word (b ∷ more)), rest))
word_reads b more rest w = by_test (Reads (b ∷ more ++ rest)) (nat_lt 255 (length (b ∷ more))) _ _
    (λ long. long_name b more rest w (ltb-true 255 (length (b ∷ more)) long))
    (λ short. record { bytes = b ∷ more; whole = refl; item = name w (ltb-false 255 (length (b ∷ more)) short) })

name_reads : (b : ℕ) (text : List ℕ) → is_name_start b ≡ true → Reads (b ∷ text) (name_at (b ∷ text))
name_reads b text start =
    let begins = is_name_start-name_byte b start in
    let more = front is_name_byte text in
    let rest = back is_name_byte text in
    let fronts : front is_name_byte (b ∷ text) ≡ b ∷ more = pick_true (is_name_byte b) _ _ begins in
    let backs : back is_name_byte (b ∷ text) ≡ rest = pick_true (is_name_byte b) _ _ begins in
    let w : IsWord b more rest = record { begins = start; each = front_passes is_name_byte text; longest = back_stops is_name_byte text } in
    let reads : Reads (b ∷ text) (if nat_lt 255 (length (b ∷ more)) then Err BadLiteral else Ok (Some (kinds.Word (b ∷ more)), rest)) = subst (λ t. Reads (b ∷ t) (if nat_lt 255 (length (b ∷ more)) then Err BadLiteral else Ok (Some (kinds.Word (b ∷ more)), rest))) (front-back is_name_byte text) (word_reads b more rest w) in
    subst (λ f. Reads (b ∷ text) (if nat_lt 255 (length f) then Err BadLiteral else Ok (Some (kinds.Word f), back is_name_byte (b ∷ text)))) (sym fronts)
    (subst (λ r. Reads (b ∷ text) (if nat_lt 255 (length (b ∷ more)) then Err BadLiteral else Ok (Some (kinds.Word (b ∷ more)), r))) (sym backs) reads)

-- numbers and literals
number_reads : (digits rest : List ℕ) → AllDigits 10 digits → Stops goes_on rest → ReadsNumeric (digits ++ rest) (number_of digits rest)
number_reads digits rest each stop = by_test (ReadsNumeric (digits ++ rest)) (length digits == 0) _ _
    (λ _. refl)
    (λ some. by_test (ReadsNumeric (digits ++ rest)) (nat_lt (digits_value 10 digits) (2 ^ 64)) _ _
    (λ fits. record { bytes = digits; whole = refl; item = number (some_of_zero (length digits) some, each) (ltb-true _ _ fits) stop })
    (λ _. refl))

stops_of : (rest : List ℕ) → goes_on_at rest ≡ false → Stops goes_on rest
stops_of [] h = tt
stops_of (b ∷ rest) h = h

valued_reads : (width : List ℕ) (letter base : ℕ) (digits rest : List ℕ) → AllDigits 10 width → base_of letter ≡ Some base → AllDigits base digits
    → ReadsNumeric (width ++ (39 ∷ letter ∷ digits ++ rest)) (literal_of width base digits rest)
valued_reads width letter base digits rest wide eb each = by_test (ReadsNumeric (width ++ (39 ∷ letter ∷ digits ++ rest))) (goes_on_at rest || length width == 0 || length digits == 0) _ _
    (λ _. refl)
    (λ ends. let parts = none_goes_on (goes_on_at rest) (length width == 0) (length digits == 0) ends in
    by_test (ReadsNumeric (width ++ (39 ∷ letter ∷ digits ++ rest))) (nat_lt (digits_value 10 width) (2 ^ 32) && nat_lt (digits_value base digits) (2 ^ 128)) _ _
    (λ fits. let sizes = and_parts (nat_lt (digits_value 10 width) (2 ^ 32)) (nat_lt (digits_value base digits) (2 ^ 128)) fits in record {
      bytes = width ++ 39 ∷ letter ∷ digits;
      whole = sym (append_assoc width (39 ∷ letter ∷ digits) rest);
      item = literal width letter base digits (some_of_zero (length width) parts.1, wide) (ltb-true _ _ sizes.0) eb (some_of_zero (length digits) parts.2, each) (ltb-true _ _ sizes.1) (stops_of rest parts.0);
    })
    (λ _. refl))

based_reads : (width : List ℕ) (letter : ℕ) (text : List ℕ) → AllDigits 10 width → (o : Option ℕ) → base_of letter ≡ o → ReadsNumeric (width ++ 39 ∷ letter ∷ text) (based_at width o text)
based_reads width letter text wide None e = refl
based_reads width letter text wide (Some base) e =
    subst (λ t. ReadsNumeric (width ++ (39 ∷ letter ∷ t)) (literal_of width base (front (is_digit_in base) text) (back (is_digit_in base) text))) (front-back (is_digit_in base) text)
    (valued_reads width letter base (front (is_digit_in base) text) (back (is_digit_in base) text) wide e (front_digits base text))

literal_reads : (width text : List ℕ) → AllDigits 10 width → ReadsNumeric (width ++ 39 ∷ text) (literal_at width text)
literal_reads width [] wide = refl
literal_reads width (letter ∷ text) wide = based_reads width letter text wide (base_of letter) refl

behind_reads : (digits rest : List ℕ) → AllDigits 10 digits → ReadsNumeric (digits ++ rest) (behind_digits digits rest)
behind_reads digits [] each = number_reads digits [] each tt
behind_reads digits (b ∷ rest) each = by_test (ReadsNumeric (digits ++ b ∷ rest)) (b == 39) _ _
    (λ tick. subst (λ c. ReadsNumeric (digits ++ c ∷ rest) (literal_at digits rest)) (sym (eqb-true b 39 tick)) (literal_reads digits rest each))
    (λ _. by_test (ReadsNumeric (digits ++ b ∷ rest)) (goes_on b) _ _ (λ _. refl) (λ stop. number_reads digits (b ∷ rest) each stop))

numeric_reads : (text : List ℕ) → ReadsNumeric text (numeric_at text)
numeric_reads text = subst (λ t. ReadsNumeric t (numeric_at text)) (front-back (is_digit_in 10) text) (behind_reads (front (is_digit_in 10) text) (back (is_digit_in 10) text) (front_digits 10 text))

-- where nothing is read, no token begins
no_token : (text : List ℕ) (kind : LexKind) → front_at text ≡ Err kind → BeginsNoToken text
no_token text kind e bytes rest found whole token =
    let again = token_again token in
    let same : front_at (bytes ++ rest) ≡ Err kind = ap front_at (sym whole) ∙ e in
    absurd (cc)

digit_reads : (b : ℕ) (text : List ℕ) → is_digit b ≡ true → (r : Read) → item_at b text ≡ r → ReadsNumeric (b ∷ text) r → Reads (b ∷ text) r
digit_reads b text digit (Ok x) e h = taken_token (b ∷ text) x.0 x.1 h
digit_reads b text digit (Err kind) e h = subst (IsFault (b ∷ text)) (sym h) (bad_literal digit (no_token (b ∷ text) kind e))

-- strings
body_reads : (body rest : List ℕ) → list_all is_in_string body ≡ true → Stops is_in_string rest → Reads (34 ∷ body ++ rest) (behind_body body rest)
body_reads body [] each stop = open_string body [] each tt
body_reads body (b ∷ rest) each stop = by_test (Reads (34 ∷ body ++ b ∷ rest)) (b == 34) _ _
    (λ quote. subst (λ c. Reads (34 ∷ body ++ c ∷ rest) (if nat_lt 255 (length body) then Err BadLiteral else Ok (Some (kinds.Text body), rest))) (sym (eqb-true b 34 quote))
    (by_test (Reads (34 ∷ body ++ 34 ∷ rest)) (nat_lt 255 (length body)) _ _
    (λ long. long_string body rest each (ltb-true 255 (length body) long))
    (λ short. record { bytes = 34 ∷ body ++ 34 ∷ []; whole = ap (λ t. 34 ∷ t) (sym (append_assoc body (34 ∷ []) rest)); item = string body each (ltb-false 255 (length body) short) })))
    (λ other. open_string body (b ∷ rest) each (string_stop b (λ e. absurd (let f = eqb-false b 34 other in f e)) stop))

string_reads : (text : List ℕ) → Reads (34 ∷ text) (string_at text)
string_reads text = subst (λ t. Reads (34 ∷ t) (string_at text)) (front-back is_in_string text) (body_reads (front is_in_string text) (back is_in_string text) (front_passes is_in_string text) (back_stops is_in_string text))

-- comments
line_reads : (text : List ℕ) → Reads (47 ∷ 47 ∷ text) (Ok (None, back is_in_line text))
line_reads text = record {
  bytes = 47 ∷ 47 ∷ front is_in_line text;
  whole = ap (λ t. 47 ∷ 47 ∷ t) (sym (front-back is_in_line text));
  item = line_comment (front_passes is_in_line text) (back_stops is_in_line text);
}

-- the bytes up to the first `*/`, behind a star or not
record ClosesAt (star : Bool) (text rest : List ℕ) : Type 0 where
  pub body : List ℕ
  pub whole : text ≡ body ++ 42 ∷ 47 ∷ rest
  pub open_body : HasNoClose body
  pub no_slash : star ≡ true → (after : List ℕ) → body ≢ 47 ∷ after

-- bytes in which no comment is closed, behind one that closes none with them
one_more : (b : ℕ) (body : List ℕ) → HasNoClose body → ((b == 42) ≡ true → (after : List ℕ) → body ≢ 47 ∷ after) → HasNoClose (b ∷ body)
one_more b body h no_slash [] after e = let first : b ≡ 42 = cc in let rest : body ≡ 47 ∷ after = cc in no_slash (eq-eqb b 42 first) after rest
one_more b body h no_slash (c ∷ before) after e = let rest : body ≡ before ++ 42 ∷ 47 ∷ after = cc in h before after rest

closes : (star : Bool) (text rest : List ℕ) → after_close star text ≡ Some rest → ClosesAt star text rest ⊎ ((star ≡ true) × (text ≡ 47 ∷ rest))
closes star [] rest e = absurd (cc)
closes star (b ∷ text) rest e = ⊎_elim
    (λ closed. let parts = and_parts star (b == 47) closed.0 in let same : text ≡ rest = let f = closed.1 in cc in inr (parts.0, ap (λ c. c ∷ text) (eqb-true b 47 parts.1) ∙ ap (λ t. 47 ∷ t) same))
    (λ later. inl (⊎_elim
    (λ (inner : ClosesAt (b == 42) text rest). record {
      body = b ∷ inner.body;
      whole = ap (λ t. b ∷ t) inner.whole;
      open_body = one_more b inner.body inner.open_body inner.no_slash;
      no_slash = λ starred after same. let first : b ≡ 47 = cc in both_false star (b == 47) starred (eq-eqb b 47 first) later.0;
    })
    (λ (now : ((b == 42) ≡ true) × (text ≡ 47 ∷ rest)). record {
      body = [];
      whole = ap (λ c. c ∷ text) (eqb-true b 42 now.0) ∙ ap (λ t. 42 ∷ t) now.1;
      open_body = empty_open;
      no_slash = λ starred after same. absurd (cc);
    })
    (closes (b == 42) text rest later.1)))
    (chosen (star && b == 47) (Some text) (after_close (b == 42) text) (Some rest) e)
  where
    both_false : (s t : Bool) → s ≡ true → t ≡ true → (s && t) ≡ false → ⊥
    both_false s t es et h = absurd (cc)

    empty_open : HasNoClose []
    empty_open [] after e = absurd (cc)
    empty_open (c ∷ before) after e = absurd (cc)

-- where none is closed, no `*/` stands
never_closes : (star : Bool) (body rest : List ℕ) → after_close star (body ++ 42 ∷ 47 ∷ rest) ≢ None
never_closes true [] rest e = absurd (cc)
never_closes false [] rest e = absurd (cc)
never_closes star (b ∷ body) rest e = ⊎_elim
    (λ closed. let f = closed.1 in absurd (cc))
    (λ later. never_closes (b == 42) body rest later.1)
    (chosen (star && b == 47) (Some (body ++ 42 ∷ 47 ∷ rest)) (after_close (b == 42) (body ++ 42 ∷ 47 ∷ rest)) None e)

block_reads : (text : List ℕ) (o : Option (List ℕ)) → after_close false text ≡ o → Reads (47 ∷ 42 ∷ text) (commented o)
block_reads text None e = open_comment (λ before after same. never_closes false before after (ap (after_close false) (sym same) ∙ e))
block_reads text (Some rest) e = ⊎_elim
    (λ (c : ClosesAt false text rest). record {
      bytes = 47 ∷ 42 ∷ c.body ++ 42 ∷ 47 ∷ [];
      whole = ap (λ t. 47 ∷ 42 ∷ t) (c.whole ∙ sym (append_assoc c.body (42 ∷ 47 ∷ []) rest));
      item = block_comment c.body c.open_body;
    })
    (λ (starred : (false ≡ true) × (text ≡ 47 ∷ rest)). absurd (let f = starred.0 in cc))
    (closes false text rest e)

-- signs and stray bytes
abbrev NoSign : List ℕ → Type 0
NoSign text = (s : Sign) (after : List ℕ) → text ≢ sign_bytes s ++ after

short_reads : (b : ℕ) (rest : List ℕ) → ((t : Sign) (after : List ℕ) → b ∷ rest ≡ sign_bytes t ++ after → length (sign_bytes t) ≤ 1) → (o : Option Sign) → short_sign b ≡ o → (NoSign (b ∷ rest) → IsFault (b ∷ rest) BadByte) → Reads (b ∷ rest) (signed o rest)
short_reads b rest shorter None e stray = stray (λ s after same. ⊎_elim
    (λ (h : IsShort s). let first : b ≡ h.0 = let whole = same ∙ ap (λ bytes. bytes ++ after) h.1 in cc in let found : short_sign b ≡ Some s = ap short_sign first ∙ h.2 in absurd (cc))
    (λ (h : IsLong s). let two = ap length h.2 in let one = shorter s after same in absurd (omega arith))
    (short_or_long s))
short_reads b rest shorter (Some s) e stray =
    let bytes = short_sign-bytes b s e in
    let one = ap length bytes in
    let longest : IsLongest s (sign_bytes s ++ rest) = λ other after same. let le = shorter other after (ap (λ bs. bs ++ rest) (sym bytes) ∙ same) in omega arith in
    record { bytes = sign_bytes s; whole = ap (λ bs. bs ++ rest) (sym bytes); item = sign s longest }

long_reads : (b c : ℕ) (rest : List ℕ) → (o : Option Sign) → long_sign b c ≡ o → (NoSign (b ∷ c ∷ rest) → IsFault (b ∷ c ∷ rest) BadByte) → Reads (b ∷ c ∷ rest) (longest_of o b c rest)
long_reads b c rest None e stray = short_reads b (c ∷ rest) (λ t after same. ⊎_elim
    (λ (h : IsShort t). let one = ap length h.1 in omega arith)
    (λ (h : IsLong t). let whole : b ∷ c ∷ rest ≡ h.0 ∷ h.1 ∷ after = same ∙ ap (λ bytes. bytes ++ after) h.2 in let first : b ≡ h.0 = cc in let second : c ≡ h.1 = cc in let found : long_sign b c ≡ Some t = ap (λ a. long_sign a c) first ∙ ap (long_sign h.0) second ∙ h.3 in absurd (cc))
    (short_or_long t)) (short_sign b) refl stray
long_reads b c rest (Some s) e stray =
    let bytes = long_sign-bytes s b c e in
    let two = ap length bytes in
    let longest : IsLongest s (sign_bytes s ++ rest) = λ other after same. let le = length-sign_bytes-le other in omega arith in
    record { bytes = sign_bytes s; whole = ap (λ bs. bs ++ rest) (sym bytes); item = sign s longest }

sign_reads : (b : ℕ) (rest : List ℕ) → (NoSign (b ∷ rest) → IsFault (b ∷ rest) BadByte) → Reads (b ∷ rest) (sign_at b rest)
sign_reads b [] stray = short_reads b [] (λ t after same. let whole = ap length same in let parts = length-append (sign_bytes t) after in omega arith) (short_sign b) refl stray
sign_reads b (c ∷ rest) stray = long_reads b c rest (long_sign b c) refl stray

no_long_slash : (c : ℕ) → long_sign 47 c ≡ None
no_long_slash c = by_test (λ o. o ≡ None) (c == 61) _ _ (λ _. refl) (λ _. by_test (λ o. o ≡ None) (c == 62) _ _ (λ _. refl) (λ _. refl))

slash_stray : (rest : List ℕ) → ((after : List ℕ) → 47 ∷ rest ≢ 47 ∷ 47 ∷ after) → ((after : List ℕ) → 47 ∷ rest ≢ 47 ∷ 42 ∷ after) → IsFault (47 ∷ rest) BadByte
slash_stray rest line block = bad_byte (record {
  no_blank = refl;
  no_name = refl;
  no_digit = refl;
  no_quote = λ e. omega arith;
  no_line_comment = line;
  no_block_comment = block;
  no_sign = λ s after same. ⊎_elim
      (λ (h : IsShort s). let first : h.0 ≡ 47 = let whole = same ∙ ap (λ bytes. bytes ++ after) h.1 in cc in let found : short_sign 47 ≡ Some s = ap short_sign (sym first) ∙ h.2 in absurd (cc))
      (λ (h : IsLong s). let first : h.0 ≡ 47 = let whole = same ∙ ap (λ bytes. bytes ++ after) h.2 in cc in let found : long_sign 47 h.1 ≡ Some s = ap (λ a. long_sign a h.1) (sym first) ∙ h.3 in let none = no_long_slash h.1 in absurd (cc))
      (short_or_long s);
})

comment_reads : (text : List ℕ) → Reads (47 ∷ text) (comment_at text)
comment_reads [] = slash_stray [] (λ after e. absurd (cc)) (λ after e. absurd (cc))
comment_reads (b ∷ text) = by_test (Reads (47 ∷ b ∷ text)) (b == 47) _ _
    (λ slash. subst (λ c. Reads (47 ∷ c ∷ text) (Ok (None, back is_in_line text))) (sym (eqb-true b 47 slash)) (line_reads text))
    (λ no_line. by_test (Reads (47 ∷ b ∷ text)) (b == 42) _ _
    (λ star. subst (λ c. Reads (47 ∷ c ∷ text) (commented (after_close false text))) (sym (eqb-true b 42 star)) (block_reads text (after_close false text) refl))
    (λ no_block. slash_stray (b ∷ text) (λ after e. let same : b ≡ 47 = cc in let f = eqb-false b 47 no_line in f same) (λ after e. let same : b ≡ 42 = cc in let f = eqb-false b 42 no_block in f same)))

-- what is answered is right of every text
pub item_reads : (b : ℕ) (text : List ℕ) → Reads (b ∷ text) (item_at b text)
item_reads b text = by_test (Reads (b ∷ text)) (is_blank b) _ _
    (λ blank_byte. record { bytes = b ∷ []; whole = refl; item = blank blank_byte })
    (λ no_blank. by_test (Reads (b ∷ text)) (is_name_start b) _ _
    (λ start. name_reads b text start)
    (λ no_name. by_test (Reads (b ∷ text)) (is_digit b) _ _
    (λ digit. digit_reads b text digit (numeric_at (b ∷ text)) (item_at-digit b text digit) (numeric_reads (b ∷ text)))
    (λ no_digit. by_test (Reads (b ∷ text)) (b == 34) _ _
    (λ quote. subst (λ c. Reads (c ∷ text) (string_at text)) (sym (eqb-true b 34 quote)) (string_reads text))
    (λ no_quote. by_test (Reads (b ∷ text)) (b == 47) _ _
    (λ slash. subst (λ c. Reads (c ∷ text) (comment_at text)) (sym (eqb-true b 47 slash)) (comment_reads text))
    (λ no_slash. sign_reads b text (λ none. bad_byte (record {
      no_blank = no_blank;
      no_name = no_name;
      no_digit = no_digit;
      no_quote = eqb-false b 34 no_quote;
      no_line_comment = λ after e. let same : b ≡ 47 = cc in let f = eqb-false b 47 no_slash in f same;
      no_block_comment = λ after e. let same : b ≡ 47 = cc in let f = eqb-false b 47 no_slash in f same;
      no_sign = none;
    })))))))

-- a fault is read again
pub fault_again : {text : List ℕ} {kind : LexKind} → IsFault text kind → front_at text ≡ Err kind
fault_again (bad_byte {b = b} {rest = rest} h) = stray_again b rest h
fault_again (open_comment {rest = rest} h) = ap commented (close_none false rest h)
fault_again (open_string body rest each stop) = open_string_again body rest each stop
fault_again (long_string body rest each long) = long_string_again body rest each long
fault_again (long_name first more rest w long) = long_name_again first more rest w long
fault_again (bad_literal {digit = digit} {rest = rest} is h) = item_at-digit digit rest is ∙ refused (numeric_at (digit ∷ rest)) (numeric_reads (digit ∷ rest))
  where
    refused : (r : Read) → ReadsNumeric (digit ∷ rest) r → r ≡ Err BadLiteral
    refused (Err kind) e = ap Err e
    refused (Ok x) taken = absurd (no_taken x.0 x.1 taken)
      where
        no_taken : (found : Option TokenKind) (after : List ℕ) → TakesToken (digit ∷ rest) found after → ⊥
        no_taken None after taken = taken
        no_taken (Some kind) after taken = h taken.bytes after kind taken.whole taken.item
