-- Pieces that do not run into one another are read again from their layout.
use Rattle.std.proofs.Common.{◌≡◌, ◌≢◌, ℕ, ◌<◌, ◌^◌, ◌==◌, Bool, true, false, ◌&&◌, ◌||◌, List, [], ◌∷◌, ◌++◌, length, ◌⊎◌, inl, inr, ⊎_elim, refl, sym, ◌∙◌, ap, subst, arith, append_assoc}
use Rattle.std.proofs.lemmas.List.{append-nil}
use Rattle.std.proofs.lemmas.Bool.{and_parts, and_from, lt-ltb}
use Rattle.std.proofs.lemmas.Bool.Decides.{nat_tests}
use Rattle.std.proofs.lemmas.Fmt.{decimal_is_IsNumeral_wide}
use Rattle.std.specs.Fmt.{decimal}
use Rattle.std.specs.List.{list_all}
use Rattle.std.specs.Str.Parse.{IsNumeral, digits_value}
use Rattle.cx_text.specs.declared.places.Place.{Place}
use Rattle.cx_text.specs.Places.{start, after_bytes}
use Rattle.cx_ast.specs.declared.signs.Sign.{Sign}
use Rattle.cx_ast.specs.declared.signs.Sign.TheVariants as signs
use Rattle.cx_ast.specs.declared.tokens.Token.{Token}
use Rattle.cx_ast.specs.declared.tokens.TokenKind.{TokenKind}
use Rattle.cx_ast.specs.declared.tokens.TokenKind.TheVariants as kinds
use Rattle.cx_ast.specs.PlainTokens.{kinds_of}
use Rattle.cx_text.specs.Spans.{Stops}
use Rattle.cx_lex.specs.Bytes.{is_blank, is_name_start, is_name_byte, goes_on, is_digit_in}
use Rattle.cx_lex.specs.Lex.{sign_bytes, IsLongest, IsToken, name, number, literal, string, sign, blank, HasTokens, ended, gap, token}
use Rattle.cx_lex.proofs.SignLemmas.{short_or_long, IsShort, IsLong, length-sign_bytes-le}
use Rattle.cx_print.specs.declared.pieces.Gap.{Gap}
use Rattle.cx_print.specs.declared.pieces.Gap.TheVariants.{Tight, Space, Line}
use Rattle.cx_print.specs.declared.pieces.Piece.{Piece}
use Rattle.cx_print.specs.Pieces.{kinds_in}
use Rattle.cx_print.specs.Layout.{IsWritable, AreWritable, token_bytes, IsGapOf, IsLaidOut, AppendsBlanks, AppendsGap, AppendsLayout, AppendsTokens}
use Rattle.cx_print.specs.Layout as layout
use Rattle.cx_print.proofs.GapLemmas.{is_wordy, first_of, begins_equal, MayFollow, AreLoose}

-- what may stand behind a token: nothing that begins with `=`, and behind a word nothing that goes on with it
abbrev Safe : Bool → List ℕ → Type 0
Safe wordy text = Stops (λ b. b == 61) text × (wordy ≡ true → Stops goes_on text)

blank_safe : (b : ℕ) → is_blank b ≡ true → ((b == 61) ≡ false) × (goes_on b ≡ false)
blank_safe b h = (grind (arith, nat_tests), grind (arith, nat_tests))

name_no_equal : (b : ℕ) → is_name_start b ≡ true → (b == 61) ≡ false
name_no_equal b h = grind (arith, nat_tests)

digit_no_equal : (b : ℕ) → is_digit_in 10 b ≡ true → (b == 61) ≡ false
digit_no_equal b h = grind (arith, nat_tests)

name_stops : (rest : List ℕ) → Stops goes_on rest → Stops is_name_byte rest
name_stops [] h = tt
name_stops (b ∷ rest) h = first (is_name_byte b) (b == 39) h
  where
    first : (s t : Bool) → (s || t) ≡ false → s ≡ false
    first true t e = absurd (cc)
    first false t e = refl

-- the first byte of each kind of token
digits_no_equal : (digits rest : List ℕ) → IsNumeral 10 digits → Stops (λ b. b == 61) (digits ++ rest)
digits_no_equal [] rest h = absurd (let some = h.0 in omega arith)
digits_no_equal (d ∷ digits) rest h = digit_no_equal d (lt-ltb _ _ h.1.0)

word_no_equal : (bytes rest : List ℕ) → IsWritable (kinds.Word bytes) → Stops (λ b. b == 61) (bytes ++ rest)
word_no_equal [] rest h = absurd h
word_no_equal (first ∷ more) rest h = name_no_equal first h.0

wide_number : (n : ℕ) → n < 2 ^ 128 → IsNumeral 10 (decimal n) × (digits_value 10 (decimal n) ≡ n)
wide_number n h = decimal_is_IsNumeral_wide n (omega arith)

sign_first : (s : Sign) (rest : List ℕ) → (first_of (sign_bytes s) == 61) ≡ false → Stops (λ b. b == 61) (sign_bytes s ++ rest) × Stops goes_on (sign_bytes s ++ rest)
sign_first signs.OpenBrace rest h = (refl, refl)
sign_first signs.CloseBrace rest h = (refl, refl)
sign_first signs.OpenParen rest h = (refl, refl)
sign_first signs.CloseParen rest h = (refl, refl)
sign_first signs.OpenBracket rest h = (refl, refl)
sign_first signs.CloseBracket rest h = (refl, refl)
sign_first signs.Less rest h = (refl, refl)
sign_first signs.Greater rest h = (refl, refl)
sign_first signs.Semicolon rest h = (refl, refl)
sign_first signs.Colon rest h = (refl, refl)
sign_first signs.Comma rest h = (refl, refl)
sign_first signs.Dot rest h = (refl, refl)
sign_first signs.Equal rest h = absurd (cc)
sign_first signs.Question rest h = (refl, refl)
sign_first signs.Not rest h = (refl, refl)
sign_first signs.And rest h = (refl, refl)
sign_first signs.Or rest h = (refl, refl)
sign_first signs.At rest h = (refl, refl)
sign_first signs.Percent rest h = (refl, refl)
sign_first signs.EqualEqual rest h = absurd (cc)
sign_first signs.NotEqual rest h = (refl, refl)
sign_first signs.LessEqual rest h = (refl, refl)
sign_first signs.GreaterEqual rest h = (refl, refl)
sign_first signs.Arrow rest h = (refl, refl)

tight_safe : (wordy : Bool) (kind : TokenKind) (rest : List ℕ) → IsWritable kind → ((is_wordy kind && wordy) ≡ false) × (begins_equal kind ≡ false) → Safe wordy (token_bytes kind ++ rest)
tight_safe wordy (kinds.Word bytes) rest h may = (word_no_equal bytes rest h, λ e. let f = may.0 in absurd (cc))
tight_safe wordy (kinds.Number n) rest h may = (digits_no_equal (decimal n) rest (wide_number n (omega arith)).0, λ e. let f = may.0 in absurd (cc))
tight_safe wordy (kinds.Literal width value) rest h may = (subst (Stops (λ b. b == 61)) (sym (append_assoc (decimal width) (39 ∷ 100 ∷ decimal value) rest)) (digits_no_equal (decimal width) _ (wide_number width (let small = h.0 in omega arith)).0), λ e. let f = may.0 in absurd (cc))
tight_safe wordy (kinds.Text bytes) rest h may = (refl, λ e. refl)
tight_safe wordy (kinds.Sign s) rest h may = let parts = sign_first s rest may.1 in (parts.0, λ e. parts.1)

some_blanks_safe : (wordy : Bool) (blanks rest : List ℕ) → (blanks ≢ []) × (list_all is_blank blanks ≡ true) → Safe wordy (blanks ++ rest)
some_blanks_safe wordy [] rest h = absurd (h.0 refl)
some_blanks_safe wordy (b ∷ blanks) rest h = let first = blank_safe b (and_parts (is_blank b) (list_all is_blank blanks) h.1).0 in (first.0, λ e. first.1)

piece_safe : (wordy : Bool) (gap : Gap) (kind : TokenKind) (blanks rest : List ℕ) → MayFollow wordy gap kind → IsWritable kind → IsGapOf gap blanks → Safe wordy (blanks ++ (token_bytes kind ++ rest))
piece_safe wordy Tight kind blanks rest may h g = subst (λ bs. Safe wordy (bs ++ (token_bytes kind ++ rest))) (sym g) (tight_safe wordy kind rest h (may refl))
piece_safe wordy Space kind blanks rest may h g = some_blanks_safe wordy blanks (token_bytes kind ++ rest) g
piece_safe wordy Line kind blanks rest may h g = some_blanks_safe wordy blanks (token_bytes kind ++ rest) g

layout_safe : (wordy : Bool) (ps : List Piece) (text : List ℕ) → AreLoose wordy ps → AreWritable (kinds_in ps) → IsLaidOut ps text → Safe wordy text
layout_safe wordy ps text loose h layout.ended = (refl, λ e. refl)
layout_safe wordy ps text loose h (layout.piece {p = p} {ps = later} blanks {rest = rest} g more) = piece_safe wordy p.gap p.kind blanks rest loose.0 h.0 g

-- a sign stands for itself where nothing behind it begins with `=`
long_ends : (s : Sign) (x y : ℕ) → sign_bytes s ≡ x ∷ y ∷ [] → (y ≡ 61) ⊎ (x ≡ 45)
long_ends signs.OpenBrace x y e = absurd (cc)
long_ends signs.CloseBrace x y e = absurd (cc)
long_ends signs.OpenParen x y e = absurd (cc)
long_ends signs.CloseParen x y e = absurd (cc)
long_ends signs.OpenBracket x y e = absurd (cc)
long_ends signs.CloseBracket x y e = absurd (cc)
long_ends signs.Less x y e = absurd (cc)
long_ends signs.Greater x y e = absurd (cc)
long_ends signs.Semicolon x y e = absurd (cc)
long_ends signs.Colon x y e = absurd (cc)
long_ends signs.Comma x y e = absurd (cc)
long_ends signs.Dot x y e = absurd (cc)
long_ends signs.Equal x y e = absurd (cc)
long_ends signs.Question x y e = absurd (cc)
long_ends signs.Not x y e = absurd (cc)
long_ends signs.And x y e = absurd (cc)
long_ends signs.Or x y e = absurd (cc)
long_ends signs.At x y e = absurd (cc)
long_ends signs.Percent x y e = absurd (cc)
long_ends signs.EqualEqual x y e = inl (cc)
long_ends signs.NotEqual x y e = inl (cc)
long_ends signs.LessEqual x y e = inl (cc)
long_ends signs.GreaterEqual x y e = inl (cc)
long_ends signs.Arrow x y e = inr (cc)

no_short_dash : (s : Sign) → sign_bytes s ≢ 45 ∷ []
no_short_dash signs.OpenBrace e = let first = ap first_of e in let count = ap length e in absurd (omega arith)
no_short_dash signs.CloseBrace e = let first = ap first_of e in let count = ap length e in absurd (omega arith)
no_short_dash signs.OpenParen e = let first = ap first_of e in let count = ap length e in absurd (omega arith)
no_short_dash signs.CloseParen e = let first = ap first_of e in let count = ap length e in absurd (omega arith)
no_short_dash signs.OpenBracket e = let first = ap first_of e in let count = ap length e in absurd (omega arith)
no_short_dash signs.CloseBracket e = let first = ap first_of e in let count = ap length e in absurd (omega arith)
no_short_dash signs.Less e = let first = ap first_of e in let count = ap length e in absurd (omega arith)
no_short_dash signs.Greater e = let first = ap first_of e in let count = ap length e in absurd (omega arith)
no_short_dash signs.Semicolon e = let first = ap first_of e in let count = ap length e in absurd (omega arith)
no_short_dash signs.Colon e = let first = ap first_of e in let count = ap length e in absurd (omega arith)
no_short_dash signs.Comma e = let first = ap first_of e in let count = ap length e in absurd (omega arith)
no_short_dash signs.Dot e = let first = ap first_of e in let count = ap length e in absurd (omega arith)
no_short_dash signs.Equal e = let first = ap first_of e in let count = ap length e in absurd (omega arith)
no_short_dash signs.Question e = let first = ap first_of e in let count = ap length e in absurd (omega arith)
no_short_dash signs.Not e = let first = ap first_of e in let count = ap length e in absurd (omega arith)
no_short_dash signs.And e = let first = ap first_of e in let count = ap length e in absurd (omega arith)
no_short_dash signs.Or e = let first = ap first_of e in let count = ap length e in absurd (omega arith)
no_short_dash signs.At e = let first = ap first_of e in let count = ap length e in absurd (omega arith)
no_short_dash signs.Percent e = let first = ap first_of e in let count = ap length e in absurd (omega arith)
no_short_dash signs.EqualEqual e = let first = ap first_of e in let count = ap length e in absurd (omega arith)
no_short_dash signs.NotEqual e = let first = ap first_of e in let count = ap length e in absurd (omega arith)
no_short_dash signs.LessEqual e = let first = ap first_of e in let count = ap length e in absurd (omega arith)
no_short_dash signs.GreaterEqual e = let first = ap first_of e in let count = ap length e in absurd (omega arith)
no_short_dash signs.Arrow e = let first = ap first_of e in let count = ap length e in absurd (omega arith)

stops_at : (b : ℕ) (rest : List ℕ) → Stops (λ b. b == 61) (b ∷ rest) → b ≢ 61
stops_at b rest h e = let equal : (b == 61) ≡ true = ap (λ c. c == 61) e in absurd (cc)

sign_longest : (s : Sign) (rest : List ℕ) → Stops (λ b. b == 61) rest → IsLongest s (sign_bytes s ++ rest)
sign_longest s rest stop other after e = ⊎_elim
    (λ (short : IsShort s). ⊎_elim
    (λ (h : IsShort other). let one = ap length h.1 in let mine = ap length short.1 in omega arith)
    (λ (h : IsLong other).
    let whole : short.0 ∷ rest ≡ h.0 ∷ h.1 ∷ after = ap (λ bytes. bytes ++ rest) (sym short.1) ∙ e ∙ ap (λ bytes. bytes ++ after) h.2 in
    let first : short.0 ≡ h.0 = cc in
    let later : rest ≡ h.1 ∷ after = cc in
    absurd (⊎_elim
    (λ (equal : h.1 ≡ 61). stops_at h.1 after (subst (Stops (λ b. b == 61)) later stop) equal)
    (λ (dash : h.0 ≡ 45). no_short_dash s (short.1 ∙ ap (λ b. b ∷ []) (first ∙ dash)))
    (long_ends other h.0 h.1 h.2)))
    (short_or_long other))
    (λ (long : IsLong s). let two = ap length long.2 in let most = length-sign_bytes-le other in omega arith)
    (short_or_long s)

-- what is written is a token of its kind
token_written : (kind : TokenKind) (rest : List ℕ) → IsWritable kind → Safe (is_wordy kind) rest → IsToken (token_bytes kind) rest kind
token_written (kinds.Word []) rest h safe = absurd h
token_written (kinds.Word (first ∷ more)) rest h safe = name (record { begins = h.0; each = h.1; longest = name_stops rest (safe.1 refl) }) h.2
token_written (kinds.Number n) rest h safe =
    let digits = wide_number n (omega arith) in
    subst (λ m. IsToken (decimal n) rest (kinds.Number m)) digits.1 (number digits.0 (subst (λ m. m < 2 ^ 64) (sym digits.1) h) (safe.1 refl))
token_written (kinds.Literal width value) rest h safe =
    let wide = wide_number width (let small = h.0 in omega arith) in
    let digits = wide_number value h.1 in
    subst (λ w. IsToken (decimal width ++ 39 ∷ 100 ∷ decimal value) rest (kinds.Literal w value)) wide.1
    (subst (λ v. IsToken (decimal width ++ 39 ∷ 100 ∷ decimal value) rest (kinds.Literal (digits_value 10 (decimal width)) v)) digits.1
    (literal (decimal width) 100 10 (decimal value) wide.0 (subst (λ m. m < 2 ^ 32) (sym wide.1) h.0) refl digits.0 (subst (λ m. m < 2 ^ 128) (sym digits.1) h.1) (safe.1 refl)))
token_written (kinds.Text bytes) rest h safe = string bytes h.0 h.1
token_written (kinds.Sign s) rest h safe = sign s (sign_longest s rest safe.0)

-- blanks are passed
blanks_passed : (place : Place) (blanks text : List ℕ) (tokens : List Token) → list_all is_blank blanks ≡ true → HasTokens (after_bytes place blanks) text tokens → HasTokens place (blanks ++ text) tokens
blanks_passed place [] text tokens h more = more
blanks_passed place (b ∷ blanks) text tokens h more =
    let parts = and_parts (is_blank b) (list_all is_blank blanks) h in
    gap (b ∷ []) (blanks ++ text) (blank parts.0) (blanks_passed (after_bytes place (b ∷ [])) blanks text tokens parts.1 more)

all_blank : (gap : Gap) (blanks : List ℕ) → IsGapOf gap blanks → list_all is_blank blanks ≡ true
all_blank Tight blanks g = ap (list_all is_blank) g
all_blank Space blanks g = g.1
all_blank Line blanks g = g.1

-- the tokens of a layout
record ReadAgain (place : Place) (text : List ℕ) (wanted : List TokenKind) : Type 0 where
  pub tokens : List Token
  pub lexed : HasTokens place text tokens
  pub same : kinds_of tokens ≡ wanted

layout_read : (place : Place) (wordy : Bool) (ps : List Piece) (text : List ℕ) → AreLoose wordy ps → AreWritable (kinds_in ps) → IsLaidOut ps text → ReadAgain place text (kinds_in ps)
layout_read place wordy ps text loose h layout.ended = record { tokens = []; lexed = gap (10 ∷ []) [] (blank refl) ended; same = refl }
layout_read place wordy ps text loose h (layout.piece {p = p} {ps = later} blanks {rest = rest} g more) =
    let behind = after_bytes place blanks in
    let again = layout_read (after_bytes behind (token_bytes p.kind)) (is_wordy p.kind) later rest loose.1 h.1 more in
    let written = token_written p.kind rest h.0 (layout_safe (is_wordy p.kind) later rest loose.1 h.1 more) in
    record {
      tokens = record { kind = p.kind; place = behind } ∷ again.tokens;
      lexed = blanks_passed place blanks (token_bytes p.kind ++ rest) _ (all_blank p.gap blanks g) (token (token_bytes p.kind) rest p.kind written again.lexed);
      same = ap (λ ks. p.kind ∷ ks) again.same;
    }

-- a layout that is appended is a text with these tokens
pub layout-tokens : (ps : List Piece) (old text new : List ℕ) → AreLoose false ps → AreWritable (kinds_in ps) → AppendsLayout ps [] text → new ≡ old ++ text → AppendsTokens (kinds_in ps) old new
layout-tokens ps old text new loose h laid appended =
    let again = layout_read start false ps laid.0 loose h laid.2 in
    record { text = laid.0; tokens = again.tokens; appended = appended ∙ ap (λ t. old ++ t) laid.1; lexed = again.lexed; same = again.same }

-- one piece more is laid out
pub piece_appended : (all : List Piece) (old mid : List ℕ) (p : Piece) (later : List Piece) (blanks : List ℕ) → IsGapOf p.gap blanks
    → ((rest : List ℕ) → IsLaidOut (p ∷ later) rest → AppendsLayout all old (mid ++ rest))
    → (rest : List ℕ) → IsLaidOut later rest → AppendsLayout all old (((mid ++ blanks) ++ token_bytes p.kind) ++ rest)
piece_appended all old mid p later blanks g so_far rest more =
    subst (AppendsLayout all old)
    (sym (append_assoc (mid ++ blanks) (token_bytes p.kind) rest ∙ append_assoc mid blanks (token_bytes p.kind ++ rest)))
    (so_far (blanks ++ (token_bytes p.kind ++ rest)) (layout.piece blanks g more))

-- blanks and gaps as they are written
pub blanks_none : (old : List ℕ) → AppendsBlanks old old
blanks_none old = ([], sym (append-nil old), refl)

two_more : (blanks : List ℕ) → list_all is_blank blanks ≡ true → list_all is_blank (blanks ++ 32 ∷ 32 ∷ []) ≡ true
two_more [] h = refl
two_more (b ∷ blanks) h = let parts = and_parts (is_blank b) (list_all is_blank blanks) h in and_from (is_blank b) (list_all is_blank (blanks ++ 32 ∷ 32 ∷ [])) parts.0 (two_more blanks parts.1)

pub blanks_more : (old mid new : List ℕ) → AppendsBlanks old mid → new ≡ mid ++ 32 ∷ 32 ∷ [] → AppendsBlanks old new
blanks_more old mid new h e = (h.0 ++ 32 ∷ 32 ∷ [], e ∙ ap (λ t. t ++ 32 ∷ 32 ∷ []) h.1 ∙ append_assoc old h.0 (32 ∷ 32 ∷ []), two_more h.0 h.2)

pub line_gap : (old mid new : List ℕ) → mid ≡ old ++ 10 ∷ [] → AppendsBlanks mid new → AppendsGap Line old new
line_gap old mid new e h = (10 ∷ h.0, h.1 ∙ ap (λ t. t ++ h.0) e ∙ append_assoc old (10 ∷ []) h.0, ((λ f. absurd (cc)), h.2))

pub space_gap : (old new : List ℕ) → new ≡ old ++ 32 ∷ [] → AppendsGap Space old new
space_gap old new e = (32 ∷ [], e, ((λ f. absurd (cc)), refl))

-- nothing is laid out at first, and at the end a line feed completes the text
pub layout_start : (all : List Piece) (old rest : List ℕ) → IsLaidOut all rest → AppendsLayout all old (old ++ rest)
layout_start all old rest h = (rest, refl, h)

pub layout_end : (all left : List Piece) (old mid new : List ℕ) → left ≡ [] → ((rest : List ℕ) → IsLaidOut left rest → AppendsLayout all old (mid ++ rest)) → new ≡ mid ++ 10 ∷ [] → AppendsLayout all old new
layout_end all left old mid new e so_far appended = subst (AppendsLayout all old) (sym appended) (so_far (10 ∷ []) (subst (λ ps. IsLaidOut ps (10 ∷ [])) (sym e) layout.ended))

pub layout_more : (all left later : List Piece) (old mid gapped new : List ℕ) (p : Piece) → left ≡ p ∷ later → ((rest : List ℕ) → IsLaidOut left rest → AppendsLayout all old (mid ++ rest))
    → AppendsGap p.gap mid gapped → new ≡ gapped ++ token_bytes p.kind → (rest : List ℕ) → IsLaidOut later rest → AppendsLayout all old (new ++ rest)
layout_more all left later old mid gapped new p e so_far g appended rest more =
    subst (λ t. AppendsLayout all old (t ++ rest)) (sym (appended ∙ ap (λ t. t ++ token_bytes p.kind) g.1))
    (piece_appended all old mid p later g.0 g.2 (λ r laid. so_far r (subst (λ ps. IsLaidOut ps r) (sym e) laid)) rest more)
