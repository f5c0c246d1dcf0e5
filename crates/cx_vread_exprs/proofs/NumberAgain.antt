-- A number that is spelled is read.
use Rattle.std.proofs.Common.{◌≡◌, inl, ℕ, ◌+◌, ◌*◌, ◌<◌, zero, suc, ◌==◌, not, true, false, List, [], ◌∷◌, ◌++◌, map, get_or, Some, None, refl, ◌∙◌, ap, sym, subst, arith, ⊎_elim, if◌then◌else◌}
use Rattle.std.specs.Prelude.{codes}
use Rattle.std.specs.Char.{digit_value}
use Rattle.std.specs.Int.Digits.{digits_of, number_from_digits, AllBelowBase}
use Rattle.std.specs.List.{list_all}
use Rattle.std.specs.Str.Parse.{digits_value}
use Rattle.std.proofs.lemmas.Bool.{and_from}
use Rattle.std.proofs.lemmas.Bool.Decides.{nat_tests}
use Rattle.std.proofs.lemmas.Int.Digits.{digits_value_is, all_below_base_digits_of, first_digits_of, number_digits_of}
use Rattle.std.proofs.lemmas.Str.{digit_value-digit_char}
use Rattle.cx_vtree.specs.Lines.{glyph, number_text}
use Rattle.cx_vread_exprs.specs.Numbers.{IsBase}
use Rattle.cx_vread_exprs.specs.Places.{Place, then_reads}
use Rattle.cx_text.specs.Spans.{back, Stops}
use Rattle.cx_text.proofs.SpanLemmas.{front_again, back_again}
use Rattle.cx_vread_exprs.specs.Tokens.{is_digit_in, is_numeral, digits_at, number_at, any_number_at, capped}
use Rattle.cx_vtree.proofs.LinesLemmas.{positive_text}
use Rattle.cx_vread_exprs.proofs.NumbersLemmas.{two_least}

-- a place before these bytes, after parts that a tree holds
abbrev pub clean : List ℕ → Place
clean bytes = record { rest = bytes; fits = true }

below_sixteen : (base d : ℕ) → IsBase base → d < base → d < 16
below_sixteen base d one lt = ⊎_elim (λ ten. let e : base ≡ 10 = ten in omega arith) (λ sixteen. let e : base ≡ 16 = sixteen in omega arith) one

glyph_value : (d : ℕ) → d < 16 → digit_value (glyph d) ≡ d
glyph_value d lt = digit_value-digit_char d (omega arith)

decimal_glyph : (d : ℕ) → d < 10 → is_digit_in 10 (glyph d) ≡ true
decimal_glyph d lt = grind (arith, nat_tests)

hexadecimal_glyph : (d : ℕ) → d < 16 → is_digit_in 16 (glyph d) ≡ true
hexadecimal_glyph d lt = grind (arith, nat_tests)

glyph_digit : (base d : ℕ) → IsBase base → d < base → is_digit_in base (glyph d) ≡ true
glyph_digit base d one lt = ⊎_elim
    (λ ten. subst (λ n. is_digit_in n (glyph d) ≡ true) (sym ten) (decimal_glyph d (subst (λ n. d < n) ten lt)))
    (λ sixteen. subst (λ n. is_digit_in n (glyph d) ≡ true) (sym sixteen) (hexadecimal_glyph d (subst (λ n. d < n) sixteen lt)))
    one

glyphs_digits : (base : ℕ) (ds : List ℕ) → IsBase base → AllBelowBase base ds → list_all (is_digit_in base) (map glyph ds) ≡ true
glyphs_digits base [] one below = refl
glyphs_digits base (d ∷ ds) one below = and_from (is_digit_in base (glyph d)) (list_all (is_digit_in base) (map glyph ds)) (glyph_digit base d one below.0) (glyphs_digits base ds one below.1)

glyphs_values : (base : ℕ) (ds : List ℕ) → IsBase base → AllBelowBase base ds → map digit_value (map glyph ds) ≡ ds
glyphs_values base [] one below = refl
glyphs_values base (d ∷ ds) one below =
    ap (λ x. x ∷ map digit_value (map glyph ds)) (glyph_value d (below_sixteen base d one below.0)) ∙ ap (λ xs. d ∷ xs) (glyphs_values base ds one below.1)

glyph_not_zero : (d : ℕ) → 0 < d → d < 16 → (glyph d == 48) ≡ false
glyph_not_zero d low high = grind (arith, nat_tests)

glyphs_numeral : (base : ℕ) (ds : List ℕ) → IsBase base → AllBelowBase base ds → 0 < get_or ds 0 0 → is_numeral (map glyph ds) ≡ true
glyphs_numeral base [] one below first = absurd (omega arith)
glyphs_numeral base (d ∷ []) one below first = refl
glyphs_numeral base (d ∷ e ∷ ds) one below first = ap not (glyph_not_zero d first (below_sixteen base d one below.0))

zero_digit : (base : ℕ) → is_digit_in base 48 ≡ true
zero_digit base = refl

zero_value : (base : ℕ) → digits_value base (codes "0") ≡ 0
zero_value base = let e : 0 * base + 0 ≡ 0 = omega arith in e

-- the text of a number has digits alone, no zero first, and its value
pub text_digits : (base n : ℕ) → IsBase base → list_all (is_digit_in base) (number_text base n) ≡ true
text_digits base zero one = refl
text_digits base (suc n) one =
    ap (list_all (is_digit_in base)) (positive_text base (suc n) (omega arith)) ∙ glyphs_digits base (digits_of base (suc n)) one (all_below_base_digits_of base (suc n) (two_least base one))

pub text_numeral : (base n : ℕ) → IsBase base → is_numeral (number_text base n) ≡ true
text_numeral base zero one = refl
text_numeral base (suc n) one =
    ap is_numeral (positive_text base (suc n) (omega arith))
    ∙ glyphs_numeral base (digits_of base (suc n)) one (all_below_base_digits_of base (suc n) (two_least base one)) (first_digits_of base (suc n) (two_least base one) (omega arith))

pub text_value : (base n : ℕ) → IsBase base → digits_value base (number_text base n) ≡ n
text_value base zero one = zero_value base
text_value base (suc n) one =
    ap (digits_value base) (positive_text base (suc n) (omega arith))
    ∙ digits_value_is base (map glyph (digits_of base (suc n)))
    ∙ ap (number_from_digits base) (glyphs_values base (digits_of base (suc n)) one (all_below_base_digits_of base (suc n) (two_least base one)))
    ∙ number_digits_of base (suc n) (two_least base one)

pub digits_again : (base n : ℕ) (rest : List ℕ) → IsBase base → Stops (is_digit_in base) rest → digits_at base (clean (number_text base n ++ rest)) ≡ Some (number_text base n, clean rest)
digits_again base n rest one ends =
    let f = front_again (is_digit_in base) (number_text base n) rest (text_digits base n one) ends in
    let b = back_again (is_digit_in base) (number_text base n) rest (text_digits base n one) ends in
    ap (λ ds. if is_numeral ds then Some (ds, clean (back (is_digit_in base) (number_text base n ++ rest))) else None) f
    ∙ ap (λ r. if is_numeral (number_text base n) then Some (number_text base n, clean r) else None) b
    ∙ ap (λ t. if t then Some (number_text base n, clean rest) else None) (text_numeral base n one)

-- a number, before what is no digit
pub number_again : (base n : ℕ) (rest : List ℕ) → IsBase base → Stops (is_digit_in base) rest → number_at base (clean (number_text base n ++ rest)) ≡ Some (capped n, clean rest)
number_again base n rest one ends =
    ap (λ r. then_reads r (λ ds q. Some (capped (digits_value base ds), q))) (digits_again base n rest one ends)
    ∙ ap (λ v. Some (capped v, clean rest)) (text_value base n one)

pub any_number_again : (n : ℕ) (rest : List ℕ) → Stops (is_digit_in 10) rest → any_number_at (clean (number_text 10 n ++ rest)) ≡ Some (n, clean rest)
any_number_again n rest ends =
    ap (λ r. then_reads r (λ ds q. Some (digits_value 10 ds, q))) (digits_again 10 n rest (inl refl) ends)
    ∙ ap (λ v. Some (v, clean rest)) (text_value 10 n (inl refl))
