-- A literal against its width.
use Rattle.std.proofs.Common.{◌≡◌, inr, ℕ, ◌+◌, ◌-◌, ◌*◌, ◌<◌, ◌≤◌, ◌^◌, ◌≢◌, zero, suc, ◌==◌, Bool, true, false, ◌&&◌, List, [], ◌∷◌, length, Option, Some, None, refl, ◌∙◌, ap, sym, subst, arith, ⊎_elim, mul_assoc, if◌then◌else◌}
use Rattle.std.specs.Prelude.{nat_lt, nat_le, Result, Ok, Err, IfOk}
use Rattle.std.specs.Char.{digit_value}
use Rattle.std.specs.List.{list_all}
use Rattle.std.specs.Str.Parse.{AllDigits, digits_value, digits_value_after}
use Rattle.std.proofs.lemmas.Bool.{and_parts, lt-ltb, le-ltb, le-leb, lt-leb, ltb-true, ltb-false, leb-true, cases_lt, eqb-true, eqb-false, ne_eqb, not-true}
use Rattle.std.proofs.lemmas.Bool.Decides.{nat_tests}
use Rattle.std.proofs.lemmas.Nat.{pow-add}
use Rattle.std.proofs.Math.Nat.{add-mul, mul-le-mul_right}
use Rattle.cx_bits.specs.BitVector.{BitVector}
use Rattle.cx_bits.proofs.Powers.{pow_grows}
use Rattle.cx_vtree.specs.Plain.{Number}
use Rattle.cx_vtree.specs.PlainParts.{plain_expr}
use Rattle.cx_vtree.specs.declared.exprs.Expr.{Expr}
use Rattle.cx_text.specs.declared.memory.Memory.{Memory}
use Rattle.cx_vread_exprs.specs.Numbers.{IsBase, digit_bits, bit_length, overflows, literal_value}
use Rattle.cx_vread_exprs.specs.Tokens.{is_digit_in, is_numeral, capped, fits_bits, misnamed, miswidened, kept_literal}
use Rattle.cx_vread_exprs.proofs.Numerals.{all_below, capped_some, capped_none}

four_more : (k : ℕ) → 2 ^ (4 * suc k) ≡ 16 * 2 ^ (4 * k)
four_more k = let e : 4 * suc k ≡ 4 + 4 * k = omega arith in ap (λ n. 2 ^ n) e ∙ pow-add 2 4 (4 * k)

-- digits behind a number are at least that number, moved up, and below the next
at_least : (n : ℕ) (ds : List ℕ) → n * 2 ^ (4 * length ds) ≤ digits_value_after 16 n ds
at_least n [] = let e : n * 2 ^ (4 * 0) ≡ n = omega arith in omega arith
at_least n (d ∷ ds) =
    let p : ℕ = 2 ^ (4 * length ds) in
    let own = at_least (n * 16 + digit_value d) ds in
    let up : n * 2 ^ (4 * suc (length ds)) ≡ n * (16 * p) = ap (λ k. n * k) (four_more (length ds)) in
    let moved : n * 16 * p ≡ n * (16 * p) = mul_assoc n 16 p in
    let parts : (n * 16 + digit_value d) * p ≡ n * 16 * p + digit_value d * p = add-mul (n * 16) (digit_value d) p in
    omega arith

below_next : (n : ℕ) (ds : List ℕ) → AllDigits 16 ds → digits_value_after 16 n ds < (n + 1) * 2 ^ (4 * length ds)
below_next n [] all = let e : (n + 1) * 2 ^ (4 * 0) ≡ n + 1 = omega arith in omega arith
below_next n (d ∷ ds) all =
    let p : ℕ = 2 ^ (4 * length ds) in
    let own = below_next (n * 16 + digit_value d) ds all.1 in
    let digit : n * 16 + digit_value d + 1 ≤ (n + 1) * 16 = let low = all.0 in omega arith in
    let grows : (n * 16 + digit_value d + 1) * p ≤ (n + 1) * 16 * p = mul-le-mul_right p digit in
    let up : (n + 1) * 2 ^ (4 * suc (length ds)) ≡ (n + 1) * (16 * p) = ap (λ k. (n + 1) * k) (four_more (length ds)) in
    let moved : (n + 1) * 16 * p ≡ (n + 1) * (16 * p) = mul_assoc (n + 1) 16 p in
    omega arith

-- the binary digits of one digit
abbrev Spans : ℕ → ℕ → Type 0
Spans d b = (d + 1 ≤ 2 ^ b) × ((0 < b) × (2 ^ (b - 1) ≤ d))

digit_spans : (d : ℕ) → 0 < d → d < 16 → Spans d (digit_bits d)
digit_spans d low high =
    subst (Spans d) (sym (ap (λ t. if t then 0 else (if d == 1 then 1 else (if nat_lt d 4 then 2 else (if nat_lt d 8 then 3 else 4)))) (ne_eqb d 0 (λ e. omega arith))))
    (go (d == 1) (nat_lt d 4) (nat_lt d 8) refl refl refl)
  where
    go : (one two three : Bool) → (d == 1) ≡ one → nat_lt d 4 ≡ two → nat_lt d 8 ≡ three → Spans d (if one then 1 else (if two then 2 else (if three then 3 else 4)))
    go true two three e f g = let is = eqb-true d 1 e in (omega arith, (omega arith, omega arith))
    go false true three e f g = let other : d ≢ 1 = eqb-false d 1 e in let lt = ltb-true d 4 f in (omega arith, (omega arith, omega arith))
    go false false true e f g = let le = ltb-false d 4 f in let lt = ltb-true d 8 g in (omega arith, (omega arith, omega arith))
    go false false false e f g = let le = ltb-false d 8 g in (omega arith, (omega arith, omega arith))

digit_high : (d : ℕ) → d < 16 → d + 1 ≤ 2 ^ digit_bits d
digit_high zero h = omega arith
digit_high (suc d) h = (digit_spans (suc d) (omega arith) h).0

digit_low : (d : ℕ) → 0 < d → d < 16 → (0 < digit_bits d) × (2 ^ (digit_bits d - 1) ≤ d)
digit_low d low high = (digit_spans d low high).1

-- and of a number
below_length : (d : ℕ) (ds : List ℕ) → AllDigits 16 (d ∷ ds) → digits_value 16 (d ∷ ds) < 2 ^ bit_length (d ∷ ds)
below_length d ds all =
    let p : ℕ = 2 ^ (4 * length ds) in
    let own = below_next (0 * 16 + digit_value d) ds all.1 in
    let first : 0 * 16 + digit_value d + 1 ≡ digit_value d + 1 = omega arith in
    let grows : (digit_value d + 1) * p ≤ 2 ^ digit_bits (digit_value d) * p = mul-le-mul_right p (digit_high (digit_value d) all.0) in
    let same : (0 * 16 + digit_value d + 1) * p ≡ (digit_value d + 1) * p = ap (λ k. k * p) first in
    let whole = pow-add 2 (digit_bits (digit_value d)) (4 * length ds) in
    omega arith

from_length : (d : ℕ) (ds : List ℕ) → 0 < digit_value d → digit_value d < 16 → 2 ^ (bit_length (d ∷ ds) - 1) ≤ digits_value 16 (d ∷ ds)
from_length d ds some low =
    let p : ℕ = 2 ^ (4 * length ds) in
    let own = at_least (0 * 16 + digit_value d) ds in
    let bits = digit_low (digit_value d) some low in
    let first : 0 * 16 + digit_value d ≡ digit_value d = omega arith in
    let same : (0 * 16 + digit_value d) * p ≡ digit_value d * p = ap (λ k. k * p) first in
    let grows : 2 ^ (digit_bits (digit_value d) - 1) * p ≤ digit_value d * p = mul-le-mul_right p bits.1 in
    let whole = pow-add 2 (digit_bits (digit_value d) - 1) (4 * length ds) in
    let e : digit_bits (digit_value d) + 4 * length ds - 1 ≡ digit_bits (digit_value d) - 1 + 4 * length ds = let b = bits.0 in omega arith in
    let f = ap (λ k. 2 ^ k) e in
    omega arith

-- a number has more binary digits than w exactly where it does not fit w bits
by_order : (w v b : ℕ) → v < 2 ^ b → (w < b → 2 ^ w ≤ v) → nat_le (2 ^ w) v ≡ nat_lt w b
by_order w v b below from = ⊎_elim
    (λ lt. le-leb (2 ^ w) v (from lt) ∙ sym (lt-ltb w b lt))
    (λ le. let grows = pow_grows b w le in lt-leb (2 ^ w) v (omega arith) ∙ sym (le-ltb w b le))
    (cases_lt w b)

zero_digit : (c : ℕ) → is_digit_in 16 c ≡ true → (c == 48) ≡ false → 0 < digit_value c
zero_digit c h n = grind (arith, nat_tests)

some_bits : (d : ℕ) → 0 < digit_bits d → 0 < d
some_bits zero h = absurd (omega arith)
some_bits (suc d) h = omega arith

sixteen : IsBase 16
sixteen = inr refl

over_length : (w : ℕ) (ds : List ℕ) → list_all (is_digit_in 16) ds ≡ true → is_numeral ds ≡ true → nat_le (2 ^ w) (digits_value 16 ds) ≡ nat_lt w (bit_length ds)
over_length w [] all some = absurd (cc)
over_length w (c ∷ []) all some =
    let below = all_below 16 (c ∷ []) sixteen all in
    by_order w (digits_value 16 (c ∷ [])) (bit_length (c ∷ [])) (below_length c [] below)
    (λ lt.
    let first : 0 < digit_value c = some_bits (digit_value c) (omega arith) in
    let grows = pow_grows w (bit_length (c ∷ []) - 1) (omega arith) in
    let from = from_length c [] first below.0 in
    omega arith)
over_length w (c ∷ d ∷ ds) all some =
    let below = all_below 16 (c ∷ d ∷ ds) sixteen all in
    let digit = (and_parts (is_digit_in 16 c) (list_all (is_digit_in 16) (d ∷ ds)) all).0 in
    let first : 0 < digit_value c = zero_digit c digit (not-true (c == 48) some) in
    by_order w (digits_value 16 (c ∷ d ∷ ds)) (bit_length (c ∷ d ∷ ds)) (below_length c (d ∷ ds) below)
    (λ lt. let grows = pow_grows w (bit_length (c ∷ d ∷ ds) - 1) (omega arith) in let from = from_length c (d ∷ ds) first below.0 in omega arith)

-- what is kept of a literal, by what is known of its width and its value
fits_capped : (w v : ℕ) → fits_bits w v ≡ true → literal_value (capped w) (capped v) ≡ Some (record { width = w; value = v })
fits_capped w v fits =
    let outer = and_parts (nat_lt 0 w && nat_le w 128) (nat_lt v (2 ^ w)) fits in
    let wide : w ≤ 128 = leb-true w 128 (and_parts (nat_lt 0 w) (nat_le w 128) outer.0).1 in
    let small : v < 2 ^ w = ltb-true v (2 ^ w) outer.1 in
    let grows : 2 ^ w ≤ 2 ^ 128 = pow_grows w 128 wide in
    let fit_w : capped w ≡ Some w = ap (λ b. if b then Some w else None) (lt-ltb w (2 ^ 128) (omega arith)) in
    let fit_v : capped v ≡ Some v = ap (λ b. if b then Some v else None) (lt-ltb v (2 ^ 128) (omega arith)) in
    ap (λ n. literal_value n (capped v)) fit_w ∙ ap (literal_value (Some w)) fit_v ∙ ap (λ b. if b then Some (record { width = w; value = v }) else None) fits

no_fit : (w v : ℕ) → fits_bits w v ≡ false → literal_value (capped w) (capped v) ≡ None
no_fit w v fits = ⊎_elim
    (λ lt. ap (λ n. literal_value n (capped v)) (capped_some w lt) ∙ ⊎_elim
    (λ less. ap (literal_value (Some w)) (capped_some v less) ∙ ap (λ b. if b then Some (record { width = w; value = v }) else None) fits)
    (λ more. ap (literal_value (Some w)) (capped_none v more))
    (cases_lt v (2 ^ 128)))
    (λ le. ap (λ n. literal_value n (capped v)) (capped_none w le))
    (cases_lt w (2 ^ 128))

abbrev bits_or : BitVector → Option BitVector → BitVector
bits_or other None = other
bits_or other (Some b) = b

-- the literal itself
pub literal_fits : (w v : ℕ) (b : BitVector) → literal_value (capped w) (capped v) ≡ Some b → Number b ≡ kept_literal w v
literal_fits w v b is = go (fits_bits w v) refl
  where
    go : (t : Bool) → fits_bits w v ≡ t → Number b ≡ kept_literal w v
    go true e = let same : Some b ≡ Some (record { width = w; value = v }) = sym is ∙ fits_capped w v e in
        ap (λ x. Number x) (ap (bits_or b) same) ∙ sym (ap (λ t. if t then Number (record { width = w; value = v }) else (if nat_le (2 ^ w) v then misnamed else miswidened)) e)
    go false e = let both = sym is ∙ no_fit w v e in absurd (cc)

unfit_literal : (w v : ℕ) → literal_value (capped w) (capped v) ≡ None → kept_literal w v ≡ (if nat_le (2 ^ w) v then misnamed else miswidened)
unfit_literal w v is = go (fits_bits w v) refl
  where
    go : (t : Bool) → fits_bits w v ≡ t → kept_literal w v ≡ (if nat_le (2 ^ w) v then misnamed else miswidened)
    go true e = let both = sym is ∙ fits_capped w v e in absurd (cc)
    go false e = ap (λ t. if t then Number (record { width = w; value = v }) else (if nat_le (2 ^ w) v then misnamed else miswidened)) e

-- whether its value fits, by the number of its binary digits
overflows_is : (w : ℕ) (ds : List ℕ) → bit_length ds < 2 ^ 67 → list_all (is_digit_in 16) ds ≡ true → is_numeral ds ≡ true
    → overflows (capped w) ds ≡ nat_le (2 ^ w) (digits_value 16 ds)
overflows_is w ds short all some = ⊎_elim
    (λ lt. ap (λ n. overflows n ds) (capped_some w lt) ∙ sym (over_length w ds all some))
    (λ le. ap (λ n. overflows n ds) (capped_none w le) ∙ sym (over_length w ds all some ∙ le-ltb w (bit_length ds) (omega arith)))
    (cases_lt w (2 ^ 128))

-- what stands for it
pub literal_told : (w : ℕ) (ds : List ℕ) (over : Bool) (r : Result Expr Memory) → literal_value (capped w) (capped (digits_value 16 ds)) ≡ None → bit_length ds < 2 ^ 67
    → list_all (is_digit_in 16) ds ≡ true → is_numeral ds ≡ true → overflows (capped w) ds ≡ over
    → IfOk r (λ e. plain_expr e ≡ (if over then misnamed else miswidened)) → IfOk r (λ e. plain_expr e ≡ kept_literal w (digits_value 16 ds))
literal_told w ds over (Err fault) none short all some is same = tt
literal_told w ds over (Ok e) none short all some is same =
    same ∙ ap (λ t. if t then misnamed else miswidened) (sym is ∙ overflows_is w ds short all some) ∙ sym (unfit_literal w (digits_value 16 ds) none)
