-- One cycle of a divider, as its module computes it, takes a division one bit further.
use Rattle.std.specs.Prelude.{◌≡◌, ℕ, zero, suc, ◌+◌, ◌-◌, ◌*◌, ◌/◌, ◌%◌, ◌^◌, ◌<◌, ◌≤◌, ◌==◌, not, nat_lt, nat_le, bit_or, Bool, true, false, if◌then◌else◌, refl}
use Rattle.std.proofs.Common.{sym, subst, arith, ap, ◌∙◌}
use Rattle.std.proofs.Math.Nat.{mod-eq_of_lt, div-eq_of_lt}
use Rattle.std.proofs.Math.Pow.{pow-lt}
use Rattle.std.proofs.lemmas.Nat.{pow_pos, pow-add, or_lt, mod_below}
use Rattle.std.proofs.lemmas.Bool.Decides.{nat_tests}
use Rattle.cx_bits.specs.Operators.{bit_of}
use Rattle.cx_prim.specs.Widths.{IsWidth}
use Rattle.cx_vmods.proofs.BitLemmas.{number_below}
use Rattle.cx_vmods.proofs.DivisionLemmas.{quotient_at, remainder_at, goes_into, one_where, OneBit, one_bit}

-- one cycle, as the module computes it: the remainder with one more bit, whether the divisor goes into it, and both after it
abbrev pub longer_at : ℕ → ℕ → ℕ → ℕ
longer_at w rest digits = (rest * 2 ^ (1 % 2 ^ w) % 2 ^ w + digits / 2 ^ ((w - 1) % 2 ^ w)) % 2 ^ w

-- the top bit of the remainder, or that the divisor is no greater
abbrev pub takes_number : ℕ → ℕ → ℕ → ℕ → ℕ
takes_number w rest longer divisor = bit_or (rest / 2 ^ (w - 1) % 2 ^ (w - 1 + 1 - (w - 1))) (1 - (if nat_lt longer divisor then 1 else 0))

-- whether the divisor goes into the remainder
abbrev pub takes_at : ℕ → ℕ → ℕ → ℕ → Bool
takes_at w rest longer divisor = not (takes_number w rest longer divisor == 0)

-- the remainder after it
abbrev pub rest_after : ℕ → ℕ → ℕ → Bool → ℕ
rest_after w longer divisor takes = if takes then (longer + 2 ^ w - divisor) % 2 ^ w else longer

-- and the bits that are left above those of the quotient
abbrev pub digits_after : ℕ → ℕ → Bool → ℕ
digits_after w digits takes = (digits * 2 ^ (1 % 2 ^ w) % 2 ^ w + (if takes then 1 % 2 ^ w else 0 % 2 ^ w)) % 2 ^ w

-- what the operands of a cycle stand for: c bits of the dividend are divided
pub record IsUnderWay (w c left right rest digits divisor : ℕ) : Type 0 where
  pub has_rest : rest ≡ remainder_at (left / 2 ^ (w - c)) right
  pub has_digits : digits ≡ left % 2 ^ (w - c) * 2 ^ c + quotient_at c (left / 2 ^ (w - c)) right
  pub has_divisor : divisor ≡ right

-- a division that begins
pub begins : (w left right : ℕ) → left < 2 ^ w → IsUnderWay w 0 left right (0 % 2 ^ w) left right
begins w left right fits =
    let all : w - 0 ≡ w = omega arith in
    let none : left / 2 ^ (w - 0) ≡ 0 = ap (λ (k : ℕ). left / 2 ^ k) all ∙ div-eq_of_lt fits in
    let whole : left % 2 ^ (w - 0) ≡ left = ap (λ (k : ℕ). left % 2 ^ k) all ∙ mod-eq_of_lt fits in
    record {
      has_rest = mod-eq_of_lt (pow_pos w) ∙ sym (ap (λ (t : ℕ). remainder_at t right) none ∙ no_rest right);
      has_digits = let same : left ≡ left * 1 + 0 = omega arith in
          same ∙ sym (ap (λ (t : ℕ). t * 2 ^ 0 + quotient_at 0 (left / 2 ^ (w - 0)) right) whole ∙ ap (λ (t : ℕ). left * 2 ^ 0 + t) (ap (λ (t : ℕ). quotient_at 0 t right) none ∙ no_quotient right));
      has_divisor = refl;
    }
  where
    no_rest : (r : ℕ) → remainder_at 0 r ≡ 0
    no_rest r = by (r == 0) refl
      where
        by : (z : Bool) → (r == 0) ≡ z → (if z then 0 else 0 % r) ≡ 0
        by true is = refl
        by false is = let some : 0 < r = grind (arith, nat_tests) in mod-eq_of_lt some

    no_quotient : (r : ℕ) → quotient_at 0 0 r ≡ 0
    no_quotient r = by (r == 0) refl
      where
        by : (z : Bool) → (r == 0) ≡ z → (if z then 2 ^ 0 - 1 else 0 / r) ≡ 0
        by true is = refl
        by false is = let some : 0 < r = grind (arith, nat_tests) in div-eq_of_lt some

-- a bit above or a comparison is one bit
pub takes_bit : (w rest longer divisor : ℕ) → 1 ≤ w → takes_number w rest longer divisor ≡ (bit_of (takes_at w rest longer divisor)).value
takes_bit w rest longer divisor some = by (takes_number w rest longer divisor) below
  where
    lone : (w - 1 + 1 - (w - 1)) ≡ 1
    lone = omega arith

    least : (t : Bool) → 1 - (if t then 1 else 0) < 2 ^ 1
    least true = omega arith
    least false = omega arith

    high : rest / 2 ^ (w - 1) % 2 ^ (w - 1 + 1 - (w - 1)) < 2 ^ 1
    high = subst (λ (k : ℕ). rest / 2 ^ (w - 1) % 2 ^ k < 2 ^ 1) (sym lone) (mod_below (rest / 2 ^ (w - 1)) (2 ^ 1) (omega arith))

    below : takes_number w rest longer divisor < 2 ^ 1
    below = or_lt 1 _ _ high (least (nat_lt longer divisor))

    by : (n : ℕ) → n < 2 ^ 1 → n ≡ (bit_of (not (n == 0))).value
    by zero few = refl
    by (suc zero) few = refl
    by (suc (suc n)) few = absurd (omega arith)

-- what is under way goes on by one bit
pub goes_on : (w c left right rest digits divisor : ℕ) → IsWidth w → c < w → left < 2 ^ w → right < 2 ^ w → IsUnderWay w c left right rest digits divisor
    → IsUnderWay w (c + 1) left right (rest_after w (longer_at w rest digits) divisor (takes_at w rest (longer_at w rest digits) divisor)) (digits_after w digits (takes_at w rest (longer_at w rest digits) divisor)) divisor
goes_on w c left right rest digits divisor ok under fits_l fits_r is = record {
  has_rest = ap (rest_after w (longer_at w rest digits) divisor) takes_is
      ∙ ap (λ (n : ℕ). rest_after w n divisor (goes_into (left / 2 ^ (w - c)) (left / 2 ^ (w - (c + 1)) % 2) right)) longer_is
      ∙ ap (λ (n : ℕ). rest_after w (2 * remainder_at (left / 2 ^ (w - c)) right + left / 2 ^ (w - (c + 1)) % 2) n (goes_into (left / 2 ^ (w - c)) (left / 2 ^ (w - (c + 1)) % 2) right)) is.has_divisor ∙ bit.rest;
  has_digits = ap (digits_after w digits) takes_is ∙ ap (λ (n : ℕ). digits_after w n (goes_into (left / 2 ^ (w - c)) (left / 2 ^ (w - (c + 1)) % 2) right)) is.has_digits
      ∙ literals (left % 2 ^ (w - c) * 2 ^ c + quotient_at c (left / 2 ^ (w - c)) right) (goes_into (left / 2 ^ (w - c)) (left / 2 ^ (w - (c + 1)) % 2) right) ∙ bit.digits
      ∙ ap (λ (n : ℕ). left % 2 ^ (w - (c + 1)) * n + quotient_at (c + 1) (left / 2 ^ (w - (c + 1))) right) double;
  has_divisor = is.has_divisor;
}
  where
    bit : OneBit (2 ^ (w - c)) (2 ^ (w - (c + 1))) (2 ^ c) (2 ^ (w - 1)) (2 ^ w) c left right
    bit = one_bit w c left right under fits_l fits_r

    one : 1 % 2 ^ w ≡ 1
    one = let some = ok.some_bits in let more : 0 < w = omega arith in let grows : 2 ^ 0 < 2 ^ w = pow-lt more in mod-eq_of_lt (omega arith)

    last : (w - 1) % 2 ^ w ≡ w - 1
    last = let below = number_below w in mod-eq_of_lt (omega arith)

    double : 2 * 2 ^ c ≡ 2 ^ (c + 1)
    double = let power : 2 ^ (c + 1) ≡ 2 ^ c * 2 = pow-add 2 c 1 in omega (arith, power)

    longer_is : longer_at w rest digits ≡ 2 * remainder_at (left / 2 ^ (w - c)) right + left / 2 ^ (w - (c + 1)) % 2
    longer_is =
        ap (λ (n : ℕ). (rest * 2 ^ n % 2 ^ w + digits / 2 ^ ((w - 1) % 2 ^ w)) % 2 ^ w) one ∙ ap (λ (n : ℕ). (rest * 2 % 2 ^ w + digits / 2 ^ n) % 2 ^ w) last
        ∙ ap (λ (n : ℕ). (n * 2 % 2 ^ w + digits / 2 ^ (w - 1)) % 2 ^ w) is.has_rest ∙ ap (λ (n : ℕ). (remainder_at (left / 2 ^ (w - c)) right * 2 % 2 ^ w + n / 2 ^ (w - 1)) % 2 ^ w) is.has_digits ∙ bit.longer

    literals : (d : ℕ) (t : Bool) → digits_after w d t ≡ (d * 2 % 2 ^ w + one_where t) % 2 ^ w
    literals d true = ap (λ (n : ℕ). (d * 2 ^ n % 2 ^ w + 1 % 2 ^ w) % 2 ^ w) one ∙ ap (λ (n : ℕ). (d * 2 % 2 ^ w + n) % 2 ^ w) one
    literals d false = ap (λ (n : ℕ). (d * 2 ^ n % 2 ^ w + 0 % 2 ^ w) % 2 ^ w) one ∙ ap (λ (n : ℕ). (d * 2 % 2 ^ w + n) % 2 ^ w) (mod-eq_of_lt (pow_pos w))

    no_bit : rest / 2 ^ (w - 1) % 2 ^ (w - 1 + 1 - (w - 1)) ≡ 0
    no_bit =
        ap (λ (n : ℕ). n / 2 ^ (w - 1) % 2 ^ (w - 1 + 1 - (w - 1))) is.has_rest ∙ ap (λ (n : ℕ). n % 2 ^ (w - 1 + 1 - (w - 1))) bit.low ∙ mod-eq_of_lt (pow_pos (w - 1 + 1 - (w - 1)))

    compared : (longer divisor : ℕ) → not (bit_or 0 (1 - (if nat_lt longer divisor then 1 else 0)) == 0) ≡ nat_le divisor longer
    compared longer divisor = by (nat_lt longer divisor) refl
      where
        by : (t : Bool) → nat_lt longer divisor ≡ t → not (bit_or 0 (1 - (if t then 1 else 0)) == 0) ≡ nat_le divisor longer
        by true test = grind (arith, nat_tests)
        by false test = grind (arith, nat_tests)

    takes_is : takes_at w rest (longer_at w rest digits) divisor ≡ goes_into (left / 2 ^ (w - c)) (left / 2 ^ (w - (c + 1)) % 2) right
    takes_is =
        ap (λ (n : ℕ). not (bit_or n (1 - (if nat_lt (longer_at w rest digits) divisor then 1 else 0)) == 0)) no_bit ∙ compared (longer_at w rest digits) divisor
        ∙ ap (nat_le divisor) longer_is ∙ ap (λ (d : ℕ). nat_le d (2 * remainder_at (left / 2 ^ (w - c)) right + left / 2 ^ (w - (c + 1)) % 2)) is.has_divisor

-- when all bits are gone through, these are quotient and remainder
pub record IsDivided (w left right rest digits : ℕ) : Type 0 where
  pub quotient : digits ≡ quotient_at w left right
  pub remainder : rest ≡ remainder_at left right

-- so they are
pub ends_divided : (w c left right rest digits divisor : ℕ) → c ≡ w → IsUnderWay w c left right rest digits divisor → IsDivided w left right rest digits
ends_divided w c left right rest digits divisor all is =
    let none : w - c ≡ 0 = omega arith in
    let whole : left / 2 ^ (w - c) ≡ left = ap (λ (k : ℕ). left / 2 ^ k) none ∙ (let same : left / 2 ^ 0 ≡ left = omega arith in same) in
    let gone : left % 2 ^ (w - c) ≡ 0 = ap (λ (k : ℕ). left % 2 ^ k) none ∙ (let same : left % 2 ^ 0 ≡ 0 = omega arith in same) in
    record {
      quotient = is.has_digits ∙ ap (λ (k : ℕ). k * 2 ^ c + quotient_at c (left / 2 ^ (w - c)) right) gone ∙ (let same : 0 * 2 ^ c + quotient_at c (left / 2 ^ (w - c)) right ≡ quotient_at c (left / 2 ^ (w - c)) right = omega arith in same)
          ∙ ap (λ (t : ℕ). quotient_at c t right) whole ∙ ap (λ (k : ℕ). quotient_at k left right) all;
      remainder = is.has_rest ∙ ap (λ (t : ℕ). remainder_at t right) whole;
    }
