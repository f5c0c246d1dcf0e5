-- Reading digits from the left.
use Rattle.std.proofs.Common.{◌≡◌, ℕ, ◌+◌, ◌*◌, ◌<◌, ◌≤◌, ◌^◌, List, [], ◌∷◌, Option, None, SomeIff, sym, ◌∙◌, ap, subst, arith}
use Rattle.std.proofs.Math.Nat.{mul-le-mul_left}
use Rattle.std.specs.Char.{digit_value}
use Rattle.std.specs.Str.Parse.{AllDigits, IsNumeral, digits_value, digits_value_after}

-- value is that of the digits in front of the rest, and all of them are digits where the rest are
pub record NumeralSoFar (base value : ℕ) (rest digits : List ℕ) : Type 0 where
  pub number : digits_value_after base value rest ≡ digits_value base digits
  pub fits : value < 2 ^ 128
  pub whole : AllDigits base rest → AllDigits base digits
  pub rest_digits : AllDigits base digits → AllDigits base rest

-- digits behind a number make it no smaller
pub digits_value_after_ge : (base n : ℕ) (ds : List ℕ) → 1 ≤ base → n ≤ digits_value_after base n ds
digits_value_after_ge base n [] h = omega arith
digits_value_after_ge base n (d ∷ ds) h =
    let more = digits_value_after_ge base (n * base + digit_value d) ds h in
    let grown : n * 1 ≤ n * base = mul-le-mul_left n h in
    omega arith

-- a byte behind the number so far is a digit and leaves room, or the text is no numeral that fits
pub numeral_stuck : (base value b : ℕ) (more rest digits : List ℕ) → 1 ≤ base → NumeralSoFar base value rest digits → rest ≡ b ∷ more → ¬ ((digit_value b < base) × (value * base + digit_value b < 2 ^ 128)) → ¬ (IsNumeral base digits × (digits_value base digits < 2 ^ 128))
numeral_stuck base value b more rest digits h so_far e bad found =
    let each = subst (AllDigits base) e (so_far.rest_digits found.0.1) in
    let number : digits_value_after base (value * base + digit_value b) more ≡ digits_value base digits = ap (digits_value_after base value) (sym e) ∙ so_far.number in
    let grown = digits_value_after_ge base (value * base + digit_value b) more h in
    let fits = found.1 in
    bad (each.0, omega arith)

-- at the end the number so far is that of all digits
pub numeral_done : (base value : ℕ) (rest digits : List ℕ) → NumeralSoFar base value rest digits → rest ≡ [] → AllDigits base digits × (value ≡ digits_value base digits)
numeral_done base value rest digits so_far e = (so_far.whole (subst (AllDigits base) (sym e) tt), ap (digits_value_after base value) (sym e) ∙ so_far.number)

-- an answer of None where there is no value
pub none_unless : (r : Option ℕ) (P : Type 0) (v : ℕ) → r ≡ None → ¬ P → SomeIff r P v
none_unless r P v e false_claim = subst (λ r. SomeIff r P v) (sym e) false_claim
