-- The number that digits of the text write.
use Rattle.std.proofs.Common.{◌≡◌, inl, refl, ℕ, ◌<◌, ◌≤◌, ◌^◌, true, List, [], ◌∷◌, length, Option, Some, None, ◌∙◌, ap, sym, subst, arith, ⊎_elim, if◌then◌else◌}
use Rattle.std.specs.Prelude.{SomeIff}
use Rattle.std.specs.Char.{digit_value}
use Rattle.std.specs.List.{list_all}
use Rattle.std.specs.Str.Parse.{IsNumeral, AllDigits, digits_value}
use Rattle.std.proofs.lemmas.Bool.{and_parts, lt-ltb, le-ltb, cases_lt}
use Rattle.std.proofs.lemmas.Bool.Decides.{nat_tests}
use Rattle.cx_vread_exprs.specs.Numbers.{IsBase}
use Rattle.cx_vread_exprs.specs.Tokens.{is_digit_in, is_numeral, capped}

decimal_digit : (b : ℕ) → is_digit_in 10 b ≡ true → digit_value b < 10
decimal_digit b h = grind (arith, nat_tests)

hexadecimal_digit : (b : ℕ) → is_digit_in 16 b ≡ true → digit_value b < 16
hexadecimal_digit b h = grind (arith, nat_tests)

digit_below : (base b : ℕ) → IsBase base → is_digit_in base b ≡ true → digit_value b < base
digit_below base b one h = ⊎_elim
    (λ ten. subst (λ n. digit_value b < n) (sym ten) (decimal_digit b (subst (λ n. is_digit_in n b ≡ true) ten h)))
    (λ sixteen. subst (λ n. digit_value b < n) (sym sixteen) (hexadecimal_digit b (subst (λ n. is_digit_in n b ≡ true) sixteen h)))
    one

pub all_below : (base : ℕ) (ds : List ℕ) → IsBase base → list_all (is_digit_in base) ds ≡ true → AllDigits base ds
all_below base [] one h = tt
all_below base (d ∷ ds) one h =
    let parts = and_parts (is_digit_in base d) (list_all (is_digit_in base) ds) h in
    (digit_below base d one parts.0, all_below base ds one parts.1)

some_digit : (ds : List ℕ) → is_numeral ds ≡ true → 0 < length ds
some_digit [] h = absurd (cc)
some_digit (d ∷ ds) h = omega arith

pub capped_some : (n : ℕ) → n < 2 ^ 128 → capped n ≡ Some n
capped_some n lt = ap (λ b. if b then Some n else None) (lt-ltb n (2 ^ 128) lt)

pub capped_none : (n : ℕ) → 2 ^ 128 ≤ n → capped n ≡ None
capped_none n le = ap (λ b. if b then Some n else None) (le-ltb n (2 ^ 128) le)

-- what `numeral` answers of digits of the text
pub capped_numeral : (base : ℕ) (ds : List ℕ) (result : Option ℕ) → SomeIff result (IsNumeral base ds × (digits_value base ds < 2 ^ 128)) (digits_value base ds)
    → IsBase base → list_all (is_digit_in base) ds ≡ true → is_numeral ds ≡ true → result ≡ capped (digits_value base ds)
capped_numeral base ds None answer one all some =
    let numeral : IsNumeral base ds = (some_digit ds some, all_below base ds one all) in
    let large : 2 ^ 128 ≤ digits_value base ds = go (digits_value base ds) (λ lt. answer (numeral, lt)) in
    sym (capped_none (digits_value base ds) large)
  where
    go : (n : ℕ) → ¬ (n < 2 ^ 128) → 2 ^ 128 ≤ n
    go n never = ⊎_elim (λ lt. absurd (never lt)) (λ le. le) (cases_lt n (2 ^ 128))
capped_numeral base ds (Some n) answer one all some =
    ap Some answer.1 ∙ sym (capped_some (digits_value base ds) answer.0.1)

-- digits of the text are a numeral
pub numeral_is : (ds : List ℕ) → list_all (is_digit_in 10) ds ≡ true → is_numeral ds ≡ true → IsNumeral 10 ds
numeral_is ds all some = (some_digit ds some, all_below 10 ds (inl refl) all)
