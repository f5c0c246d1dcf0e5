-- Which kinds of bytes exclude or include each other.
use Rattle.std.proofs.Common.{◌≡◌, ◌≢◌, ℕ, ◌<◌, ◌≤◌, ◌==◌, true, false, arith}
use Rattle.std.proofs.lemmas.Bool.Decides.{nat_tests}
use Rattle.cx_lex.specs.Bytes.{is_blank, is_name_start, is_digit, is_name_byte, goes_on, is_in_line, is_in_string, is_digit_in}

pub is_name_start-not_blank : (b : ℕ) → is_name_start b ≡ true → is_blank b ≡ false
is_name_start-not_blank b h = grind (arith, nat_tests)

pub is_digit-not_blank : (b : ℕ) → is_digit b ≡ true → is_blank b ≡ false
is_digit-not_blank b h = grind (arith, nat_tests)

pub is_digit-not_name : (b : ℕ) → is_digit b ≡ true → is_name_start b ≡ false
is_digit-not_name b h = grind (arith, nat_tests)

pub is_name_start-name_byte : (b : ℕ) → is_name_start b ≡ true → is_name_byte b ≡ true
is_name_start-name_byte b h = grind (arith, nat_tests)

pub digit_value-is_digit : (b : ℕ) → is_digit_in 10 b ≡ true → is_digit b ≡ true
digit_value-is_digit b h = grind (arith, nat_tests)

-- what does not go on a literal is no digit of it
pub not_goes_on-digit : (base b : ℕ) → base ≤ 36 → goes_on b ≡ false → is_digit_in base b ≡ false
not_goes_on-digit base b le h = grind (arith, nat_tests)

pub string_stop : (b : ℕ) → b ≢ 34 → is_in_string b ≡ false → is_in_line b ≡ false
string_stop b quote h = grind (arith, nat_tests)

pub not_in_line-not_in_string : (b : ℕ) → is_in_line b ≡ false → is_in_string b ≡ false
not_in_line-not_in_string b h = grind (arith, nat_tests)

pub no_tick : (b : ℕ) → goes_on b ≡ false → (b == 39) ≡ false
no_tick b h = grind (arith, nat_tests)

pub no_quote_at_end : (b : ℕ) → is_in_line b ≡ false → (b == 34) ≡ false
no_quote_at_end b h = grind (arith, nat_tests)

pub some_of_zero : (n : ℕ) → (n == 0) ≡ false → 0 < n
some_of_zero n h = grind (arith, nat_tests)
