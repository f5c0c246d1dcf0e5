-- Digits of a base pass the test for it.
use Rattle.std.proofs.Common.{◌≡◌, ℕ, true, List, [], ◌∷◌, refl}
use Rattle.std.proofs.lemmas.Bool.{and_parts, and_from, ltb-true, lt-ltb}
use Rattle.std.specs.List.{list_all}
use Rattle.std.specs.Str.Parse.{AllDigits}
use Rattle.cx_lex.specs.Bytes.{is_digit_in}
use Rattle.cx_text.specs.Spans.{front}
use Rattle.cx_text.proofs.SpanLemmas.{front_passes}

-- digits that pass the test for a base are digits of it
pub all_digits : (base : ℕ) (bytes : List ℕ) → list_all (is_digit_in base) bytes ≡ true → AllDigits base bytes
all_digits base [] h = tt
all_digits base (b ∷ bytes) h = let parts = and_parts (is_digit_in base b) (list_all (is_digit_in base) bytes) h in (ltb-true _ _ parts.0, all_digits base bytes parts.1)

pub all_digits_pass : (base : ℕ) (bytes : List ℕ) → AllDigits base bytes → list_all (is_digit_in base) bytes ≡ true
all_digits_pass base [] h = refl
all_digits_pass base (b ∷ bytes) h = and_from (is_digit_in base b) (list_all (is_digit_in base) bytes) (lt-ltb _ _ h.0) (all_digits_pass base bytes h.1)

pub front_digits : (base : ℕ) (text : List ℕ) → AllDigits base (front (is_digit_in base) text)
front_digits base text = all_digits base (front (is_digit_in base) text) (front_passes (is_digit_in base) text)
