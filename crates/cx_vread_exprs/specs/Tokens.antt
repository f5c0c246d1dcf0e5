-- Reading words, numbers and literals.
use Rattle.std.specs.Prelude.{ℕ, ◌+◌, ◌^◌, ◌==◌, ◌&&◌, ◌||◌, not, nat_lt, nat_le, min, Bool, true, false, List, [], ◌∷◌, Option, Some, None, codes, if◌then◌else◌}
use Rattle.std.specs.Str.Parse.{digits_value}
use Rattle.cx_vtree.specs.Layout.{is_name_byte, is_word, is_name}
use Rattle.cx_vtree.specs.Plain.{PlainExpr, Named, Number, Joined}
use Rattle.cx_vread_exprs.specs.Places.{Place, Reads, moved, then_reads, then_at, after}
use Rattle.cx_text.specs.Spans.{front, back}

abbrev pub word_at : Place → Reads (List ℕ)
word_at p =
    if is_word (front is_name_byte p.rest)
    then Some (front is_name_byte p.rest, moved p (back is_name_byte p.rest)) else None

abbrev pub name_at : Place → Reads (List ℕ)
name_at p =
    if is_name (front is_name_byte p.rest)
    then Some (front is_name_byte p.rest, moved p (back is_name_byte p.rest)) else None

-- `0` to `9`, and for base 16 `a` to `f`
abbrev pub is_digit_in : ℕ → ℕ → Bool
is_digit_in base c = (nat_le 48 c && nat_le c 57) || (base == 16 && nat_le 97 c && nat_le c 102)

-- at least one digit, and no zero before another
abbrev pub is_numeral : List ℕ → Bool
is_numeral [] = false
is_numeral (c ∷ []) = true
is_numeral (c ∷ d ∷ ds) = not (c == 48)

abbrev pub digits_at : ℕ → Place → Reads (List ℕ)
digits_at base p =
    if is_numeral (front (is_digit_in base) p.rest)
    then Some (front (is_digit_in base) p.rest, moved p (back (is_digit_in base) p.rest)) else None

-- a number, where it is below 2^128
abbrev pub capped : ℕ → Option ℕ
capped n = if nat_lt n (2 ^ 128) then Some n else None

abbrev pub number_at : ℕ → Place → Reads (Option ℕ)
number_at base p = then_reads (digits_at base p) (λ ds q. Some (capped (digits_value base ds), q))

-- a number, however great
abbrev pub any_number_at : Place → Reads ℕ
any_number_at p = then_reads (digits_at 10 p) (λ ds q. Some (digits_value 10 ds, q))

-- What a tree keeps of numbers. A width or a bit's number over 255 is too large for all rules, and 255 stands for it.
abbrev pub kept_small : ℕ → ℕ
kept_small n = min n 255

-- the same of a number that was read, None where it is 2^128 or more
abbrev pub no_more : ℕ → Option ℕ → ℕ
no_more most None = most
no_more most (Some n) = min n most

abbrev pub small_at : Place → Reads ℕ
small_at p = then_reads (number_at 10 p) (λ n q. Some (no_more 255 n, q))

-- a width and the space after it, as `[7:0] `
abbrev pub bounds_at : Place → Reads ℕ
bounds_at p =
    then_at (after (codes "[") p) (λ q. then_reads (number_at 10 q)
    (λ n r. then_at (after (codes ":0] ") r) (λ s. Some (no_more 254 n + 1, s))))

-- a value that has its width
abbrev pub fits_bits : ℕ → ℕ → Bool
fits_bits w v = nat_lt 0 w && nat_le w 128 && nat_lt v (2 ^ w)

-- what breaks a rule on names wherever it stands: no expression has the clock
abbrev pub misnamed : PlainExpr
misnamed = Named (codes "clk")

-- what breaks a rule on widths wherever it stands, and none on names: two literals side by side that have 256 bits
abbrev pub widest : PlainExpr
widest = Number (record { width = 128; value = 0 })

abbrev pub miswidened : PlainExpr
miswidened = Joined widest widest

-- a literal: where it does not fit its width it breaks a rule on names, and else one on widths
abbrev pub kept_literal : ℕ → ℕ → PlainExpr
kept_literal w v =
    if fits_bits w v then Number (record { width = w; value = v })
    else (if nat_le (2 ^ w) v then misnamed else miswidened)

abbrev pub literal_at : Place → Reads PlainExpr
literal_at p =
    then_reads (digits_at 10 p) (λ ws q. then_at (after (codes "'h") q) (λ r. then_reads (digits_at 16 r) (λ vs s.
    Some (kept_literal (digits_value 10 ws) (digits_value 16 vs), s))))
