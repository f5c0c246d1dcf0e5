-- Numbers of the text, for the Rust types.
use Rattle.std.specs.Prelude.{◌≡◌, ◌⊎◌, ℕ, ◌+◌, ◌*◌, ◌==◌, nat_lt, Bool, false, List, [], ◌∷◌, length, Option, Some, None, if◌then◌else◌}
use Rattle.std.specs.Char.{digit_value}
use Rattle.cx_bits.specs.BitVector.{BitVector}
use Rattle.cx_vread_exprs.specs.Tokens.{fits_bits}

-- the bases of the text
abbrev pub IsBase : ℕ → Type 0
IsBase base = (base ≡ 10) ⊎ (base ≡ 16)

-- how many binary digits the value of a hexadecimal digit has
abbrev pub digit_bits : ℕ → ℕ
digit_bits d = if d == 0 then 0 else (if d == 1 then 1 else (if nat_lt d 4 then 2 else (if nat_lt d 8 then 3 else 4)))

-- how many the number has that hexadecimal digits write, if no zero stands before another
abbrev pub bit_length : List ℕ → ℕ
bit_length [] = 0
bit_length (c ∷ cs) = digit_bits (digit_value c) + 4 * length cs

-- whether it has more of them than a width, None where that is 2^128 or more
abbrev pub overflows : Option ℕ → List ℕ → Bool
overflows None ds = false
overflows (Some w) ds = nat_lt w (bit_length ds)

-- the value of a literal, where it has its width
abbrev pub literal_value : Option ℕ → Option ℕ → Option BitVector
literal_value None v = None
literal_value (Some w) None = None
literal_value (Some w) (Some v) = if fits_bits w v then Some (record { width = w; value = v }) else None
