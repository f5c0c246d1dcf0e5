-- The operators on values of a fixed width: arithmetic on unbounded numbers, modulo two to the width.
use Rattle.std.specs.Prelude.{ℕ, ◌+◌, ◌-◌, ◌*◌, ◌/◌, ◌%◌, ◌^◌, Bool, if◌then◌else◌, ◌==◌, nat_lt, bit_and, bit_or, bit_xor, ℤ, pos, ◌-ℤ◌, int_lt}
use Rattle.cx_bits.specs.BitVector.{BitVector}

-- the sum, modulo two to the width
abbrev pub sum_of : BitVector → BitVector → BitVector
sum_of a b = record { width = a.width; value = (a.value + b.value) % 2 ^ a.width }

-- the difference, modulo two to the width
abbrev pub difference_of : BitVector → BitVector → BitVector
difference_of a b = record { width = a.width; value = (a.value + 2 ^ a.width - b.value) % 2 ^ a.width }

-- the product, modulo two to the width
abbrev pub product_of : BitVector → BitVector → BitVector
product_of a b = record { width = a.width; value = (a.value * b.value) % 2 ^ a.width }

-- the quotient, rounded down; all ones where the divisor is 0
abbrev pub quotient_of : BitVector → BitVector → BitVector
quotient_of a b = record { width = a.width; value = if b.value == 0 then 2 ^ a.width - 1 else a.value / b.value }

-- the remainder; the dividend where the divisor is 0
abbrev pub remainder_of : BitVector → BitVector → BitVector
remainder_of a b = record { width = a.width; value = if b.value == 0 then a.value else a.value % b.value }

-- the bits that are 1 in both
abbrev pub and_of : BitVector → BitVector → BitVector
and_of a b = record { width = a.width; value = bit_and a.value b.value }

-- the bits that are 1 in one or both
abbrev pub or_of : BitVector → BitVector → BitVector
or_of a b = record { width = a.width; value = bit_or a.value b.value }

-- the bits that are 1 in exactly one
abbrev pub xor_of : BitVector → BitVector → BitVector
xor_of a b = record { width = a.width; value = bit_xor a.value b.value }

-- each bit turned: what is left up to all ones
abbrev pub complement_of : BitVector → BitVector
complement_of a = record { width = a.width; value = 2 ^ a.width - 1 - a.value }

-- a times two to the value of b, modulo two to the width
abbrev pub left_shift_of : BitVector → BitVector → BitVector
left_shift_of a b = record { width = a.width; value = (a.value * 2 ^ b.value) % 2 ^ a.width }

-- a divided by two to the value of b, rounded down
abbrev pub right_shift_of : BitVector → BitVector → BitVector
right_shift_of a b = record { width = a.width; value = a.value / 2 ^ b.value }

-- a truth value as one bit
abbrev pub bit_of : Bool → BitVector
bit_of truth = record { width = 1; value = if truth then 1 else 0 }

-- whether a is below b, as unsigned numbers
abbrev pub less_bit_of : BitVector → BitVector → BitVector
less_bit_of a b = bit_of (nat_lt a.value b.value)

-- whether the values are equal
abbrev pub equal_bit_of : BitVector → BitVector → BitVector
equal_bit_of a b = bit_of (a.value == b.value)

-- the number in two's complement: two to the width less where the top bit is 1
abbrev pub signed_of : BitVector → ℤ
signed_of a = if nat_lt a.value (2 ^ (a.width - 1)) then pos a.value else pos a.value -ℤ pos (2 ^ a.width)

-- whether a is below b, as numbers in two's complement
abbrev pub signed_less_bit_of : BitVector → BitVector → BitVector
signed_less_bit_of a b = bit_of (int_lt (signed_of a) (signed_of b))

-- the low bits, that many of them
abbrev pub low_bits_of : BitVector → ℕ → BitVector
low_bits_of a width = record { width = width; value = a.value % 2 ^ width }

-- the same number at another width, with zeros above
abbrev pub zero_extension_of : BitVector → ℕ → BitVector
zero_extension_of a width = record { width = width; value = a.value }

-- the bits of `high` above those of `low`
abbrev pub concatenation_of : BitVector → BitVector → BitVector
concatenation_of high low = record { width = high.width + low.width; value = high.value * 2 ^ low.width + low.value }
