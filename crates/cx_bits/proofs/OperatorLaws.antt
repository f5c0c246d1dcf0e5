-- Laws of the operators: what they give fits its width, and how signed comparison comes from unsigned.
use Rattle.std.specs.Prelude.{◌≡◌, ℕ, pos, ◌-ℤ◌, int_lt, nat_lt, if◌then◌else◌, ◌+◌, ◌-◌, ◌*◌, ◌/◌, ◌%◌, ◌^◌, ◌<◌, ◌≤◌, Bool, true, false, ◌==◌, bit_and, bit_xor}
use Rattle.std.proofs.Common.{arith, sym, ap, ◌∙◌}
use Rattle.std.proofs.lemmas.Nat.{pow-add, pow_pos, and_le_l, or_lt, xor_lt, shr_le, mod_below, xor_block}
use Rattle.std.specs.Int.Bits.{xor_zero_r}
use Rattle.std.proofs.lemmas.Int.{ints}
use Rattle.std.proofs.Math.Nat.{pow-le-pow_right, mod-le, div-le_self}
use Rattle.cx_bits.specs.BitVector.{BitVector, Fits}
use Rattle.cx_bits.specs.Operators.{sum_of, difference_of, product_of, quotient_of, remainder_of, and_of, or_of, xor_of, complement_of, left_shift_of, right_shift_of, bit_of, less_bit_of, signed_less_bit_of, low_bits_of, zero_extension_of}

-- a number modulo two to the width fits it
pub Fits-mod : (w n : ℕ) → 1 ≤ w → w ≤ 128 → Fits (record { width = w; value = n % 2 ^ w })
Fits-mod w n some few = record { some_bits = some; few_bits = few; in_range = mod_below n (2 ^ w) (pow_pos w) }

-- a number that is no greater than one that fits, fits
pub Fits-below : (a : BitVector) (n : ℕ) → Fits a → n ≤ a.value → Fits (record { width = a.width; value = n })
Fits-below a n fits below = record { some_bits = fits.some_bits; few_bits = fits.few_bits; in_range = omega arith }

-- what each operator gives fits its width, where the operands fit theirs
pub Fits-sum_of : (a b : BitVector) → Fits a → Fits (sum_of a b)
Fits-sum_of a b fits = Fits-mod a.width (a.value + b.value) fits.some_bits fits.few_bits

pub Fits-difference_of : (a b : BitVector) → Fits a → Fits (difference_of a b)
Fits-difference_of a b fits = Fits-mod a.width (a.value + 2 ^ a.width - b.value) fits.some_bits fits.few_bits

pub Fits-product_of : (a b : BitVector) → Fits a → Fits (product_of a b)
Fits-product_of a b fits = Fits-mod a.width (a.value * b.value) fits.some_bits fits.few_bits

pub Fits-quotient_of : (a b : BitVector) → Fits a → Fits (quotient_of a b)
Fits-quotient_of a b fits =
    elim (b.value == 0) as (λ zero_divisor. Fits (record { width = a.width; value = if zero_divisor then 2 ^ a.width - 1 else a.value / b.value })) [
      | true ↦ record { some_bits = fits.some_bits; few_bits = fits.few_bits; in_range = omega (arith, pow_pos a.width) }
      | false ↦ Fits-below a (a.value / b.value) fits (div-le_self a.value b.value)
    ]

pub Fits-remainder_of : (a b : BitVector) → Fits a → Fits (remainder_of a b)
Fits-remainder_of a b fits =
    elim (b.value == 0) as (λ zero_divisor. Fits (record { width = a.width; value = if zero_divisor then a.value else a.value % b.value })) [
      | true ↦ fits
      | false ↦ Fits-below a (a.value % b.value) fits (mod-le a.value b.value)
    ]

pub Fits-and_of : (a b : BitVector) → Fits a → Fits (and_of a b)
Fits-and_of a b fits = Fits-below a (bit_and a.value b.value) fits (and_le_l a.value b.value)

pub Fits-or_of : (a b : BitVector) → Fits a → Fits b → a.width ≡ b.width → Fits (or_of a b)
Fits-or_of a b fits_a fits_b same =
    let right : b.value < 2 ^ a.width = rw same fits_b.in_range in
    record { some_bits = fits_a.some_bits; few_bits = fits_a.few_bits; in_range = or_lt a.width a.value b.value fits_a.in_range right }

pub Fits-xor_of : (a b : BitVector) → Fits a → Fits b → a.width ≡ b.width → Fits (xor_of a b)
Fits-xor_of a b fits_a fits_b same =
    let right : b.value < 2 ^ a.width = rw same fits_b.in_range in
    record { some_bits = fits_a.some_bits; few_bits = fits_a.few_bits; in_range = xor_lt a.width a.value b.value fits_a.in_range right }

pub Fits-complement_of : (a : BitVector) → Fits a → Fits (complement_of a)
Fits-complement_of a fits = record { some_bits = fits.some_bits; few_bits = fits.few_bits; in_range = omega (arith, pow_pos a.width) }

pub Fits-left_shift_of : (a b : BitVector) → Fits a → Fits (left_shift_of a b)
Fits-left_shift_of a b fits = Fits-mod a.width (a.value * 2 ^ b.value) fits.some_bits fits.few_bits

pub Fits-right_shift_of : (a b : BitVector) → Fits a → Fits (right_shift_of a b)
Fits-right_shift_of a b fits = Fits-below a (a.value / 2 ^ b.value) fits (shr_le a.value b.value)

-- each comparison gives a truth value as one bit
pub Fits-bit_of : (truth : Bool) → Fits (bit_of truth)
Fits-bit_of true = record { some_bits = omega arith; few_bits = omega arith; in_range = omega arith }
Fits-bit_of false = record { some_bits = omega arith; few_bits = omega arith; in_range = omega arith }

pub Fits-low_bits_of : (a : BitVector) (width : ℕ) → Fits a → 1 ≤ width → width ≤ a.width → Fits (low_bits_of a width)
Fits-low_bits_of a width fits some within = let few : width ≤ 128 = omega arith in Fits-mod width a.value some few

pub Fits-zero_extension_of : (a : BitVector) (width : ℕ) → Fits a → a.width ≤ width → width ≤ 128 → Fits (zero_extension_of a width)
Fits-zero_extension_of a width fits wider few =
    let two : 0 < 2 = omega arith in
    let grows : 2 ^ a.width ≤ 2 ^ width = pow-le-pow_right two wider in
    record { some_bits = omega arith; few_bits = few; in_range = omega arith }

-- only the top bit is 1
abbrev pub top_bit_of : BitVector → BitVector
top_bit_of a = record { width = a.width; value = 2 ^ (a.width - 1) }

-- a number below p, at the other side of the middle `half`
pub record AcrossMiddle (half number turned : ℕ) : Type 0 where
  pub lower : number < half → turned ≡ number + half
  pub upper : half ≤ number → turned + half ≡ number

-- to turn the top bit brings a number to the other side of the middle
pub AcrossMiddle-xor : (k n : ℕ) → n < 2 ^ k + 2 ^ k → AcrossMiddle (2 ^ k) n (bit_xor n (2 ^ k))
AcrossMiddle-xor k n below = record {
  lower = λ is_lower.
      let blocks : bit_xor (0 * 2 ^ k + n) (1 * 2 ^ k + 0) ≡ bit_xor 0 1 * 2 ^ k + bit_xor n 0 = xor_block k 0 1 n 0 is_lower (pow_pos k) in
      let left : 0 * 2 ^ k + n ≡ n = omega arith in
      let top : 1 * 2 ^ k + 0 ≡ 2 ^ k = omega arith in
      let turned : bit_xor n (2 ^ k) ≡ 1 * 2 ^ k + bit_xor n 0 = sym (ap (λ m. bit_xor m (2 ^ k)) left) ∙ sym (ap (bit_xor (0 * 2 ^ k + n)) top) ∙ blocks in
      omega (arith, xor_zero_r n);
  upper = λ is_upper.
      let rest = n - 2 ^ k in
      let rest_below : rest < 2 ^ k = omega arith in
      let blocks : bit_xor (1 * 2 ^ k + rest) (1 * 2 ^ k + 0) ≡ bit_xor 1 1 * 2 ^ k + bit_xor rest 0 = xor_block k 1 1 rest 0 rest_below (pow_pos k) in
      let left : 1 * 2 ^ k + rest ≡ n = omega arith in
      let top : 1 * 2 ^ k + 0 ≡ 2 ^ k = omega arith in
      let turned : bit_xor n (2 ^ k) ≡ 0 * 2 ^ k + bit_xor rest 0 = sym (ap (λ m. bit_xor m (2 ^ k)) left) ∙ sym (ap (bit_xor (1 * 2 ^ k + rest)) top) ∙ blocks in
      omega (arith, xor_zero_r rest);
}

-- two to a width is twice its half
twice_half : (w : ℕ) → 1 ≤ w → 2 ^ w ≡ 2 ^ (w - 1) + 2 ^ (w - 1)
twice_half w some =
    let parts : w ≡ 1 + (w - 1) = omega arith in
    let product : 2 ^ w ≡ 2 * 2 ^ (w - 1) = ap (λ k. 2 ^ k) parts ∙ pow-add 2 1 (w - 1) in
    omega arith

-- numbers in two's complement stand in the order of their patterns with the top bit turned
pub signed_order : (half p x y across_x across_y : ℕ) → p ≡ half + half → x < p → y < p → AcrossMiddle half x across_x → AcrossMiddle half y across_y →
    int_lt (if nat_lt x half then pos x else pos x -ℤ pos p) (if nat_lt y half then pos y else pos y -ℤ pos p) ≡ nat_lt across_x across_y
signed_order half p x y across_x across_y double below_x below_y side_x side_y = grind (arith, ints, side_x.lower, side_x.upper, side_y.lower, side_y.upper)

-- signed comparison is unsigned comparison of both with the top bit turned
pub signed_less_bit_of-xor : (a b : BitVector) → Fits a → Fits b → a.width ≡ b.width → signed_less_bit_of a b ≡ less_bit_of (xor_of a (top_bit_of a)) (xor_of b (top_bit_of b))
signed_less_bit_of-xor a b fits_a fits_b same =
    let double : 2 ^ a.width ≡ 2 ^ (a.width - 1) + 2 ^ (a.width - 1) = twice_half a.width fits_a.some_bits in
    let below_a : a.value < 2 ^ (a.width - 1) + 2 ^ (a.width - 1) = omega arith in
    let below_b : b.value < 2 ^ a.width = rw same fits_b.in_range in
    let side_a = AcrossMiddle-xor (a.width - 1) a.value below_a in
    let side_b = AcrossMiddle-xor (a.width - 1) b.value (omega arith) in
    let ordered = signed_order (2 ^ (a.width - 1)) (2 ^ a.width) a.value b.value (bit_xor a.value (2 ^ (a.width - 1))) (bit_xor b.value (2 ^ (a.width - 1))) double fits_a.in_range below_b side_a side_b in
    rw (← same) (ap bit_of ordered)
