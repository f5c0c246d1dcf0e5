-- Worked values of the operators, each by hand from its sentence.
use Rattle.std.proofs.Common.{◌≡◌, negsuc, pos, refl}
use Rattle.cx_bits.specs.BitVector.{of_width}
use Rattle.cx_bits.specs.Operators.{sum_of, difference_of, product_of, quotient_of, remainder_of, and_of, or_of, xor_of, complement_of, left_shift_of, right_shift_of, less_bit_of, equal_bit_of, signed_of, signed_less_bit_of, low_bits_of, zero_extension_of, concatenation_of}

-- 255 and 1 are 256, which is 0 of_width 8 bits
known_sum : sum_of (of_width 8 255) (of_width 8 1) ≡ of_width 8 0
known_sum = refl

-- 3 less 5 is -2, which is 14 of_width 4 bits
known_difference : difference_of (of_width 4 3) (of_width 4 5) ≡ of_width 4 14
known_difference = refl

-- 65536 times 65537 is 2 ^ 32 + 65536
known_product : product_of (of_width 32 65536) (of_width 32 65537) ≡ of_width 32 65536
known_product = refl

-- 200 is 28 times 7, and 4
known_quotient : quotient_of (of_width 32 200) (of_width 32 7) ≡ of_width 32 28
known_quotient = refl

known_remainder : remainder_of (of_width 32 200) (of_width 32 7) ≡ of_width 32 4
known_remainder = refl

-- by 0: all ones, and the dividend
known_quotient_by_zero : quotient_of (of_width 32 200) (of_width 32 0) ≡ of_width 32 4294967295
known_quotient_by_zero = refl

known_remainder_by_zero : remainder_of (of_width 32 200) (of_width 32 0) ≡ of_width 32 200
known_remainder_by_zero = refl

-- 1100 and 1010
known_and : and_of (of_width 4 12) (of_width 4 10) ≡ of_width 4 8
known_and = refl

known_or : or_of (of_width 4 12) (of_width 4 10) ≡ of_width 4 14
known_or = refl

known_xor : xor_of (of_width 4 12) (of_width 4 10) ≡ of_width 4 6
known_xor = refl

-- 0101 for 1010
known_complement : complement_of (of_width 4 10) ≡ of_width 4 5
known_complement = refl

-- 1011 by two places is 1100, and 10 the other way; by four places nothing is left
known_left_shift : left_shift_of (of_width 4 11) (of_width 4 2) ≡ of_width 4 12
known_left_shift = refl

known_right_shift : right_shift_of (of_width 4 11) (of_width 4 2) ≡ of_width 4 2
known_right_shift = refl

known_left_shift_past : left_shift_of (of_width 4 11) (of_width 4 4) ≡ of_width 4 0
known_left_shift_past = refl

known_right_shift_past : right_shift_of (of_width 4 11) (of_width 4 4) ≡ of_width 4 0
known_right_shift_past = refl

-- 255 is above 1, and as -1 it is below
known_less : less_bit_of (of_width 8 255) (of_width 8 1) ≡ of_width 1 0
known_less = refl

known_signed_less : signed_less_bit_of (of_width 8 255) (of_width 8 1) ≡ of_width 1 1
known_signed_less = refl

-- the ends of 8 bits in two's complement: -128, -1 and 127
known_signed_least : signed_of (of_width 8 128) ≡ negsuc 127
known_signed_least = refl

known_signed_ones : signed_of (of_width 8 255) ≡ negsuc 0
known_signed_ones = refl

known_signed_greatest : signed_of (of_width 8 127) ≡ pos 127
known_signed_greatest = refl

-- the one bit 1 is -1
known_signed_bit : signed_of (of_width 1 1) ≡ negsuc 0
known_signed_bit = refl

known_equal : equal_bit_of (of_width 8 7) (of_width 8 7) ≡ of_width 1 1
known_equal = refl

-- 1011 has the low bits 011, is 01011 of_width 5 bits, and with 01 below it is 101101
known_low : low_bits_of (of_width 4 11) 3 ≡ of_width 3 3
known_low = refl

known_zero_extension : zero_extension_of (of_width 4 11) 5 ≡ of_width 5 11
known_zero_extension = refl

known_concatenation : concatenation_of (of_width 4 11) (of_width 2 1) ≡ of_width 6 45
known_concatenation = refl
