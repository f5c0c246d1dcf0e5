-- What the operators compute (IEEE 1364-2005, 5.1), by the operators of `Bits`. Operands have equal widths, so none is extended.
use Rattle.std.specs.Prelude.{ℕ, ◌+◌, ◌-◌}
use Rattle.cx_bits.specs.BitVector.{BitVector}
use Rattle.cx_bits.specs.Operators.{sum_of, difference_of, product_of, and_of, or_of, xor_of, complement_of, left_shift_of, right_shift_of, equal_bit_of, less_bit_of, low_bits_of, concatenation_of}
use Rattle.cx_vtree.specs.declared.operators.Operator.{Operator}
use Rattle.cx_vtree.specs.declared.operators.Operator.TheVariants.{Add, Subtract, Multiply, And, Or, Xor, ShiftLeft, ShiftRight, Equal, NotEqual, Less, Greater, AtMost, AtLeast}

abbrev pub operate : Operator → BitVector → BitVector → BitVector
operate Add a b = sum_of a b
operate Subtract a b = difference_of a b
operate Multiply a b = product_of a b
operate And a b = and_of a b
operate Or a b = or_of a b
operate Xor a b = xor_of a b
operate ShiftLeft a b = left_shift_of a b
operate ShiftRight a b = right_shift_of a b
operate Equal a b = equal_bit_of a b
operate NotEqual a b = complement_of (equal_bit_of a b)
operate Less a b = less_bit_of a b
operate Greater a b = less_bit_of b a
operate AtMost a b = complement_of (less_bit_of b a)
operate AtLeast a b = complement_of (less_bit_of a b)

-- `~a`
abbrev pub inverted : BitVector → BitVector
inverted a = complement_of a

-- `a[high:low]`: without the bits below `low`, the lowest up to `high`
abbrev pub part_of : ℕ → ℕ → BitVector → BitVector
part_of high low a = low_bits_of (right_shift_of a (record { width = a.width; value = low })) (high + 1 - low)

-- `{a, b}`
abbrev pub joined : BitVector → BitVector → BitVector
joined a b = concatenation_of a b
