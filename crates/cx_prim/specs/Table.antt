-- The table of primitives: the row of each name at its numbers.
use Rattle.std.specs.Prelude.{ℕ, ◌*◌, ◌^◌, ◌==◌, ◌&&◌, List, [], ◌∷◌, Option, Some, None, nat_lt, nat_le, length, take, drop, if◌then◌else◌, unwrap_or, IsSome}
use Rattle.std.specs.List.{list_all}
use Rattle.cx_bits.specs.Operators.{sum_of, difference_of, and_of, or_of, xor_of, complement_of, left_shift_of, right_shift_of, less_bit_of, equal_bit_of, signed_less_bit_of, low_bits_of, zero_extension_of}
use Rattle.cx_prim.specs.declared.names.PrimitiveName.{PrimitiveName}
use Rattle.cx_prim.specs.declared.names.PrimitiveName.TheVariants.{Const, Wire, Add, Sub, And, Or, Xor, Not, Lsh, Rsh, Lt, Gt, Equal, Neq, Le, Ge, Slt, Sgt, Seq, Sneq, Sle, Sge, Slice, Pad, Mux, Reg, StdMemD1, StdMemD2, StdMemD3, StdMemD4, CombMemD1, CombMemD2, CombMemD3, CombMemD4, SeqMemD1, SeqMemD2, SeqMemD3, SeqMemD4, MultPipe, DivPipe, Timer}
use Rattle.cx_prim.specs.Widths.{is_width}
use Rattle.cx_prim.specs.Rows.{Row}
use Rattle.cx_prim.specs.CombinationalRows.{combinational_row, constant_row, unary_row, binary_row, mux_row, greater_bit_of, unequal_bit_of, at_most_bit_of, at_least_bit_of, signed_greater_bit_of, signed_at_most_bit_of, signed_at_least_bit_of}
use Rattle.cx_prim.specs.RegisterRow.{register_row}
use Rattle.cx_prim.specs.MemoryRows.{are_sizes, is_address_width, memory_row, sequential_memory_row}
use Rattle.cx_prim.specs.PipeRows.{multiplier_row, divider_row, timer_row}

-- a primitive as designs write it: its name and its numbers
pub record PrimitiveRow : Type 0 where
  pub name : PrimitiveName
  pub numbers : List ℕ

-- numbers: the width
abbrev pub at_width : (ℕ → Row) → List ℕ → Option Row
at_width make (width ∷ []) = if is_width width then Some (make width) else None
at_width make _ = None

-- numbers: the width and the value, which is below two to the width
abbrev pub constant_at : List ℕ → Option Row
constant_at (width ∷ value ∷ []) =
    if is_width width && nat_lt value (2 ^ width) then Some (constant_row width value) else None
constant_at _ = None

-- numbers: the width of the input, and that of the output, which is no greater
abbrev pub slice_at : List ℕ → Option Row
slice_at (width ∷ low ∷ []) =
    if (is_width width && is_width low) && nat_le low width
    then Some (unary_row width low (λ a. low_bits_of a low)) else None
slice_at _ = None

-- numbers: the width of the input, and that of the output, which is no smaller
abbrev pub pad_at : List ℕ → Option Row
pad_at (width ∷ wide ∷ []) =
    if (is_width width && is_width wide) && nat_le width wide
    then Some (unary_row width wide (λ a. zero_extension_of a wide)) else None
pad_at _ = None

-- numbers: the width, the size of each dimension, the address width of each dimension
abbrev pub memory_at : ℕ → (ℕ → List ℕ → List ℕ → Row) → List ℕ → Option Row
memory_at dimensions make [] = None
memory_at dimensions make (width ∷ rest) =
    if (is_width width && (length rest == 2 * dimensions))
    && (are_sizes (take dimensions rest) && list_all is_address_width (drop dimensions rest))
    then Some (make width (take dimensions rest) (drop dimensions rest))
    else None

-- numbers: the length in cycles
abbrev pub timer_at : List ℕ → Option Row
timer_at (length ∷ []) = if nat_le 1 length && nat_lt length (2 ^ 32) then Some (timer_row length) else None
timer_at _ = None

-- the row of this name at these numbers. None where the numbers break the row
abbrev pub row_at : PrimitiveName → List ℕ → Option Row
row_at Const numbers = constant_at numbers
row_at Wire numbers = at_width (λ w. unary_row w w (λ a. a)) numbers
row_at Not numbers = at_width (λ w. unary_row w w complement_of) numbers
row_at Add numbers = at_width (λ w. binary_row w w sum_of) numbers
row_at Sub numbers = at_width (λ w. binary_row w w difference_of) numbers
row_at And numbers = at_width (λ w. binary_row w w and_of) numbers
row_at Or numbers = at_width (λ w. binary_row w w or_of) numbers
row_at Xor numbers = at_width (λ w. binary_row w w xor_of) numbers
row_at Lsh numbers = at_width (λ w. binary_row w w left_shift_of) numbers
row_at Rsh numbers = at_width (λ w. binary_row w w right_shift_of) numbers
row_at Lt numbers = at_width (λ w. binary_row w 1 less_bit_of) numbers
row_at Gt numbers = at_width (λ w. binary_row w 1 greater_bit_of) numbers
row_at Equal numbers = at_width (λ w. binary_row w 1 equal_bit_of) numbers
row_at Neq numbers = at_width (λ w. binary_row w 1 unequal_bit_of) numbers
row_at Le numbers = at_width (λ w. binary_row w 1 at_most_bit_of) numbers
row_at Ge numbers = at_width (λ w. binary_row w 1 at_least_bit_of) numbers
row_at Slt numbers = at_width (λ w. binary_row w 1 signed_less_bit_of) numbers
row_at Sgt numbers = at_width (λ w. binary_row w 1 signed_greater_bit_of) numbers
row_at Seq numbers = at_width (λ w. binary_row w 1 equal_bit_of) numbers
row_at Sneq numbers = at_width (λ w. binary_row w 1 unequal_bit_of) numbers
row_at Sle numbers = at_width (λ w. binary_row w 1 signed_at_most_bit_of) numbers
row_at Sge numbers = at_width (λ w. binary_row w 1 signed_at_least_bit_of) numbers
row_at Slice numbers = slice_at numbers
row_at Pad numbers = pad_at numbers
row_at Mux numbers = at_width mux_row numbers
row_at Reg numbers = at_width register_row numbers
row_at StdMemD1 numbers = memory_at 1 memory_row numbers
row_at StdMemD2 numbers = memory_at 2 memory_row numbers
row_at StdMemD3 numbers = memory_at 3 memory_row numbers
row_at StdMemD4 numbers = memory_at 4 memory_row numbers
row_at CombMemD1 numbers = memory_at 1 memory_row numbers
row_at CombMemD2 numbers = memory_at 2 memory_row numbers
row_at CombMemD3 numbers = memory_at 3 memory_row numbers
row_at CombMemD4 numbers = memory_at 4 memory_row numbers
row_at SeqMemD1 numbers = memory_at 1 sequential_memory_row numbers
row_at SeqMemD2 numbers = memory_at 2 sequential_memory_row numbers
row_at SeqMemD3 numbers = memory_at 3 sequential_memory_row numbers
row_at SeqMemD4 numbers = memory_at 4 sequential_memory_row numbers
row_at MultPipe numbers = at_width multiplier_row numbers
row_at DivPipe numbers = at_width divider_row numbers
row_at Timer numbers = timer_at numbers

-- a row without ports, for numbers that break the row of their name
abbrev pub no_row : Row
no_row = combinational_row [] 0 (λ inputs. None)

-- the row of a primitive
abbrev pub row_of : PrimitiveRow → Row
row_of p = unwrap_or (row_at p.name p.numbers) no_row

-- the numbers keep the row of the name
abbrev pub HasRow : PrimitiveRow → Type 0
HasRow p = IsSome (row_at p.name p.numbers)
