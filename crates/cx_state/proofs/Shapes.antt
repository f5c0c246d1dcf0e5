-- The shape of a memory: its first number is the width of its words, and its sizes give their count.
use Rattle.std.proofs.Common.{◌≡◌, ℕ, ◌*◌, ◌/◌, ◌^◌, ◌==◌, ◌&&◌, nat_lt, nat_le, Bool, true, false, inl, inr, ◌⊎◌, List, [], ◌∷◌, length, take, drop, Option, Some, None, refl, sym, ◌∙◌, subst, arith, if◌then◌else◌}
use Rattle.std.specs.Prelude.{unwrap_or}
use Rattle.std.specs.List.{list_all}
use Rattle.std.proofs.lemmas.Bool.{eqb-true}
use Rattle.cx_bits.specs.Operators.{sum_of, difference_of, and_of, or_of, xor_of, complement_of, left_shift_of, right_shift_of, less_bit_of, equal_bit_of, signed_less_bit_of, low_bits_of, zero_extension_of}
use Rattle.cx_text.specs.Loading.{word_count}
use Rattle.cx_prim.specs.declared.names.PrimitiveName.{PrimitiveName}
use Rattle.cx_prim.specs.declared.names.PrimitiveName.TheVariants.{Const, Wire, Add, Sub, And, Or, Xor, Not, Lsh, Rsh, Lt, Gt, Equal, Neq, Le, Ge, Slt, Sgt, Seq, Sneq, Sle, Sge, Slice, Pad, Mux, Reg, StdMemD1, StdMemD2, StdMemD3, StdMemD4, CombMemD1, CombMemD2, CombMemD3, CombMemD4, SeqMemD1, SeqMemD2, SeqMemD3, SeqMemD4, MultPipe, DivPipe, Timer}
use Rattle.cx_prim.specs.CellStates.{StateShape, MemoryOf, SequentialMemoryOf}
use Rattle.cx_prim.specs.Widths.{is_width}
use Rattle.cx_prim.specs.Rows.{Row}
use Rattle.cx_prim.specs.CombinationalRows.{constant_row, unary_row, binary_row, mux_row, greater_bit_of, unequal_bit_of, at_most_bit_of, at_least_bit_of, signed_greater_bit_of, signed_at_most_bit_of, signed_at_least_bit_of}
use Rattle.cx_prim.specs.RegisterRow.{register_row}
use Rattle.cx_prim.specs.MemoryRows.{are_sizes, is_address_width, memory_row, sequential_memory_row}
use Rattle.cx_prim.specs.PipeRows.{multiplier_row, divider_row, timer_row}
use Rattle.cx_prim.specs.Table.{PrimitiveRow, at_width, constant_at, slice_at, pad_at, memory_at, timer_at, row_at, no_row, row_of}
use Rattle.cx_rules.specs.Wellformed.{first_number, is_memory}
use Rattle.cx_rules.specs.Externals.{sizes_in}
use Rattle.cx_text.proofs.BoolLaws.{and_both}

-- a memory with this width and this many words
abbrev pub IsMemoryOf : StateShape → ℕ → ℕ → Type 0
IsMemoryOf shape width count = (shape ≡ MemoryOf width count) ⊎ (shape ≡ SequentialMemoryOf width count)

-- the row that was found, where one was
abbrev found_shape : Option Row → StateShape
found_shape found = (unwrap_or found no_row).shape

-- a memory is one by its numbers
abbrev Suits : List ℕ → StateShape → Type 0
Suits numbers shape = is_memory shape ≡ true → IsMemoryOf shape (first_number numbers) (word_count (sizes_in numbers))

abbrev IsPlain : Option Row → Type 0
IsPlain found = is_memory (found_shape found) ≡ false

plain_suits : (numbers : List ℕ) (shape : StateShape) → is_memory shape ≡ false → Suits numbers shape
plain_suits numbers shape e h = absurd (let f : true ≡ false = sym h ∙ e in cc)

chosen_plain : (b : Bool) (row : Row) → is_memory row.shape ≡ false → IsPlain (if b then Some row else None)
chosen_plain true row e = e
chosen_plain false row e = refl

width_none : (make : ℕ → Row) → ((w : ℕ) → is_memory (make w).shape ≡ false) → (numbers : List ℕ) → IsPlain (at_width make numbers)
width_none make h [] = refl
width_none make h (w ∷ []) = chosen_plain (is_width w) (make w) (h w)
width_none make h (w ∷ x ∷ rest) = refl

width_plain : (make : ℕ → Row) → ((w : ℕ) → is_memory (make w).shape ≡ false) → (numbers : List ℕ) → Suits numbers (found_shape (at_width make numbers))
width_plain make h numbers = plain_suits numbers (found_shape (at_width make numbers)) (width_none make h numbers)

constant_none : (numbers : List ℕ) → IsPlain (constant_at numbers)
constant_none [] = refl
constant_none (w ∷ []) = refl
constant_none (w ∷ v ∷ []) = chosen_plain (is_width w && nat_lt v (2 ^ w)) (constant_row w v) refl
constant_none (w ∷ v ∷ x ∷ rest) = refl

constant_plain : (numbers : List ℕ) → Suits numbers (found_shape (constant_at numbers))
constant_plain numbers = plain_suits numbers (found_shape (constant_at numbers)) (constant_none numbers)

slice_none : (numbers : List ℕ) → IsPlain (slice_at numbers)
slice_none [] = refl
slice_none (w ∷ []) = refl
slice_none (w ∷ v ∷ []) = chosen_plain ((is_width w && is_width v) && nat_le v w) (unary_row w v (λ a. low_bits_of a v)) refl
slice_none (w ∷ v ∷ x ∷ rest) = refl

slice_plain : (numbers : List ℕ) → Suits numbers (found_shape (slice_at numbers))
slice_plain numbers = plain_suits numbers (found_shape (slice_at numbers)) (slice_none numbers)

pad_none : (numbers : List ℕ) → IsPlain (pad_at numbers)
pad_none [] = refl
pad_none (w ∷ []) = refl
pad_none (w ∷ v ∷ []) = chosen_plain ((is_width w && is_width v) && nat_le w v) (unary_row w v (λ a. zero_extension_of a v)) refl
pad_none (w ∷ v ∷ x ∷ rest) = refl

pad_plain : (numbers : List ℕ) → Suits numbers (found_shape (pad_at numbers))
pad_plain numbers = plain_suits numbers (found_shape (pad_at numbers)) (pad_none numbers)

timer_none : (numbers : List ℕ) → IsPlain (timer_at numbers)
timer_none [] = refl
timer_none (n ∷ []) = chosen_plain (nat_le 1 n && nat_lt n (2 ^ 32)) (timer_row n) refl
timer_none (n ∷ x ∷ rest) = refl

timer_plain : (numbers : List ℕ) → Suits numbers (found_shape (timer_at numbers))
timer_plain numbers = plain_suits numbers (found_shape (timer_at numbers)) (timer_none numbers)

-- a memory of some dimensions
dimension_shape : (d : ℕ) (make : ℕ → List ℕ → List ℕ → Row) → ((w : ℕ) (sizes widths : List ℕ) → IsMemoryOf (make w sizes widths).shape w (word_count sizes))
    → (numbers : List ℕ) → Suits numbers (found_shape (memory_at d make numbers))
dimension_shape d make h [] = plain_suits [] (found_shape None) refl
dimension_shape d make h (w ∷ rest) = by (is_width w && (length rest == 2 * d)) (are_sizes (take d rest) && list_all is_address_width (drop d rest)) refl
  where
    half : (is_width w && (length rest == 2 * d)) ≡ true → length rest / 2 ≡ d
    half e = let f : length rest ≡ 2 * d = eqb-true (length rest) (2 * d) (and_both (is_width w) (length rest == 2 * d) e).1 in omega arith

    by : (b c : Bool) → (is_width w && (length rest == 2 * d)) ≡ b → Suits (w ∷ rest) (found_shape (if b && c then Some (make w (take d rest) (drop d rest)) else None))
    by false c e = plain_suits (w ∷ rest) (found_shape None) refl
    by true false e = plain_suits (w ∷ rest) (found_shape None) refl
    by true true e = λ k. subst (λ n. IsMemoryOf (make w (take d rest) (drop d rest)).shape w (word_count (take n rest))) (sym (half e)) (h w (take d rest) (drop d rest))

shape_by_name : (name : PrimitiveName) (numbers : List ℕ) → Suits numbers (found_shape (row_at name numbers))
shape_by_name Const numbers = constant_plain numbers
shape_by_name Wire numbers = width_plain (λ w. unary_row w w (λ a. a)) (λ w. refl) numbers
shape_by_name Add numbers = width_plain (λ w. binary_row w w sum_of) (λ w. refl) numbers
shape_by_name Sub numbers = width_plain (λ w. binary_row w w difference_of) (λ w. refl) numbers
shape_by_name And numbers = width_plain (λ w. binary_row w w and_of) (λ w. refl) numbers
shape_by_name Or numbers = width_plain (λ w. binary_row w w or_of) (λ w. refl) numbers
shape_by_name Xor numbers = width_plain (λ w. binary_row w w xor_of) (λ w. refl) numbers
shape_by_name Not numbers = width_plain (λ w. unary_row w w complement_of) (λ w. refl) numbers
shape_by_name Lsh numbers = width_plain (λ w. binary_row w w left_shift_of) (λ w. refl) numbers
shape_by_name Rsh numbers = width_plain (λ w. binary_row w w right_shift_of) (λ w. refl) numbers
shape_by_name Lt numbers = width_plain (λ w. binary_row w 1 less_bit_of) (λ w. refl) numbers
shape_by_name Gt numbers = width_plain (λ w. binary_row w 1 greater_bit_of) (λ w. refl) numbers
shape_by_name Equal numbers = width_plain (λ w. binary_row w 1 equal_bit_of) (λ w. refl) numbers
shape_by_name Neq numbers = width_plain (λ w. binary_row w 1 unequal_bit_of) (λ w. refl) numbers
shape_by_name Le numbers = width_plain (λ w. binary_row w 1 at_most_bit_of) (λ w. refl) numbers
shape_by_name Ge numbers = width_plain (λ w. binary_row w 1 at_least_bit_of) (λ w. refl) numbers
shape_by_name Slt numbers = width_plain (λ w. binary_row w 1 signed_less_bit_of) (λ w. refl) numbers
shape_by_name Sgt numbers = width_plain (λ w. binary_row w 1 signed_greater_bit_of) (λ w. refl) numbers
shape_by_name Seq numbers = width_plain (λ w. binary_row w 1 equal_bit_of) (λ w. refl) numbers
shape_by_name Sneq numbers = width_plain (λ w. binary_row w 1 unequal_bit_of) (λ w. refl) numbers
shape_by_name Sle numbers = width_plain (λ w. binary_row w 1 signed_at_most_bit_of) (λ w. refl) numbers
shape_by_name Sge numbers = width_plain (λ w. binary_row w 1 signed_at_least_bit_of) (λ w. refl) numbers
shape_by_name Slice numbers = slice_plain numbers
shape_by_name Pad numbers = pad_plain numbers
shape_by_name Mux numbers = width_plain mux_row (λ w. refl) numbers
shape_by_name Reg numbers = width_plain register_row (λ w. refl) numbers
shape_by_name StdMemD1 numbers = dimension_shape 1 memory_row (λ w sizes widths. inl refl) numbers
shape_by_name StdMemD2 numbers = dimension_shape 2 memory_row (λ w sizes widths. inl refl) numbers
shape_by_name StdMemD3 numbers = dimension_shape 3 memory_row (λ w sizes widths. inl refl) numbers
shape_by_name StdMemD4 numbers = dimension_shape 4 memory_row (λ w sizes widths. inl refl) numbers
shape_by_name CombMemD1 numbers = dimension_shape 1 memory_row (λ w sizes widths. inl refl) numbers
shape_by_name CombMemD2 numbers = dimension_shape 2 memory_row (λ w sizes widths. inl refl) numbers
shape_by_name CombMemD3 numbers = dimension_shape 3 memory_row (λ w sizes widths. inl refl) numbers
shape_by_name CombMemD4 numbers = dimension_shape 4 memory_row (λ w sizes widths. inl refl) numbers
shape_by_name SeqMemD1 numbers = dimension_shape 1 sequential_memory_row (λ w sizes widths. inr refl) numbers
shape_by_name SeqMemD2 numbers = dimension_shape 2 sequential_memory_row (λ w sizes widths. inr refl) numbers
shape_by_name SeqMemD3 numbers = dimension_shape 3 sequential_memory_row (λ w sizes widths. inr refl) numbers
shape_by_name SeqMemD4 numbers = dimension_shape 4 sequential_memory_row (λ w sizes widths. inr refl) numbers
shape_by_name MultPipe numbers = width_plain multiplier_row (λ w. refl) numbers
shape_by_name DivPipe numbers = width_plain divider_row (λ w. refl) numbers
shape_by_name Timer numbers = timer_plain numbers

-- THE SHAPE of a memory
pub memory_shape : (p : PrimitiveRow) → is_memory (row_of p).shape ≡ true → IsMemoryOf (row_of p).shape (first_number p.numbers) (word_count (sizes_in p.numbers))
memory_shape p h = shape_by_name p.name p.numbers h
