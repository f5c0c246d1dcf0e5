-- The words of a primitive by its name and its numbers.
use Rattle.std.proofs.Common.{◌≡◌, ℕ, ◌*◌, ◌^◌, ◌<◌, ◌≤◌, ◌==◌, nat_lt, nat_le, Bool, true, false, ◌&&◌, List, [], ◌∷◌, length, take, drop, Option, Some, None, unwrap_or, IsSome, refl, sym, ap, ◌∙◌, arith, if◌then◌else◌}
use Rattle.std.specs.List.{list_all}
use Rattle.std.proofs.lemmas.Bool.{eqb-true, le-leb, lt-ltb}
use Rattle.cx_text.specs.Loading.{word_count}
use Rattle.cx_prim.specs.declared.names.PrimitiveName.{PrimitiveName}
use Rattle.cx_prim.specs.declared.names.PrimitiveName.TheVariants.{Const, Wire, Add, Sub, And, Or, Xor, Not, Lsh, Rsh, Lt, Gt, Equal, Neq, Le, Ge, Slt, Sgt, Seq, Sneq, Sle, Sge, Slice, Pad, Mux, Reg, StdMemD1, StdMemD2, StdMemD3, StdMemD4, CombMemD1, CombMemD2, CombMemD3, CombMemD4, SeqMemD1, SeqMemD2, SeqMemD3, SeqMemD4, MultPipe, DivPipe, Timer}
use Rattle.cx_prim.specs.PrimitiveNames.{name_text, IsNamed}
use Rattle.cx_prim.specs.Widths.{is_width}
use Rattle.cx_prim.specs.Rows.{Row}
use Rattle.cx_prim.specs.MemoryRows.{are_sizes, is_address_width, memory_row, sequential_memory_row}
use Rattle.cx_bits.specs.Operators.{sum_of, difference_of, and_of, or_of, xor_of, complement_of, left_shift_of, right_shift_of, less_bit_of, equal_bit_of, signed_less_bit_of, low_bits_of, zero_extension_of}
use Rattle.cx_prim.specs.CombinationalRows.{constant_row, unary_row, binary_row, mux_row, greater_bit_of, unequal_bit_of, at_most_bit_of, at_least_bit_of, signed_greater_bit_of, signed_at_most_bit_of, signed_at_least_bit_of}
use Rattle.cx_prim.specs.RegisterRow.{register_row}
use Rattle.cx_prim.specs.PipeRows.{multiplier_row, divider_row, timer_row}
use Rattle.cx_prim.specs.Table.{PrimitiveRow, HasRow, at_width, constant_at, slice_at, pad_at, memory_at, timer_at, row_at, no_row, row_of}
use Rattle.cx_rules.specs.Sizes.{shape_words}
use Rattle.cx_design_sizes.specs.Capped.{capped}
use Rattle.cx_design_sizes.specs.Dimensions.{dimensions_of, memory_words}
use Rattle.cx_text.proofs.BoolLaws.{and_both}
use Rattle.cx_prim.proofs.NameLemmas.{one_name}

-- the words of the row that was found, where one was
abbrev row_words : Option Row → ℕ
row_words found = shape_words (unwrap_or found no_row).shape

chosen_words : (b : Bool) (row : Row) → shape_words row.shape ≡ 0 → row_words (if b then Some row else None) ≡ 0
chosen_words true row e = e
chosen_words false row e = refl

width_words : (make : ℕ → Row) → ((w : ℕ) → shape_words (make w).shape ≡ 0) → (numbers : List ℕ) → row_words (at_width make numbers) ≡ 0
width_words make h [] = refl
width_words make h (w ∷ []) = chosen_words (is_width w) (make w) (h w)
width_words make h (w ∷ x ∷ rest) = refl

constant_words : (numbers : List ℕ) → row_words (constant_at numbers) ≡ 0
constant_words [] = refl
constant_words (w ∷ []) = refl
constant_words (w ∷ v ∷ []) = chosen_words (is_width w && nat_lt v (2 ^ w)) (constant_row w v) refl
constant_words (w ∷ v ∷ x ∷ rest) = refl

slice_words : (numbers : List ℕ) → row_words (slice_at numbers) ≡ 0
slice_words [] = refl
slice_words (w ∷ []) = refl
slice_words (w ∷ v ∷ []) = chosen_words ((is_width w && is_width v) && nat_le v w) (unary_row w v (λ a. low_bits_of a v)) refl
slice_words (w ∷ v ∷ x ∷ rest) = refl

pad_words : (numbers : List ℕ) → row_words (pad_at numbers) ≡ 0
pad_words [] = refl
pad_words (w ∷ []) = refl
pad_words (w ∷ v ∷ []) = chosen_words ((is_width w && is_width v) && nat_le w v) (unary_row w v (λ a. zero_extension_of a v)) refl
pad_words (w ∷ v ∷ x ∷ rest) = refl

timer_words : (numbers : List ℕ) → row_words (timer_at numbers) ≡ 0
timer_words [] = refl
timer_words (n ∷ []) = chosen_words (nat_le 1 n && nat_lt n (2 ^ 32)) (timer_row n) refl
timer_words (n ∷ x ∷ rest) = refl

-- no dimension, no words
none_words : (numbers : List ℕ) → memory_words 0 numbers ≡ 0
none_words [] = refl
none_words (n ∷ rest) = refl

flat : (numbers : List ℕ) (n : ℕ) → n ≡ 0 → memory_words 0 numbers ≡ capped n
flat numbers n e = none_words numbers ∙ sym (ap capped e)

-- a memory of some dimensions
dimension_words : (d : ℕ) (make : ℕ → List ℕ → List ℕ → Row) → 0 < d → ((w : ℕ) (sizes widths : List ℕ) → shape_words (make w sizes widths).shape ≡ word_count sizes)
    → (numbers : List ℕ) → IsSome (memory_at d make numbers) → memory_words d numbers ≡ capped (row_words (memory_at d make numbers))
dimension_words d make some h [] is_some = absurd (let f : false ≡ true = is_some in cc)
dimension_words d make some h (w ∷ rest) is_some = by (is_width w && (length rest == 2 * d)) (are_sizes (take d rest) && list_all is_address_width (drop d rest)) refl is_some
  where
    enough : (is_width w && (length rest == 2 * d)) ≡ true → d ≤ length rest
    enough e = let f : length rest ≡ 2 * d = eqb-true (length rest) (2 * d) (and_both (is_width w) (length rest == 2 * d) e).1 in omega arith

    by : (b c : Bool) → (is_width w && (length rest == 2 * d)) ≡ b → IsSome (if b && c then Some (make w (take d rest) (drop d rest)) else None)
        → (if nat_lt 0 d && nat_le d (length rest) then capped (word_count (take d rest)) else 0) ≡ capped (shape_words (unwrap_or (if b && c then Some (make w (take d rest) (drop d rest)) else None) no_row).shape)
    by false c e is_some = absurd (let f : false ≡ true = is_some in cc)
    by true false e is_some = absurd (let f : false ≡ true = is_some in cc)
    by true true e is_some =
        ap (λ x. if x && nat_le d (length rest) then capped (word_count (take d rest)) else 0) (lt-ltb 0 d some)
        ∙ ap (λ x. if x then capped (word_count (take d rest)) else 0) (le-leb d (length rest) (enough e))
        ∙ ap capped (sym (h w (take d rest) (drop d rest)))

-- THE WORDS of a primitive
pub words_by_name : (name : PrimitiveName) (numbers : List ℕ) → IsSome (row_at name numbers) → memory_words (dimensions_of name) numbers ≡ capped (shape_words (unwrap_or (row_at name numbers) no_row).shape)
words_by_name Const numbers h = flat numbers _ (constant_words numbers)
words_by_name Wire numbers h = flat numbers _ (width_words (λ w. unary_row w w (λ a. a)) (λ w. refl) numbers)
words_by_name Add numbers h = flat numbers _ (width_words (λ w. binary_row w w sum_of) (λ w. refl) numbers)
words_by_name Sub numbers h = flat numbers _ (width_words (λ w. binary_row w w difference_of) (λ w. refl) numbers)
words_by_name And numbers h = flat numbers _ (width_words (λ w. binary_row w w and_of) (λ w. refl) numbers)
words_by_name Or numbers h = flat numbers _ (width_words (λ w. binary_row w w or_of) (λ w. refl) numbers)
words_by_name Xor numbers h = flat numbers _ (width_words (λ w. binary_row w w xor_of) (λ w. refl) numbers)
words_by_name Not numbers h = flat numbers _ (width_words (λ w. unary_row w w complement_of) (λ w. refl) numbers)
words_by_name Lsh numbers h = flat numbers _ (width_words (λ w. binary_row w w left_shift_of) (λ w. refl) numbers)
words_by_name Rsh numbers h = flat numbers _ (width_words (λ w. binary_row w w right_shift_of) (λ w. refl) numbers)
words_by_name Lt numbers h = flat numbers _ (width_words (λ w. binary_row w 1 less_bit_of) (λ w. refl) numbers)
words_by_name Gt numbers h = flat numbers _ (width_words (λ w. binary_row w 1 greater_bit_of) (λ w. refl) numbers)
words_by_name Equal numbers h = flat numbers _ (width_words (λ w. binary_row w 1 equal_bit_of) (λ w. refl) numbers)
words_by_name Neq numbers h = flat numbers _ (width_words (λ w. binary_row w 1 unequal_bit_of) (λ w. refl) numbers)
words_by_name Le numbers h = flat numbers _ (width_words (λ w. binary_row w 1 at_most_bit_of) (λ w. refl) numbers)
words_by_name Ge numbers h = flat numbers _ (width_words (λ w. binary_row w 1 at_least_bit_of) (λ w. refl) numbers)
words_by_name Slt numbers h = flat numbers _ (width_words (λ w. binary_row w 1 signed_less_bit_of) (λ w. refl) numbers)
words_by_name Sgt numbers h = flat numbers _ (width_words (λ w. binary_row w 1 signed_greater_bit_of) (λ w. refl) numbers)
words_by_name Seq numbers h = flat numbers _ (width_words (λ w. binary_row w 1 equal_bit_of) (λ w. refl) numbers)
words_by_name Sneq numbers h = flat numbers _ (width_words (λ w. binary_row w 1 unequal_bit_of) (λ w. refl) numbers)
words_by_name Sle numbers h = flat numbers _ (width_words (λ w. binary_row w 1 signed_at_most_bit_of) (λ w. refl) numbers)
words_by_name Sge numbers h = flat numbers _ (width_words (λ w. binary_row w 1 signed_at_least_bit_of) (λ w. refl) numbers)
words_by_name Slice numbers h = flat numbers _ (slice_words numbers)
words_by_name Pad numbers h = flat numbers _ (pad_words numbers)
words_by_name Mux numbers h = flat numbers _ (width_words mux_row (λ w. refl) numbers)
words_by_name Reg numbers h = flat numbers _ (width_words register_row (λ w. refl) numbers)
words_by_name StdMemD1 numbers h = dimension_words 1 memory_row (omega arith) (λ w sizes widths. refl) numbers h
words_by_name StdMemD2 numbers h = dimension_words 2 memory_row (omega arith) (λ w sizes widths. refl) numbers h
words_by_name StdMemD3 numbers h = dimension_words 3 memory_row (omega arith) (λ w sizes widths. refl) numbers h
words_by_name StdMemD4 numbers h = dimension_words 4 memory_row (omega arith) (λ w sizes widths. refl) numbers h
words_by_name CombMemD1 numbers h = dimension_words 1 memory_row (omega arith) (λ w sizes widths. refl) numbers h
words_by_name CombMemD2 numbers h = dimension_words 2 memory_row (omega arith) (λ w sizes widths. refl) numbers h
words_by_name CombMemD3 numbers h = dimension_words 3 memory_row (omega arith) (λ w sizes widths. refl) numbers h
words_by_name CombMemD4 numbers h = dimension_words 4 memory_row (omega arith) (λ w sizes widths. refl) numbers h
words_by_name SeqMemD1 numbers h = dimension_words 1 sequential_memory_row (omega arith) (λ w sizes widths. refl) numbers h
words_by_name SeqMemD2 numbers h = dimension_words 2 sequential_memory_row (omega arith) (λ w sizes widths. refl) numbers h
words_by_name SeqMemD3 numbers h = dimension_words 3 sequential_memory_row (omega arith) (λ w sizes widths. refl) numbers h
words_by_name SeqMemD4 numbers h = dimension_words 4 sequential_memory_row (omega arith) (λ w sizes widths. refl) numbers h
words_by_name MultPipe numbers h = flat numbers _ (width_words multiplier_row (λ w. refl) numbers)
words_by_name DivPipe numbers h = flat numbers _ (width_words divider_row (λ w. refl) numbers)
words_by_name Timer numbers h = flat numbers _ (timer_words numbers)

-- by the name that was found for its text
pub found_words : (p : PrimitiveRow) (name : PrimitiveName) → HasRow p → IsNamed name (name_text p.name) → memory_words (dimensions_of name) p.numbers ≡ capped (shape_words (row_of p).shape)
found_words p name has named =
    ap (λ x. memory_words (dimensions_of x) p.numbers) (one_name name p.name named.spelled) ∙ words_by_name p.name p.numbers has
