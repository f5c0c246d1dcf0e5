-- Addresses out of range, by the name and the numbers of a primitive.
use Rattle.std.proofs.Common.{◌≡◌, ℕ, ◌+◌, ◌*◌, ◌^◌, ◌<◌, ◌≤◌, ◌==◌, nat_lt, nat_le, Bool, true, false, ◌&&◌, List, [], ◌∷◌, length, take, drop, zero, suc, Option, Some, None, IsSome, refl, sym, ap, ◌∙◌, arith, if◌then◌else◌}
use Rattle.std.specs.Prelude.{unwrap_or}
use Rattle.std.specs.List.{list_all}
use Rattle.std.proofs.lemmas.Bool.{eqb-true}
use Rattle.cx_prim.specs.declared.names.PrimitiveName.{PrimitiveName}
use Rattle.cx_prim.specs.declared.names.PrimitiveName.TheVariants.{Const, Wire, Add, Sub, And, Or, Xor, Not, Lsh, Rsh, Lt, Gt, Equal, Neq, Le, Ge, Slt, Sgt, Seq, Sneq, Sle, Sge, Slice, Pad, Mux, Reg, StdMemD1, StdMemD2, StdMemD3, StdMemD4, CombMemD1, CombMemD2, CombMemD3, CombMemD4, SeqMemD1, SeqMemD2, SeqMemD3, SeqMemD4, MultPipe, DivPipe, Timer}
use Rattle.cx_prim.specs.PrimitiveNames.{name_text, IsNamed}
use Rattle.cx_prim.specs.Widths.{is_width}
use Rattle.cx_prim.specs.Rows.{Row, Inputs, is_on}
use Rattle.cx_prim.specs.MemoryRows.{are_sizes, is_address_width, first_beyond, memory_row, sequential_memory_row}
use Rattle.cx_bits.specs.Operators.{sum_of, difference_of, and_of, or_of, xor_of, complement_of, left_shift_of, right_shift_of, less_bit_of, equal_bit_of, signed_less_bit_of, low_bits_of, zero_extension_of}
use Rattle.cx_prim.specs.CombinationalRows.{constant_row, unary_row, binary_row, mux_row, greater_bit_of, unequal_bit_of, at_most_bit_of, at_least_bit_of, signed_greater_bit_of, signed_at_most_bit_of, signed_at_least_bit_of}
use Rattle.cx_prim.specs.RegisterRow.{register_row}
use Rattle.cx_prim.specs.PipeRows.{multiplier_row, divider_row, timer_row}
use Rattle.cx_prim.specs.Table.{PrimitiveRow, HasRow, at_width, constant_at, slice_at, pad_at, memory_at, timer_at, row_at, no_row, row_of}
use Rattle.cx_design_sizes.specs.Dimensions.{dimensions_of}
use Rattle.cx_eval_cycle.specs.Ranges.{enable_of, out_by}
use Rattle.cx_text.proofs.BoolLaws.{and_both}
use Rattle.cx_prim.proofs.NameLemmas.{one_name}

-- by the row that was found, where one was
abbrev range_of : Option Row → Inputs → Option ℕ
range_of found = (unwrap_or found no_row).out_of_range

chosen_range : (b : Bool) (row : Row) (inputs : Inputs) → row.out_of_range inputs ≡ None → range_of (if b then Some row else None) inputs ≡ None
chosen_range true row inputs e = e
chosen_range false row inputs e = refl

width_range : (make : ℕ → Row) → ((w : ℕ) (inputs : Inputs) → (make w).out_of_range inputs ≡ None) → (numbers : List ℕ) (inputs : Inputs) → range_of (at_width make numbers) inputs ≡ None
width_range make h [] inputs = refl
width_range make h (w ∷ []) inputs = chosen_range (is_width w) (make w) inputs (h w inputs)
width_range make h (w ∷ x ∷ rest) inputs = refl

constant_range : (numbers : List ℕ) (inputs : Inputs) → range_of (constant_at numbers) inputs ≡ None
constant_range [] inputs = refl
constant_range (w ∷ []) inputs = refl
constant_range (w ∷ v ∷ []) inputs = chosen_range (is_width w && nat_lt v (2 ^ w)) (constant_row w v) inputs refl
constant_range (w ∷ v ∷ x ∷ rest) inputs = refl

slice_range : (numbers : List ℕ) (inputs : Inputs) → range_of (slice_at numbers) inputs ≡ None
slice_range [] inputs = refl
slice_range (w ∷ []) inputs = refl
slice_range (w ∷ v ∷ []) inputs = chosen_range ((is_width w && is_width v) && nat_le v w) (unary_row w v (λ a. low_bits_of a v)) inputs refl
slice_range (w ∷ v ∷ x ∷ rest) inputs = refl

pad_range : (numbers : List ℕ) (inputs : Inputs) → range_of (pad_at numbers) inputs ≡ None
pad_range [] inputs = refl
pad_range (w ∷ []) inputs = refl
pad_range (w ∷ v ∷ []) inputs = chosen_range ((is_width w && is_width v) && nat_le w v) (unary_row w v (λ a. zero_extension_of a v)) inputs refl
pad_range (w ∷ v ∷ x ∷ rest) inputs = refl

timer_range : (numbers : List ℕ) (inputs : Inputs) → range_of (timer_at numbers) inputs ≡ None
timer_range [] inputs = refl
timer_range (n ∷ []) inputs = chosen_range (nat_le 1 n && nat_lt n (2 ^ 32)) (timer_row n) inputs refl
timer_range (n ∷ x ∷ rest) inputs = refl

abbrev none : Option ℕ
none = None

same_none : (b : Bool) → (if b then none else none) ≡ none
same_none true = refl
same_none false = refl

-- no dimension, no address
none_out : (numbers : List ℕ) (inputs : Inputs) → out_by 0 0 numbers inputs ≡ None
none_out [] inputs = refl
none_out (n ∷ rest) inputs = same_none (is_on inputs 0)

flat : (numbers : List ℕ) (inputs : Inputs) (o : Option ℕ) → o ≡ None → out_by 0 0 numbers inputs ≡ o
flat numbers inputs o e = none_out numbers inputs ∙ sym e

taken_length : (xs : List ℕ) (d : ℕ) → d ≤ length xs → length (take d xs) ≡ d
taken_length xs zero le = refl
taken_length [] (suc d) le = absurd (omega arith)
taken_length (x ∷ xs) (suc d) le = ap suc (taken_length xs d (let h : suc d ≤ suc (length xs) = le in omega arith))

-- a memory of some dimensions
dimension_range : (d enable : ℕ) (make : ℕ → List ℕ → List ℕ → Row)
    → ((w : ℕ) (sizes widths : List ℕ) → length sizes ≡ d → (inputs : Inputs) → (if is_on inputs enable then first_beyond sizes 0 inputs else None) ≡ (make w sizes widths).out_of_range inputs)
    → (numbers : List ℕ) (inputs : Inputs) → IsSome (memory_at d make numbers) → out_by d enable numbers inputs ≡ range_of (memory_at d make numbers) inputs
dimension_range d enable make h [] inputs is_some = absurd (let f : false ≡ true = is_some in cc)
dimension_range d enable make h (w ∷ rest) inputs is_some = by (is_width w && (length rest == 2 * d)) (are_sizes (take d rest) && list_all is_address_width (drop d rest)) refl is_some
  where
    enough : (is_width w && (length rest == 2 * d)) ≡ true → d ≤ length rest
    enough e = let f : length rest ≡ 2 * d = eqb-true (length rest) (2 * d) (and_both (is_width w) (length rest == 2 * d) e).1 in omega arith

    by : (b c : Bool) → (is_width w && (length rest == 2 * d)) ≡ b → IsSome (if b && c then Some (make w (take d rest) (drop d rest)) else None)
        → (if is_on inputs enable then first_beyond (take d rest) 0 inputs else None) ≡ range_of (if b && c then Some (make w (take d rest) (drop d rest)) else None) inputs
    by false c e is_some = absurd (let f : false ≡ true = is_some in cc)
    by true false e is_some = absurd (let f : false ≡ true = is_some in cc)
    by true true e is_some = h w (take d rest) (drop d rest) (taken_length rest d (enough e)) inputs

range_by_name : (name : PrimitiveName) (numbers : List ℕ) (inputs : Inputs) → IsSome (row_at name numbers) → out_by (dimensions_of name) (enable_of name) numbers inputs ≡ range_of (row_at name numbers) inputs
range_by_name Const numbers inputs h = flat numbers inputs _ (constant_range numbers inputs)
range_by_name Wire numbers inputs h = flat numbers inputs _ (width_range (λ w. unary_row w w (λ a. a)) (λ w inputs. refl) numbers inputs)
range_by_name Add numbers inputs h = flat numbers inputs _ (width_range (λ w. binary_row w w sum_of) (λ w inputs. refl) numbers inputs)
range_by_name Sub numbers inputs h = flat numbers inputs _ (width_range (λ w. binary_row w w difference_of) (λ w inputs. refl) numbers inputs)
range_by_name And numbers inputs h = flat numbers inputs _ (width_range (λ w. binary_row w w and_of) (λ w inputs. refl) numbers inputs)
range_by_name Or numbers inputs h = flat numbers inputs _ (width_range (λ w. binary_row w w or_of) (λ w inputs. refl) numbers inputs)
range_by_name Xor numbers inputs h = flat numbers inputs _ (width_range (λ w. binary_row w w xor_of) (λ w inputs. refl) numbers inputs)
range_by_name Not numbers inputs h = flat numbers inputs _ (width_range (λ w. unary_row w w complement_of) (λ w inputs. refl) numbers inputs)
range_by_name Lsh numbers inputs h = flat numbers inputs _ (width_range (λ w. binary_row w w left_shift_of) (λ w inputs. refl) numbers inputs)
range_by_name Rsh numbers inputs h = flat numbers inputs _ (width_range (λ w. binary_row w w right_shift_of) (λ w inputs. refl) numbers inputs)
range_by_name Lt numbers inputs h = flat numbers inputs _ (width_range (λ w. binary_row w 1 less_bit_of) (λ w inputs. refl) numbers inputs)
range_by_name Gt numbers inputs h = flat numbers inputs _ (width_range (λ w. binary_row w 1 greater_bit_of) (λ w inputs. refl) numbers inputs)
range_by_name Equal numbers inputs h = flat numbers inputs _ (width_range (λ w. binary_row w 1 equal_bit_of) (λ w inputs. refl) numbers inputs)
range_by_name Neq numbers inputs h = flat numbers inputs _ (width_range (λ w. binary_row w 1 unequal_bit_of) (λ w inputs. refl) numbers inputs)
range_by_name Le numbers inputs h = flat numbers inputs _ (width_range (λ w. binary_row w 1 at_most_bit_of) (λ w inputs. refl) numbers inputs)
range_by_name Ge numbers inputs h = flat numbers inputs _ (width_range (λ w. binary_row w 1 at_least_bit_of) (λ w inputs. refl) numbers inputs)
range_by_name Slt numbers inputs h = flat numbers inputs _ (width_range (λ w. binary_row w 1 signed_less_bit_of) (λ w inputs. refl) numbers inputs)
range_by_name Sgt numbers inputs h = flat numbers inputs _ (width_range (λ w. binary_row w 1 signed_greater_bit_of) (λ w inputs. refl) numbers inputs)
range_by_name Seq numbers inputs h = flat numbers inputs _ (width_range (λ w. binary_row w 1 equal_bit_of) (λ w inputs. refl) numbers inputs)
range_by_name Sneq numbers inputs h = flat numbers inputs _ (width_range (λ w. binary_row w 1 unequal_bit_of) (λ w inputs. refl) numbers inputs)
range_by_name Sle numbers inputs h = flat numbers inputs _ (width_range (λ w. binary_row w 1 signed_at_most_bit_of) (λ w inputs. refl) numbers inputs)
range_by_name Sge numbers inputs h = flat numbers inputs _ (width_range (λ w. binary_row w 1 signed_at_least_bit_of) (λ w inputs. refl) numbers inputs)
range_by_name Slice numbers inputs h = flat numbers inputs _ (slice_range numbers inputs)
range_by_name Pad numbers inputs h = flat numbers inputs _ (pad_range numbers inputs)
range_by_name Mux numbers inputs h = flat numbers inputs _ (width_range mux_row (λ w inputs. refl) numbers inputs)
range_by_name Reg numbers inputs h = flat numbers inputs _ (width_range register_row (λ w inputs. refl) numbers inputs)
range_by_name StdMemD1 numbers inputs h = dimension_range 1 2 memory_row (λ w sizes widths same k. (let z : length sizes + 1 ≡ 2 = omega arith in ap (λ n. if is_on k n then first_beyond sizes 0 k else None) (sym z))) numbers inputs h
range_by_name StdMemD2 numbers inputs h = dimension_range 2 3 memory_row (λ w sizes widths same k. (let z : length sizes + 1 ≡ 3 = omega arith in ap (λ n. if is_on k n then first_beyond sizes 0 k else None) (sym z))) numbers inputs h
range_by_name StdMemD3 numbers inputs h = dimension_range 3 4 memory_row (λ w sizes widths same k. (let z : length sizes + 1 ≡ 4 = omega arith in ap (λ n. if is_on k n then first_beyond sizes 0 k else None) (sym z))) numbers inputs h
range_by_name StdMemD4 numbers inputs h = dimension_range 4 5 memory_row (λ w sizes widths same k. (let z : length sizes + 1 ≡ 5 = omega arith in ap (λ n. if is_on k n then first_beyond sizes 0 k else None) (sym z))) numbers inputs h
range_by_name CombMemD1 numbers inputs h = dimension_range 1 2 memory_row (λ w sizes widths same k. (let z : length sizes + 1 ≡ 2 = omega arith in ap (λ n. if is_on k n then first_beyond sizes 0 k else None) (sym z))) numbers inputs h
range_by_name CombMemD2 numbers inputs h = dimension_range 2 3 memory_row (λ w sizes widths same k. (let z : length sizes + 1 ≡ 3 = omega arith in ap (λ n. if is_on k n then first_beyond sizes 0 k else None) (sym z))) numbers inputs h
range_by_name CombMemD3 numbers inputs h = dimension_range 3 4 memory_row (λ w sizes widths same k. (let z : length sizes + 1 ≡ 4 = omega arith in ap (λ n. if is_on k n then first_beyond sizes 0 k else None) (sym z))) numbers inputs h
range_by_name CombMemD4 numbers inputs h = dimension_range 4 5 memory_row (λ w sizes widths same k. (let z : length sizes + 1 ≡ 5 = omega arith in ap (λ n. if is_on k n then first_beyond sizes 0 k else None) (sym z))) numbers inputs h
range_by_name SeqMemD1 numbers inputs h = dimension_range 1 1 sequential_memory_row (λ w sizes widths same k. (let z : length sizes ≡ 1 = omega arith in ap (λ n. if is_on k n then first_beyond sizes 0 k else None) (sym z))) numbers inputs h
range_by_name SeqMemD2 numbers inputs h = dimension_range 2 2 sequential_memory_row (λ w sizes widths same k. (let z : length sizes ≡ 2 = omega arith in ap (λ n. if is_on k n then first_beyond sizes 0 k else None) (sym z))) numbers inputs h
range_by_name SeqMemD3 numbers inputs h = dimension_range 3 3 sequential_memory_row (λ w sizes widths same k. (let z : length sizes ≡ 3 = omega arith in ap (λ n. if is_on k n then first_beyond sizes 0 k else None) (sym z))) numbers inputs h
range_by_name SeqMemD4 numbers inputs h = dimension_range 4 4 sequential_memory_row (λ w sizes widths same k. (let z : length sizes ≡ 4 = omega arith in ap (λ n. if is_on k n then first_beyond sizes 0 k else None) (sym z))) numbers inputs h
range_by_name MultPipe numbers inputs h = flat numbers inputs _ (width_range multiplier_row (λ w inputs. refl) numbers inputs)
range_by_name DivPipe numbers inputs h = flat numbers inputs _ (width_range divider_row (λ w inputs. refl) numbers inputs)
range_by_name Timer numbers inputs h = flat numbers inputs _ (timer_range numbers inputs)

-- by the name that was found for its text
pub found_range : (p : PrimitiveRow) (name : PrimitiveName) (inputs : Inputs) → HasRow p → IsNamed name (name_text p.name) → out_by (dimensions_of name) (enable_of name) p.numbers inputs ≡ (row_of p).out_of_range inputs
found_range p name inputs has named =
    ap (λ x. out_by (dimensions_of x) (enable_of x) p.numbers inputs) (one_name name p.name named.spelled) ∙ range_by_name p.name p.numbers inputs has

-- no sizes, no address
pub none_beyond : (sizes : List ℕ) (on : Bool) (inputs : Inputs) → sizes ≡ [] → (if on then first_beyond sizes 0 inputs else None) ≡ None
none_beyond sizes true inputs e = ap (λ xs. first_beyond xs 0 inputs) e
none_beyond sizes false inputs e = refl
