-- The cycles of a primitive by its name and its numbers, and whether it is a pipe.
use Rattle.std.proofs.Common.{◌≡◌, ℕ, ◌*◌, ◌^◌, ◌==◌, nat_lt, nat_le, Bool, true, false, ◌&&◌, List, [], ◌∷◌, length, take, drop, Option, Some, None, unwrap_or, IsSome, refl, ap, ◌∙◌, if◌then◌else◌}
use Rattle.std.specs.List.{list_all}
use Rattle.cx_prim.specs.declared.names.PrimitiveName.{PrimitiveName}
use Rattle.cx_prim.specs.declared.names.PrimitiveName.TheVariants.{Const, Wire, Add, Sub, And, Or, Xor, Not, Lsh, Rsh, Lt, Gt, Equal, Neq, Le, Ge, Slt, Sgt, Seq, Sneq, Sle, Sge, Slice, Pad, Mux, Reg, StdMemD1, StdMemD2, StdMemD3, StdMemD4, CombMemD1, CombMemD2, CombMemD3, CombMemD4, SeqMemD1, SeqMemD2, SeqMemD3, SeqMemD4, MultPipe, DivPipe, Timer}
use Rattle.cx_prim.specs.PrimitiveNames.{name_text, IsNamed}
use Rattle.cx_prim.specs.CellStates.{StateShape}
use Rattle.cx_prim.specs.Widths.{is_width}
use Rattle.cx_prim.specs.Rows.{Row}
use Rattle.cx_prim.specs.MemoryRows.{are_sizes, is_address_width, memory_row, sequential_memory_row}
use Rattle.cx_bits.specs.Operators.{sum_of, difference_of, and_of, or_of, xor_of, complement_of, left_shift_of, right_shift_of, less_bit_of, equal_bit_of, signed_less_bit_of, low_bits_of, zero_extension_of}
use Rattle.cx_prim.specs.CombinationalRows.{constant_row, unary_row, binary_row, mux_row, greater_bit_of, unequal_bit_of, at_most_bit_of, at_least_bit_of, signed_greater_bit_of, signed_at_most_bit_of, signed_at_least_bit_of}
use Rattle.cx_prim.specs.RegisterRow.{register_row}
use Rattle.cx_prim.specs.PipeRows.{multiplier_row, divider_row, timer_row}
use Rattle.cx_prim.specs.Table.{PrimitiveRow, HasRow, at_width, constant_at, slice_at, pad_at, memory_at, timer_at, row_at, no_row, row_of}
use Rattle.cx_promotion.specs.Promotable.{cycles_of, is_pipe}
use Rattle.cx_promote.specs.Cycles.{cycles_named, is_pipe_name}
use Rattle.cx_prim.proofs.NameLemmas.{one_name}

-- what is asked of a shape: the cycles, and whether it is a pipe's
pub record Work : Type 0 where
  pub cycles : Option ℕ
  pub pipe : Bool

abbrev work_of : StateShape → Work
work_of shape = record { cycles = cycles_of shape; pipe = is_pipe shape }

abbrev work_named : PrimitiveName → List ℕ → Work
work_named name numbers = record { cycles = cycles_named name numbers; pipe = is_pipe_name name }

-- of the row that was found, where one was
abbrev row_work : Option Row → Work
row_work found = work_of (unwrap_or found no_row).shape

none_found : false ≡ true → ⊥
none_found e = cc

chosen : (v : Work) (b : Bool) (row : Row) → v ≡ work_of row.shape → IsSome (if b then Some row else None) → v ≡ row_work (if b then Some row else None)
chosen v true row e some = e
chosen v false row e some = absurd (none_found some)

of_width : (v : Work) (make : ℕ → Row) → ((w : ℕ) → v ≡ work_of (make w).shape) → (numbers : List ℕ) → IsSome (at_width make numbers) → v ≡ row_work (at_width make numbers)
of_width v make h [] some = absurd (none_found some)
of_width v make h (w ∷ []) some = chosen v (is_width w) (make w) (h w) some
of_width v make h (w ∷ x ∷ rest) some = absurd (none_found some)

of_constant : (numbers : List ℕ) → IsSome (constant_at numbers) → work_named Const [] ≡ row_work (constant_at numbers)
of_constant [] some = absurd (none_found some)
of_constant (w ∷ []) some = absurd (none_found some)
of_constant (w ∷ v ∷ []) some = chosen (work_named Const []) (is_width w && nat_lt v (2 ^ w)) (constant_row w v) refl some
of_constant (w ∷ v ∷ x ∷ rest) some = absurd (none_found some)

of_slice : (numbers : List ℕ) → IsSome (slice_at numbers) → work_named Slice [] ≡ row_work (slice_at numbers)
of_slice [] some = absurd (none_found some)
of_slice (w ∷ []) some = absurd (none_found some)
of_slice (w ∷ v ∷ []) some = chosen (work_named Slice []) ((is_width w && is_width v) && nat_le v w) (unary_row w v (λ a. low_bits_of a v)) refl some
of_slice (w ∷ v ∷ x ∷ rest) some = absurd (none_found some)

of_pad : (numbers : List ℕ) → IsSome (pad_at numbers) → work_named Pad [] ≡ row_work (pad_at numbers)
of_pad [] some = absurd (none_found some)
of_pad (w ∷ []) some = absurd (none_found some)
of_pad (w ∷ v ∷ []) some = chosen (work_named Pad []) ((is_width w && is_width v) && nat_le w v) (unary_row w v (λ a. zero_extension_of a v)) refl some
of_pad (w ∷ v ∷ x ∷ rest) some = absurd (none_found some)

of_divider : (numbers : List ℕ) → IsSome (at_width divider_row numbers) → work_named DivPipe numbers ≡ row_work (at_width divider_row numbers)
of_divider [] some = absurd (none_found some)
of_divider (w ∷ []) some = chosen (work_named DivPipe (w ∷ [])) (is_width w) (divider_row w) refl some
of_divider (w ∷ x ∷ rest) some = absurd (none_found some)

of_timer : (numbers : List ℕ) → work_named Timer [] ≡ row_work (timer_at numbers)
of_timer [] = refl
of_timer (n ∷ []) = by (nat_le 1 n && nat_lt n (2 ^ 32))
  where
    by : (b : Bool) → work_named Timer [] ≡ row_work (if b then Some (timer_row n) else None)
    by true = refl
    by false = refl
of_timer (n ∷ x ∷ rest) = refl

abbrev memory : Work
memory = record { cycles = Some 1; pipe = false }

of_memory : (d : ℕ) (make : ℕ → List ℕ → List ℕ → Row) → ((w : ℕ) (sizes widths : List ℕ) → memory ≡ work_of (make w sizes widths).shape)
    → (numbers : List ℕ) → IsSome (memory_at d make numbers) → memory ≡ row_work (memory_at d make numbers)
of_memory d make h [] some = absurd (none_found some)
of_memory d make h (w ∷ rest) some =
    chosen memory ((is_width w && (length rest == 2 * d)) && (are_sizes (take d rest) && list_all is_address_width (drop d rest))) (make w (take d rest) (drop d rest)) (h w (take d rest) (drop d rest)) some

work_by_name : (name : PrimitiveName) (numbers : List ℕ) → IsSome (row_at name numbers) → work_named name numbers ≡ row_work (row_at name numbers)
work_by_name Const numbers some = of_constant numbers some
work_by_name Wire numbers some = of_width (work_named Wire []) (λ w. unary_row w w (λ a. a)) (λ w. refl) numbers some
work_by_name Add numbers some = of_width (work_named Add []) (λ w. binary_row w w sum_of) (λ w. refl) numbers some
work_by_name Sub numbers some = of_width (work_named Sub []) (λ w. binary_row w w difference_of) (λ w. refl) numbers some
work_by_name And numbers some = of_width (work_named And []) (λ w. binary_row w w and_of) (λ w. refl) numbers some
work_by_name Or numbers some = of_width (work_named Or []) (λ w. binary_row w w or_of) (λ w. refl) numbers some
work_by_name Xor numbers some = of_width (work_named Xor []) (λ w. binary_row w w xor_of) (λ w. refl) numbers some
work_by_name Not numbers some = of_width (work_named Not []) (λ w. unary_row w w complement_of) (λ w. refl) numbers some
work_by_name Lsh numbers some = of_width (work_named Lsh []) (λ w. binary_row w w left_shift_of) (λ w. refl) numbers some
work_by_name Rsh numbers some = of_width (work_named Rsh []) (λ w. binary_row w w right_shift_of) (λ w. refl) numbers some
work_by_name Lt numbers some = of_width (work_named Lt []) (λ w. binary_row w 1 less_bit_of) (λ w. refl) numbers some
work_by_name Gt numbers some = of_width (work_named Gt []) (λ w. binary_row w 1 greater_bit_of) (λ w. refl) numbers some
work_by_name Equal numbers some = of_width (work_named Equal []) (λ w. binary_row w 1 equal_bit_of) (λ w. refl) numbers some
work_by_name Neq numbers some = of_width (work_named Neq []) (λ w. binary_row w 1 unequal_bit_of) (λ w. refl) numbers some
work_by_name Le numbers some = of_width (work_named Le []) (λ w. binary_row w 1 at_most_bit_of) (λ w. refl) numbers some
work_by_name Ge numbers some = of_width (work_named Ge []) (λ w. binary_row w 1 at_least_bit_of) (λ w. refl) numbers some
work_by_name Slt numbers some = of_width (work_named Slt []) (λ w. binary_row w 1 signed_less_bit_of) (λ w. refl) numbers some
work_by_name Sgt numbers some = of_width (work_named Sgt []) (λ w. binary_row w 1 signed_greater_bit_of) (λ w. refl) numbers some
work_by_name Seq numbers some = of_width (work_named Seq []) (λ w. binary_row w 1 equal_bit_of) (λ w. refl) numbers some
work_by_name Sneq numbers some = of_width (work_named Sneq []) (λ w. binary_row w 1 unequal_bit_of) (λ w. refl) numbers some
work_by_name Sle numbers some = of_width (work_named Sle []) (λ w. binary_row w 1 signed_at_most_bit_of) (λ w. refl) numbers some
work_by_name Sge numbers some = of_width (work_named Sge []) (λ w. binary_row w 1 signed_at_least_bit_of) (λ w. refl) numbers some
work_by_name Slice numbers some = of_slice numbers some
work_by_name Pad numbers some = of_pad numbers some
work_by_name Mux numbers some = of_width (work_named Mux []) mux_row (λ w. refl) numbers some
work_by_name Reg numbers some = of_width (work_named Reg []) register_row (λ w. refl) numbers some
work_by_name StdMemD1 numbers some = of_memory 1 memory_row (λ w sizes widths. refl) numbers some
work_by_name StdMemD2 numbers some = of_memory 2 memory_row (λ w sizes widths. refl) numbers some
work_by_name StdMemD3 numbers some = of_memory 3 memory_row (λ w sizes widths. refl) numbers some
work_by_name StdMemD4 numbers some = of_memory 4 memory_row (λ w sizes widths. refl) numbers some
work_by_name CombMemD1 numbers some = of_memory 1 memory_row (λ w sizes widths. refl) numbers some
work_by_name CombMemD2 numbers some = of_memory 2 memory_row (λ w sizes widths. refl) numbers some
work_by_name CombMemD3 numbers some = of_memory 3 memory_row (λ w sizes widths. refl) numbers some
work_by_name CombMemD4 numbers some = of_memory 4 memory_row (λ w sizes widths. refl) numbers some
work_by_name SeqMemD1 numbers some = of_memory 1 sequential_memory_row (λ w sizes widths. refl) numbers some
work_by_name SeqMemD2 numbers some = of_memory 2 sequential_memory_row (λ w sizes widths. refl) numbers some
work_by_name SeqMemD3 numbers some = of_memory 3 sequential_memory_row (λ w sizes widths. refl) numbers some
work_by_name SeqMemD4 numbers some = of_memory 4 sequential_memory_row (λ w sizes widths. refl) numbers some
work_by_name MultPipe numbers some = of_width (work_named MultPipe []) multiplier_row (λ w. refl) numbers some
work_by_name DivPipe numbers some = of_divider numbers some
work_by_name Timer numbers some = of_timer numbers

-- by the name that was found for its text
found_work : (p : PrimitiveRow) (name : PrimitiveName) → HasRow p → IsNamed name (name_text p.name) → work_named name p.numbers ≡ work_of (row_of p).shape
found_work p name has named = ap (λ x. work_named x p.numbers) (one_name name p.name named.spelled) ∙ work_by_name p.name p.numbers has

pub found_cycles : (p : PrimitiveRow) (name : PrimitiveName) → HasRow p → IsNamed name (name_text p.name) → cycles_named name p.numbers ≡ cycles_of (row_of p).shape
found_cycles p name has named = ap (λ w. w.cycles) (found_work p name has named)

pub found_pipe : (p : PrimitiveRow) (name : PrimitiveName) → HasRow p → IsNamed name (name_text p.name) → is_pipe_name name ≡ is_pipe (row_of p).shape
found_pipe p name has named = ap (λ w. w.pipe) (found_work p name has named)
