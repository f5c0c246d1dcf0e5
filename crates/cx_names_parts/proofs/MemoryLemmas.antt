-- A primitive is a memory where its name is one of a memory and its numbers keep the row.
use Rattle.std.proofs.Common.{◌≡◌, ◌*◌, ◌==◌, ◌^◌, ℕ, Bool, true, false, ◌&&◌, not, List, [], ◌∷◌, Option, Some, None, cond, take, drop, length, nat_lt, nat_le, is_none, unwrap_or, refl}
use Rattle.std.specs.List.{list_all}
use Rattle.cx_bits.specs.Operators.{low_bits_of, zero_extension_of}
use Rattle.cx_prim.specs.declared.names.PrimitiveName.{PrimitiveName}
use Rattle.cx_prim.specs.declared.names.PrimitiveName.TheVariants as primitives
use Rattle.cx_prim.specs.Widths.{is_width}
use Rattle.cx_prim.specs.Rows.{Row}
use Rattle.cx_prim.specs.CombinationalRows.{constant_row, unary_row}
use Rattle.cx_prim.specs.PipeRows.{timer_row}
use Rattle.cx_prim.specs.MemoryRows.{memory_row, sequential_memory_row, are_sizes, is_address_width}
use Rattle.cx_prim.specs.Table.{row_at, at_width, constant_at, slice_at, pad_at, memory_at, timer_at, no_row}
use Rattle.cx_rules.specs.Wellformed.{is_memory}
use Rattle.cx_names_parts.specs.Memories.{is_memory_name}

-- whether the row, where there is one, is that of a memory
abbrev of_memory : Option Row → Bool
of_memory o = is_memory (unwrap_or o no_row).shape

none_or : (b : Bool) (row : Row) → is_memory row.shape ≡ false → of_memory (cond b (Some row) None) ≡ false
none_or true row h = h
none_or false row h = refl

width_is : (make : ℕ → Row) → ((w : ℕ) → is_memory (make w).shape ≡ false) → (numbers : List ℕ) → of_memory (at_width make numbers) ≡ false
width_is make none [] = refl
width_is make none (w ∷ []) = none_or (is_width w) (make w) (none w)
width_is make none (w ∷ x ∷ rest) = refl

constant_is : (numbers : List ℕ) → of_memory (constant_at numbers) ≡ false
constant_is [] = refl
constant_is (w ∷ []) = refl
constant_is (w ∷ x ∷ []) = none_or (is_width w && nat_lt x (2 ^ w)) (constant_row w x) refl
constant_is (w ∷ x ∷ y ∷ rest) = refl

slice_is : (numbers : List ℕ) → of_memory (slice_at numbers) ≡ false
slice_is [] = refl
slice_is (w ∷ []) = refl
slice_is (w ∷ x ∷ []) = none_or ((is_width w && is_width x) && nat_le x w) (unary_row w x (λ a. low_bits_of a x)) refl
slice_is (w ∷ x ∷ y ∷ rest) = refl

pad_is : (numbers : List ℕ) → of_memory (pad_at numbers) ≡ false
pad_is [] = refl
pad_is (w ∷ []) = refl
pad_is (w ∷ x ∷ []) = none_or ((is_width w && is_width x) && nat_le w x) (unary_row w x (λ a. zero_extension_of a x)) refl
pad_is (w ∷ x ∷ y ∷ rest) = refl

timer_is : (numbers : List ℕ) → of_memory (timer_at numbers) ≡ false
timer_is [] = refl
timer_is (n ∷ []) = none_or (nat_le 1 n && nat_lt n (2 ^ 32)) (timer_row n) refl
timer_is (n ∷ x ∷ rest) = refl

memory_is : (d : ℕ) (make : ℕ → List ℕ → List ℕ → Row) → ((w : ℕ) (s a : List ℕ) → is_memory (make w s a).shape ≡ true) → (numbers : List ℕ) → of_memory (memory_at d make numbers) ≡ not (is_none (memory_at d make numbers))
memory_is d make every [] = refl
memory_is d make every (w ∷ rest) = by ((is_width w && (length rest == 2 * d)) && (are_sizes (take d rest) && list_all is_address_width (drop d rest)))
  where
    by : (b : Bool) → of_memory (cond b (Some (make w (take d rest) (drop d rest))) None) ≡ not (is_none (cond b (Some (make w (take d rest) (drop d rest))) None))
    by true = every w (take d rest) (drop d rest)
    by false = refl

pub row_is : (name : PrimitiveName) (numbers : List ℕ) → is_memory (unwrap_or (row_at name numbers) no_row).shape ≡ (is_memory_name name && not (is_none (row_at name numbers)))
row_is primitives.Const numbers = constant_is numbers
row_is primitives.Wire numbers = width_is _ (λ w. refl) numbers
row_is primitives.Add numbers = width_is _ (λ w. refl) numbers
row_is primitives.Sub numbers = width_is _ (λ w. refl) numbers
row_is primitives.And numbers = width_is _ (λ w. refl) numbers
row_is primitives.Or numbers = width_is _ (λ w. refl) numbers
row_is primitives.Xor numbers = width_is _ (λ w. refl) numbers
row_is primitives.Not numbers = width_is _ (λ w. refl) numbers
row_is primitives.Lsh numbers = width_is _ (λ w. refl) numbers
row_is primitives.Rsh numbers = width_is _ (λ w. refl) numbers
row_is primitives.Lt numbers = width_is _ (λ w. refl) numbers
row_is primitives.Gt numbers = width_is _ (λ w. refl) numbers
row_is primitives.Equal numbers = width_is _ (λ w. refl) numbers
row_is primitives.Neq numbers = width_is _ (λ w. refl) numbers
row_is primitives.Le numbers = width_is _ (λ w. refl) numbers
row_is primitives.Ge numbers = width_is _ (λ w. refl) numbers
row_is primitives.Slt numbers = width_is _ (λ w. refl) numbers
row_is primitives.Sgt numbers = width_is _ (λ w. refl) numbers
row_is primitives.Seq numbers = width_is _ (λ w. refl) numbers
row_is primitives.Sneq numbers = width_is _ (λ w. refl) numbers
row_is primitives.Sle numbers = width_is _ (λ w. refl) numbers
row_is primitives.Sge numbers = width_is _ (λ w. refl) numbers
row_is primitives.Slice numbers = slice_is numbers
row_is primitives.Pad numbers = pad_is numbers
row_is primitives.Mux numbers = width_is _ (λ w. refl) numbers
row_is primitives.Reg numbers = width_is _ (λ w. refl) numbers
row_is primitives.StdMemD1 numbers = memory_is 1 memory_row (λ w s a. refl) numbers
row_is primitives.StdMemD2 numbers = memory_is 2 memory_row (λ w s a. refl) numbers
row_is primitives.StdMemD3 numbers = memory_is 3 memory_row (λ w s a. refl) numbers
row_is primitives.StdMemD4 numbers = memory_is 4 memory_row (λ w s a. refl) numbers
row_is primitives.CombMemD1 numbers = memory_is 1 memory_row (λ w s a. refl) numbers
row_is primitives.CombMemD2 numbers = memory_is 2 memory_row (λ w s a. refl) numbers
row_is primitives.CombMemD3 numbers = memory_is 3 memory_row (λ w s a. refl) numbers
row_is primitives.CombMemD4 numbers = memory_is 4 memory_row (λ w s a. refl) numbers
row_is primitives.SeqMemD1 numbers = memory_is 1 sequential_memory_row (λ w s a. refl) numbers
row_is primitives.SeqMemD2 numbers = memory_is 2 sequential_memory_row (λ w s a. refl) numbers
row_is primitives.SeqMemD3 numbers = memory_is 3 sequential_memory_row (λ w s a. refl) numbers
row_is primitives.SeqMemD4 numbers = memory_is 4 sequential_memory_row (λ w s a. refl) numbers
row_is primitives.MultPipe numbers = width_is _ (λ w. refl) numbers
row_is primitives.DivPipe numbers = width_is _ (λ w. refl) numbers
row_is primitives.Timer numbers = timer_is numbers
