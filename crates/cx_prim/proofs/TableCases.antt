-- A property of every row of the table, from one case for each kind of row.
use Rattle.std.specs.Prelude.{◌≡◌, ℕ, ◌*◌, ◌<◌, ◌≤◌, ◌^◌, ◌==◌, ◌&&◌, Bool, true, false, List, [], ◌∷◌, Some, None, nat_lt, nat_le, length, take, drop, if◌then◌else◌, unwrap_or, refl}
use Rattle.std.specs.List.{list_all}
use Rattle.std.proofs.Common.{arith}
use Rattle.std.proofs.lemmas.Bool.{eqb-true, leb-true, ltb-true}
use Rattle.std.proofs.lemmas.List.{length-take, length-drop}
use Rattle.cx_bits.specs.BitVector.{Fits}
use Rattle.cx_bits.specs.Operators.{low_bits_of, zero_extension_of}
use Rattle.cx_prim.specs.declared.names.PrimitiveName.{PrimitiveName}
use Rattle.cx_prim.specs.declared.names.PrimitiveName.TheVariants.{Const, Wire, Add, Sub, And, Or, Xor, Not, Lsh, Rsh, Lt, Gt, Equal, Neq, Le, Ge, Slt, Sgt, Seq, Sneq, Sle, Sge, Slice, Pad, Mux, Reg, StdMemD1, StdMemD2, StdMemD3, StdMemD4, CombMemD1, CombMemD2, CombMemD3, CombMemD4, SeqMemD1, SeqMemD2, SeqMemD3, SeqMemD4, MultPipe, DivPipe, Timer}
use Rattle.cx_prim.specs.declared.operators.UnaryOperator.{UnaryOperator}
use Rattle.cx_prim.specs.declared.operators.UnaryOperator.TheVariants as unary
use Rattle.cx_prim.specs.declared.operators.BinaryOperator.{BinaryOperator}
use Rattle.cx_prim.specs.declared.operators.BinaryOperator.TheVariants as binary
use Rattle.cx_prim.specs.Widths.{IsWidth, is_width}
use Rattle.cx_prim.specs.Rows.{Row}
use Rattle.cx_prim.specs.Operators.{apply_unary, IsUnary, apply_binary, binary_out_width}
use Rattle.cx_prim.specs.CombinationalRows.{constant_row, unary_row, binary_row, mux_row}
use Rattle.cx_prim.specs.RegisterRow.{register_row}
use Rattle.cx_prim.specs.MemoryRows.{IsLayout, are_sizes, is_address_width, memory_row, sequential_memory_row}
use Rattle.cx_prim.specs.PipeRows.{multiplier_row, divider_row, timer_row}
use Rattle.cx_prim.specs.Table.{PrimitiveRow, at_width, constant_at, slice_at, pad_at, memory_at, timer_at, row_at, no_row, row_of}
use Rattle.cx_text.proofs.NumberLaws.{end_is}
use Rattle.cx_text.proofs.BoolLaws.{and_left, and_right}

-- what the test of a width tells
pub is_width_tells : (w : ℕ) → is_width w ≡ true → IsWidth w
is_width_tells w test = record { some_bits = leb-true 1 w (and_left (nat_le 1 w) (nat_le w 128) test); few_bits = leb-true w 128 (and_right (nat_le 1 w) (nat_le w 128) test) }

-- three tests that are all true
three_tests : (a b c : Bool) → ((a && b) && c) ≡ true → (a ≡ true) × (b ≡ true) × (c ≡ true)
three_tests true true true test = (refl, refl, refl)
three_tests true true false test = absurd (cc)
three_tests true false c test = absurd (cc)
three_tests false b c test = absurd (cc)

-- what the tests of a memory's numbers tell
pub is_layout_tells : (d w : ℕ) (rest : List ℕ) → d ≤ 4 → ((is_width w && (length rest == 2 * d)) && (are_sizes (take d rest) && list_all is_address_width (drop d rest))) ≡ true → IsLayout w (take d rest) (drop d rest)
is_layout_tells d w rest few test =
    let all = three_tests (is_width w) (length rest == 2 * d) (are_sizes (take d rest) && list_all is_address_width (drop d rest)) test in
    let counted : length rest ≡ 2 * d = eqb-true (length rest) (2 * d) all.1 in
    let sizes = length-take d rest in
    let widths = length-drop d rest in
    record {
      word = is_width_tells w all.0;
      few = omega arith;
      alike = omega arith;
      sized = and_left (are_sizes (take d rest)) (list_all is_address_width (drop d rest)) all.2;
      addressed = and_right (are_sizes (take d rest)) (list_all is_address_width (drop d rest)) all.2;
    }

-- A CASE FOR EACH KIND of row, at the numbers that the table takes; and for what stands where it takes none
pub record OfEachKind (P : Row → Type 0) : Type 0 where
  pub none : P no_row
  pub constant : (w v : ℕ) → Fits (record { width = w; value = v }) → P (constant_row w v)
  pub unary : (operator : UnaryOperator) (w v : ℕ) → IsUnary operator w v → P (unary_row w v (apply_unary operator v))
  pub binary : (operator : BinaryOperator) (w : ℕ) → IsWidth w → P (binary_row w (binary_out_width operator w) (apply_binary operator))
  pub mux : (w : ℕ) → IsWidth w → P (mux_row w)
  pub register : (w : ℕ) → IsWidth w → P (register_row w)
  pub memory : (w : ℕ) (sizes address_widths : List ℕ) → IsLayout w sizes address_widths → P (memory_row w sizes address_widths)
  pub sequential : (w : ℕ) (sizes address_widths : List ℕ) → IsLayout w sizes address_widths → P (sequential_memory_row w sizes address_widths)
  pub multiplier : (w : ℕ) → IsWidth w → P (multiplier_row w)
  pub divider : (w : ℕ) → IsWidth w → P (divider_row w)
  pub timer : (n : ℕ) → 1 ≤ n → n < 2 ^ 32 → P (timer_row n)

module _ (P : Row → Type 0) (each : OfEachKind P) where
  -- a row that is there where a test is true
  where_true : (r : Row) (b : Bool) → (b ≡ true → P r) → P (unwrap_or (if b then Some r else None) no_row)
  where_true r true has = has refl
  where_true r false has = each.none

  of_width : (make : ℕ → Row) → ((w : ℕ) → IsWidth w → P (make w)) → (numbers : List ℕ) → P (unwrap_or (at_width make numbers) no_row)
  of_width make has [] = each.none
  of_width make has (w ∷ []) = where_true (make w) (is_width w) (λ test. has w (is_width_tells w test))
  of_width make has (w ∷ x ∷ rest) = each.none

  of_constant : (numbers : List ℕ) → P (unwrap_or (constant_at numbers) no_row)
  of_constant [] = each.none
  of_constant (w ∷ []) = each.none
  of_constant (w ∷ v ∷ []) = where_true (constant_row w v) (is_width w && nat_lt v (2 ^ w)) (λ test. each.constant w v (fits (is_width_tells w (and_left (is_width w) (nat_lt v (2 ^ w)) test)) (ltb-true v (2 ^ w) (and_right (is_width w) (nat_lt v (2 ^ w)) test))))
    where
      fits : IsWidth w → v < 2 ^ w → Fits (record { width = w; value = v })
      fits width below = record { some_bits = width.some_bits; few_bits = width.few_bits; in_range = below }
  of_constant (w ∷ v ∷ x ∷ rest) = each.none

  of_slice : (numbers : List ℕ) → P (unwrap_or (slice_at numbers) no_row)
  of_slice [] = each.none
  of_slice (w ∷ []) = each.none
  of_slice (w ∷ v ∷ []) = where_true (unary_row w v (λ a. low_bits_of a v)) ((is_width w && is_width v) && nat_le v w) (λ test.
      let all = three_tests (is_width w) (is_width v) (nat_le v w) test in
      each.unary unary.Slice w v (record { input = is_width_tells w all.0; output = is_width_tells v all.1; taken = all.2 }))
  of_slice (w ∷ v ∷ x ∷ rest) = each.none

  of_pad : (numbers : List ℕ) → P (unwrap_or (pad_at numbers) no_row)
  of_pad [] = each.none
  of_pad (w ∷ []) = each.none
  of_pad (w ∷ v ∷ []) = where_true (unary_row w v (λ a. zero_extension_of a v)) ((is_width w && is_width v) && nat_le w v) (λ test.
      let all = three_tests (is_width w) (is_width v) (nat_le w v) test in
      each.unary unary.Pad w v (record { input = is_width_tells w all.0; output = is_width_tells v all.1; taken = all.2 }))
  of_pad (w ∷ v ∷ x ∷ rest) = each.none

  of_memory : (d : ℕ) → d ≤ 4 → (make : ℕ → List ℕ → List ℕ → Row) → ((w : ℕ) (sizes address_widths : List ℕ) → IsLayout w sizes address_widths → P (make w sizes address_widths))
      → (numbers : List ℕ) → P (unwrap_or (memory_at d make numbers) no_row)
  of_memory d few make has [] = each.none
  of_memory d few make has (w ∷ rest) =
      where_true (make w (take d rest) (drop d rest)) ((is_width w && (length rest == 2 * d)) && (are_sizes (take d rest) && list_all is_address_width (drop d rest))) (λ test. has w (take d rest) (drop d rest) (is_layout_tells d w rest few test))

  of_timer : (numbers : List ℕ) → P (unwrap_or (timer_at numbers) no_row)
  of_timer [] = each.none
  of_timer (n ∷ []) = where_true (timer_row n) (nat_le 1 n && nat_lt n (2 ^ 32)) (λ test. each.timer n (leb-true 1 n (and_left (nat_le 1 n) (nat_lt n (2 ^ 32)) test)) (ltb-true n (2 ^ 32) (and_right (nat_le 1 n) (nat_lt n (2 ^ 32)) test)))
  of_timer (n ∷ x ∷ rest) = each.none

  of_name : (name : PrimitiveName) (numbers : List ℕ) → P (unwrap_or (row_at name numbers) no_row)
  of_name Const numbers = of_constant numbers
  of_name Wire numbers = of_width _ (λ w ok. each.unary unary.Wire w w (record { input = ok; output = ok; taken = end_is w })) numbers
  of_name Not numbers = of_width _ (λ w ok. each.unary unary.Not w w (record { input = ok; output = ok; taken = end_is w })) numbers
  of_name Add numbers = of_width _ (each.binary binary.Add) numbers
  of_name Sub numbers = of_width _ (each.binary binary.Sub) numbers
  of_name And numbers = of_width _ (each.binary binary.And) numbers
  of_name Or numbers = of_width _ (each.binary binary.Or) numbers
  of_name Xor numbers = of_width _ (each.binary binary.Xor) numbers
  of_name Lsh numbers = of_width _ (each.binary binary.Lsh) numbers
  of_name Rsh numbers = of_width _ (each.binary binary.Rsh) numbers
  of_name Lt numbers = of_width _ (each.binary binary.Lt) numbers
  of_name Gt numbers = of_width _ (each.binary binary.Gt) numbers
  of_name Equal numbers = of_width _ (each.binary binary.Equal) numbers
  of_name Neq numbers = of_width _ (each.binary binary.Neq) numbers
  of_name Le numbers = of_width _ (each.binary binary.Le) numbers
  of_name Ge numbers = of_width _ (each.binary binary.Ge) numbers
  of_name Slt numbers = of_width _ (each.binary binary.Slt) numbers
  of_name Sgt numbers = of_width _ (each.binary binary.Sgt) numbers
  of_name Sle numbers = of_width _ (each.binary binary.Sle) numbers
  of_name Sge numbers = of_width _ (each.binary binary.Sge) numbers
  of_name Seq numbers = of_width _ (each.binary binary.Equal) numbers
  of_name Sneq numbers = of_width _ (each.binary binary.Neq) numbers
  of_name Slice numbers = of_slice numbers
  of_name Pad numbers = of_pad numbers
  of_name Mux numbers = of_width _ each.mux numbers
  of_name Reg numbers = of_width _ each.register numbers
  of_name StdMemD1 numbers = of_memory 1 (omega arith) _ each.memory numbers
  of_name StdMemD2 numbers = of_memory 2 (omega arith) _ each.memory numbers
  of_name StdMemD3 numbers = of_memory 3 (omega arith) _ each.memory numbers
  of_name StdMemD4 numbers = of_memory 4 (omega arith) _ each.memory numbers
  of_name CombMemD1 numbers = of_memory 1 (omega arith) _ each.memory numbers
  of_name CombMemD2 numbers = of_memory 2 (omega arith) _ each.memory numbers
  of_name CombMemD3 numbers = of_memory 3 (omega arith) _ each.memory numbers
  of_name CombMemD4 numbers = of_memory 4 (omega arith) _ each.memory numbers
  of_name SeqMemD1 numbers = of_memory 1 (omega arith) _ each.sequential numbers
  of_name SeqMemD2 numbers = of_memory 2 (omega arith) _ each.sequential numbers
  of_name SeqMemD3 numbers = of_memory 3 (omega arith) _ each.sequential numbers
  of_name SeqMemD4 numbers = of_memory 4 (omega arith) _ each.sequential numbers
  of_name MultPipe numbers = of_width _ each.multiplier numbers
  of_name DivPipe numbers = of_width _ each.divider numbers
  of_name Timer numbers = of_timer numbers

  -- EVERY ROW of the table has the property that each kind has
  pub of_row : (p : PrimitiveRow) → P (row_of p)
  of_row p = of_name p.name p.numbers
