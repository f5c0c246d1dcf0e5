-- What the table of primitives says of those without a state.
use Rattle.std.proofs.Common.{◌≡◌, ℕ, zero, suc, ◌*◌, Bool, true, false, ◌&&◌, List, [], ◌∷◌, length, Some, None, take, drop, refl}
use Rattle.std.specs.Prelude.{◌==◌, if◌then◌else◌, unwrap_or}
use Rattle.std.specs.List.{list_all, list_any}
use Rattle.cx_prim.specs.declared.names.PrimitiveName.{PrimitiveName}
use Rattle.cx_prim.specs.declared.names.PrimitiveName.TheVariants as primitives
use Rattle.cx_prim.specs.Widths.{is_width}
use Rattle.cx_prim.specs.Rows.{Row, is_output_side, is_plain_side}
use Rattle.cx_prim.specs.MemoryRows.{are_sizes, is_address_width, memory_row, sequential_memory_row}
use Rattle.cx_bits.specs.BitVector.{BitVector}
use Rattle.cx_prim.specs.Operators.{apply_unary, apply_binary, binary_out_width}
use Rattle.cx_prim.specs.CombinationalRows.{constant_row, unary_row, binary_row, mux_row}
use Rattle.cx_prim.specs.RegisterRow.{register_row}
use Rattle.cx_prim.specs.PipeRows.{multiplier_row, divider_row}
use Rattle.cx_prim.specs.Table.{PrimitiveRow, at_width, memory_at, no_row, row_of}
use Rattle.cx_prim.proofs.TableCases.{OfEachKind, of_row}
use Rattle.cx_meaning.specs.Rows.{side_of}
use Rattle.cx_meaning.specs.Designs.{OfPrimitive}
use Rattle.cx_numbering.specs.Names.{go_name}
use Rattle.cx_sharing.specs.Uses.{is_stateless, is_combinational}

-- WHAT CAN BE STARTED is not combinational
abbrev combines : Row → Bool
combines row = is_stateless row.shape && list_any (λ port. is_plain_side port.side) row.ports

where_none : (r : Row) (b : Bool) → combines r ≡ false → combines (unwrap_or (if b then Some r else None) no_row) ≡ false
where_none r true e = e
where_none r false e = refl

width_none : (make : ℕ → Row) → ((w : ℕ) → combines (make w) ≡ false) → (numbers : List ℕ) → combines (unwrap_or (at_width make numbers) no_row) ≡ false
width_none make e [] = refl
width_none make e (w ∷ []) = where_none (make w) (is_width w) (e w)
width_none make e (w ∷ x ∷ rest) = refl

memory_none : (d : ℕ) (make : ℕ → List ℕ → List ℕ → Row) → ((w : ℕ) (sizes widths : List ℕ) → combines (make w sizes widths) ≡ false) → (numbers : List ℕ) → combines (unwrap_or (memory_at d make numbers) no_row) ≡ false
memory_none d make e [] = refl
memory_none d make e (w ∷ rest) =
    where_none (make w (take d rest) (drop d rest)) ((is_width w && (length rest == 2 * d)) && (are_sizes (take d rest) && list_all is_address_width (drop d rest))) (e w (take d rest) (drop d rest))

pub started_none : (name : PrimitiveName) (numbers : List ℕ) (go : List ℕ) → go_name name ≡ Some go → is_combinational (OfPrimitive (record { name = name; numbers = numbers })) ≡ false
started_none primitives.Reg numbers go e = width_none register_row (λ w. refl) numbers
started_none primitives.StdMemD1 numbers go e = memory_none 1 memory_row (λ w s a. refl) numbers
started_none primitives.StdMemD2 numbers go e = memory_none 2 memory_row (λ w s a. refl) numbers
started_none primitives.StdMemD3 numbers go e = memory_none 3 memory_row (λ w s a. refl) numbers
started_none primitives.StdMemD4 numbers go e = memory_none 4 memory_row (λ w s a. refl) numbers
started_none primitives.CombMemD1 numbers go e = memory_none 1 memory_row (λ w s a. refl) numbers
started_none primitives.CombMemD2 numbers go e = memory_none 2 memory_row (λ w s a. refl) numbers
started_none primitives.CombMemD3 numbers go e = memory_none 3 memory_row (λ w s a. refl) numbers
started_none primitives.CombMemD4 numbers go e = memory_none 4 memory_row (λ w s a. refl) numbers
started_none primitives.SeqMemD1 numbers go e = memory_none 1 sequential_memory_row (λ w s a. refl) numbers
started_none primitives.SeqMemD2 numbers go e = memory_none 2 sequential_memory_row (λ w s a. refl) numbers
started_none primitives.SeqMemD3 numbers go e = memory_none 3 sequential_memory_row (λ w s a. refl) numbers
started_none primitives.SeqMemD4 numbers go e = memory_none 4 sequential_memory_row (λ w s a. refl) numbers
started_none primitives.MultPipe numbers go e = width_none multiplier_row (λ w. refl) numbers
started_none primitives.DivPipe numbers go e = width_none divider_row (λ w. refl) numbers
started_none _ numbers go e = absurd (cc)

-- EACH INPUT of a primitive without a state is read by each of its outputs
abbrev ReadsAll : Row → Type 0
ReadsAll row = is_stateless row.shape ≡ true → (n m : ℕ) → is_output_side (side_of row m) ≡ false → row.reads n m ≡ true

constant_reads : (w v n m : ℕ) → is_output_side (side_of (constant_row w v) m) ≡ false → (constant_row w v).reads n m ≡ true
constant_reads w v n zero e = absurd (cc)
constant_reads w v n (suc m) e = absurd (cc)

unary_reads : (w v : ℕ) (operator : BitVector → BitVector) (n m : ℕ) → is_output_side (side_of (unary_row w v operator) m) ≡ false → (unary_row w v operator).reads n m ≡ true
unary_reads w v operator n zero e = refl
unary_reads w v operator n (suc zero) e = absurd (cc)
unary_reads w v operator n (suc (suc m)) e = absurd (cc)

binary_reads : (w v : ℕ) (operator : BitVector → BitVector → BitVector) (n m : ℕ) → is_output_side (side_of (binary_row w v operator) m) ≡ false → (binary_row w v operator).reads n m ≡ true
binary_reads w v operator n zero e = refl
binary_reads w v operator n (suc zero) e = refl
binary_reads w v operator n (suc (suc zero)) e = absurd (cc)
binary_reads w v operator n (suc (suc (suc m))) e = absurd (cc)

mux_reads : (w n m : ℕ) → is_output_side (side_of (mux_row w) m) ≡ false → (mux_row w).reads n m ≡ true
mux_reads w n zero e = refl
mux_reads w n (suc zero) e = refl
mux_reads w n (suc (suc zero)) e = refl
mux_reads w n (suc (suc (suc zero))) e = absurd (cc)
mux_reads w n (suc (suc (suc (suc m)))) e = absurd (cc)

each_reads : OfEachKind ReadsAll
each_reads = record {
  none = λ s n m e. absurd (cc);
  constant = λ w v fits s n m e. constant_reads w v n m e;
  unary = λ operator w v fits s n m e. unary_reads w v (apply_unary operator v) n m e;
  binary = λ operator w fits s n m e. binary_reads w (binary_out_width operator w) (apply_binary operator) n m e;
  mux = λ w fits s n m e. mux_reads w n m e;
  register = λ w fits s. absurd (cc);
  memory = λ w sizes widths layout s. absurd (cc);
  sequential = λ w sizes widths layout s. absurd (cc);
  multiplier = λ w fits s. absurd (cc);
  divider = λ w fits s. absurd (cc);
  timer = λ n low high s. absurd (cc);
}

pub combinational_reads : (p : PrimitiveRow) (n m : ℕ) → is_combinational (OfPrimitive p) ≡ true → is_output_side (side_of (row_of p) m) ≡ false → (row_of p).reads n m ≡ true
combinational_reads p n m e out = of_row ReadsAll each_reads p (first (is_stateless (row_of p).shape) (list_any (λ port. is_plain_side port.side) (row_of p).ports) e) n m out
  where
    first : (a b : Bool) → (a && b) ≡ true → a ≡ true
    first true b e = refl
    first false b e = absurd (cc)
