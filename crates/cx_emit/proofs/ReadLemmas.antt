-- The outputs of a row read ports that are there.
use Rattle.std.proofs.Common.{◌≡◌, ℕ, ◌+◌, ◌<◌, ◌≤◌, ◌==◌, true, false, List, [], ◌∷◌, length, length-append, refl, arith}
use Rattle.std.specs.Prelude.{nat_lt}
use Rattle.std.proofs.lemmas.Bool.{ltb-true, and_parts}
use Rattle.cx_bits.specs.BitVector.{BitVector}
use Rattle.cx_prim.specs.declared.ports.PortName.TheVariants.{WriteData, WriteEn, ReadData, Done}
use Rattle.cx_prim.specs.Rows.{Row}
use Rattle.cx_prim.specs.CombinationalRows.{constant_row, unary_row, binary_row, mux_row, plain_port, enable_port, output_port, registered_port}
use Rattle.cx_prim.specs.MemoryRows.{address_ports, memory_row, sequential_memory_row}
use Rattle.cx_prim.specs.Operators.{apply_unary, apply_binary, binary_out_width}
use Rattle.cx_prim.specs.PipeRows.{multiplier_row, divider_row, timer_row}
use Rattle.cx_prim.specs.RegisterRow.{register_row}
use Rattle.cx_prim.specs.Table.{PrimitiveRow, no_row, row_of}
use Rattle.cx_prim.proofs.TableCases.{OfEachKind, of_row}

-- an output reads ports that are there
abbrev pub ReadsPorts : Row → Type 0
ReadsPorts row = (n k : ℕ) → row.reads n k ≡ true → k < length row.ports

none_read : (row : Row) → ((n k : ℕ) → row.reads n k ≡ false) → ReadsPorts row
none_read row none n k e = absurd (let wrong = none n k in cc)

nothing_read : ReadsPorts no_row
nothing_read n k e = absurd (let lt = ltb-true k 0 e in omega arith)

memory_reads : (w : ℕ) (sizes widths : List ℕ) → length sizes ≤ 4 → ReadsPorts (memory_row w sizes widths)
memory_reads w sizes widths few n k e =
    let lt = ltb-true k (length sizes) (and_parts (n == length sizes + 2) (nat_lt k (length sizes)) e).1 in
    let long = length-append (address_ports widths) (plain_port WriteData w ∷ enable_port WriteEn ∷ output_port ReadData w ∷ registered_port Done 1 ∷ []) in
    omega arith

constant_reads : (w v : ℕ) → ReadsPorts (constant_row w v)
constant_reads w v n k e = absurd (let lt = ltb-true k 0 e in omega arith)

unary_reads : (w v : ℕ) (f : BitVector → BitVector) → ReadsPorts (unary_row w v f)
unary_reads w v f n k e = let lt = ltb-true k 1 e in let more : k < 2 = omega arith in more

binary_reads : (w v : ℕ) (f : BitVector → BitVector → BitVector) → ReadsPorts (binary_row w v f)
binary_reads w v f n k e = let lt = ltb-true k 2 e in let more : k < 3 = omega arith in more

mux_reads : (w : ℕ) → ReadsPorts (mux_row w)
mux_reads w n k e = let lt = ltb-true k 3 e in let more : k < 4 = omega arith in more

each_kind_reads_ports : OfEachKind ReadsPorts
each_kind_reads_ports = record {
  none = nothing_read;
  constant = λ w v fits. constant_reads w v;
  unary = λ operator w v takes. unary_reads w v (apply_unary operator v);
  binary = λ operator w ok. binary_reads w (binary_out_width operator w) (apply_binary operator);
  mux = λ w ok. mux_reads w;
  register = λ w ok. none_read (register_row w) (λ n k. refl);
  memory = λ w sizes widths layout. memory_reads w sizes widths layout.few;
  sequential = λ w sizes widths layout. none_read (sequential_memory_row w sizes widths) (λ n k. refl);
  multiplier = λ w ok. none_read (multiplier_row w) (λ n k. refl);
  divider = λ w ok. none_read (divider_row w) (λ n k. refl);
  timer = λ l some most. none_read (timer_row l) (λ n k. refl);
}

-- of each primitive
pub row_of_reads : (p : PrimitiveRow) → ReadsPorts (row_of p)
row_of_reads p = of_row ReadsPorts each_kind_reads_ports p
