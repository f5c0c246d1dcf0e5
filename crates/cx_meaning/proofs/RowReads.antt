-- An output of a row of the table reads plain inputs alone.
use Rattle.std.proofs.Common.{◌≡◌, ℕ, zero, suc, ◌+◌, ◌<◌, ◌==◌, List, [], ◌∷◌, true, length, refl, arith}
use Rattle.std.specs.Prelude.{nat_lt}
use Rattle.std.proofs.lemmas.Bool.{ltb-true}
use Rattle.cx_bits.specs.BitVector.{BitVector}
use Rattle.cx_prim.specs.declared.ports.PortName.TheVariants as names
use Rattle.cx_prim.specs.declared.ports.Side.TheVariants as sides
use Rattle.cx_prim.specs.Rows.{Row}
use Rattle.cx_prim.specs.CombinationalRows.{constant_row, unary_row, binary_row, mux_row}
use Rattle.cx_prim.specs.MemoryRows.{IsLayout, memory_row}
use Rattle.cx_prim.specs.Table.{PrimitiveRow, no_row, row_of}
use Rattle.cx_prim.proofs.TableCases.{OfEachKind, of_row}
use Rattle.cx_meaning.specs.Rows.{side_of}
use Rattle.cx_text.proofs.BoolLaws.{and_right}
use Rattle.cx_text.proofs.NumberLaws.{never}
use Rattle.cx_meaning.proofs.RowsLemmas.{named_plain}

pub record ReadsPlain (r : Row) : Type 0 where
  pub plain : (n m : ℕ) → r.reads n m ≡ true → side_of r m ≡ sides.Plain

constant_reads : (w v : ℕ) → ReadsPlain (constant_row w v)
constant_reads w v = record { plain = λ n m e. let less : m < 0 = ltb-true m 0 e in absurd (omega (arith, less)) }

unary_reads : (w v : ℕ) (f : BitVector → BitVector) → ReadsPlain (unary_row w v f)
unary_reads w v f = record { plain = λ n m e. at m (ltb-true m 1 e) }
  where
    at : (m : ℕ) → m < 1 → side_of (unary_row w v f) m ≡ sides.Plain
    at zero less = refl
    at (suc m) less = absurd (omega arith)

binary_reads : (w v : ℕ) (f : BitVector → BitVector → BitVector) → ReadsPlain (binary_row w v f)
binary_reads w v f = record { plain = λ n m e. at m (ltb-true m 2 e) }
  where
    at : (m : ℕ) → m < 2 → side_of (binary_row w v f) m ≡ sides.Plain
    at zero less = refl
    at (suc zero) less = refl
    at (suc (suc m)) less = absurd (omega arith)

mux_reads : (w : ℕ) → ReadsPlain (mux_row w)
mux_reads w = record { plain = λ n m e. at m (ltb-true m 3 e) }
  where
    at : (m : ℕ) → m < 3 → side_of (mux_row w) m ≡ sides.Plain
    at zero less = refl
    at (suc zero) less = refl
    at (suc (suc zero)) less = refl
    at (suc (suc (suc m))) less = absurd (omega arith)

no_reads : ReadsPlain no_row
no_reads = record { plain = λ n m e. let less : m < 0 = ltb-true m 0 e in absurd (omega (arith, less)) }

memory_reads : (w : ℕ) (sizes address_widths : List ℕ) → IsLayout w sizes address_widths → ReadsPlain (memory_row w sizes address_widths)
memory_reads w sizes address_widths layout = record {
  plain = λ n m e.
      let less : m < length sizes = ltb-true m (length sizes) (and_right (n == length sizes + 2) (nat_lt m (length sizes)) e) in
      let few = layout.few in
      let alike = layout.alike in
      named_plain (names.Addr0 ∷ names.Addr1 ∷ names.Addr2 ∷ names.Addr3 ∷ []) address_widths _ m (omega (arith, less, few)) (omega (arith, less, alike));
}

each_kind_reads : OfEachKind ReadsPlain
each_kind_reads = record {
  none = no_reads;
  constant = λ w v fits. constant_reads w v;
  unary = λ operator w v takes. unary_reads w v _;
  binary = λ operator w ok. binary_reads w _ _;
  mux = λ w ok. mux_reads w;
  register = λ w ok. record { plain = λ n m e. never e };
  memory = memory_reads;
  sequential = λ w sizes address_widths layout. record { plain = λ n m e. never e };
  multiplier = λ w ok. record { plain = λ n m e. never e };
  divider = λ w ok. record { plain = λ n m e. never e };
  timer = λ k some most. record { plain = λ n m e. never e };
}

-- EVERY ROW of the table
pub reads_plain : (p : PrimitiveRow) → ReadsPlain (row_of p)
reads_plain p = of_row ReadsPlain each_kind_reads p
