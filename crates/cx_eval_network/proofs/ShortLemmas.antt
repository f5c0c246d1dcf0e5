-- No row of the table has more than nine ports.
use Rattle.std.proofs.Common.{◌≤◌, ℕ, List, [], ◌∷◌, ◌++◌, length, arith}
use Rattle.std.proofs.lemmas.List.{length-append}
use Rattle.cx_prim.specs.declared.ports.PortName.TheVariants.{Addr0, Addr1, Addr2, Addr3, WriteData, WriteEn, ContentEn, ReadData, Done}
use Rattle.cx_prim.specs.declared.ports.PortRow.{PortRow}
use Rattle.cx_prim.specs.Rows.{Row}
use Rattle.cx_prim.specs.CombinationalRows.{enable_port, plain_port, output_port, registered_port}
use Rattle.cx_prim.specs.MemoryRows.{address_ports, memory_row, sequential_memory_row}
use Rattle.cx_prim.specs.Table.{PrimitiveRow, no_row, row_of}
use Rattle.cx_prim.proofs.TableCases.{OfEachKind, of_row}
use Rattle.cx_prim.proofs.PortsLemmas.{named_few}

record IsShort (row : Row) : Type 0 where
  few : length row.ports ≤ 9

no_row_short : IsShort no_row
no_row_short = record { few = omega arith }

with_tail : (widths : List ℕ) (tail : List PortRow) → length tail ≤ 5 → length (address_ports widths ++ tail) ≤ 9
with_tail widths tail few =
    let addresses : length (address_ports widths) ≤ 4 = named_few (Addr0 ∷ Addr1 ∷ Addr2 ∷ Addr3 ∷ []) widths in
    let whole = length-append (address_ports widths) tail in
    omega (arith, addresses, few, whole)

memory_short : (w : ℕ) (sizes widths : List ℕ) → IsShort (memory_row w sizes widths)
memory_short w sizes widths = record { few = with_tail widths (plain_port WriteData w ∷ enable_port WriteEn ∷ output_port ReadData w ∷ registered_port Done 1 ∷ []) (omega arith) }

sequential_short : (w : ℕ) (sizes widths : List ℕ) → IsShort (sequential_memory_row w sizes widths)
sequential_short w sizes widths = record { few = with_tail widths (enable_port ContentEn ∷ enable_port WriteEn ∷ plain_port WriteData w ∷ registered_port ReadData w ∷ registered_port Done 1 ∷ []) (omega arith) }

-- the table
each_kind_short : OfEachKind IsShort
each_kind_short = record {
  none = no_row_short;
  constant = λ w v fits. record { few = omega arith };
  unary = λ operator w v takes. record { few = omega arith };
  binary = λ operator w ok. record { few = omega arith };
  mux = λ w ok. record { few = omega arith };
  register = λ w ok. record { few = omega arith };
  memory = λ w sizes widths layout. memory_short w sizes widths;
  sequential = λ w sizes widths layout. sequential_short w sizes widths;
  multiplier = λ w ok. record { few = omega arith };
  divider = λ w ok. record { few = omega arith };
  timer = λ n some most. record { few = omega arith };
}

pub rows_are_short : (p : PrimitiveRow) → length (row_of p).ports ≤ 9
rows_are_short p = (of_row IsShort each_kind_short p).few
