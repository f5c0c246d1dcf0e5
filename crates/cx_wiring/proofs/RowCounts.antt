-- The nets of a text that a primitive costs: 31 at most, of a timer 12.
use Rattle.std.proofs.Common.{ℕ, ◌+◌, ◌≤◌, Bool, true, false, ◌&&◌, List, [], ◌∷◌, ◌++◌, length, arith, length-append}
use Rattle.std.specs.Prelude.{◌^◌, nat_lt, nat_le, Some, None, unwrap_or, if◌then◌else◌}
use Rattle.cx_prim.specs.declared.ports.PortRow.{PortRow}
use Rattle.cx_prim.specs.declared.ports.PortName.TheVariants.{Addr0, Addr1, Addr2, Addr3}
use Rattle.cx_prim.specs.declared.names.PrimitiveName.TheVariants.{Timer}
use Rattle.cx_prim.specs.Rows.{Row}
use Rattle.cx_prim.specs.MemoryRows.{address_ports, memory_row, sequential_memory_row}
use Rattle.cx_prim.specs.PipeRows.{timer_row}
use Rattle.cx_prim.specs.Table.{PrimitiveRow, no_row, row_of}
use Rattle.cx_prim.proofs.TableCases.{OfEachKind, of_row}
use Rattle.cx_net.specs.NetLimits.{row_nets}
use Rattle.cx_prim.proofs.PortsLemmas.{named_few}

abbrev HasFewNets : Row → Type 0
HasFewNets row = row_nets row ≤ 31

few_where : (r : Row) (n : ℕ) (b : Bool) → 2 ≤ n → row_nets r ≤ n → row_nets (unwrap_or (if b then Some r else None) no_row) ≤ n
few_where r n true some few = few
few_where r n false some few = some

longer : (xs ys : List PortRow) (n m : ℕ) → length xs ≤ n → length ys ≤ m → length (xs ++ ys) ≤ n + m
longer xs ys n m h k = omega (arith, length-append xs ys)

memory_few : (w : ℕ) (sizes address_widths : List ℕ) → row_nets (memory_row w sizes address_widths) ≤ 31
memory_few w sizes address_widths =
    let names : length (address_ports address_widths) ≤ 4 = named_few (Addr0 ∷ Addr1 ∷ Addr2 ∷ Addr3 ∷ []) address_widths in
    let all : length (memory_row w sizes address_widths).ports ≤ 4 + 4 = longer (address_ports address_widths) _ 4 4 names (omega arith) in
    omega arith

sequential_few : (w : ℕ) (sizes address_widths : List ℕ) → row_nets (sequential_memory_row w sizes address_widths) ≤ 31
sequential_few w sizes address_widths =
    let names : length (address_ports address_widths) ≤ 4 = named_few (Addr0 ∷ Addr1 ∷ Addr2 ∷ Addr3 ∷ []) address_widths in
    let all : length (sequential_memory_row w sizes address_widths).ports ≤ 4 + 5 = longer (address_ports address_widths) _ 4 5 names (omega arith) in
    omega arith

-- A TIMER
pub timer_nets : (n : ℕ) → row_nets (row_of (record { name = Timer; numbers = n ∷ [] })) ≤ 12
timer_nets n = few_where (timer_row n) 12 (nat_le 1 n && nat_lt n (2 ^ 32)) (omega arith) (omega arith)

each_kind_has_few_nets : OfEachKind HasFewNets
each_kind_has_few_nets = record {
  none = omega arith;
  constant = λ w v fits. omega arith;
  unary = λ operator w v takes. omega arith;
  binary = λ operator w ok. omega arith;
  mux = λ w ok. omega arith;
  register = λ w ok. omega arith;
  memory = λ w sizes address_widths layout. memory_few w sizes address_widths;
  sequential = λ w sizes address_widths layout. sequential_few w sizes address_widths;
  multiplier = λ w ok. omega arith;
  divider = λ w ok. omega arith;
  timer = λ n some most. omega arith;
}

-- A PRIMITIVE
pub primitive_nets : (p : PrimitiveRow) → row_nets (row_of p) ≤ 31
primitive_nets p = of_row HasFewNets each_kind_has_few_nets p
