-- The combinational outputs of each primitive read its first inputs.
use Rattle.std.proofs.Common.{◌≡◌, ◌+◌, ◌≤◌, ℕ, zero, suc, Bool, true, false, ◌&&◌, not, cond, nat_lt, List, [], ◌∷◌, ◌++◌, length, refl, sym, ap, ◌∙◌, arith}
use Rattle.std.specs.List.{list_all}
use Rattle.cx_prim.specs.declared.ports.PortName.{PortName}
use Rattle.cx_prim.specs.declared.ports.PortName.TheVariants.{Addr0, Addr1, Addr2, Addr3}
use Rattle.cx_prim.specs.declared.ports.PortRow.{PortRow}
use Rattle.cx_prim.specs.declared.ports.Side.{Side}
use Rattle.cx_prim.specs.declared.ports.Side.TheVariants.{Enable, Plain, Output, Registered}
use Rattle.cx_prim.specs.Rows.{Row}
use Rattle.cx_prim.specs.RegisterRow.{register_row}
use Rattle.cx_prim.specs.MemoryRows.{ports_named, address_ports, memory_row, sequential_memory_row}
use Rattle.cx_prim.proofs.MemoryLaws.{length-ports_named, memory_tail, sequential_tail}
use Rattle.cx_prim.specs.PipeRows.{multiplier_row, divider_row, timer_row}
use Rattle.cx_prim.specs.Table.{PrimitiveRow, no_row, row_of}
use Rattle.cx_prim.proofs.TableCases.{OfEachKind, of_row}
use Rattle.cx_meaning.specs.Rows.{side_of, side_from}
use Rattle.cx_design_parts.specs.Outputs.{is_combinational, is_write_data, read_count, ReadsFirst}
use Rattle.cx_text.proofs.NumberLaws.{is_at}
use Rattle.cx_text.proofs.BoolLaws.{and_left, and_right}

-- a row without combinational outputs
no_output : (side : Side) → not (is_combinational side) ≡ true → side ≡ Output → ⊥
no_output side h e = let wrong : false ≡ true = ap (λ s. not (is_combinational s)) (sym e) ∙ h in cc

none_is_output : (ports : List PortRow) (n : ℕ) → list_all (λ port. not (is_combinational port.side)) ports ≡ true → side_from ports n ≡ Output → ⊥
none_is_output [] n h e = cc
none_is_output (port ∷ ports) zero h e = no_output port.side (and_left (not (is_combinational port.side)) (list_all (λ p. not (is_combinational p.side)) ports) h) e
none_is_output (port ∷ ports) (suc n) h e = none_is_output ports n (and_right (not (is_combinational port.side)) (list_all (λ p. not (is_combinational p.side)) ports) h) e

pub registered_reads : (row : Row) → list_all (λ port. not (is_combinational port.side)) row.ports ≡ true → ReadsFirst row
registered_reads row h = record { first = λ n m e. absurd (none_is_output row.ports n h e) }

-- memories
side_named : (names : List PortName) (widths : List ℕ) (ys : List PortRow) (n : ℕ) → side_from (ports_named names widths ++ ys) n ≡ Output
    → (k : ℕ) × (n ≡ length (ports_named names widths) + k) × (side_from ys k ≡ Output)
side_named [] widths ys n e = (n, omega arith, e)
side_named (name ∷ names) [] ys n e = (n, omega arith, e)
side_named (name ∷ names) (w ∷ widths) ys zero e = absurd (cc)
side_named (name ∷ names) (w ∷ widths) ys (suc n) e = let rest = side_named names widths ys n e in (rest.0, omega (arith, rest.1), rest.2)

read_named : (names : List PortName) (widths : List ℕ) (ys : List PortRow) → list_all (λ name. not (is_write_data name)) names ≡ true
    → read_count (ports_named names widths ++ ys) ≡ length (ports_named names widths) + read_count ys
read_named [] widths ys h = omega arith
read_named (name ∷ names) [] ys h = omega arith
read_named (name ∷ names) (w ∷ widths) ys h =
    let others = list_all (λ x. not (is_write_data x)) names in
    let rest = read_named names widths ys (and_right (not (is_write_data name)) others h) in
    ap (λ b. cond b (suc (read_count (ports_named names widths ++ ys))) 0) (and_left (not (is_write_data name)) others h) ∙ (omega (arith, rest))

abbrev address_names : List PortName
address_names = Addr0 ∷ Addr1 ∷ Addr2 ∷ Addr3 ∷ []

address_count : (sizes widths : List ℕ) → length widths ≡ length sizes → length sizes ≤ 4 → length (address_ports widths) ≡ length sizes
address_count sizes widths alike few = length-ports_named address_names widths (omega (arith, alike, few)) ∙ alike

tail_output : (w k : ℕ) → side_from (memory_tail w) k ≡ Output → k ≡ 2
tail_output w zero e = absurd (cc)
tail_output w (suc zero) e = absurd (cc)
tail_output w (suc (suc zero)) e = refl
tail_output w (suc (suc (suc zero))) e = absurd (cc)
tail_output w (suc (suc (suc (suc k)))) e = absurd (cc)

memory_first : (w : ℕ) (sizes widths : List ℕ) → length widths ≡ length sizes → length sizes ≤ 4 → (n m : ℕ) → side_of (memory_row w sizes widths) n ≡ Output
    → (memory_row w sizes widths).reads n m ≡ nat_lt m (read_count (memory_row w sizes widths).ports)
memory_first w sizes widths alike few n m e =
    let count = address_count sizes widths alike few in
    let after = side_named address_names widths (memory_tail w) n e in
    let last : after.0 ≡ 2 = tail_output w after.0 after.2 in
    let at : n ≡ length sizes + 2 = omega (arith, after.1, count, last) in
    let named = read_named address_names widths (memory_tail w) refl in
    let first : read_count (memory_row w sizes widths).ports ≡ length sizes = omega (arith, named, count) in
    ap (λ b. b && nat_lt m (length sizes)) (is_at n (length sizes + 2) at) ∙ ap (λ c. nat_lt m c) (sym first)

memory_reads : (w : ℕ) (sizes widths : List ℕ) → length widths ≡ length sizes → length sizes ≤ 4 → ReadsFirst (memory_row w sizes widths)
memory_reads w sizes widths alike few = record { first = memory_first w sizes widths alike few }

sequential_reads : (w : ℕ) (sizes widths : List ℕ) → length widths ≡ length sizes → length sizes ≤ 4 → ReadsFirst (sequential_memory_row w sizes widths)
sequential_reads w sizes widths alike few =
    record { first = λ n m e. let after = side_named address_names widths (sequential_tail w) n e in absurd (none_is_output (sequential_tail w) after.0 refl after.2) }

-- the table
no_row_reads : ReadsFirst no_row
no_row_reads = record { first = λ n m e. refl }

each_kind_reads_first : OfEachKind ReadsFirst
each_kind_reads_first = record {
  none = no_row_reads;
  constant = λ w v fits. record { first = λ n m e. refl };
  unary = λ operator w v takes. record { first = λ n m e. refl };
  binary = λ operator w ok. record { first = λ n m e. refl };
  mux = λ w ok. record { first = λ n m e. refl };
  register = λ w ok. registered_reads (register_row w) refl;
  memory = λ w sizes widths layout. memory_reads w sizes widths layout.alike layout.few;
  sequential = λ w sizes widths layout. sequential_reads w sizes widths layout.alike layout.few;
  multiplier = λ w ok. registered_reads (multiplier_row w) refl;
  divider = λ w ok. registered_reads (divider_row w) refl;
  timer = λ n some most. registered_reads (timer_row n) refl;
}

-- the row of a primitive
pub row_of-reads_first : (p : PrimitiveRow) → ReadsFirst (row_of p)
row_of-reads_first p = of_row ReadsFirst each_kind_reads_first p
