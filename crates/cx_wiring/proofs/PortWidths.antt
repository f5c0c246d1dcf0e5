-- The ports of a primitive have 1 to 128 bits.
use Rattle.std.proofs.Common.{◌≡◌, ℕ, ◌≤◌, true, List, [], ◌∷◌, arith}
use Rattle.std.specs.Prelude.{nat_le}
use Rattle.std.specs.List.{list_all}
use Rattle.std.proofs.lemmas.Bool.{leb-true}
use Rattle.cx_prim.specs.declared.ports.PortRow.{PortRow}
use Rattle.cx_prim.specs.declared.ports.PortName.{PortName}
use Rattle.cx_prim.specs.declared.ports.PortName.TheVariants.{Addr0, Addr1, Addr2, Addr3}
use Rattle.cx_prim.specs.declared.operators.BinaryOperator.{BinaryOperator}
use Rattle.cx_prim.specs.declared.operators.BinaryOperator.TheVariants as binary
use Rattle.cx_prim.specs.Widths.{IsWidth}
use Rattle.cx_prim.specs.Operators.{binary_out_width}
use Rattle.cx_prim.specs.Rows.{Row}
use Rattle.cx_prim.specs.MemoryRows.{IsLayout, is_address_width, ports_named, address_ports, memory_row, sequential_memory_row}
use Rattle.cx_prim.specs.Table.{PrimitiveRow, row_of}
use Rattle.cx_prim.proofs.TableCases.{OfEachKind, of_row}
use Rattle.cx_text.proofs.BoolLaws.{and_left, and_right}
use Rattle.cx_text.specs.Members.{Each}
use Rattle.cx_text.proofs.MemberLaws.{each_append}

abbrev IsWide : PortRow → Type 0
IsWide port = IsWidth port.width

abbrev AreWide : Row → Type 0
AreWide row = Each IsWide row.ports

pub one_bit : IsWidth 1
one_bit = record { some_bits = omega arith; few_bits = omega arith }

pub count_bits : IsWidth 32
count_bits = record { some_bits = omega arith; few_bits = omega arith }

addresses_wide : (names : List PortName) (widths : List ℕ) → list_all is_address_width widths ≡ true → Each IsWide (ports_named names widths)
addresses_wide [] widths e = tt
addresses_wide (name ∷ names) [] e = tt
addresses_wide (name ∷ names) (w ∷ widths) e =
    let own = and_left (is_address_width w) (list_all is_address_width widths) e in
    let some : 1 ≤ w = leb-true 1 w (and_left (nat_le 1 w) (nat_le w 64) own) in
    let few : w ≤ 64 = leb-true w 64 (and_right (nat_le 1 w) (nat_le w 64) own) in
    (record { some_bits = some; few_bits = omega arith }, addresses_wide names widths (and_right (is_address_width w) (list_all is_address_width widths) e))

memory_wide : (w : ℕ) (sizes address_widths : List ℕ) → IsLayout w sizes address_widths → AreWide (memory_row w sizes address_widths)
memory_wide w sizes address_widths layout =
    each_append IsWide (address_ports address_widths) _ (addresses_wide (Addr0 ∷ Addr1 ∷ Addr2 ∷ Addr3 ∷ []) address_widths layout.addressed) (layout.word, (one_bit, (layout.word, (one_bit, tt))))

sequential_wide : (w : ℕ) (sizes address_widths : List ℕ) → IsLayout w sizes address_widths → AreWide (sequential_memory_row w sizes address_widths)
sequential_wide w sizes address_widths layout =
    each_append IsWide (address_ports address_widths) _ (addresses_wide (Addr0 ∷ Addr1 ∷ Addr2 ∷ Addr3 ∷ []) address_widths layout.addressed) (one_bit, (one_bit, (layout.word, (layout.word, (one_bit, tt)))))

out_wide : (operator : BinaryOperator) (w : ℕ) → IsWidth w → IsWidth (binary_out_width operator w)
out_wide binary.Add w ok = ok
out_wide binary.Sub w ok = ok
out_wide binary.And w ok = ok
out_wide binary.Or w ok = ok
out_wide binary.Xor w ok = ok
out_wide binary.Lsh w ok = ok
out_wide binary.Rsh w ok = ok
out_wide binary.Lt w ok = one_bit
out_wide binary.Gt w ok = one_bit
out_wide binary.Equal w ok = one_bit
out_wide binary.Neq w ok = one_bit
out_wide binary.Le w ok = one_bit
out_wide binary.Ge w ok = one_bit
out_wide binary.Slt w ok = one_bit
out_wide binary.Sgt w ok = one_bit
out_wide binary.Sle w ok = one_bit
out_wide binary.Sge w ok = one_bit

each_kind_wide : OfEachKind AreWide
each_kind_wide = record {
  none = tt;
  constant = λ w v fits. (record { some_bits = fits.some_bits; few_bits = fits.few_bits }, tt);
  unary = λ operator w v takes. (takes.input, (takes.output, tt));
  binary = λ operator w ok. (ok, (ok, (out_wide operator w ok, tt)));
  mux = λ w ok. (one_bit, (ok, (ok, (ok, tt))));
  register = λ w ok. (ok, (one_bit, (ok, (one_bit, tt))));
  memory = memory_wide;
  sequential = sequential_wide;
  multiplier = λ w ok. (one_bit, (ok, (ok, (ok, (one_bit, tt)))));
  divider = λ w ok. (one_bit, (ok, (ok, (ok, (ok, (one_bit, tt))))));
  timer = λ n some most. (one_bit, (count_bits, (one_bit, tt)));
}

-- THE PORTS of a primitive
pub ports_wide : (p : PrimitiveRow) → Each (λ (port : PortRow). IsWidth port.width) (row_of p).ports
ports_wide p = of_row AreWide each_kind_wide p
