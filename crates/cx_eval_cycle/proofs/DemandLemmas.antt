-- Only plain inputs are demanded.
use Rattle.std.proofs.Common.{◌≡◌, ℕ, zero, suc, ◌+◌, ◌<◌, ◌≤◌, ◌==◌, ◌⊎◌, inl, inr, ⊎_elim, nat_le, nat_lt, Bool, true, false, ◌&&◌, ◌||◌, List, [], ◌∷◌, ◌++◌, length, ap, ◌∙◌, arith, if◌then◌else◌}
use Rattle.std.proofs.lemmas.Bool.{cases_eq, eqb-true, leb-true, ltb-true}
use Rattle.cx_bits.specs.BitVector.{BitVector}
use Rattle.std.specs.Prelude.{Option}
use Rattle.cx_prim.specs.declared.ports.PortName.TheVariants.{Addr0, Addr1, Addr2, Addr3}
use Rattle.cx_prim.specs.declared.ports.PortRow.{PortRow}
use Rattle.cx_prim.specs.declared.ports.Side.TheVariants.{Plain}
use Rattle.cx_prim.specs.CellStates.{CellState, Divider, Multiplier}
use Rattle.cx_prim.specs.Rows.{Inputs, Row, is_on}
use Rattle.cx_prim.specs.CombinationalRows.{combinational_row}
use Rattle.cx_prim.specs.RegisterRow.{register_row}
use Rattle.cx_prim.specs.MemoryRows.{IsLayout, address_ports, memory_row, sequential_memory_row}
use Rattle.cx_prim.specs.PipeRows.{divider_demands, divider_row, multiplier_demands, multiplier_row, timer_row}
use Rattle.cx_prim.specs.Table.{PrimitiveRow, row_of}
use Rattle.cx_prim.proofs.MemoryLaws.{length-ports_named}
use Rattle.cx_prim.proofs.TableCases.{OfEachKind, of_row}
use Rattle.cx_meaning.specs.Rows.{side_from, side_of}
use Rattle.cx_meaning.proofs.RowsLemmas.{named_plain}
use Rattle.cx_text.proofs.BoolLaws.{and_both, or_either}

record DemandsPlain (r : Row) : Type 0 where
  plain : (state : CellState) (inputs : Inputs) (n : ℕ) → r.demands state inputs n ≡ true → side_of r n ≡ Plain

quiet_plain : (ports : List PortRow) (count : ℕ) (value : Inputs → Option BitVector) → DemandsPlain (combinational_row ports count value)
quiet_plain ports count value = record { plain = λ state inputs n e. absurd (let f : false ≡ true = e in cc) }

register_plain : (w : ℕ) → DemandsPlain (register_row w)
register_plain w = record { plain = λ state inputs n e. by (is_on inputs 1) n e }
  where
    by : (b : Bool) (n : ℕ) → (if b then n == 0 else false) ≡ true → side_of (register_row w) n ≡ Plain
    by true n f = ap (side_of (register_row w)) (eqb-true n 0 f)
    by false n f = absurd (cc)

-- a memory: its addresses come first
side_behind : (xs ys : List PortRow) (n k : ℕ) → n ≡ length xs + k → side_from (xs ++ ys) n ≡ side_from ys k
side_behind [] ys n k e = let same : n ≡ k = omega arith in ap (side_from ys) same
side_behind (x ∷ xs) ys zero k e = absurd (omega arith)
side_behind (x ∷ xs) ys (suc n) k e = side_behind xs ys n k (omega (arith, e))

module _ (w : ℕ) (sizes widths : List ℕ) (layout : IsLayout w sizes widths) (tail : List PortRow) where
  counted : length (address_ports widths) ≡ length sizes
  counted =
      let alike = layout.alike in
      let few = layout.few in
      length-ports_named (Addr0 ∷ Addr1 ∷ Addr2 ∷ Addr3 ∷ []) widths (omega (arith, alike, few)) ∙ alike

  address_plain : (n : ℕ) → n < length sizes → side_from (address_ports widths ++ tail) n ≡ Plain
  address_plain n lt =
      let alike = layout.alike in
      let few = layout.few in
      named_plain (Addr0 ∷ Addr1 ∷ Addr2 ∷ Addr3 ∷ []) widths tail n (omega (arith, lt, few)) (omega (arith, lt, alike))

  behind_addresses : (n k : ℕ) → n ≡ length sizes + k → side_from (address_ports widths ++ tail) n ≡ side_from tail k
  behind_addresses n k e = let count = counted in side_behind (address_ports widths) tail n k (omega (arith, e, count))

memory_plain : (w : ℕ) (sizes widths : List ℕ) → IsLayout w sizes widths → DemandsPlain (memory_row w sizes widths)
memory_plain w sizes widths layout = record { plain = λ state inputs n e. by inputs n e }
  where
    by : (inputs : Inputs) (n : ℕ) → (is_on inputs (length sizes + 1) && nat_lt n (length sizes + 1)) ≡ true → side_of (memory_row w sizes widths) n ≡ Plain
    by inputs n e =
        let lt : n < length sizes + 1 = ltb-true n (length sizes + 1) (and_both (is_on inputs (length sizes + 1)) (nat_lt n (length sizes + 1)) e).1 in
        ⊎_elim
        (λ (last : n ≡ length sizes). behind_addresses w sizes widths layout _ n 0 (omega (arith, last)))
        (λ differs. address_plain w sizes widths layout _ n (omega (arith, lt, differs)))
        (cases_eq n (length sizes))

sequential_plain : (w : ℕ) (sizes widths : List ℕ) → IsLayout w sizes widths → DemandsPlain (sequential_memory_row w sizes widths)
sequential_plain w sizes widths layout = record { plain = λ state inputs n e. by inputs n e }
  where
    d : ℕ
    d = length sizes

    by : (inputs : Inputs) (n : ℕ) → (is_on inputs d && (nat_lt n d || ((n == d + 2) && is_on inputs (d + 1)))) ≡ true → side_of (sequential_memory_row w sizes widths) n ≡ Plain
    by inputs n e =
        ⊎_elim
        (λ below. address_plain w sizes widths layout _ n (ltb-true n d below))
        (λ written. (let at = eqb-true n (d + 2) (and_both (n == d + 2) (is_on inputs (d + 1)) written).0 in behind_addresses w sizes widths layout _ n 2 at))
        (or_either (nat_lt n d) ((n == d + 2) && is_on inputs (d + 1)) (and_both (is_on inputs d) (nat_lt n d || ((n == d + 2) && is_on inputs (d + 1))) e).1)

-- a pipe's operands are ports 1 and 2
operand : (start : Bool) (n : ℕ) → (start && (nat_le 1 n && nat_le n 2)) ≡ true → (n ≡ 1) ⊎ (n ≡ 2)
operand start n e =
    let range = and_both (nat_le 1 n) (nat_le n 2) (and_both start (nat_le 1 n && nat_le n 2) e).1 in
    let low : 1 ≤ n = leb-true 1 n range.0 in
    let high : n ≤ 2 = leb-true n 2 range.1 in
    ⊎_elim (λ (one : n ≡ 1). inl one) (λ differs. inr (omega (arith, low, high, differs))) (cases_eq n 1)

multiplier_plain : (w : ℕ) → DemandsPlain (multiplier_row w)
multiplier_plain w = record { plain = by }
  where
    by : (state : CellState) (inputs : Inputs) (n : ℕ) → multiplier_demands state inputs n ≡ true → side_of (multiplier_row w) n ≡ Plain
    by (Multiplier run product) inputs n e = ⊎_elim (λ (one : n ≡ 1). ap (side_of (multiplier_row w)) one) (λ (two : n ≡ 2). ap (side_of (multiplier_row w)) two) (operand (is_on inputs 0 && (run.count == 0)) n e)
    by _ inputs n e = absurd (let f : false ≡ true = e in cc)

divider_plain : (w : ℕ) → DemandsPlain (divider_row w)
divider_plain w = record { plain = by }
  where
    by : (state : CellState) (inputs : Inputs) (n : ℕ) → divider_demands state inputs n ≡ true → side_of (divider_row w) n ≡ Plain
    by (Divider run quotient remainder) inputs n e = ⊎_elim (λ (one : n ≡ 1). ap (side_of (divider_row w)) one) (λ (two : n ≡ 2). ap (side_of (divider_row w)) two) (operand (is_on inputs 0 && (run.count == 0)) n e)
    by _ inputs n e = absurd (let f : false ≡ true = e in cc)

timer_plain : (n : ℕ) → DemandsPlain (timer_row n)
timer_plain n = record { plain = λ state inputs m e. absurd (let f : false ≡ true = e in cc) }

-- THE TABLE
each_kind_plain : OfEachKind DemandsPlain
each_kind_plain = record {
  none = quiet_plain _ _ _;
  constant = λ w v fits. quiet_plain _ _ _;
  unary = λ operator w v takes. quiet_plain _ _ _;
  binary = λ operator w ok. quiet_plain _ _ _;
  mux = λ w ok. quiet_plain _ _ _;
  register = λ w ok. register_plain w;
  memory = memory_plain;
  sequential = sequential_plain;
  multiplier = λ w ok. multiplier_plain w;
  divider = λ w ok. divider_plain w;
  timer = λ n some most. timer_plain n;
}

pub demanded_plain : (p : PrimitiveRow) (state : CellState) (inputs : Inputs) (n : ℕ) → (row_of p).demands state inputs n ≡ true → side_of (row_of p) n ≡ Plain
demanded_plain p = (of_row DemandsPlain each_kind_plain p).plain
