-- THE PORTS THAT A ROW LOOKS AT: its done is registered; what it reads and demands is plain.
use Rattle.std.specs.Prelude.{◌≡◌, ◌⊎◌, ◌<◌, ◌≤◌, ℕ, zero, suc, ◌+◌, ◌==◌, ◌&&◌, ◌||◌, nat_lt, nat_le, Bool, true, false, List, [], ◌∷◌, ◌++◌, length, if◌then◌else◌, refl}
use Rattle.std.proofs.Common.{sym, ◌∙◌, inl, inr, arith}
use Rattle.std.proofs.lemmas.Bool.{eqb-true, ltb-true, leb-true}
use Rattle.cx_text.proofs.BoolLaws.{and_left, and_right, not_both}
use Rattle.cx_prim.specs.declared.ports.PortName.TheVariants as names
use Rattle.cx_prim.specs.declared.ports.PortRow.{PortRow}
use Rattle.cx_prim.specs.declared.ports.Side.TheVariants as sides
use Rattle.cx_prim.specs.CellStates.{CellState, Multiplier, Divider}
use Rattle.cx_prim.specs.Rows.{Inputs, is_on, Row}
use Rattle.cx_bits.specs.BitVector.{BitVector}
use Rattle.cx_prim.specs.Operators.{apply_unary, apply_binary, binary_out_width}
use Rattle.cx_prim.specs.CombinationalRows.{enable_port, plain_port, output_port, registered_port, constant_row, unary_row, binary_row, mux_row}
use Rattle.cx_prim.specs.RegisterRow.{register_row}
use Rattle.cx_prim.specs.MemoryRows.{IsLayout, address_ports, memory_row, sequential_memory_row}
use Rattle.cx_prim.specs.PipeRows.{multiplier_row, divider_row, timer_row}
use Rattle.cx_prim.specs.Table.{PrimitiveRow, no_row, row_of}
use Rattle.cx_prim.proofs.TableCases.{of_row}
use Rattle.cx_meaning.specs.Rows.{side_from, side_of}
use Rattle.cx_promotion.specs.Promotable.{is_named}
use Rattle.cx_promotion.proofs.RowPorts.{spot_of, Spot, before, behind, no_done, addresses}
use Rattle.cx_promotion.proofs.Impossible.{no_true}
use Rattle.cx_prim.proofs.MemoryLaws.{address_count}

-- plain, and not a done
abbrev pub IsPlainPort : Row → ℕ → Type 0
IsPlainPort row m = (side_of row m ≡ sides.Plain) × (is_named names.Done row.ports m ≡ false)

pub record LooksAtPlain (row : Row) : Type 0 where
  pub done : (p : ℕ) → is_named names.Done row.ports p ≡ true → side_of row p ≡ sides.Registered
  pub reads : (p m : ℕ) → row.reads p m ≡ true → IsPlainPort row m
  pub demands : (d : CellState) (inputs : Inputs) (n : ℕ) → row.demands d inputs n ≡ true → IsPlainPort row n

if_true : (b x : Bool) → (if b then x else false) ≡ true → x ≡ true
if_true true x e = e
if_true false x e = no_true e

below_zero : {A : Type 0} (m : ℕ) → nat_lt m 0 ≡ true → A
below_zero m e = absurd (let h : m < 0 = ltb-true m 0 e in omega arith)

no_ports : LooksAtPlain no_row
no_ports = record {
  done = λ p e. no_true e;
  reads = λ p m e. below_zero m e;
  demands = λ d inputs n e. no_true e;
}

-- rows without state
constant_sides : (w v : ℕ) → LooksAtPlain (constant_row w v)
constant_sides w v = record { done = named; reads = λ p m e. below_zero m e; demands = λ d inputs n e. no_true e }
  where
    named : (p : ℕ) → is_named names.Done (constant_row w v).ports p ≡ true → side_of (constant_row w v) p ≡ sides.Registered
    named zero e = no_true e
    named (suc p) e = no_true e

unary_sides : (w v : ℕ) (f : BitVector → BitVector) → LooksAtPlain (unary_row w v f)
unary_sides w v f = record { done = named; reads = λ p m e. plain m e; demands = λ d inputs n e. no_true e }
  where
    named : (p : ℕ) → is_named names.Done (unary_row w v f).ports p ≡ true → side_of (unary_row w v f) p ≡ sides.Registered
    named zero e = no_true e
    named (suc zero) e = no_true e
    named (suc (suc p)) e = no_true e

    plain : (m : ℕ) → nat_lt m 1 ≡ true → IsPlainPort (unary_row w v f) m
    plain zero e = (refl, refl)
    plain (suc m) e = absurd (let h : suc m < 1 = ltb-true (suc m) 1 e in omega arith)

binary_sides : (w v : ℕ) (f : BitVector → BitVector → BitVector) → LooksAtPlain (binary_row w v f)
binary_sides w v f = record { done = named; reads = λ p m e. plain m e; demands = λ d inputs n e. no_true e }
  where
    named : (p : ℕ) → is_named names.Done (binary_row w v f).ports p ≡ true → side_of (binary_row w v f) p ≡ sides.Registered
    named zero e = no_true e
    named (suc zero) e = no_true e
    named (suc (suc zero)) e = no_true e
    named (suc (suc (suc p))) e = no_true e

    plain : (m : ℕ) → nat_lt m 2 ≡ true → IsPlainPort (binary_row w v f) m
    plain zero e = (refl, refl)
    plain (suc zero) e = (refl, refl)
    plain (suc (suc m)) e = absurd (let h : suc (suc m) < 2 = ltb-true (suc (suc m)) 2 e in omega arith)

mux_sides : (w : ℕ) → LooksAtPlain (mux_row w)
mux_sides w = record { done = named; reads = λ p m e. plain m e; demands = λ d inputs n e. no_true e }
  where
    named : (p : ℕ) → is_named names.Done (mux_row w).ports p ≡ true → side_of (mux_row w) p ≡ sides.Registered
    named zero e = no_true e
    named (suc zero) e = no_true e
    named (suc (suc zero)) e = no_true e
    named (suc (suc (suc zero))) e = no_true e
    named (suc (suc (suc (suc p)))) e = no_true e

    plain : (m : ℕ) → nat_lt m 3 ≡ true → IsPlainPort (mux_row w) m
    plain zero e = (refl, refl)
    plain (suc zero) e = (refl, refl)
    plain (suc (suc zero)) e = (refl, refl)
    plain (suc (suc (suc m))) e = absurd (let h : suc (suc (suc m)) < 3 = ltb-true (suc (suc (suc m))) 3 e in omega arith)

-- a register, pipes, a timer
register_sides : (w : ℕ) → LooksAtPlain (register_row w)
register_sides w = record { done = named; reads = λ p m e. no_true e; demands = λ d inputs n e. plain n (eqb-true n 0 (if_true (is_on inputs 1) (n == 0) e)) }
  where
    named : (p : ℕ) → is_named names.Done (register_row w).ports p ≡ true → side_of (register_row w) p ≡ sides.Registered
    named zero e = no_true e
    named (suc zero) e = no_true e
    named (suc (suc zero)) e = no_true e
    named (suc (suc (suc zero))) e = refl
    named (suc (suc (suc (suc p)))) e = no_true e

    plain : (n : ℕ) → n ≡ 0 → IsPlainPort (register_row w) n
    plain zero e = (refl, refl)
    plain (suc n) e = absurd (omega (arith, e))

multiplier_sides : (w : ℕ) → LooksAtPlain (multiplier_row w)
multiplier_sides w = record { done = named; reads = λ p m e. no_true e; demands = demanded }
  where
    named : (p : ℕ) → is_named names.Done (multiplier_row w).ports p ≡ true → side_of (multiplier_row w) p ≡ sides.Registered
    named zero e = no_true e
    named (suc zero) e = no_true e
    named (suc (suc zero)) e = no_true e
    named (suc (suc (suc zero))) e = no_true e
    named (suc (suc (suc (suc zero)))) e = refl
    named (suc (suc (suc (suc (suc p))))) e = no_true e

    plain : (n : ℕ) → 1 ≤ n → n ≤ 2 → IsPlainPort (multiplier_row w) n
    plain zero low high = absurd (omega arith)
    plain (suc zero) low high = (refl, refl)
    plain (suc (suc zero)) low high = (refl, refl)
    plain (suc (suc (suc n))) low high = absurd (omega arith)

    demanded : (d : CellState) (inputs : Inputs) (n : ℕ) → (multiplier_row w).demands d inputs n ≡ true → IsPlainPort (multiplier_row w) n
    demanded (Multiplier run product) inputs n e =
        let both = and_right (is_on inputs 0 && (run.count == 0)) (nat_le 1 n && nat_le n 2) e in
        plain n (leb-true 1 n (and_left (nat_le 1 n) (nat_le n 2) both)) (leb-true n 2 (and_right (nat_le 1 n) (nat_le n 2) both))
    demanded d inputs n e = no_true e

divider_sides : (w : ℕ) → LooksAtPlain (divider_row w)
divider_sides w = record { done = named; reads = λ p m e. no_true e; demands = demanded }
  where
    named : (p : ℕ) → is_named names.Done (divider_row w).ports p ≡ true → side_of (divider_row w) p ≡ sides.Registered
    named zero e = no_true e
    named (suc zero) e = no_true e
    named (suc (suc zero)) e = no_true e
    named (suc (suc (suc zero))) e = no_true e
    named (suc (suc (suc (suc zero)))) e = no_true e
    named (suc (suc (suc (suc (suc zero))))) e = refl
    named (suc (suc (suc (suc (suc (suc p)))))) e = no_true e

    plain : (n : ℕ) → 1 ≤ n → n ≤ 2 → IsPlainPort (divider_row w) n
    plain zero low high = absurd (omega arith)
    plain (suc zero) low high = (refl, refl)
    plain (suc (suc zero)) low high = (refl, refl)
    plain (suc (suc (suc n))) low high = absurd (omega arith)

    demanded : (d : CellState) (inputs : Inputs) (n : ℕ) → (divider_row w).demands d inputs n ≡ true → IsPlainPort (divider_row w) n
    demanded (Divider run q r) inputs n e =
        let both = and_right (is_on inputs 0 && (run.count == 0)) (nat_le 1 n && nat_le n 2) e in
        plain n (leb-true 1 n (and_left (nat_le 1 n) (nat_le n 2) both)) (leb-true n 2 (and_right (nat_le 1 n) (nat_le n 2) both))
    demanded d inputs n e = no_true e

timer_sides : (m : ℕ) → LooksAtPlain (timer_row m)
timer_sides m = record { done = named; reads = λ p k e. no_true e; demands = λ d inputs n e. no_true e }
  where
    named : (p : ℕ) → is_named names.Done (timer_row m).ports p ≡ true → side_of (timer_row m) p ≡ sides.Registered
    named zero e = no_true e
    named (suc zero) e = no_true e
    named (suc (suc zero)) e = refl
    named (suc (suc (suc p))) e = no_true e

-- memories
module _ (w : ℕ) (sizes address_widths : List ℕ) (layout : IsLayout w sizes address_widths) where
  abbrev xs : List PortRow
  xs = address_ports address_widths

  count : length xs ≡ length sizes
  count = address_count w sizes address_widths layout

  abbrev tail : List PortRow
  tail = plain_port names.WriteData w ∷ enable_port names.WriteEn ∷ output_port names.ReadData w ∷ registered_port names.Done 1 ∷ []

  abbrev At : List PortRow → ℕ → Type 0
  At ys p = Spot names.Done xs ys p

  spot : (ys : List PortRow) (p : ℕ) → At ys p
  spot ys p = spot_of names.Done addresses address_widths ys p no_done

  memory_named : (p : ℕ) → is_named names.Done (xs ++ tail) p ≡ true → At tail p → side_from (xs ++ tail) p ≡ sides.Registered
  memory_named p e (before lt side none) = absurd (not_both (is_named names.Done (xs ++ tail) p) e none)
  memory_named p e (behind zero at side same) = no_true (sym same ∙ e)
  memory_named p e (behind (suc zero) at side same) = no_true (sym same ∙ e)
  memory_named p e (behind (suc (suc zero)) at side same) = no_true (sym same ∙ e)
  memory_named p e (behind (suc (suc (suc zero))) at side same) = side
  memory_named p e (behind (suc (suc (suc (suc q)))) at side same) = no_true (sym same ∙ e)

  memory_plain : (n : ℕ) → n < length sizes + 1 → At tail n → (side_from (xs ++ tail) n ≡ sides.Plain) × (is_named names.Done (xs ++ tail) n ≡ false)
  memory_plain n low (before lt side none) = (side, none)
  memory_plain n low (behind zero at side same) = (side, same)
  memory_plain n low (behind (suc q) at side same) = absurd (let e : n ≡ length xs + suc q = at in omega (arith, count))

  memory_sides : LooksAtPlain (memory_row w sizes address_widths)
  memory_sides = record {
    done = λ p e. memory_named p e (spot tail p);
    reads = λ p m e. memory_plain m (let h : m < length sizes = ltb-true m (length sizes) (and_right (p == length sizes + 2) (nat_lt m (length sizes)) e) in omega arith) (spot tail m);
    demands = λ d inputs n e. memory_plain n (ltb-true n (length sizes + 1) (and_right (is_on inputs (length sizes + 1)) (nat_lt n (length sizes + 1)) e)) (spot tail n);
  }

  abbrev end : List PortRow
  end = enable_port names.ContentEn ∷ enable_port names.WriteEn ∷ plain_port names.WriteData w ∷ registered_port names.ReadData w ∷ registered_port names.Done 1 ∷ []

  sequential_named : (p : ℕ) → is_named names.Done (xs ++ end) p ≡ true → At end p → side_from (xs ++ end) p ≡ sides.Registered
  sequential_named p e (before lt side none) = absurd (not_both (is_named names.Done (xs ++ end) p) e none)
  sequential_named p e (behind zero at side same) = no_true (sym same ∙ e)
  sequential_named p e (behind (suc zero) at side same) = no_true (sym same ∙ e)
  sequential_named p e (behind (suc (suc zero)) at side same) = no_true (sym same ∙ e)
  sequential_named p e (behind (suc (suc (suc zero))) at side same) = no_true (sym same ∙ e)
  sequential_named p e (behind (suc (suc (suc (suc zero)))) at side same) = side
  sequential_named p e (behind (suc (suc (suc (suc (suc q))))) at side same) = no_true (sym same ∙ e)

  sequential_plain : (n : ℕ) → (n < length sizes) ⊎ (n ≡ length sizes + 2) → At end n → (side_from (xs ++ end) n ≡ sides.Plain) × (is_named names.Done (xs ++ end) n ≡ false)
  sequential_plain n low (before lt side none) = (side, none)
  sequential_plain n (inl low) (behind q at side same) = absurd (let e : n ≡ length xs + q = at in omega (arith, count))
  sequential_plain n (inr is) (behind zero at side same) = absurd (let e : n ≡ length xs + 0 = at in omega (arith, count))
  sequential_plain n (inr is) (behind (suc zero) at side same) = absurd (let e : n ≡ length xs + 1 = at in omega (arith, count))
  sequential_plain n (inr is) (behind (suc (suc zero)) at side same) = (side, same)
  sequential_plain n (inr is) (behind (suc (suc (suc q))) at side same) = absurd (let e : n ≡ length xs + suc (suc (suc q)) = at in omega (arith, count))

  either : (n : ℕ) (on : Bool) → (nat_lt n (length sizes) || ((n == length sizes + 2) && on)) ≡ true → (n < length sizes) ⊎ (n ≡ length sizes + 2)
  either n on e = by (nat_lt n (length sizes)) refl e
    where
      by : (b : Bool) → nat_lt n (length sizes) ≡ b → (b || ((n == length sizes + 2) && on)) ≡ true → (n < length sizes) ⊎ (n ≡ length sizes + 2)
      by true is h = inl (ltb-true n (length sizes) is)
      by false is h = inr (eqb-true n (length sizes + 2) (and_left (n == length sizes + 2) on h))

  sequential_sides : LooksAtPlain (sequential_memory_row w sizes address_widths)
  sequential_sides = record {
    done = λ p e. sequential_named p e (spot end p);
    reads = λ p m e. no_true e;
    demands = λ d inputs n e. sequential_plain n (either n (is_on inputs (length sizes + 1)) (and_right (is_on inputs (length sizes)) _ e)) (spot end n);
  }

-- EVERY ROW
pub row_sides : (p : PrimitiveRow) → LooksAtPlain (row_of p)
row_sides = of_row LooksAtPlain (record {
  none = no_ports;
  constant = λ w v fits. constant_sides w v;
  unary = λ operator w v is. unary_sides w v (apply_unary operator v);
  binary = λ operator w is. binary_sides w (binary_out_width operator w) (apply_binary operator);
  mux = λ w is. mux_sides w;
  register = λ w is. register_sides w;
  memory = memory_sides;
  sequential = sequential_sides;
  multiplier = λ w is. multiplier_sides w;
  divider = λ w is. divider_sides w;
  timer = λ m some few. timer_sides m;
})
