-- Primitives that hold nothing: they have no enabling port and no registered one, their outputs hang on inputs alone, and what an output reads is an input.
use Rattle.std.proofs.Common.{◌≡◌, ℕ, zero, suc, ◌<◌, true, length, refl, arith}
use Rattle.std.specs.Prelude.{nat_lt}
use Rattle.std.proofs.lemmas.Bool.{ltb-true}
use Rattle.cx_bits.specs.BitVector.{BitVector}
use Rattle.cx_prim.specs.declared.ports.Side.TheVariants.{Enable, Plain, Registered}
use Rattle.cx_prim.specs.CellStates.{CellState}
use Rattle.cx_prim.specs.Rows.{Inputs, Row}
use Rattle.cx_prim.specs.CombinationalRows.{constant_row, unary_row, binary_row, mux_row}
use Rattle.cx_prim.specs.Table.{PrimitiveRow, row_of}
use Rattle.cx_prim.proofs.TableCases.{OfEachKind, of_row}
use Rattle.cx_prim.proofs.TableLaws.{row_of_lawful}
use Rattle.cx_meaning.specs.Rows.{side_of}
use Rattle.cx_meaning.specs.Sights.{Look}
use Rattle.cx_meaning.specs.Cycles.{Next, cell_outcome}
use Rattle.cx_frames.proofs.QuietLemmas.{quiet_outcome}
use Rattle.cx_sharing.specs.Uses.{is_stateless}

pub record HoldsNothing (row : Row) : Type 0 where
  pub quiet : (p : ℕ) → side_of row p ≡ Enable → ⊥
  pub output : (s t : CellState) (inputs : Inputs) (n : ℕ) → row.output s inputs n ≡ row.output t inputs n
  pub reads : (n m : ℕ) → row.reads n m ≡ true → side_of row m ≡ Plain
  pub unregistered : (p : ℕ) → p < length row.ports → side_of row p ≡ Registered → ⊥

abbrev IsSo : Row → Type 0
IsSo row = is_stateless row.shape ≡ true → HoldsNothing row

unary : (w v : ℕ) (operator : BitVector → BitVector) → IsSo (unary_row w v operator)
unary w v operator e = record { quiet = quiet; output = λ s t inputs n. refl; reads = reads; unregistered = unregistered }
  where
    quiet : (p : ℕ) → side_of (unary_row w v operator) p ≡ Enable → ⊥
    quiet zero e = absurd (cc)
    quiet (suc zero) e = absurd (cc)
    quiet (suc (suc p)) e = absurd (cc)

    unregistered : (p : ℕ) → p < 2 → side_of (unary_row w v operator) p ≡ Registered → ⊥
    unregistered zero lt e = absurd (cc)
    unregistered (suc zero) lt e = absurd (cc)
    unregistered (suc (suc p)) lt e = absurd (omega (arith, lt))

    reads : (n m : ℕ) → nat_lt m 1 ≡ true → side_of (unary_row w v operator) m ≡ Plain
    reads n zero e = refl
    reads n (suc m) e = let lt = ltb-true (suc m) 1 e in absurd (omega (arith, lt))

binary : (w v : ℕ) (operator : BitVector → BitVector → BitVector) → IsSo (binary_row w v operator)
binary w v operator e = record { quiet = quiet; output = λ s t inputs n. refl; reads = reads; unregistered = unregistered }
  where
    quiet : (p : ℕ) → side_of (binary_row w v operator) p ≡ Enable → ⊥
    quiet zero e = absurd (cc)
    quiet (suc zero) e = absurd (cc)
    quiet (suc (suc zero)) e = absurd (cc)
    quiet (suc (suc (suc p))) e = absurd (cc)

    unregistered : (p : ℕ) → p < 3 → side_of (binary_row w v operator) p ≡ Registered → ⊥
    unregistered zero lt e = absurd (cc)
    unregistered (suc zero) lt e = absurd (cc)
    unregistered (suc (suc zero)) lt e = absurd (cc)
    unregistered (suc (suc (suc p))) lt e = absurd (omega (arith, lt))

    reads : (n m : ℕ) → nat_lt m 2 ≡ true → side_of (binary_row w v operator) m ≡ Plain
    reads n zero e = refl
    reads n (suc zero) e = refl
    reads n (suc (suc m)) e = let lt = ltb-true (suc (suc m)) 2 e in absurd (omega (arith, lt))

mux : (w : ℕ) → IsSo (mux_row w)
mux w e = record { quiet = quiet; output = λ s t inputs n. refl; reads = reads; unregistered = unregistered }
  where
    quiet : (p : ℕ) → side_of (mux_row w) p ≡ Enable → ⊥
    quiet zero e = absurd (cc)
    quiet (suc zero) e = absurd (cc)
    quiet (suc (suc zero)) e = absurd (cc)
    quiet (suc (suc (suc zero))) e = absurd (cc)
    quiet (suc (suc (suc (suc p)))) e = absurd (cc)

    unregistered : (p : ℕ) → p < 4 → side_of (mux_row w) p ≡ Registered → ⊥
    unregistered zero lt e = absurd (cc)
    unregistered (suc zero) lt e = absurd (cc)
    unregistered (suc (suc zero)) lt e = absurd (cc)
    unregistered (suc (suc (suc zero))) lt e = absurd (cc)
    unregistered (suc (suc (suc (suc p)))) lt e = absurd (omega (arith, lt))

    reads : (n m : ℕ) → nat_lt m 3 ≡ true → side_of (mux_row w) m ≡ Plain
    reads n zero e = refl
    reads n (suc zero) e = refl
    reads n (suc (suc zero)) e = refl
    reads n (suc (suc (suc m))) e = let lt = ltb-true (suc (suc (suc m))) 3 e in absurd (omega (arith, lt))

constant : (w v : ℕ) → IsSo (constant_row w v)
constant w v e = record { quiet = quiet; output = λ s t inputs n. refl; reads = λ n m e. let lt = ltb-true m 0 e in absurd (omega (arith, lt)); unregistered = unregistered }
  where
    quiet : (p : ℕ) → side_of (constant_row w v) p ≡ Enable → ⊥
    quiet zero e = absurd (cc)
    quiet (suc p) e = absurd (cc)

    unregistered : (p : ℕ) → p < 1 → side_of (constant_row w v) p ≡ Registered → ⊥
    unregistered zero lt e = absurd (cc)
    unregistered (suc p) lt e = absurd (omega (arith, lt))

each : OfEachKind IsSo
each = record {
  none = λ e. record { quiet = λ p e. absurd (cc); output = λ s t inputs n. refl; reads = λ n m e. let lt = ltb-true m 0 e in absurd (omega (arith, lt)); unregistered = λ p lt e. absurd (omega (arith, lt)) };
  constant = λ w v fits. constant w v;
  unary = λ operator w v ok. unary w v _;
  binary = λ operator w ok. binary w _ _;
  mux = λ w ok. mux w;
  register = λ w ok e. absurd (cc);
  memory = λ w sizes widths ok e. absurd (cc);
  sequential = λ w sizes widths ok e. absurd (cc);
  multiplier = λ w ok e. absurd (cc);
  divider = λ w ok e. absurd (cc);
  timer = λ n some few e. absurd (cc);
}

pub stateless_row : (p : PrimitiveRow) → is_stateless (row_of p).shape ≡ true → HoldsNothing (row_of p)
stateless_row p = of_row IsSo each p

-- it goes on in every cycle, whatever is seen
pub stateless_goes : (p : PrimitiveRow) → is_stateless (row_of p).shape ≡ true → (look : Look) (c : ℕ) (state : CellState) → cell_outcome look c (row_of p) state ≡ Next ((row_of p).idle state)
stateless_goes p none look c state = quiet_outcome (row_of p) (row_of_lawful p) look c state (λ n side. absurd ((stateless_row p none).quiet n side))
