-- A READY STATE looks as its idle edge: in every cycle it comes to the same, and it differs at most in its done.
use Rattle.std.specs.Prelude.{◌≡◌, ◌<◌, ℕ, zero, suc, ◌+◌, ◌==◌, Bool, true, false, List, [], ◌∷◌, ◌++◌, Some, length, if◌then◌else◌, refl}
use Rattle.std.proofs.Common.{subst, sym, ap, ◌∙◌, arith}
use Rattle.std.proofs.lemmas.Bool.Decides.{nat_tests}
use Rattle.cx_bits.specs.Operators.{bit_of}
use Rattle.cx_text.proofs.NumberLaws.{true_false_also}
use Rattle.cx_prim.specs.declared.ports.PortName.TheVariants as names
use Rattle.cx_prim.specs.declared.ports.PortRow.{PortRow}
use Rattle.cx_prim.specs.declared.ports.Side.{Side}
use Rattle.cx_prim.specs.declared.ports.Side.TheVariants as sides
use Rattle.cx_prim.specs.CellStates.{CellState, Register, Memory, SequentialMemory, Multiplier, Divider, Timer, PipeRun}
use Rattle.cx_prim.specs.Rows.{Inputs, is_on, Row, is_output_side}
use Rattle.cx_prim.specs.CombinationalRows.{enable_port, plain_port, output_port, registered_port}
use Rattle.cx_prim.specs.RegisterRow.{register_row}
use Rattle.cx_prim.specs.MemoryRows.{IsLayout, address_ports, memory_read, memory_row, sequential_memory_row}
use Rattle.cx_prim.specs.PipeRows.{multiplier_row, divider_row, timer_row, multiplied, divided, holding, stopped}
use Rattle.cx_prim.specs.Table.{PrimitiveRow, row_of}
use Rattle.cx_prim.proofs.TableCases.{of_row}
use Rattle.cx_meaning.specs.Rows.{side_of}
use Rattle.cx_promotion.specs.Promotable.{is_named}
use Rattle.cx_promotion.proofs.RowPorts.{spot_of, Spot, before, behind, no_done, addresses}
use Rattle.cx_promotion.proofs.RowCounts.{IsReady}
use Rattle.cx_promotion.proofs.Impossible.{no_true}
use Rattle.cx_prim.proofs.MemoryLaws.{address_count}

-- an output that is there and is no done
pub record IsOutput (row : Row) (n : ℕ) : Type 0 where
  pub there : n < length row.ports
  pub out : is_output_side (side_of row n) ≡ true
  pub other : is_named names.Done row.ports n ≡ false

-- two states of a row that come to the same in every cycle, and differ at most in their done
pub record LooksAlike (row : Row) (a b : CellState) : Type 0 where
  pub next : (inputs : Inputs) → row.next a inputs ≡ row.next b inputs
  pub idle : row.idle a ≡ row.idle b
  pub demands : (inputs : Inputs) (n : ℕ) → row.demands a inputs n ≡ row.demands b inputs n
  pub output : (inputs : Inputs) (n : ℕ) → IsOutput row n → row.output a inputs n ≡ row.output b inputs n

abbrev pub ReadyLooksIdle : Row → Type 0
ReadyLooksIdle row = (d : CellState) → IsReady row.shape d → LooksAlike row d (row.idle d)

pub looks_itself : (row : Row) (d : CellState) → LooksAlike row d d
looks_itself row d = record { next = λ inputs. refl; idle = refl; demands = λ inputs n. refl; output = λ inputs n out. refl }

-- a register
register_ready : (w : ℕ) → ReadyLooksIdle (register_row w)
register_ready w (Register value done) ready = record { next = λ inputs. refl; idle = refl; demands = λ inputs n. refl; output = outputs }
  where
    outputs : (inputs : Inputs) (n : ℕ) → IsOutput (register_row w) n → (register_row w).output (Register value done) inputs n ≡ (register_row w).output (Register value false) inputs n
    outputs inputs zero is = no_true is.out
    outputs inputs (suc zero) is = no_true is.out
    outputs inputs (suc (suc zero)) is = refl
    outputs inputs (suc (suc (suc zero))) is = true_false_also is.other
    outputs inputs (suc (suc (suc (suc n)))) is = absurd (let lt = is.there in omega arith)
register_ready w d ready = looks_itself (register_row w) d

-- a multiplier that has gone no cycle
module _ (w latency : ℕ) (run : PipeRun) (inputs : Inputs) (none : run.count ≡ 0) where
  multiplier_same : (product : ℕ) → multiplied w latency (holding run inputs) product ≡ multiplied w latency (holding (stopped run) inputs) product
  multiplier_same product =
      subst (λ (c : ℕ). multiplied w latency (holding (record run { count = c }) inputs) product ≡ multiplied w latency (holding (stopped run) inputs) product) (sym none) refl

  divider_same : (q r : ℕ) → divided w latency (holding run inputs) q r ≡ divided w latency (holding (stopped run) inputs) q r
  divider_same q r =
      subst (λ (c : ℕ). divided w latency (holding (record run { count = c }) inputs) q r ≡ divided w latency (holding (stopped run) inputs) q r) (sym none) refl

multiplier_ready : (w : ℕ) → ReadyLooksIdle (multiplier_row w)
multiplier_ready w (Multiplier run product) ready = record {
  next = λ inputs. ap (λ (x : CellState). if is_on inputs 0 then x else Multiplier (stopped run) product) (multiplier_same w 3 run inputs ready product);
  idle = refl;
  demands = λ inputs n. subst (λ (c : ℕ). (multiplier_row w).demands (Multiplier (record run { count = c }) product) inputs n ≡ (multiplier_row w).demands (Multiplier (stopped run) product) inputs n) (sym ready) refl;
  output = outputs;
}
  where
    outputs : (inputs : Inputs) (n : ℕ) → IsOutput (multiplier_row w) n → (multiplier_row w).output (Multiplier run product) inputs n ≡ (multiplier_row w).output (Multiplier (stopped run) product) inputs n
    outputs inputs zero is = no_true is.out
    outputs inputs (suc zero) is = no_true is.out
    outputs inputs (suc (suc zero)) is = no_true is.out
    outputs inputs (suc (suc (suc zero))) is = refl
    outputs inputs (suc (suc (suc (suc zero)))) is = true_false_also is.other
    outputs inputs (suc (suc (suc (suc (suc n))))) is = absurd (let lt = is.there in omega arith)
multiplier_ready w d ready = looks_itself (multiplier_row w) d

divider_ready : (w : ℕ) → ReadyLooksIdle (divider_row w)
divider_ready w (Divider run q r) ready = record {
  next = λ inputs. ap (λ (x : CellState). if is_on inputs 0 then x else Divider (stopped run) q r) (divider_same w w run inputs ready q r);
  idle = refl;
  demands = λ inputs n. subst (λ (c : ℕ). (divider_row w).demands (Divider (record run { count = c }) q r) inputs n ≡ (divider_row w).demands (Divider (stopped run) q r) inputs n) (sym ready) refl;
  output = outputs;
}
  where
    outputs : (inputs : Inputs) (n : ℕ) → IsOutput (divider_row w) n → (divider_row w).output (Divider run q r) inputs n ≡ (divider_row w).output (Divider (stopped run) q r) inputs n
    outputs inputs zero is = no_true is.out
    outputs inputs (suc zero) is = no_true is.out
    outputs inputs (suc (suc zero)) is = no_true is.out
    outputs inputs (suc (suc (suc zero))) is = refl
    outputs inputs (suc (suc (suc (suc zero)))) is = refl
    outputs inputs (suc (suc (suc (suc (suc zero))))) is = true_false_also is.other
    outputs inputs (suc (suc (suc (suc (suc (suc n)))))) is = absurd (let lt = is.there in omega arith)
divider_ready w d ready = looks_itself (divider_row w) d

-- a timer, which stands in no design that is written
timer_ready : (m : ℕ) → ReadyLooksIdle (timer_row m)
timer_ready m (Timer count done) ready = record {
  next = λ inputs. subst (λ (c : ℕ). (timer_row m).next (Timer c done) inputs ≡ (timer_row m).next (Timer 0 false) inputs) (sym ready) refl;
  idle = refl;
  demands = λ inputs n. refl;
  output = outputs;
}
  where
    outputs : (inputs : Inputs) (n : ℕ) → IsOutput (timer_row m) n → (timer_row m).output (Timer count done) inputs n ≡ (timer_row m).output (Timer 0 false) inputs n
    outputs inputs zero is = no_true is.out
    outputs inputs (suc zero) is = subst (λ (c : ℕ). (timer_row m).output (Timer c done) inputs 1 ≡ (timer_row m).output (Timer 0 false) inputs 1) (sym ready) refl
    outputs inputs (suc (suc zero)) is = true_false_also is.other
    outputs inputs (suc (suc (suc n))) is = absurd (let lt = is.there in omega arith)
timer_ready m d ready = looks_itself (timer_row m) d

-- memories
at_two : (d n : ℕ) → n ≡ d + 2 → (n == d + 2) ≡ true
at_two d n e = grind (arith, nat_tests)

at_three : (d n : ℕ) → n ≡ d + 3 → (n == d + 3) ≡ true
at_three d n e = grind (arith, nat_tests)

both_chosen : {A : Type 0} (b : Bool) (x y z : A) → b ≡ true → (if b then x else y) ≡ (if b then x else z)
both_chosen true x y z e = refl
both_chosen false x y z e = no_true e

plain_is_no_output : {A : Type 0} (side : Side) → side ≡ sides.Plain → is_output_side side ≡ true → A
plain_is_no_output side e out = no_true (sym (ap is_output_side e) ∙ out)

beyond_tail : (ys : List PortRow) (xs : List PortRow) (n q : ℕ) → n ≡ length xs + (length ys + q) → n < length (xs ++ ys) → ⊥
beyond_tail ys [] n q e lt = omega arith
beyond_tail ys (x ∷ xs) zero q e lt = omega arith
beyond_tail ys (x ∷ xs) (suc n) q e lt = beyond_tail ys xs n q (omega arith) (omega arith)

module _ (w : ℕ) (sizes address_widths : List ℕ) (layout : IsLayout w sizes address_widths) where
  abbrev xs : List PortRow
  xs = address_ports address_widths

  count : length xs ≡ length sizes
  count = address_count w sizes address_widths layout

  abbrev tail : List PortRow
  tail = plain_port names.WriteData w ∷ enable_port names.WriteEn ∷ output_port names.ReadData w ∷ registered_port names.Done 1 ∷ []

  abbrev row : Row
  row = memory_row w sizes address_widths

  memory_out : (n : ℕ) → IsOutput row n → Spot names.Done xs tail n → n ≡ length sizes + 2
  memory_out n is (before lt side none) = plain_is_no_output (side_of row n) side is.out
  memory_out n is (behind zero at side same) = plain_is_no_output (side_of row n) side is.out
  memory_out n is (behind (suc zero) at side same) = no_true (sym (ap is_output_side side) ∙ is.out)
  memory_out n is (behind (suc (suc zero)) at side same) = let e : n ≡ length xs + 2 = at in omega (arith, count)
  memory_out n is (behind (suc (suc (suc zero))) at side same) = true_false_also (sym same ∙ is.other)
  memory_out n is (behind (suc (suc (suc (suc q)))) at side same) =
      absurd (beyond_tail tail xs n q (let e : n ≡ length xs + suc (suc (suc (suc q))) = at in omega arith) is.there)

  memory_ready : ReadyLooksIdle row
  memory_ready (Memory words done) ready = record {
    next = λ inputs. refl;
    idle = refl;
    demands = λ inputs n. refl;
    output = λ inputs n is.
        both_chosen (n == length sizes + 2) (memory_read w sizes words inputs) (Some (bit_of done)) (Some (bit_of false))
        (at_two (length sizes) n (memory_out n is (spot_of names.Done addresses address_widths tail n no_done)));
  }
  memory_ready d ready = looks_itself row d

  abbrev end : List PortRow
  end = enable_port names.ContentEn ∷ enable_port names.WriteEn ∷ plain_port names.WriteData w ∷ registered_port names.ReadData w ∷ registered_port names.Done 1 ∷ []

  abbrev other : Row
  other = sequential_memory_row w sizes address_widths

  sequential_out : (n : ℕ) → IsOutput other n → Spot names.Done xs end n → n ≡ length sizes + 3
  sequential_out n is (before lt side none) = plain_is_no_output (side_of other n) side is.out
  sequential_out n is (behind zero at side same) = no_true (sym (ap is_output_side side) ∙ is.out)
  sequential_out n is (behind (suc zero) at side same) = no_true (sym (ap is_output_side side) ∙ is.out)
  sequential_out n is (behind (suc (suc zero)) at side same) = plain_is_no_output (side_of other n) side is.out
  sequential_out n is (behind (suc (suc (suc zero))) at side same) = let e : n ≡ length xs + 3 = at in omega (arith, count)
  sequential_out n is (behind (suc (suc (suc (suc zero)))) at side same) = true_false_also (sym same ∙ is.other)
  sequential_out n is (behind (suc (suc (suc (suc (suc q))))) at side same) =
      absurd (beyond_tail end xs n q (let e : n ≡ length xs + suc (suc (suc (suc (suc q)))) = at in omega arith) is.there)

  sequential_ready : ReadyLooksIdle other
  sequential_ready (SequentialMemory words read_data done) ready = record {
    next = λ inputs. refl;
    idle = refl;
    demands = λ inputs n. refl;
    output = λ inputs n is.
        ap Some (both_chosen (n == length sizes + 3) (record { width = w; value = read_data }) (bit_of done) (bit_of false)
        (at_three (length sizes) n (sequential_out n is (spot_of names.Done addresses address_widths end n no_done))));
  }
  sequential_ready d ready = looks_itself other d

-- EVERY ROW
pub row_ready : (p : PrimitiveRow) → ReadyLooksIdle (row_of p)
row_ready = of_row ReadyLooksIdle (record {
  none = λ d ready. looks_itself _ d;
  constant = λ w v fits d ready. looks_itself _ d;
  unary = λ operator w v is d ready. looks_itself _ d;
  binary = λ operator w is d ready. looks_itself _ d;
  mux = λ w is d ready. looks_itself _ d;
  register = λ w is. register_ready w;
  memory = memory_ready;
  sequential = sequential_ready;
  multiplier = λ w is. multiplier_ready w;
  divider = λ w is. divider_ready w;
  timer = λ m some few. timer_ready m;
})

-- A SETTLED STATE is ready
abbrev pub SettledIsReady : Row → Type 0
SettledIsReady row = (d : CellState) → row.idle d ≡ d → IsReady row.shape d

register_settled : (w : ℕ) → SettledIsReady (register_row w)
register_settled w d e = tt

memory_settled : (w : ℕ) (sizes address_widths : List ℕ) → SettledIsReady (memory_row w sizes address_widths)
memory_settled w sizes address_widths d e = tt

sequential_settled : (w : ℕ) (sizes address_widths : List ℕ) → SettledIsReady (sequential_memory_row w sizes address_widths)
sequential_settled w sizes address_widths d e = tt

multiplier_count : (a b : PipeRun) (x y : ℕ) → Multiplier a x ≡ Multiplier b y → a.count ≡ b.count
multiplier_count a b x y e = let same : a ≡ b = cc in ap (λ (r : PipeRun). r.count) same

multiplier_settled : (w : ℕ) → SettledIsReady (multiplier_row w)
multiplier_settled w (Multiplier run product) e = sym (multiplier_count (stopped run) run product product e)
multiplier_settled w d e = tt

divider_count : (a b : PipeRun) (x y m n : ℕ) → Divider a x m ≡ Divider b y n → a.count ≡ b.count
divider_count a b x y m n e = let same : a ≡ b = cc in ap (λ (r : PipeRun). r.count) same

divider_settled : (w : ℕ) → SettledIsReady (divider_row w)
divider_settled w (Divider run q r) e = sym (divider_count (stopped run) run q q r r e)
divider_settled w d e = tt

timer_count : (m n : ℕ) (a b : Bool) → Timer m a ≡ Timer n b → m ≡ n
timer_count m n a b e = cc

timer_settled : (m : ℕ) → SettledIsReady (timer_row m)
timer_settled m (Timer count done) e = sym (timer_count 0 count false done e)
timer_settled m d e = tt

pub row_settled : (p : PrimitiveRow) → SettledIsReady (row_of p)
row_settled = of_row SettledIsReady (record {
  none = λ d e. tt;
  constant = λ w v fits d e. tt;
  unary = λ operator w v is d e. tt;
  binary = λ operator w is d e. tt;
  mux = λ w is d e. tt;
  register = λ w is. register_settled w;
  memory = λ w sizes address_widths layout. memory_settled w sizes address_widths;
  sequential = λ w sizes address_widths layout. sequential_settled w sizes address_widths;
  multiplier = λ w is. multiplier_settled w;
  divider = λ w is. divider_settled w;
  timer = λ m some few. timer_settled m;
})
