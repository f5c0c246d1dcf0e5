-- What a state needs for its registered outputs to have values: the form of its row. Every edge keeps it, whatever stands at the ports.
use Rattle.std.proofs.Common.{◌≡◌, ℕ, ◌+◌, ◌==◌, Bool, true, false, if◌then◌else◌, List, [], length, Option, Some, slice_get, refl, sym, ap, ◌∙◌, arith}
use Rattle.std.proofs.lemmas.Bool.Decides.{nat_tests}
use Rattle.std.specs.List.{list_all}
use Rattle.cx_bits.specs.BitVector.{BitVector}
use Rattle.cx_bits.specs.Operators.{bit_of, quotient_of, remainder_of}
use Rattle.cx_prim.specs.declared.ports.PortRow.{PortRow}
use Rattle.cx_prim.specs.declared.ports.Side.TheVariants.{Output, Registered}
use Rattle.cx_prim.specs.CellStates as states
use Rattle.cx_prim.specs.CellStates.{CellState, StateShape, with_words, words_of}
use Rattle.cx_prim.specs.Rows.{Inputs, is_output_side, is_on, Row, reset}
use Rattle.cx_prim.specs.CombinationalRows.{combinational_row}
use Rattle.cx_prim.specs.CombinationalLaws.{passes_at, is_unregistered_side}
use Rattle.cx_prim.specs.RegisterRow.{register_row, register_output, register_next}
use Rattle.cx_prim.specs.MemoryRows.{IsLayout, memory_row, memory_output, memory_read, sequential_memory_row, sequential_output}
use Rattle.cx_prim.proofs.MemoryLaws.{MemoryOutput, is_read, is_done, memory_outputs}
use Rattle.cx_prim.specs.PipeRows.{multiplier_row, multiplier_output, left_of, right_of, advanced, holding, divider_row, divider_output, divided, is_last, timer_row, timer_output}
use Rattle.cx_prim.specs.Table.{PrimitiveRow, no_row, row_of}
use Rattle.cx_prim.proofs.TableCases.{OfEachKind, of_row}
use Rattle.cx_wiring_runs.proofs.KnownLemmas.{Known}

abbrev pub has_form : StateShape → CellState → Bool
has_form states.NoState state = true
has_form (states.RegisterOf width) (states.Register value done) = true
has_form (states.MemoryOf width count) (states.Memory words done) = true
has_form (states.SequentialMemoryOf width count) (states.SequentialMemory words read_data done) = true
has_form (states.MultiplierOf width latency) (states.Multiplier run product) = true
has_form (states.DividerOf width latency) (states.Divider run quotient remainder) = true
has_form (states.TimerOf length) (states.Timer count done) = true
has_form _ _ = false

pub record KeepsForm (row : Row) : Type 0 where
  pub start : has_form row.shape row.start ≡ true
  pub next : (state : CellState) (inputs : Inputs) → has_form row.shape state ≡ true → has_form row.shape (row.next state inputs) ≡ true
  pub shows : (state : CellState) (n : ℕ) (port : PortRow) → has_form row.shape state ≡ true → slice_get row.ports n ≡ Some port → port.side ≡ Registered → Known (row.output state [] n)

-- other words keep the form
pub words_keep : (shape : StateShape) (words : List ℕ) (state : CellState) → has_form shape state ≡ true → has_form shape (with_words words state) ≡ true
words_keep states.NoState words state h = refl
words_keep (states.MemoryOf w n) words (states.Memory old done) h = refl
words_keep (states.SequentialMemoryOf w n) words (states.SequentialMemory old r done) h = refl
words_keep (states.RegisterOf w) words (states.Register v done) h = refl
words_keep (states.MultiplierOf w l) words (states.Multiplier run p) h = refl
words_keep (states.DividerOf w l) words (states.Divider run q r) h = refl
words_keep (states.TimerOf l) words (states.Timer c done) h = refl
words_keep _ words _ h = absurd (cc)

-- so a cell that is reset has it
pub reset_keeps : (row : Row) (state : CellState) → KeepsForm row → has_form row.shape (reset row state) ≡ true
reset_keeps row state keeps = words_keep row.shape (words_of state) row.start keeps.start

by_test : (shape : StateShape) (b : Bool) (x y : CellState) → has_form shape x ≡ true → has_form shape y ≡ true → has_form shape (if b then x else y) ≡ true
by_test shape true x y h k = h
by_test shape false x y h k = k

unregistered : (ports : List PortRow) → list_all (λ port. is_unregistered_side port.side) ports ≡ true → (n : ℕ) (port : PortRow) → slice_get ports n ≡ Some port → port.side ≡ Registered → ⊥
unregistered ports none n port at registered =
    let test : is_unregistered_side port.side ≡ true = passes_at (λ (p : PortRow). is_unregistered_side p.side) ports n port none at in
    let wrong : false ≡ true = ap is_unregistered_side (sym registered) ∙ test in absurd (cc)

-- THE ROWS
combinational_forms : (ports : List PortRow) (count : ℕ) (value : Inputs → Option BitVector) → list_all (λ port. is_unregistered_side port.side) ports ≡ true → KeepsForm (combinational_row ports count value)
combinational_forms ports count value none = record { start = refl; next = λ state inputs h. refl; shows = λ state n port h at registered. absurd (unregistered ports none n port at registered) }

register_forms : (w : ℕ) → KeepsForm (register_row w)
register_forms w = record { start = refl; next = next; shows = shows }
  where
    next : (state : CellState) (inputs : Inputs) → has_form (states.RegisterOf w) state ≡ true → has_form (states.RegisterOf w) (register_next state inputs) ≡ true
    next (states.Register v done) inputs h = by_test (states.RegisterOf w) (is_on inputs 1) _ _ refl refl
    next _ inputs h = absurd (cc)

    shows : (state : CellState) (n : ℕ) (port : PortRow) → has_form (states.RegisterOf w) state ≡ true → slice_get (register_row w).ports n ≡ Some port → port.side ≡ Registered → Known (register_output w state n)
    shows (states.Register v done) n port h at registered = (_, refl)
    shows _ n port h at registered = absurd (cc)

not_at : (n m k : ℕ) → n ≡ m + 1 → (n == m) ≡ false
not_at n m k e = grind (arith, nat_tests)

memory_forms : (w : ℕ) (sizes address_widths : List ℕ) → IsLayout w sizes address_widths → KeepsForm (memory_row w sizes address_widths)
memory_forms w sizes address_widths layout = record { start = refl; next = next; shows = shows }
  where
    next : (state : CellState) (inputs : Inputs) → has_form (memory_row w sizes address_widths).shape state ≡ true → has_form (memory_row w sizes address_widths).shape ((memory_row w sizes address_widths).next state inputs) ≡ true
    next (states.Memory words done) inputs h = by_test (memory_row w sizes address_widths).shape (is_on inputs (length sizes + 1)) _ _ refl refl
    next _ inputs h = absurd (cc)

    of_memory : (words : List ℕ) (done : Bool) (n : ℕ) → (n == length sizes + 2) ≡ false → Known (memory_output w sizes (states.Memory words done) [] n)
    of_memory words done n off = (_, ap (λ (b : Bool). if b then memory_read w sizes words [] else Some (bit_of done)) off)

    shows : (state : CellState) (n : ℕ) (port : PortRow) → has_form (memory_row w sizes address_widths).shape state ≡ true → slice_get (memory_row w sizes address_widths).ports n ≡ Some port → port.side ≡ Registered
        → Known (memory_output w sizes state [] n)
    shows (states.Memory words done) n port h at registered = by_output (memory_outputs w sizes address_widths n port layout at (ap is_output_side registered))
      where
        by_output : MemoryOutput w (length sizes) n port → Known (memory_output w sizes (states.Memory words done) [] n)
        by_output (is_read e same) = absurd (let wrong : Output ≡ Registered = ap (λ (p : PortRow). p.side) same ∙ registered in cc)
        by_output (is_done e same) = of_memory words done n (not_at n (length sizes + 2) 0 (omega arith))
    shows _ n port h at registered = absurd (cc)

sequential_forms : (w : ℕ) (sizes address_widths : List ℕ) → IsLayout w sizes address_widths → KeepsForm (sequential_memory_row w sizes address_widths)
sequential_forms w sizes address_widths layout = record { start = refl; next = next; shows = shows }
  where
    next : (state : CellState) (inputs : Inputs) → has_form (sequential_memory_row w sizes address_widths).shape state ≡ true
        → has_form (sequential_memory_row w sizes address_widths).shape ((sequential_memory_row w sizes address_widths).next state inputs) ≡ true
    next (states.SequentialMemory words r done) inputs h =
        by_test (sequential_memory_row w sizes address_widths).shape (is_on inputs (length sizes)) _ _ (by_test (sequential_memory_row w sizes address_widths).shape (is_on inputs (length sizes + 1)) _ _ refl refl) refl
    next _ inputs h = absurd (cc)

    shows : (state : CellState) (n : ℕ) (port : PortRow) → has_form (sequential_memory_row w sizes address_widths).shape state ≡ true → slice_get (sequential_memory_row w sizes address_widths).ports n ≡ Some port → port.side ≡ Registered
        → Known (sequential_output w sizes state n)
    shows (states.SequentialMemory words r done) n port h at registered = (_, refl)
    shows _ n port h at registered = absurd (cc)

multiplier_forms : (w : ℕ) → KeepsForm (multiplier_row w)
multiplier_forms w = record { start = refl; next = next; shows = shows }
  where
    next : (state : CellState) (inputs : Inputs) → has_form (multiplier_row w).shape state ≡ true → has_form (multiplier_row w).shape ((multiplier_row w).next state inputs) ≡ true
    next (states.Multiplier run p) inputs h = by_test (multiplier_row w).shape (is_on inputs 0) _ _ refl refl
    next _ inputs h = absurd (cc)

    shows : (state : CellState) (n : ℕ) (port : PortRow) → has_form (multiplier_row w).shape state ≡ true → slice_get (multiplier_row w).ports n ≡ Some port → port.side ≡ Registered → Known (multiplier_output w state n)
    shows (states.Multiplier run p) n port h at registered = (_, refl)
    shows _ n port h at registered = absurd (cc)

divider_forms : (w : ℕ) → KeepsForm (divider_row w)
divider_forms w = record { start = refl; next = next; shows = shows }
  where
    ended : (run : states.PipeRun) (q r : ℕ) → has_form (divider_row w).shape (divided w w run q r) ≡ true
    ended run q r =
        by_test (divider_row w).shape (is_last w run) (states.Divider (advanced w run) (quotient_of (left_of w run) (right_of w run)).value (remainder_of (left_of w run) (right_of w run)).value) (states.Divider (advanced w run) q r) refl refl

    next : (state : CellState) (inputs : Inputs) → has_form (divider_row w).shape state ≡ true → has_form (divider_row w).shape ((divider_row w).next state inputs) ≡ true
    next (states.Divider run q r) inputs h = by_test (divider_row w).shape (is_on inputs 0) (divided w w (holding run inputs) q r) _ (ended (holding run inputs) q r) refl
    next _ inputs h = absurd (cc)

    shows : (state : CellState) (n : ℕ) (port : PortRow) → has_form (divider_row w).shape state ≡ true → slice_get (divider_row w).ports n ≡ Some port → port.side ≡ Registered → Known (divider_output w state n)
    shows (states.Divider run q r) n port h at registered = (_, refl)
    shows _ n port h at registered = absurd (cc)

timer_forms : (l : ℕ) → KeepsForm (timer_row l)
timer_forms l = record { start = refl; next = next; shows = shows }
  where
    next : (state : CellState) (inputs : Inputs) → has_form (timer_row l).shape state ≡ true → has_form (timer_row l).shape ((timer_row l).next state inputs) ≡ true
    next (states.Timer c done) inputs h = by_test (timer_row l).shape (is_on inputs 0) _ _ (by_test (timer_row l).shape (c + 1 == l) _ _ refl refl) refl
    next _ inputs h = absurd (cc)

    shows : (state : CellState) (n : ℕ) (port : PortRow) → has_form (timer_row l).shape state ≡ true → slice_get (timer_row l).ports n ≡ Some port → port.side ≡ Registered → Known (timer_output state n)
    shows (states.Timer c done) n port h at registered = (_, refl)
    shows _ n port h at registered = absurd (cc)

-- THE TABLE
no_row_forms : KeepsForm no_row
no_row_forms = combinational_forms [] 0 _ refl

each_kind_keeps_form : OfEachKind KeepsForm
each_kind_keeps_form = record {
  none = no_row_forms;
  constant = λ w v fits. combinational_forms _ _ _ refl;
  unary = λ operator w v takes. combinational_forms _ _ _ refl;
  binary = λ operator w ok. combinational_forms _ _ _ refl;
  mux = λ w ok. combinational_forms _ _ _ refl;
  register = λ w ok. register_forms w;
  memory = memory_forms;
  sequential = sequential_forms;
  multiplier = λ w ok. multiplier_forms w;
  divider = λ w ok. divider_forms w;
  timer = λ n some most. timer_forms n;
}

-- every row of the table keeps the form of its states
pub row_of_forms : (p : PrimitiveRow) → KeepsForm (row_of p)
row_of_forms p = of_row KeepsForm each_kind_keeps_form p
