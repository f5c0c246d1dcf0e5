-- The rows of the multiplier, the divider and the timer keep the laws of a row.
use Rattle.std.specs.Prelude.{◌≡◌, ℕ, zero, suc, ◌+◌, ◌<◌, ◌≤◌, ◌^◌, ◌==◌, ◌&&◌, nat_le, Bool, true, false, Option, Some, None, Ok, IsSome, if◌then◌else◌, refl}
use Rattle.std.proofs.Common.{ap, ◌∙◌, arith}
use Rattle.std.proofs.lemmas.Nat.{pow_pos}
use Rattle.std.proofs.lemmas.Bool.Decides.{nat_tests}
use Rattle.cx_bits.specs.BitVector.{BitVector, Fits}
use Rattle.cx_bits.specs.Operators.{product_of, quotient_of, remainder_of}
use Rattle.cx_bits.proofs.OperatorLaws.{Fits-bit_of, Fits-product_of, Fits-quotient_of, Fits-remainder_of}
use Rattle.cx_prim.specs.declared.ports.PortName.TheVariants.{Go, Left, Right, Out, OutQuotient, OutRemainder, Done}
use Rattle.cx_prim.specs.CellStates.{CellState, Multiplier, Divider, Timer, IsState, MultiplierOf, DividerOf, TimerOf, PipeRun, IsRun}
use Rattle.cx_prim.specs.Rows.{Inputs, input, number_of, value_at, is_on, AgreesWhereLooked, LooksWhereDemanded, DemandsByEnabling, DemandsNothingWhenQuiet, GivesWidths, IsLawful}
use Rattle.cx_prim.specs.CombinationalRows.{enable_port, plain_port, registered_port}
use Rattle.cx_prim.specs.CombinationalLaws.{not_output}
use Rattle.cx_prim.specs.PipeRows.{holding, is_last, advanced, stopped, left_of, right_of, pipe_demands, multiplier_output, multiplier_idle, multiplied, multiplier_go, multiplier_latency, multiplier_row, divider_output, divider_idle, divided, divider_go, divider_row, timer_output, timer_idle, timer_go, timer_row}
use Rattle.cx_prim.proofs.RowTools.{out_fits, number_fits, if-same_else, if-each, value_at_fits}
use Rattle.cx_prim.specs.Widths.{IsWidth}

-- operands are looked at in the first cycle alone
pub holding_same : (run : PipeRun) (inputs others : Inputs) → ((run.count == 0) ≡ true → input inputs 1 ≡ input others 1) → ((run.count == 0) ≡ true → input inputs 2 ≡ input others 2) → holding run inputs ≡ holding run others
holding_same run inputs others left right =
    if-same_else (run.count == 0) (record run { left = value_at inputs 1; right = value_at inputs 2 }) (record run { left = value_at others 1; right = value_at others 2 }) run
    (λ first. ap (λ (i : Option BitVector). record run { left = number_of i; right = value_at inputs 2 }) (left first)
    ∙ ap (λ (i : Option BitVector). record run { left = value_at others 1; right = number_of i }) (right first))

-- runs stay runs
pub holding_keeps : (w latency : ℕ) (run : PipeRun) (inputs : Inputs) → IsRun w latency run → value_at inputs 1 < 2 ^ w → value_at inputs 2 < 2 ^ w → IsRun w latency (holding run inputs)
holding_keeps w latency run inputs ok left right =
    if-each (IsRun w latency) (run.count == 0) (record run { left = value_at inputs 1; right = value_at inputs 2 }) run
    (record { under_way = ok.under_way; left_fits = left; right_fits = right }) ok

pub advanced_keeps : (w latency : ℕ) (run : PipeRun) → IsRun w latency run → IsRun w latency (advanced latency run)
advanced_keeps w latency run ok = by_test (is_last latency run) refl
  where
    by_test : (b : Bool) → is_last latency run ≡ b → IsRun w latency (if b then record run { count = 0; done = true } else record run { count = run.count + 1; done = false })
    by_test true e = record { under_way = let h = ok.under_way in omega arith; left_fits = ok.left_fits; right_fits = ok.right_fits }
    by_test false e = record { under_way = let h = ok.under_way in grind (arith, nat_tests, e); left_fits = ok.left_fits; right_fits = ok.right_fits }

pub stopped_keeps : (w latency : ℕ) (run : PipeRun) → IsRun w latency run → IsRun w latency (stopped run)
stopped_keeps w latency run ok = record { under_way = let h = ok.under_way in omega arith; left_fits = ok.left_fits; right_fits = ok.right_fits }

pub left_fits : (w latency : ℕ) (run : PipeRun) → IsWidth w → IsRun w latency run → Fits (left_of w run)
left_fits w latency run is_width ok = record { some_bits = is_width.some_bits; few_bits = is_width.few_bits; in_range = ok.left_fits }

-- what a pipe demands hangs on `go` alone, and where `go` is 0 it is nothing
pub pipe_demands_same : (run : PipeRun) (inputs others : Inputs) (n : ℕ) → input inputs 0 ≡ input others 0 → pipe_demands run inputs n ≡ pipe_demands run others n
pipe_demands_same run inputs others n e = ap (λ (i : Option BitVector). ((number_of i == 1) && (run.count == 0)) && (nat_le 1 n && nat_le n 2)) e

pub pipe_demands_nothing : (run : PipeRun) (inputs : Inputs) (n : ℕ) → value_at inputs 0 ≡ 0 → pipe_demands run inputs n ≡ false
pipe_demands_nothing run inputs n off = ap (λ (v : ℕ). ((v == 1) && (run.count == 0)) && (nat_le 1 n && nat_le n 2)) off

-- the multiplier
pub multiplier_idle_once : (state : CellState) → multiplier_idle (multiplier_idle state) ≡ multiplier_idle state
multiplier_idle_once (Multiplier run product) = refl
multiplier_idle_once state = refl

pub multiplier_go_same : (w : ℕ) (state : CellState) (inputs others : Inputs) → is_on inputs 0 ≡ true → AgreesWhereLooked (multiplier_row w) state inputs others
    → multiplier_go w multiplier_latency state inputs ≡ multiplier_go w multiplier_latency state others
multiplier_go_same w (Multiplier run product) inputs others on agree =
    ap (λ (r : PipeRun). multiplied w multiplier_latency r product)
    (holding_same run inputs others (λ first. agree.demanded 1 (plain_port Left w) refl refl (rw (on, first) refl)) (λ first. agree.demanded 2 (plain_port Right w) refl refl (rw (on, first) refl)))
multiplier_go_same w state inputs others on agree = refl

pub multiplier_looks : (w : ℕ) → LooksWhereDemanded (multiplier_row w)
multiplier_looks w state inputs others agree =
    let there = agree.enabling 0 (enable_port Go) refl refl in
    let gone = if-same_else (is_on inputs 0) (multiplier_go w multiplier_latency state inputs) (multiplier_go w multiplier_latency state others) (multiplier_idle state)
    (λ on. multiplier_go_same w state inputs others on agree) in
    ap Ok (gone ∙ ap (λ (i : Option BitVector). if number_of i == 1 then multiplier_go w multiplier_latency state others else multiplier_idle state) there)

pub multiplier_widths : (w : ℕ) → IsWidth w → GivesWidths (multiplier_row w)
multiplier_widths w is_width (Multiplier run product) inputs zero port b of_row fits values at out e = absurd (not_output _ port at refl out)
multiplier_widths w is_width (Multiplier run product) inputs (suc zero) port b of_row fits values at out e = absurd (not_output _ port at refl out)
multiplier_widths w is_width (Multiplier run product) inputs (suc (suc zero)) port b of_row fits values at out e = absurd (not_output _ port at refl out)
multiplier_widths w is_width (Multiplier run product) inputs (suc (suc (suc zero))) port b of_row fits values at out e =
    out_fits (registered_port Out w) port _ b at e (number_fits w product is_width of_row.1)
multiplier_widths w is_width (Multiplier run product) inputs (suc (suc (suc (suc zero)))) port b of_row fits values at out e =
    out_fits (registered_port Done 1) port _ b at e (record { same_width = refl; fits = Fits-bit_of run.done })
multiplier_widths w is_width (Multiplier run product) inputs (suc (suc (suc (suc (suc n))))) port b of_row fits values at out e = absurd (cc)
multiplier_widths w is_width state inputs n port b of_row fits values at out e = absurd of_row

pub multiplier_answers : (w : ℕ) (state : CellState) (n : ℕ) → IsState (MultiplierOf w multiplier_latency) state → IsSome (multiplier_output w state n)
multiplier_answers w (Multiplier run product) n of_row = refl
multiplier_answers w state n of_row = absurd of_row

pub multiplier_idle_keeps : (w : ℕ) (state : CellState) → IsState (MultiplierOf w multiplier_latency) state → IsState (MultiplierOf w multiplier_latency) (multiplier_idle state)
multiplier_idle_keeps w (Multiplier run product) of_row = (stopped_keeps w multiplier_latency run of_row.0, of_row.1)
multiplier_idle_keeps w state of_row = absurd of_row

pub multiplied_keeps : (w latency : ℕ) (run : PipeRun) (product : ℕ) → IsWidth w → IsRun w latency run → product < 2 ^ w → IsState (MultiplierOf w latency) (multiplied w latency run product)
multiplied_keeps w latency run product is_width ok below = (
  advanced_keeps w latency run ok,
  let made : Fits (product_of (left_of w run) (right_of w run)) = Fits-product_of (left_of w run) (right_of w run) (left_fits w latency run is_width ok) in
      if-each (λ (v : ℕ). v < 2 ^ w) (is_last latency run) ((product_of (left_of w run) (right_of w run)).value) product made.in_range below,
)

pub multiplier_go_keeps : (w : ℕ) (state : CellState) (inputs : Inputs) → IsWidth w → IsState (MultiplierOf w multiplier_latency) state → value_at inputs 1 < 2 ^ w → value_at inputs 2 < 2 ^ w
    → IsState (MultiplierOf w multiplier_latency) (multiplier_go w multiplier_latency state inputs)
multiplier_go_keeps w (Multiplier run product) inputs is_width of_row left right =
    multiplied_keeps w multiplier_latency (holding run inputs) product is_width (holding_keeps w multiplier_latency run inputs of_row.0 left right) of_row.1
multiplier_go_keeps w state inputs is_width of_row left right = absurd of_row

-- what a multiplier demands hangs on `go` alone
pub multiplier_by_enabling : (w : ℕ) → DemandsByEnabling (multiplier_row w)
multiplier_by_enabling w (Multiplier run product) inputs others n agree = pipe_demands_same run inputs others n (agree.enabling 0 (enable_port Go) refl refl)
multiplier_by_enabling w state inputs others n agree = refl

pub multiplier_demands_nothing : (w : ℕ) → DemandsNothingWhenQuiet (multiplier_row w)
multiplier_demands_nothing w (Multiplier run product) inputs n quiet = pipe_demands_nothing run inputs n (quiet 0 (enable_port Go) refl refl)
multiplier_demands_nothing w state inputs n quiet = refl

pub multiplier_lawful : (w : ℕ) → IsWidth w → IsLawful (multiplier_row w)
multiplier_lawful w is_width = record {
  starts_settled = refl;
  idle_once = multiplier_idle_once;
  quiet_is_idle = λ state inputs quiet.
      let off : value_at inputs 0 ≡ 0 = quiet 0 (enable_port Go) refl refl in
      ap (λ (v : ℕ). Ok (if v == 1 then multiplier_go w multiplier_latency state inputs else multiplier_idle state)) off;
  registered = λ state inputs others n port at registered. refl;
  looked_at = multiplier_looks w;
  by_enabling = multiplier_by_enabling w;
  nothing_demanded = multiplier_demands_nothing w;
  ranges = λ inputs n beyond. absurd (let none : None ≡ Some n = beyond in cc);
  widths = multiplier_widths w is_width;
  reads_only = λ state inputs others n agree. refl;
  strict = λ state inputs n of_row out. record {
    unread = λ m reads none. absurd (let wrong : false ≡ true = reads in cc);
    beyond = λ reads. absurd (let wrong : false ≡ true = reads in cc);
    otherwise = λ all within. multiplier_answers w state n of_row;
  };
  states = record {
    start = (record { under_way = omega arith; left_fits = pow_pos w; right_fits = pow_pos w }, pow_pos w);
    next = λ state inputs of_row fits values.
        if-each (IsState (MultiplierOf w multiplier_latency)) (is_on inputs 0) (multiplier_go w multiplier_latency state inputs) (multiplier_idle state)
        (multiplier_go_keeps w state inputs is_width of_row
        (value_at_fits (multiplier_row w).ports inputs 1 (plain_port Left w) fits values refl)
        (value_at_fits (multiplier_row w).ports inputs 2 (plain_port Right w) fits values refl))
        (multiplier_idle_keeps w state of_row);
    idle = multiplier_idle_keeps w;
  };
}

-- the divider
pub divider_idle_once : (state : CellState) → divider_idle (divider_idle state) ≡ divider_idle state
divider_idle_once (Divider run quotient remainder) = refl
divider_idle_once state = refl

pub divider_go_same : (w : ℕ) (state : CellState) (inputs others : Inputs) → is_on inputs 0 ≡ true → AgreesWhereLooked (divider_row w) state inputs others → divider_go w w state inputs ≡ divider_go w w state others
divider_go_same w (Divider run quotient remainder) inputs others on agree =
    ap (λ (r : PipeRun). divided w w r quotient remainder)
    (holding_same run inputs others (λ first. agree.demanded 1 (plain_port Left w) refl refl (rw (on, first) refl)) (λ first. agree.demanded 2 (plain_port Right w) refl refl (rw (on, first) refl)))
divider_go_same w state inputs others on agree = refl

pub divider_looks : (w : ℕ) → LooksWhereDemanded (divider_row w)
divider_looks w state inputs others agree =
    let there = agree.enabling 0 (enable_port Go) refl refl in
    let gone = if-same_else (is_on inputs 0) (divider_go w w state inputs) (divider_go w w state others) (divider_idle state) (λ on. divider_go_same w state inputs others on agree) in
    ap Ok (gone ∙ ap (λ (i : Option BitVector). if number_of i == 1 then divider_go w w state others else divider_idle state) there)

pub divider_widths : (w : ℕ) → IsWidth w → GivesWidths (divider_row w)
divider_widths w is_width (Divider run quotient remainder) inputs zero port b of_row fits values at out e = absurd (not_output _ port at refl out)
divider_widths w is_width (Divider run quotient remainder) inputs (suc zero) port b of_row fits values at out e = absurd (not_output _ port at refl out)
divider_widths w is_width (Divider run quotient remainder) inputs (suc (suc zero)) port b of_row fits values at out e = absurd (not_output _ port at refl out)
divider_widths w is_width (Divider run quotient remainder) inputs (suc (suc (suc zero))) port b of_row fits values at out e =
    out_fits (registered_port OutQuotient w) port _ b at e (number_fits w quotient is_width of_row.1)
divider_widths w is_width (Divider run quotient remainder) inputs (suc (suc (suc (suc zero)))) port b of_row fits values at out e =
    out_fits (registered_port OutRemainder w) port _ b at e (number_fits w remainder is_width of_row.2)
divider_widths w is_width (Divider run quotient remainder) inputs (suc (suc (suc (suc (suc zero))))) port b of_row fits values at out e =
    out_fits (registered_port Done 1) port _ b at e (record { same_width = refl; fits = Fits-bit_of run.done })
divider_widths w is_width (Divider run quotient remainder) inputs (suc (suc (suc (suc (suc (suc n)))))) port b of_row fits values at out e = absurd (cc)
divider_widths w is_width state inputs n port b of_row fits values at out e = absurd of_row

pub divider_answers : (w : ℕ) (state : CellState) (n : ℕ) → IsState (DividerOf w w) state → IsSome (divider_output w state n)
divider_answers w (Divider run quotient remainder) n of_row = refl
divider_answers w state n of_row = absurd of_row

pub divider_idle_keeps : (w : ℕ) (state : CellState) → IsState (DividerOf w w) state → IsState (DividerOf w w) (divider_idle state)
divider_idle_keeps w (Divider run quotient remainder) of_row = (stopped_keeps w w run of_row.0, of_row.1, of_row.2)
divider_idle_keeps w state of_row = absurd of_row

pub divided_keeps : (w : ℕ) (run : PipeRun) (quotient remainder : ℕ) → IsWidth w → IsRun w w run → quotient < 2 ^ w → remainder < 2 ^ w → IsState (DividerOf w w) (divided w w run quotient remainder)
divided_keeps w run quotient remainder is_width ok quotient_below remainder_below =
    let dividend = left_fits w w run is_width ok in
    let quotient_fits : Fits (quotient_of (left_of w run) (right_of w run)) = Fits-quotient_of (left_of w run) (right_of w run) dividend in
    let remainder_fits : Fits (remainder_of (left_of w run) (right_of w run)) = Fits-remainder_of (left_of w run) (right_of w run) dividend in
    let kept = advanced_keeps w w run ok in
    if-each (IsState (DividerOf w w)) (is_last w run) _ _ (kept, quotient_fits.in_range, remainder_fits.in_range) (kept, quotient_below, remainder_below)

pub divider_go_keeps : (w : ℕ) (state : CellState) (inputs : Inputs) → IsWidth w → IsState (DividerOf w w) state → value_at inputs 1 < 2 ^ w → value_at inputs 2 < 2 ^ w → IsState (DividerOf w w) (divider_go w w state inputs)
divider_go_keeps w (Divider run quotient remainder) inputs is_width of_row left right =
    divided_keeps w (holding run inputs) quotient remainder is_width (holding_keeps w w run inputs of_row.0 left right) of_row.1 of_row.2
divider_go_keeps w state inputs is_width of_row left right = absurd of_row

-- what a divider demands hangs on `go` alone
pub divider_by_enabling : (w : ℕ) → DemandsByEnabling (divider_row w)
divider_by_enabling w (Divider run quotient remainder) inputs others n agree = pipe_demands_same run inputs others n (agree.enabling 0 (enable_port Go) refl refl)
divider_by_enabling w state inputs others n agree = refl

pub divider_demands_nothing : (w : ℕ) → DemandsNothingWhenQuiet (divider_row w)
divider_demands_nothing w (Divider run quotient remainder) inputs n quiet = pipe_demands_nothing run inputs n (quiet 0 (enable_port Go) refl refl)
divider_demands_nothing w state inputs n quiet = refl

pub divider_lawful : (w : ℕ) → IsWidth w → IsLawful (divider_row w)
divider_lawful w is_width = record {
  starts_settled = refl;
  idle_once = divider_idle_once;
  quiet_is_idle = λ state inputs quiet.
      let off : value_at inputs 0 ≡ 0 = quiet 0 (enable_port Go) refl refl in
      ap (λ (v : ℕ). Ok (if v == 1 then divider_go w w state inputs else divider_idle state)) off;
  registered = λ state inputs others n port at registered. refl;
  looked_at = divider_looks w;
  by_enabling = divider_by_enabling w;
  nothing_demanded = divider_demands_nothing w;
  ranges = λ inputs n beyond. absurd (let none : None ≡ Some n = beyond in cc);
  widths = divider_widths w is_width;
  reads_only = λ state inputs others n agree. refl;
  strict = λ state inputs n of_row out. record {
    unread = λ m reads none. absurd (let wrong : false ≡ true = reads in cc);
    beyond = λ reads. absurd (let wrong : false ≡ true = reads in cc);
    otherwise = λ all within. divider_answers w state n of_row;
  };
  states = record {
    start = (record { under_way = let h = is_width.some_bits in omega arith; left_fits = pow_pos w; right_fits = pow_pos w }, pow_pos w, pow_pos w);
    next = λ state inputs of_row fits values.
        if-each (IsState (DividerOf w w)) (is_on inputs 0) (divider_go w w state inputs) (divider_idle state)
        (divider_go_keeps w state inputs is_width of_row
        (value_at_fits (divider_row w).ports inputs 1 (plain_port Left w) fits values refl)
        (value_at_fits (divider_row w).ports inputs 2 (plain_port Right w) fits values refl))
        (divider_idle_keeps w state of_row);
    idle = divider_idle_keeps w;
  };
}

-- the timer
pub timer_idle_once : (state : CellState) → timer_idle (timer_idle state) ≡ timer_idle state
timer_idle_once (Timer count done) = refl
timer_idle_once state = refl

pub timer_widths : (length : ℕ) → length < 2 ^ 32 → GivesWidths (timer_row length)
timer_widths length few (Timer count done) inputs zero port b of_row fits values at out e = absurd (not_output _ port at refl out)
timer_widths length few (Timer count done) inputs (suc zero) port b of_row fits values at out e =
    out_fits (registered_port Out 32) port _ b at e (number_fits 32 count (record { some_bits = omega arith; few_bits = omega arith }) (omega arith))
timer_widths length few (Timer count done) inputs (suc (suc zero)) port b of_row fits values at out e =
    out_fits (registered_port Done 1) port _ b at e (record { same_width = refl; fits = Fits-bit_of done })
timer_widths length few (Timer count done) inputs (suc (suc (suc n))) port b of_row fits values at out e = absurd (cc)
timer_widths length few state inputs n port b of_row fits values at out e = absurd of_row

pub timer_answers : (length : ℕ) (state : CellState) (n : ℕ) → IsState (TimerOf length) state → IsSome (timer_output state n)
timer_answers length (Timer count done) n of_row = refl
timer_answers length state n of_row = absurd of_row

pub timer_idle_keeps : (length : ℕ) (state : CellState) → IsState (TimerOf length) state → IsState (TimerOf length) (timer_idle state)
timer_idle_keeps length (Timer count done) of_row = omega arith
timer_idle_keeps length state of_row = absurd of_row

pub timer_go_keeps : (length : ℕ) (state : CellState) → IsState (TimerOf length) state → IsState (TimerOf length) (timer_go length state)
timer_go_keeps length (Timer count done) of_row = by_test (count + 1 == length) refl
  where
    by_test : (b : Bool) → (count + 1 == length) ≡ b → IsState (TimerOf length) (if b then Timer 0 true else Timer (count + 1) false)
    by_test true e = omega arith
    by_test false e = grind (arith, nat_tests, e)
timer_go_keeps length state of_row = absurd of_row

pub timer_lawful : (length : ℕ) → 1 ≤ length → length < 2 ^ 32 → IsLawful (timer_row length)
timer_lawful length some few = record {
  starts_settled = refl;
  idle_once = timer_idle_once;
  quiet_is_idle = λ state inputs quiet.
      let off : value_at inputs 0 ≡ 0 = quiet 0 (enable_port Go) refl refl in
      ap (λ (v : ℕ). Ok (if v == 1 then timer_go length state else timer_idle state)) off;
  registered = λ state inputs others n port at registered. refl;
  looked_at = λ state inputs others agree.
      ap (λ (i : Option BitVector). Ok (if number_of i == 1 then timer_go length state else timer_idle state)) (agree.enabling 0 (enable_port Go) refl refl);
  by_enabling = λ state inputs others n agree. refl;
  nothing_demanded = λ state inputs n quiet. refl;
  ranges = λ inputs n beyond. absurd (let none : None ≡ Some n = beyond in cc);
  widths = timer_widths length few;
  reads_only = λ state inputs others n agree. refl;
  strict = λ state inputs n of_row out. record {
    unread = λ m reads none. absurd (let wrong : false ≡ true = reads in cc);
    beyond = λ reads. absurd (let wrong : false ≡ true = reads in cc);
    otherwise = λ all within. timer_answers length state n of_row;
  };
  states = record {
    start = omega arith;
    next = λ state inputs of_row fits values.
        if-each (IsState (TimerOf length)) (is_on inputs 0) (timer_go length state) (timer_idle state) (timer_go_keeps length state of_row) (timer_idle_keeps length state of_row);
    idle = timer_idle_keeps length;
  };
}
