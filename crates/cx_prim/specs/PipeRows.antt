-- The rows of the multiplier and the divider, which hold their operands and answer some cycles later, and of the timer.
use Rattle.std.specs.Prelude.{ℕ, ◌+◌, ◌==◌, ◌&&◌, Bool, true, false, [], ◌∷◌, Option, Some, None, nat_le, if◌then◌else◌}
use Rattle.cx_bits.specs.BitVector.{BitVector}
use Rattle.cx_bits.specs.Operators.{bit_of, product_of, quotient_of, remainder_of}
use Rattle.cx_prim.specs.declared.ports.PortName.TheVariants.{Go, Left, Right, Out, OutQuotient, OutRemainder, Done}
use Rattle.cx_prim.specs.CellStates.{CellState, Multiplier, Divider, Timer, MultiplierOf, DividerOf, TimerOf, PipeRun}
use Rattle.cx_prim.specs.Rows.{Inputs, value_at, is_on, Row}
use Rattle.cx_prim.specs.CombinationalRows.{enable_port, plain_port, registered_port}

-- `go` is port 0, `left` port 1, `right` port 2

-- a pipe that has gone no cycle takes its operands
abbrev pub holding : PipeRun → Inputs → PipeRun
holding run inputs = if run.count == 0 then record run { left = value_at inputs 1; right = value_at inputs 2 } else run

-- this is the last of the pipe's cycles
abbrev pub is_last : ℕ → PipeRun → Bool
is_last latency run = run.count + 1 == latency

-- after one more cycle: in the last one done rises and the pipe is ready to begin anew
abbrev pub advanced : ℕ → PipeRun → PipeRun
advanced latency run =
    if is_last latency run then record run { count = 0; done = true }
    else record run { count = run.count + 1; done = false }

-- a pipe that is not driven begins anew
abbrev pub stopped : PipeRun → PipeRun
stopped run = record run { count = 0; done = false }

abbrev pub at_rest : PipeRun
at_rest = record { count = 0; left = 0; right = 0; done = false }

abbrev pub left_of : ℕ → PipeRun → BitVector
left_of width run = record { width = width; value = run.left }

abbrev pub right_of : ℕ → PipeRun → BitVector
right_of width run = record { width = width; value = run.right }

-- operands are demanded with `go` in the first cycle
abbrev pub pipe_demands : PipeRun → Inputs → ℕ → Bool
pipe_demands run inputs n = (is_on inputs 0 && (run.count == 0)) && (nat_le 1 n && nat_le n 2)

-- `out` is port 3, `done` port 4
abbrev pub multiplier_output : ℕ → CellState → ℕ → Option BitVector
multiplier_output width (Multiplier run product) n =
    Some (if n == 3 then record { width = width; value = product } else bit_of run.done)
multiplier_output width state n = None

abbrev pub multiplier_idle : CellState → CellState
multiplier_idle (Multiplier run product) = Multiplier (stopped run) product
multiplier_idle state = state

abbrev pub multiplier_demands : CellState → Inputs → ℕ → Bool
multiplier_demands (Multiplier run product) inputs n = pipe_demands run inputs n
multiplier_demands state inputs n = false

-- in the last cycle the output becomes the product of the held operands, modulo two to the width
abbrev pub multiplied : ℕ → ℕ → PipeRun → ℕ → CellState
multiplied width latency run product =
    Multiplier (advanced latency run)
    (if is_last latency run then (product_of (left_of width run) (right_of width run)).value else product)

abbrev pub multiplier_go : ℕ → ℕ → CellState → Inputs → CellState
multiplier_go width latency (Multiplier run product) inputs = multiplied width latency (holding run inputs) product
multiplier_go width latency state inputs = state

abbrev pub multiplier_latency : ℕ
multiplier_latency = 3

abbrev pub multiplier_row : ℕ → Row
multiplier_row width = record {
  ports =
      enable_port Go ∷ plain_port Left width ∷ plain_port Right width ∷ registered_port Out width
      ∷ registered_port Done 1 ∷ [];
  shape = MultiplierOf width multiplier_latency;
  start = Multiplier at_rest 0;
  output = λ state inputs n. multiplier_output width state n;
  reads = λ n m. false;
  beyond = λ inputs n. false;
  demands = multiplier_demands;
  out_of_range = λ inputs. None;
  next =
      λ state inputs.
      if is_on inputs 0 then multiplier_go width multiplier_latency state inputs else multiplier_idle state;
  idle = multiplier_idle;
}

-- `out_quotient` is port 3, `out_remainder` port 4, `done` port 5
abbrev pub divider_output : ℕ → CellState → ℕ → Option BitVector
divider_output width (Divider run quotient remainder) n =
    Some (if n == 3 then record { width = width; value = quotient } else if n == 4
    then record { width = width; value = remainder } else bit_of run.done)
divider_output width state n = None

abbrev pub divider_idle : CellState → CellState
divider_idle (Divider run quotient remainder) = Divider (stopped run) quotient remainder
divider_idle state = state

abbrev pub divider_demands : CellState → Inputs → ℕ → Bool
divider_demands (Divider run quotient remainder) inputs n = pipe_demands run inputs n
divider_demands state inputs n = false

-- in the last cycle the outputs become quotient and remainder of the held operands; a divisor of 0 gives all ones and the dividend
abbrev pub divided : ℕ → ℕ → PipeRun → ℕ → ℕ → CellState
divided width latency run quotient remainder =
    if is_last latency run
    then Divider (advanced latency run) (quotient_of (left_of width run) (right_of width run)).value
    (remainder_of (left_of width run) (right_of width run)).value
    else Divider (advanced latency run) quotient remainder

abbrev pub divider_go : ℕ → ℕ → CellState → Inputs → CellState
divider_go width latency (Divider run quotient remainder) inputs =
    divided width latency (holding run inputs) quotient remainder
divider_go width latency state inputs = state

-- the latency of a divider is its width
abbrev pub divider_row : ℕ → Row
divider_row width = record {
  ports =
      enable_port Go ∷ plain_port Left width ∷ plain_port Right width ∷ registered_port OutQuotient width
      ∷ registered_port OutRemainder width ∷ registered_port Done 1 ∷ [];
  shape = DividerOf width width;
  start = Divider at_rest 0 0;
  output = λ state inputs n. divider_output width state n;
  reads = λ n m. false;
  beyond = λ inputs n. false;
  demands = divider_demands;
  out_of_range = λ inputs. None;
  next = λ state inputs. if is_on inputs 0 then divider_go width width state inputs else divider_idle state;
  idle = divider_idle;
}

-- `out`, port 1, is the count; `done` is port 2
abbrev pub timer_output : CellState → ℕ → Option BitVector
timer_output (Timer count done) n = Some (if n == 1 then record { width = 32; value = count } else bit_of done)
timer_output state n = None

abbrev pub timer_idle : CellState → CellState
timer_idle (Timer count done) = Timer 0 false
timer_idle state = state

abbrev pub timer_go : ℕ → CellState → CellState
timer_go length (Timer count done) = if count + 1 == length then Timer 0 true else Timer (count + 1) false
timer_go length state = state

abbrev pub timer_row : ℕ → Row
timer_row length = record {
  ports = enable_port Go ∷ registered_port Out 32 ∷ registered_port Done 1 ∷ [];
  shape = TimerOf length;
  start = Timer 0 false;
  output = λ state inputs n. timer_output state n;
  reads = λ n m. false;
  beyond = λ inputs n. false;
  demands = λ state inputs n. false;
  out_of_range = λ inputs. None;
  next = λ state inputs. if is_on inputs 0 then timer_go length state else timer_idle state;
  idle = timer_idle;
}
