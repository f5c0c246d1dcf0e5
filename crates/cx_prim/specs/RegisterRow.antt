-- The row of a register.
use Rattle.std.specs.Prelude.{ℕ, ◌==◌, true, false, [], ◌∷◌, Option, Some, None, if◌then◌else◌}
use Rattle.cx_bits.specs.BitVector.{BitVector}
use Rattle.cx_bits.specs.Operators.{bit_of}
use Rattle.cx_prim.specs.declared.ports.PortName.TheVariants.{In, Out, WriteEn, Done}
use Rattle.cx_prim.specs.CellStates.{CellState, Register, RegisterOf}
use Rattle.cx_prim.specs.Rows.{Inputs, value_at, is_on, Row}
use Rattle.cx_prim.specs.CombinationalRows.{enable_port, plain_port, registered_port}

-- `out` is port 2, `done` port 3
abbrev pub register_output : ℕ → CellState → ℕ → Option BitVector
register_output width (Register value done) n =
    Some (if n == 2 then record { width = width; value = value } else bit_of done)
register_output width state n = None

-- a register keeps its value, and done falls
abbrev pub register_idle : CellState → CellState
register_idle (Register value done) = Register value false
register_idle state = state

-- with `write_en`, port 1, the value becomes `in`, port 0, and done rises
abbrev pub register_next : CellState → Inputs → CellState
register_next state inputs = if is_on inputs 1 then Register (value_at inputs 0) true else register_idle state

abbrev pub register_row : ℕ → Row
register_row width = record {
  ports = plain_port In width ∷ enable_port WriteEn ∷ registered_port Out width ∷ registered_port Done 1 ∷ [];
  shape = RegisterOf width;
  start = Register 0 false;
  output = λ state inputs n. register_output width state n;
  reads = λ n m. false;
  beyond = λ inputs n. false;
  demands = λ state inputs n. if is_on inputs 1 then n == 0 else false;
  out_of_range = λ inputs. None;
  next = register_next;
  idle = register_idle;
}
