-- The rows of the primitives without state. An output has a value where every input has one.
use Rattle.std.specs.Prelude.{ℕ, ◌==◌, false, not, List, [], ◌∷◌, Option, Some, None, nat_lt, nat_le, int_lt, int_le, if◌then◌else◌, option_and_then, option_map}
use Rattle.cx_bits.specs.BitVector.{BitVector}
use Rattle.cx_bits.specs.Operators.{bit_of, signed_of}
use Rattle.cx_prim.specs.declared.ports.PortName.{PortName}
use Rattle.cx_prim.specs.declared.ports.PortName.TheVariants.{In, Out, Left, Right, Cond, Tru, Fal}
use Rattle.cx_prim.specs.declared.ports.PortRow.{PortRow}
use Rattle.cx_prim.specs.declared.ports.Side.TheVariants.{Enable, Plain, Output, Registered}
use Rattle.cx_prim.specs.CellStates.{Stateless, NoState}
use Rattle.cx_prim.specs.Rows.{Inputs, input, Row}

-- a port of one bit that an edge looks at first
abbrev pub enable_port : PortName → PortRow
enable_port name = record { name = name; side = Enable; width = 1 }

abbrev pub plain_port : PortName → ℕ → PortRow
plain_port name width = record { name = name; side = Plain; width = width }

abbrev pub output_port : PortName → ℕ → PortRow
output_port name width = record { name = name; side = Output; width = width }

abbrev pub registered_port : PortName → ℕ → PortRow
registered_port name width = record { name = name; side = Registered; width = width }

-- no state, one output, which reads every input
abbrev pub combinational_row : List PortRow → ℕ → (Inputs → Option BitVector) → Row
combinational_row ports input_count value = record {
  ports = ports;
  shape = NoState;
  start = Stateless;
  output = λ state inputs n. value inputs;
  reads = λ n m. nat_lt m input_count;
  beyond = λ inputs n. false;
  demands = λ state inputs n. false;
  out_of_range = λ inputs. None;
  next = λ state inputs. state;
  idle = λ state. state;
}

-- out
abbrev pub constant_row : ℕ → ℕ → Row
constant_row width value =
    combinational_row (output_port Out width ∷ []) 0
    (λ inputs. Some (record { width = width; value = value }))

-- in, out
abbrev pub unary_row : ℕ → ℕ → (BitVector → BitVector) → Row
unary_row width out_width operator =
    combinational_row (plain_port In width ∷ output_port Out out_width ∷ []) 1
    (λ inputs. option_map operator (input inputs 0))

-- left, right, out
abbrev pub binary_row : ℕ → ℕ → (BitVector → BitVector → BitVector) → Row
binary_row width out_width operator =
    combinational_row (plain_port Left width ∷ plain_port Right width ∷ output_port Out out_width ∷ []) 2
    (λ inputs. option_and_then (λ left. option_map (operator left) (input inputs 1)) (input inputs 0))

-- `tru` where `cond` is 1, else `fal`
abbrev pub chosen : BitVector → BitVector → BitVector → BitVector
chosen condition yes_value no_value = if condition.value == 1 then yes_value else no_value

-- cond, tru, fal, out
abbrev pub mux_row : ℕ → Row
mux_row width =
    combinational_row (plain_port Cond 1 ∷ plain_port Tru width ∷ plain_port Fal width ∷ output_port Out width ∷ []) 3
    (λ inputs. option_and_then (λ condition.
    option_and_then (λ yes_value. option_map (chosen condition yes_value) (input inputs 2))
    (input inputs 1)) (input inputs 0))

-- comparisons of unsigned numbers, as one bit
abbrev pub greater_bit_of : BitVector → BitVector → BitVector
greater_bit_of a b = bit_of (nat_lt b.value a.value)

abbrev pub unequal_bit_of : BitVector → BitVector → BitVector
unequal_bit_of a b = bit_of (not (a.value == b.value))

abbrev pub at_most_bit_of : BitVector → BitVector → BitVector
at_most_bit_of a b = bit_of (nat_le a.value b.value)

abbrev pub at_least_bit_of : BitVector → BitVector → BitVector
at_least_bit_of a b = bit_of (nat_le b.value a.value)

-- comparisons of numbers in two's complement, as one bit; two of one width are equal exactly where their bits are
abbrev pub signed_greater_bit_of : BitVector → BitVector → BitVector
signed_greater_bit_of a b = bit_of (int_lt (signed_of b) (signed_of a))

abbrev pub signed_at_most_bit_of : BitVector → BitVector → BitVector
signed_at_most_bit_of a b = bit_of (int_le (signed_of a) (signed_of b))

abbrev pub signed_at_least_bit_of : BitVector → BitVector → BitVector
signed_at_least_bit_of a b = bit_of (int_le (signed_of b) (signed_of a))
