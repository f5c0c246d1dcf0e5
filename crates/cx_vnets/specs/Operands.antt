-- What operands give their code, and what their widths do. None where one of them has no value, or widths do not fit.
use Rattle.std.specs.Prelude.{◌==◌, Option, option_and_then, option_map, if◌then◌else◌}
use Rattle.cx_bits.specs.BitVector.{BitVector}
use Rattle.cx_vtree.specs.declared.operators.Operator.{Operator}
use Rattle.cx_vtree.specs.Operators as operators

-- an operator of two
abbrev pub applied : Operator → Option BitVector → Option BitVector → Option BitVector
applied op left right = option_and_then (λ x. option_map (operators.operate op x) right) left

-- the second of three where the first is not 0, else the third
abbrev pub choice : Option BitVector → Option BitVector → Option BitVector → Option BitVector
choice test one other = option_and_then (λ t. if t.value == 0 then other else one) test

-- the first above the second
abbrev pub above : Option BitVector → Option BitVector → Option BitVector
above high low = option_and_then (λ x. option_map (operators.joined x) low) high
