-- Parts that have numbers in the text.
use Rattle.std.specs.Prelude.{◌<◌, ◌^◌, List, [], ◌∷◌, length}
use Rattle.cx_net.specs.Nets.{PlainNetComponent}
use Rattle.cx_emit.specs.Signatures.{PlainCellPorts}

-- so few that 64 bits number them
abbrev pub AreFew : {A : Type 0} → List A → Type 0
AreFew xs = length xs < 2 ^ 64

abbrev pub HaveFewPorts : List PlainCellPorts → Type 0
HaveFewPorts [] = Unit {0}
HaveFewPorts (cell ∷ cells) = AreFew cell.ports × HaveFewPorts cells

-- the parts of a component, whose cells have these ports
pub record HasFewParts (part : PlainNetComponent) (placed : List PlainCellPorts) : Type 0 where
  pub inputs : AreFew part.inputs
  pub outputs : AreFew part.outputs
  pub wires : AreFew part.wires
  pub registers : AreFew part.registers
  pub cells : AreFew placed
  pub ports : HaveFewPorts placed
