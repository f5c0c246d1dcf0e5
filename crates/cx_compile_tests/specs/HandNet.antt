-- The net of `src/nets.rt`, as plain data: a register of 8 bits, two wires and a register of the control.
use Rattle.std.specs.Prelude.{false, List, [], ◌∷◌, codes}
use Rattle.cx_prim.specs.declared.names.PrimitiveName.TheVariants as primitives
use Rattle.cx_prim.specs.Table.{PrimitiveRow}
use Rattle.cx_meaning.specs.declared.ports.Comparison.TheVariants as comparisons
use Rattle.cx_meaning.specs.declared.ports.PortRef.TheVariants as ports
use Rattle.cx_meaning.specs.Designs.{OfPrimitive, PlainCell}
use Rattle.cx_net.specs.Nets.{PlainNetExpr, OfPort, OfRegister, OfWire, OfGo, Inverse, AllOf, Sum, Compares, exprs_of, ToPort, ToRegister, ToWire, ToDone, PlainNetDriver, PlainNetComponent, PlainNet}
pub use Rattle.cx_wiring.specs.Parts.{literal as number, drive as driver}

-- the done of the register
abbrev pub register_done : PlainNetExpr
register_done = OfPort (ports.Cell 0 3)

-- the component goes, the register is not done, and register 0 is 0
abbrev pub hand_starts : PlainNetExpr
hand_starts =
    AllOf
    (exprs_of (OfGo ∷ Inverse register_done ∷ Compares comparisons.Equal (OfRegister 0) (number 32 0) ∷ []))

abbrev pub hand_drivers : List PlainNetDriver
hand_drivers =
    driver (ToPort (ports.Cell 0 0)) OfGo (number 8 7)
    ∷ driver (ToPort (ports.Cell 0 1)) (OfWire 0) (number 1 1)
    ∷ driver (ToPort (ports.Cell 0 0)) (OfWire 0) (number 8 9)
    ∷ driver (ToWire 0) (number 1 1) hand_starts
    ∷ driver (ToWire 0) OfGo (number 1 0)
    ∷ driver (ToRegister 0) register_done (Sum (OfRegister 0) (number 32 1))
    ∷ driver ToDone (number 1 1) register_done ∷ []

abbrev pub eight_bits : PrimitiveRow
eight_bits = record { name = primitives.Reg; numbers = 8 ∷ [] }

abbrev pub hand_cell : PlainCell
hand_cell =
    record {
      name = codes "r";
      kind = OfPrimitive eight_bits;
      external = false;
      place = record { line = 1; column = 1 };
    }

abbrev pub hand_part : PlainNetComponent
hand_part =
    record {
      name = codes "main";
      inputs = [];
      outputs = [];
      cells = hand_cell ∷ [];
      registers = 32 ∷ [];
      wires = 1 ∷ 3 ∷ [];
      holes = 0;
      drivers = hand_drivers;
    }

abbrev pub hand_net : PlainNet
hand_net = record { components = hand_part ∷ []; main = 0 }
