-- What the types of this crate stand for, as plain data.
use Rattle.std.specs.Prelude.{List, Option, map, option_map}
use Rattle.std.specs.declared.vec.Vec.{Vec}
use Rattle.std.specs.declared.alloc.Global.{Global}
use Rattle.cx_vtree.specs.Plain.{PlainAssign}
use Rattle.cx_vtree.specs.PlainParts.{plain_assign, plain_port}
use Rattle.cx_vtree.specs.declared.modules.NetAssign.{NetAssign}
use Rattle.cx_emit.specs.Driven.{PlainDriven}
use Rattle.cx_emit.specs.Signatures.{PlainCellPorts}
use Rattle.cx_emit.specs.declared.driven.Driven.{Driven}
use Rattle.cx_emit.specs.declared.signatures.CellPorts.{CellPorts}

abbrev pub plain_cell_ports : CellPorts → PlainCellPorts
plain_cell_ports c = record { kind = c.module; ports = map plain_port c.ports.items }

abbrev pub plain_port_driven : Option NetAssign → Option PlainAssign
plain_port_driven o = option_map plain_assign o

abbrev pub plain_ports_driven : Vec (Option NetAssign) Global → List (Option PlainAssign)
plain_ports_driven own = map plain_port_driven own.items

abbrev pub plain_driven : Driven → PlainDriven
plain_driven d = record {
  cells = map plain_ports_driven d.cells.items;
  outputs = map plain_assign d.outputs.items;
  wires = map plain_assign d.wires.items;
  registers = map plain_assign d.registers.items;
  done = plain_assign d.done;
}
