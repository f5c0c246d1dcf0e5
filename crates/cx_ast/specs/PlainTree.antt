-- A file's tree as plain data: what a `Tree` stands for, without where it lies in memory.
use Rattle.std.specs.Prelude.{ℕ, List, Option, option_map, map}
use Rattle.cx_text.specs.declared.places.Place.{Place}
use Rattle.cx_ast.specs.declared.components.Attribute.{Attribute}
use Rattle.cx_ast.specs.declared.components.CellItem.{CellItem}
use Rattle.cx_ast.specs.declared.components.ComponentItem.{ComponentItem}
use Rattle.cx_ast.specs.declared.components.Mark.{Mark}
use Rattle.cx_ast.specs.declared.components.PortItem.{PortItem}
use Rattle.cx_ast.specs.declared.operands.OperandItem.{OperandItem}
use Rattle.cx_ast.specs.declared.trees.ImportItem.{ImportItem}
use Rattle.cx_ast.specs.declared.trees.Tree.{Tree}
use Rattle.cx_ast.specs.declared.wiring.AssignItem.{AssignItem}
use Rattle.cx_ast.specs.declared.wiring.GroupItem.{GroupItem}
use Rattle.cx_ast.specs.declared.wiring.GroupWord.{GroupWord}
use Rattle.cx_ast.specs.declared.wiring.WireItem.{WireItem}
use Rattle.cx_ast.specs.declared.wiring.WireItem.TheVariants as wire_items
use Rattle.cx_ast.specs.PlainGuards.{PlainGuard, plain_guard}
use Rattle.cx_ast.specs.PlainStatements.{PlainBlock, plain_block}

pub record PlainPort : Type 0 where
  pub attributes : List Attribute
  pub name : List ℕ
  pub width : ℕ
  pub place : Place

pub record PlainCell : Type 0 where
  pub attributes : List Attribute
  pub name : List ℕ
  pub marks : List Mark
  pub kind : List ℕ
  pub numbers : List ℕ
  pub place : Place

pub record PlainAssign : Type 0 where
  pub attributes : List Attribute
  pub target : OperandItem
  pub guard : Option PlainGuard
  pub source : OperandItem
  pub place : Place

pub record PlainGroup : Type 0 where
  pub attributes : List Attribute
  pub kind : GroupWord
  pub name : List ℕ
  pub marks : List Mark
  pub assigns : List PlainAssign
  pub place : Place

pub data PlainWire : Type 0 where
  Group : (group : PlainGroup) → PlainWire
  Assign : (assign : PlainAssign) → PlainWire

pub record PlainComponent : Type 0 where
  pub attributes : List Attribute
  pub length : Option ℕ
  pub name : List ℕ
  pub marks : List Mark
  pub inputs : List PlainPort
  pub outputs : List PlainPort
  pub cells : List PlainCell
  pub wires : List PlainWire
  pub control : Option PlainBlock
  pub place : Place

pub record PlainTree : Type 0 where
  pub imports : List ImportItem
  pub components : List PlainComponent

abbrev pub plain_port : PortItem → PlainPort
plain_port p = record { attributes = p.attributes.items; name = p.name; width = p.width; place = p.place }

abbrev pub plain_cell : CellItem → PlainCell
plain_cell c =
    record {
      attributes = c.attributes.items;
      name = c.name;
      marks = c.marks.items;
      kind = c.kind;
      numbers = c.numbers.items;
      place = c.place;
    }

abbrev pub plain_assign : AssignItem → PlainAssign
plain_assign a =
    record {
      attributes = a.attributes.items;
      target = a.target;
      guard = option_map plain_guard a.guard;
      source = a.source;
      place = a.place;
    }

abbrev pub plain_group : GroupItem → PlainGroup
plain_group g = record {
  attributes = g.attributes.items;
  kind = g.kind;
  name = g.name;
  marks = g.marks.items;
  assigns = map plain_assign g.assigns.items;
  place = g.place;
}

abbrev pub plain_wire : WireItem → PlainWire
plain_wire (wire_items.Group g) = Group (plain_group g)
plain_wire (wire_items.Assign a) = Assign (plain_assign a)

abbrev pub plain_component : ComponentItem → PlainComponent
plain_component c = record {
  attributes = c.attributes.items;
  length = c.length;
  name = c.name;
  marks = c.marks.items;
  inputs = map plain_port c.inputs.items;
  outputs = map plain_port c.outputs.items;
  cells = map plain_cell c.cells.items;
  wires = map plain_wire c.wires.items;
  control = option_map plain_block c.control;
  place = c.place;
}

abbrev pub plain_tree : Tree → PlainTree
plain_tree t = record { imports = t.imports.items; components = map plain_component t.components.items }
