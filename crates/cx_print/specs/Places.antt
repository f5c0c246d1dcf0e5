-- A tree apart from its places: each place is replaced by the one at which a text begins.
use Rattle.std.specs.Prelude.{option_map, map}
use Rattle.cx_text.specs.Places.{start}
use Rattle.cx_ast.specs.declared.operands.OperandItem.{OperandItem}
use Rattle.cx_ast.specs.declared.statements.BindItem.{BindItem}
use Rattle.cx_ast.specs.declared.trees.ImportItem.{ImportItem}
use Rattle.cx_ast.specs.PlainGuards.{PlainGuard, PlainGuards, NoGuards, GuardThen}
use Rattle.cx_ast.specs.PlainGuards as guards
use Rattle.cx_ast.specs.PlainStatements.{PlainForm, PlainElse, NoElse, Else, PlainStatement, Placed, PlainStatements, NoStatements, StatementThen, PlainBlock, Braces}
use Rattle.cx_ast.specs.PlainStatements as plain
use Rattle.cx_ast.specs.PlainTree.{PlainPort, PlainCell, PlainAssign, PlainGroup, PlainWire, PlainComponent, PlainTree}
use Rattle.cx_ast.specs.PlainTree as wires

abbrev pub bare_operand : OperandItem → OperandItem
bare_operand o = record { form = o.form; place = start }

abbrev pub bare_bind : BindItem → BindItem
bare_bind b = record { name = b.name; value = bare_operand b.value; place = start }

abbrev mutual
  pub bare_guard : PlainGuard → PlainGuard
  bare_guard (guards.Or gs) = guards.Or (bare_guards gs)
  bare_guard (guards.And gs) = guards.And (bare_guards gs)
  bare_guard (guards.Compare c left right) = guards.Compare c (bare_operand left) (bare_operand right)
  bare_guard (guards.Not g) = guards.Not (bare_guard g)
  bare_guard (guards.Operand o) = guards.Operand (bare_operand o)
  bare_guard (guards.At n) = guards.At n
  bare_guard (guards.During from to) = guards.During from to

  pub bare_guards : PlainGuards → PlainGuards
  bare_guards NoGuards = NoGuards
  bare_guards (GuardThen g gs) = GuardThen (bare_guard g) (bare_guards gs)

abbrev mutual
  pub bare_form : PlainForm → PlainForm
  bare_form (plain.Enable group marks) = plain.Enable group marks
  bare_form (plain.Seq marks block) = plain.Seq marks (bare_block block)
  bare_form (plain.Par marks block) = plain.Par marks (bare_block block)
  bare_form (plain.StaticSeq length marks block) = plain.StaticSeq length marks (bare_block block)
  bare_form (plain.StaticPar length marks block) = plain.StaticPar length marks (bare_block block)
  bare_form (plain.If test comb body otherwise) =
      plain.If (bare_operand test) comb (bare_block body) (bare_else otherwise)
  bare_form (plain.StaticIf length test body otherwise) =
      plain.StaticIf length (bare_operand test) (bare_block body) (bare_else otherwise)
  bare_form (plain.While test comb body) = plain.While (bare_operand test) comb (bare_block body)
  bare_form (plain.Repeat count body) = plain.Repeat count (bare_block body)
  bare_form (plain.StaticRepeat length count body) = plain.StaticRepeat length count (bare_block body)
  bare_form (plain.Invoke cell inputs outputs) = plain.Invoke cell (map bare_bind inputs) (map bare_bind outputs)
  bare_form (plain.StaticInvoke length cell inputs outputs) =
      plain.StaticInvoke length cell (map bare_bind inputs) (map bare_bind outputs)

  pub bare_else : PlainElse → PlainElse
  bare_else NoElse = NoElse
  bare_else (Else block) = Else (bare_block block)

  pub bare_statement : PlainStatement → PlainStatement
  bare_statement (Placed attributes form place) = Placed attributes (bare_form form) start

  pub bare_statements : PlainStatements → PlainStatements
  bare_statements NoStatements = NoStatements
  bare_statements (StatementThen s ss) = StatementThen (bare_statement s) (bare_statements ss)

  pub bare_block : PlainBlock → PlainBlock
  bare_block (Braces ss place) = Braces (bare_statements ss) start

abbrev pub bare_import : ImportItem → ImportItem
bare_import i = record { path = i.path; place = start }

abbrev pub bare_port : PlainPort → PlainPort
bare_port p = record { attributes = p.attributes; name = p.name; width = p.width; place = start }

abbrev pub bare_cell : PlainCell → PlainCell
bare_cell c =
    record {
      attributes = c.attributes;
      name = c.name;
      marks = c.marks;
      kind = c.kind;
      numbers = c.numbers;
      place = start;
    }

abbrev pub bare_assign : PlainAssign → PlainAssign
bare_assign a =
    record {
      attributes = a.attributes;
      target = bare_operand a.target;
      guard = option_map bare_guard a.guard;
      source = bare_operand a.source;
      place = start;
    }

abbrev pub bare_group : PlainGroup → PlainGroup
bare_group g =
    record {
      attributes = g.attributes;
      kind = g.kind;
      name = g.name;
      marks = g.marks;
      assigns = map bare_assign g.assigns;
      place = start;
    }

abbrev pub bare_wire : PlainWire → PlainWire
bare_wire (wires.Group g) = wires.Group (bare_group g)
bare_wire (wires.Assign a) = wires.Assign (bare_assign a)

abbrev pub bare_component : PlainComponent → PlainComponent
bare_component c = record {
  attributes = c.attributes;
  length = c.length;
  name = c.name;
  marks = c.marks;
  inputs = map bare_port c.inputs;
  outputs = map bare_port c.outputs;
  cells = map bare_cell c.cells;
  wires = map bare_wire c.wires;
  control = option_map bare_block c.control;
  place = start;
}

abbrev pub without_places : PlainTree → PlainTree
without_places t = record { imports = map bare_import t.imports; components = map bare_component t.components }
