-- What the types of a design stand for, as plain data. A guard and a statement are told by their folds.
use Rattle.std.specs.Prelude.{ℕ, List, [], ◌∷◌, map}
use Rattle.cx_meaning.specs.Designs.{PlainGuard, Always, Atom, Negation, All, Any, Compared, Within, guards_of, PlainAssign, PlainGroup, PlainKind, OfPrimitive, OfComponent, PlainCell, PlainForm, PlainStatement, Placed, PlainStatements, statements_of, PlainInvoke, PlainComponent, PlainDesign}
use Rattle.cx_meaning.specs.Designs as plain
use Rattle.cx_design.specs.declared.guards.Guard.{Guard, Guard-F, fold-Guard}
use Rattle.cx_design.specs.declared.guards.Guard.TheOpen as guards
use Rattle.cx_design.specs.declared.groups.Assign.{Assign}
use Rattle.cx_design.specs.declared.groups.Group.{Group}
use Rattle.cx_design.specs.declared.cells.CellKind.{CellKind}
use Rattle.cx_design.specs.declared.cells.CellKind.TheVariants.{Prim, Part}
use Rattle.cx_design.specs.declared.cells.Cell.{Cell}
use Rattle.cx_design.specs.declared.statements.Form.{Form, Form-F, fold-Form}
use Rattle.cx_design.specs.declared.statements.Form.TheOpen as forms
use Rattle.cx_design.specs.declared.statements.Statement.{Statement, Statement-F, fold-Statement}
use Rattle.cx_design.specs.declared.invokes.StaticInvoke.{StaticInvoke}
use Rattle.cx_design.specs.declared.components.Component.{Component}

abbrev pub guard_step : Guard-F PlainGuard → PlainGuard
guard_step guards.True = Always
guard_step (guards.Port p) = Atom p
guard_step (guards.Not g) = Negation g.value
guard_step (guards.And gs) = All (guards_of gs.items)
guard_step (guards.Or gs) = Any (guards_of gs.items)
guard_step (guards.Compare c a b) = Compared c a b
guard_step (guards.During from to) = Within from to

abbrev pub plain_guard : Guard → PlainGuard
plain_guard = fold-Guard PlainGuard guard_step

abbrev pub form_step : Form-F PlainForm PlainStatement → PlainForm
form_step forms.Empty = plain.Empty
form_step (forms.Enable g) = plain.Enable g
form_step (forms.Seq parts) = plain.Seq (statements_of parts.items)
form_step (forms.Par arms) = plain.Par (statements_of arms.items)
form_step (forms.If test comb a b) = plain.If test comb a.value b.value
form_step (forms.While test comb a) = plain.While test comb a.value
form_step (forms.Repeat count a) = plain.Repeat count a.value
form_step (forms.StaticSeq length parts) = plain.StaticSeq length (statements_of parts.items)
form_step (forms.StaticPar length parts) = plain.StaticPar length (statements_of parts.items)
form_step (forms.StaticIf length test a b) = plain.StaticIf length test a.value b.value
form_step (forms.StaticRepeat length count a) = plain.StaticRepeat length count a.value
form_step (forms.StaticInvoke k) = plain.Timed k
form_step (forms.Timed k) = plain.Timed k

abbrev pub statement_step : Statement-F PlainForm PlainStatement → PlainStatement
statement_step s = Placed s.form s.place

abbrev pub plain_form : Form → PlainForm
plain_form = fold-Form PlainForm PlainStatement form_step statement_step

abbrev pub plain_statement : Statement → PlainStatement
plain_statement = fold-Statement PlainForm PlainStatement form_step statement_step

abbrev pub plain_statements : List Statement → PlainStatements
plain_statements parts = statements_of (map plain_statement parts)

abbrev pub plain_assign : Assign → PlainAssign
plain_assign a = record { target = a.target; guard = plain_guard a.guard; source = a.source; place = a.place }

abbrev pub plain_assigns : List Assign → List PlainAssign
plain_assigns assigns = map plain_assign assigns

abbrev pub plain_group : Group → PlainGroup
plain_group g = record { name = g.name; kind = g.kind; assigns = plain_assigns g.assigns.items; place = g.place }

abbrev pub plain_kind : CellKind → PlainKind
plain_kind (Prim primitive) = OfPrimitive primitive
plain_kind (Part k) = OfComponent k

abbrev pub plain_cell : Cell → PlainCell
plain_cell c = record { name = c.name; kind = plain_kind c.kind; external = c.external; place = c.place }

abbrev pub plain_invoke : StaticInvoke → PlainInvoke
plain_invoke v = record {
  cell = v.cell;
  written = v.written;
  length = v.length;
  latency = v.latency;
  inputs = plain_assigns v.inputs.items;
  captures = v.captures;
}

abbrev pub plain_component : Component → PlainComponent
plain_component c = record {
  name = c.name;
  latency = c.latency;
  inputs = c.inputs.items;
  outputs = c.outputs.items;
  cells = map plain_cell c.cells.items;
  groups = map plain_group c.groups.items;
  invokes = map plain_invoke c.invokes.items;
  always = plain_assigns c.always.items;
  control = plain_statement c.control;
  place = c.place;
}

-- the design of these components and this main
abbrev pub plain_parts : List Component → ℕ → PlainDesign
plain_parts components main = record { components = map plain_component components; main = main }
