-- What the Rust types stand for, without where they lie in memory.
use Rattle.std.specs.Prelude.{List, map, option_map}
use Rattle.cx_text.specs.Loading.{PlainRow}
use Rattle.cx_vtree.specs.Plain.{PlainExpr, Named, Number, Part, Word, Applied, Inverted, Chosen, Joined, PlainPort, PlainDecl, WireOf, RegisterOf, ArrayOf, PlainAssign, PlainConn, PlainInstance, PlainItem, SetTo, StoreTo, PlainEdge, PlainModule, PlainExternal}
use Rattle.cx_vtree.specs.declared.exprs.Expr.{Expr, Expr-F, fold-Expr}
use Rattle.cx_vtree.specs.declared.exprs.Expr.TheOpen as open_expr
use Rattle.cx_vtree.specs.declared.modules.ModulePort.{ModulePort}
use Rattle.cx_vtree.specs.declared.modules.Decl.{Decl}
use Rattle.cx_vtree.specs.declared.modules.Decl.TheVariants.{Wire, Register, Array}
use Rattle.cx_vtree.specs.declared.modules.NetAssign.{NetAssign}
use Rattle.cx_vtree.specs.declared.modules.Conn.{Conn}
use Rattle.cx_vtree.specs.declared.modules.Instance.{Instance}
use Rattle.cx_vtree.specs.declared.modules.EdgeItem.{EdgeItem}
use Rattle.cx_vtree.specs.declared.modules.EdgeItem.TheVariants.{Set, Store}
use Rattle.cx_vtree.specs.declared.modules.Edge.{Edge}
use Rattle.cx_vtree.specs.declared.modules.Module.{Module}
use Rattle.cx_vtree.specs.declared.externals.External.{External}

abbrev pub expr_step : Expr-F PlainExpr → PlainExpr
expr_step (open_expr.Net n) = Named n
expr_step (open_expr.Literal b) = Number b
expr_step (open_expr.Slice n h l) = Part n h l
expr_step (open_expr.Item n i) = Word n i.value
expr_step (open_expr.Binary op a b) = Applied op a.value b.value
expr_step (open_expr.Not a) = Inverted a.value
expr_step (open_expr.Choose c a b) = Chosen c.value a.value b.value
expr_step (open_expr.Cat a b) = Joined a.value b.value

abbrev pub plain_expr : Expr → PlainExpr
plain_expr = fold-Expr PlainExpr expr_step

abbrev pub plain_port : ModulePort → PlainPort
plain_port p = record { output = p.output; name = p.name; width = p.width }

abbrev pub plain_decl : Decl → PlainDecl
plain_decl (Wire n w) = WireOf n w
plain_decl (Register n w) = RegisterOf n w
plain_decl (Array n w k) = ArrayOf n w k

abbrev pub plain_assign : NetAssign → PlainAssign
plain_assign a = record { name = a.name; value = plain_expr a.value }

abbrev pub plain_conn : Conn → PlainConn
plain_conn c = record { port = c.port; net = c.net }

abbrev pub plain_instance : Instance → PlainInstance
plain_instance i = record { kind = i.module; name = i.name; conns = map plain_conn i.conns.items }

abbrev pub plain_item : EdgeItem → PlainItem
plain_item (Set a) = SetTo (plain_assign a)
plain_item (Store g n i v) =
    StoreTo (record { guard = plain_expr g; array = n; index = plain_expr i; value = plain_expr v })

abbrev pub plain_edge : Edge → PlainEdge
plain_edge e = record { reset = map plain_assign e.reset.items; step = map plain_item e.step.items }

abbrev pub plain_module : Module → PlainModule
plain_module m = record {
  name = m.name;
  ports = map plain_port m.ports.items;
  decls = map plain_decl m.decls.items;
  assigns = map plain_assign m.assigns.items;
  instances = map plain_instance m.instances.items;
  edge = option_map plain_edge m.edge;
}

abbrev pub plain_modules : List Module → List PlainModule
plain_modules ms = map plain_module ms

abbrev pub plain_external : External → PlainExternal
plain_external e = record { name = e.name; instance = e.instance; width = e.width; sizes = e.sizes.items }

abbrev pub plain_externals : List External → List PlainExternal
plain_externals es = map plain_external es

-- the external memory that a comment line tells
abbrev pub row_of : PlainExternal → PlainRow
row_of e = record { name = e.name; width = e.width; sizes = e.sizes }

abbrev pub rows_of : List PlainExternal → List PlainRow
rows_of es = map row_of es
