-- Which sources a tree of `cx_vtree` holds, as they are read.
use Rattle.std.specs.Prelude.{◌&&◌, nat_lt, Bool, true, Option, Some, None}
use Rattle.std.specs.List.{list_all}
use Rattle.cx_vtree.specs.Plain.{PlainPort, PlainDecl, WireOf, RegisterOf, ArrayOf, PlainAssign, PlainItem, SetTo, StoreTo, PlainEdge, PlainModule, PlainExternal, PlainSource}
use Rattle.cx_vread_exprs.specs.Holds.{holds_expr}

abbrev pub holds_port : PlainPort → Bool
holds_port p = nat_lt p.width 256

abbrev pub holds_decl : PlainDecl → Bool
holds_decl (WireOf n w) = nat_lt w 256
holds_decl (RegisterOf n w) = nat_lt w 256
holds_decl (ArrayOf n w k) = nat_lt w 256 && nat_lt k 18446744073709551616

abbrev pub holds_assign : PlainAssign → Bool
holds_assign a = holds_expr a.value

abbrev pub holds_item : PlainItem → Bool
holds_item (SetTo a) = holds_assign a
holds_item (StoreTo s) = holds_expr s.guard && holds_expr s.index && holds_expr s.value

abbrev pub holds_edge : Option PlainEdge → Bool
holds_edge None = true
holds_edge (Some e) = list_all holds_assign e.reset && list_all holds_item e.step

abbrev pub holds_module : PlainModule → Bool
holds_module m =
    list_all holds_port m.ports && list_all holds_decl m.decls && list_all holds_assign m.assigns
    && holds_edge m.edge

abbrev pub holds_external : PlainExternal → Bool
holds_external e = nat_lt e.width 256 && list_all (λ k. nat_lt k 18446744073709551616) e.sizes

-- widths are below 256, lengths and sizes below 2^64, and all expressions as above
abbrev pub is_held : PlainSource → Bool
is_held s = list_all holds_external s.externals && list_all holds_module s.modules
