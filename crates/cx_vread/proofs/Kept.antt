-- What a tree of `cx_vtree` keeps of a source: the source itself where it holds its numbers, and else one with the same first break.
use Rattle.std.proofs.Common.{map}
use Rattle.std.specs.Prelude.{option_map}
use Rattle.cx_vtree.specs.Plain.{PlainPort, PlainDecl, WireOf, RegisterOf, ArrayOf, PlainAssign, PlainStore, PlainItem, SetTo, StoreTo, PlainEdge, PlainModule, PlainExternal, PlainSource}
use Rattle.cx_vtree.specs.Sound.{Scope, meant_in}
use Rattle.cx_vread_exprs.specs.Tokens.{kept_small}
use Rattle.cx_vread_exprs.proofs.Kept.{kept_by}

abbrev pub kept_port : PlainPort → PlainPort
kept_port p = record { output = p.output; name = p.name; width = kept_small p.width }

abbrev pub kept_decl : PlainDecl → PlainDecl
kept_decl (WireOf n w) = WireOf n (kept_small w)
kept_decl (RegisterOf n w) = RegisterOf n (kept_small w)
kept_decl (ArrayOf n w k) = ArrayOf n (kept_small w) k

abbrev pub kept_assign : Scope → PlainAssign → PlainAssign
kept_assign scope a = record { name = a.name; value = kept_by scope a.value }

abbrev pub kept_store : Scope → PlainStore → PlainStore
kept_store scope s = record { guard = kept_by scope s.guard; array = s.array; index = kept_by scope s.index; value = kept_by scope s.value }

abbrev pub kept_item : Scope → PlainItem → PlainItem
kept_item scope (SetTo a) = SetTo (kept_assign scope a)
kept_item scope (StoreTo s) = StoreTo (kept_store scope s)

abbrev pub kept_edge : Scope → PlainEdge → PlainEdge
kept_edge scope e = record { reset = map (kept_assign scope) e.reset; step = map (kept_item scope) e.step }

-- what the names of a module stand for in what is kept of it
abbrev pub kept_scope : PlainModule → Scope
kept_scope m = meant_in (map kept_port m.ports) (map kept_decl m.decls)

abbrev pub kept_module : PlainModule → PlainModule
kept_module m = record {
  name = m.name;
  ports = map kept_port m.ports;
  decls = map kept_decl m.decls;
  assigns = map (kept_assign (kept_scope m)) m.assigns;
  instances = m.instances;
  edge = option_map (kept_edge (kept_scope m)) m.edge;
}

abbrev pub kept_external : PlainExternal → PlainExternal
kept_external e = record { name = e.name; instance = e.instance; width = kept_small e.width; sizes = e.sizes }

abbrev pub kept_source : PlainSource → PlainSource
kept_source s = record { externals = map kept_external s.externals; modules = map kept_module s.modules }
