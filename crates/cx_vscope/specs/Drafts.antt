-- What is read of a text as plain data.
use Rattle.std.specs.Prelude.{List, ℕ, suc, map, option_map}
use Rattle.cx_vtree.specs.Plain.{PlainDecl, WireOf, RegisterOf, ArrayOf, PlainModule, PlainExternal, PlainSource}
use Rattle.cx_vtree.specs.PlainParts.{plain_port, plain_assign, plain_instance, plain_edge}
use Rattle.cx_vscope.specs.declared.drafts.DraftExternal.{DraftExternal}
use Rattle.cx_vscope.specs.declared.drafts.DraftDecl.{DraftDecl}
use Rattle.cx_vscope.specs.declared.drafts.DraftDecl.TheVariants.{Wire, Register, Array}
use Rattle.cx_vscope.specs.declared.drafts.DraftModule.{DraftModule}
use Rattle.cx_vscope.specs.declared.numerals.Numeral.{Numeral}

abbrev pub draft_decl : DraftDecl → PlainDecl
draft_decl (Wire n w) = WireOf n w
draft_decl (Register n w) = RegisterOf n w
draft_decl (Array n w last) = ArrayOf n w (suc last)

abbrev pub draft_module : DraftModule → PlainModule
draft_module m = record {
  name = m.name;
  ports = map plain_port m.ports.items;
  decls = map draft_decl m.decls.items;
  assigns = map plain_assign m.assigns.items;
  instances = map plain_instance m.instances.items;
  edge = option_map plain_edge m.edge;
}

abbrev pub draft_modules : List DraftModule → List PlainModule
draft_modules ms = map draft_module ms

-- the sizes as numbers
abbrev pub draft_sizes : List Numeral → List ℕ
draft_sizes ns = map (λ n. n) ns

abbrev pub draft_external : DraftExternal → PlainExternal
draft_external e = record { name = e.name; instance = e.instance; width = e.width; sizes = draft_sizes e.sizes.items }

abbrev pub draft_externals : List DraftExternal → List PlainExternal
draft_externals es = map draft_external es

-- the source of these external lines and modules
abbrev pub draft_source : List DraftExternal → List DraftModule → PlainSource
draft_source externals modules = record { externals = draft_externals externals; modules = draft_modules modules }
