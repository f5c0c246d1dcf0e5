use Rattle.std.proofs.Common.{◌≡◌, map, drop}
use Rattle.std.specs.List.{list_all}
use Rattle.cx_vtree.specs.Layout as layout
use Rattle.cx_vtree.specs.PlainParts.{plain_decl}
use Rattle.cx_vscope.proofs.layout.decls_fit.Given as goal

abbrev pub invariant-loop-d : goal.invariant-loop-d
invariant-loop-d l = list_all layout.decl_fits (map plain_decl (drop l.d-index l.list)) ≡ list_all layout.decl_fits (map plain_decl l.list)
