use Rattle.std.proofs.Common.{◌≡◌, map, drop}
use Rattle.std.specs.List.{list_all}
use Rattle.cx_vtree.specs.Layout as layout
use Rattle.cx_vtree.specs.PlainParts.{plain_assign}
use Rattle.cx_vscope.proofs.layout.assigns_fit.Given as goal

abbrev pub invariant-loop-a : goal.invariant-loop-a
invariant-loop-a l = list_all layout.assign_fits (map plain_assign (drop l.a-index l.list)) ≡ list_all layout.assign_fits (map plain_assign l.list)
