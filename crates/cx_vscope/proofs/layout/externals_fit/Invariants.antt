use Rattle.std.proofs.Common.{◌≡◌, drop}
use Rattle.std.specs.List.{list_all}
use Rattle.cx_vtree.specs.Layout as layout
use Rattle.cx_vtree.specs.PlainParts.{plain_externals}
use Rattle.cx_vscope.proofs.layout.externals_fit.Given as goal

abbrev pub invariant-loop-e : goal.invariant-loop-e
invariant-loop-e l = list_all layout.external_fits (plain_externals (drop l.e-index l.list)) ≡ list_all layout.external_fits (plain_externals l.list)
