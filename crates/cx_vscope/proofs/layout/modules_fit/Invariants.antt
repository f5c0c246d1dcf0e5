use Rattle.std.proofs.Common.{◌≡◌, drop}
use Rattle.std.specs.List.{list_all}
use Rattle.cx_vtree.specs.Layout as layout
use Rattle.cx_vtree.specs.PlainParts.{plain_modules}
use Rattle.cx_vscope.proofs.layout.modules_fit.Given as goal

abbrev pub invariant-loop-m : goal.invariant-loop-m
invariant-loop-m l = list_all layout.module_fits (plain_modules (drop l.m-index l.list)) ≡ list_all layout.module_fits (plain_modules l.list)
