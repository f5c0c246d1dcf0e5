use Rattle.std.proofs.Common.{◌≡◌, map, drop}
use Rattle.std.specs.List.{list_all}
use Rattle.cx_vtree.specs.Layout as layout
use Rattle.cx_vtree.specs.PlainParts.{plain_item}
use Rattle.cx_vscope.proofs.layout.items_fit.Given as goal

abbrev pub invariant-loop-i : goal.invariant-loop-i
invariant-loop-i l = list_all layout.item_fits (map plain_item (drop l.i-index l.list)) ≡ list_all layout.item_fits (map plain_item l.list)
