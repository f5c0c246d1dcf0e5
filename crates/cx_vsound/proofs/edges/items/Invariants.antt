use Rattle.std.proofs.Common.{◌≡◌, [], map, drop}
use Rattle.cx_vtree.specs.PlainParts.{plain_item}
use Rattle.cx_vtree.specs.Sound as sound
use Rattle.cx_vscope.specs.ScopeValues.{scope_by}
use Rattle.cx_vsound.specs.Search.{over}
use Rattle.cx_vsound.proofs.edges.items.Given as goal

abbrev pub invariant-loop-item : goal.invariant-loop-item
invariant-loop-item l = over l.search (sound.items_faults (scope_by l.scope) l.earlier (map plain_item (drop l.item-index l.list))) ≡ over l.initial.search (sound.items_faults (scope_by l.scope) [] (map plain_item l.list))
