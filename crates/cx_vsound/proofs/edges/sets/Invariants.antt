use Rattle.std.proofs.Common.{◌≡◌, [], map, drop}
use Rattle.cx_vtree.specs.PlainParts.{plain_assign}
use Rattle.cx_vtree.specs.Sound as sound
use Rattle.cx_vscope.specs.ScopeValues.{scope_by}
use Rattle.cx_vsound.specs.Search.{over}
use Rattle.cx_vsound.proofs.edges.sets.Given as goal

abbrev pub invariant-loop-a : goal.invariant-loop-a
invariant-loop-a l = over l.search (sound.sets_faults (scope_by l.scope) l.earlier (map plain_assign (drop l.a-index l.list))) ≡ over l.initial.search (sound.sets_faults (scope_by l.scope) [] (map plain_assign l.list))
