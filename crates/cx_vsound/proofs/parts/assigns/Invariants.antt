use Rattle.std.proofs.Common.{◌≡◌, ◌++◌, map, drop}
use Rattle.cx_vtree.specs.PlainParts.{plain_assign}
use Rattle.cx_vtree.specs.Sound as sound
use Rattle.cx_vscope.specs.ScopeValues.{scope_by}
use Rattle.cx_vsound.specs.Search.{over}
use Rattle.cx_vsound.proofs.parts.assigns.Given as goal

abbrev pub invariant-loop-a : goal.invariant-loop-a
invariant-loop-a l = (over l.search (sound.assigns_faults (scope_by l.scope) l.driven (map plain_assign (drop l.a-index l.assigns))) ≡ over l.initial.search (sound.assigns_faults (scope_by l.scope) l.initial.driven (map plain_assign l.assigns))) × (l.driven ++ map (λ a. a.name) (map plain_assign (drop l.a-index l.assigns)) ≡ l.initial.driven ++ map (λ a. a.name) (map plain_assign l.assigns))
