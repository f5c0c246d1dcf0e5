use Rattle.std.proofs.Common.{◌≡◌, map, drop}
use Rattle.cx_vtree.specs.PlainParts.{plain_instance}
use Rattle.cx_vscope.specs.Drafts.{draft_modules}
use Rattle.cx_vtree.specs.Sound as sound
use Rattle.cx_vscope.specs.ScopeValues.{scope_by}
use Rattle.cx_vsound.specs.Search.{over}
use Rattle.cx_vsound.proofs.instances.instances.Given as goal

abbrev pub invariant-loop-i : goal.invariant-loop-i
invariant-loop-i l = over l.search (sound.instances_faults (draft_modules l.before) (scope_by l.scope) l.earlier l.driven (map plain_instance (drop l.i-index l.instances))) ≡ over l.initial.search (sound.instances_faults (draft_modules l.before) (scope_by l.scope) l.initial.earlier l.initial.driven (map plain_instance l.instances))
