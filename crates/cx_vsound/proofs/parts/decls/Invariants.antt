use Rattle.std.proofs.Common.{◌≡◌, ◌++◌, map, drop}
use Rattle.cx_vscope.specs.Drafts.{draft_decl}
use Rattle.cx_vtree.specs.Sound as sound
use Rattle.cx_vsound.specs.Search.{over}
use Rattle.cx_vsound.proofs.parts.decls.Given as goal

abbrev pub invariant-loop-d : goal.invariant-loop-d
invariant-loop-d l = (over l.search (sound.decls_faults l.drivers l.earlier (map draft_decl (drop l.d-index l.decls))) ≡ over l.initial.search (sound.decls_faults l.drivers l.initial.earlier (map draft_decl l.decls))) × (l.earlier ++ map sound.decl_name (map draft_decl (drop l.d-index l.decls)) ≡ l.initial.earlier ++ map sound.decl_name (map draft_decl l.decls))
