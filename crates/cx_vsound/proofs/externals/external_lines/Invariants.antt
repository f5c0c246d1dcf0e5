use Rattle.std.proofs.Common.{◌≡◌, [], drop}
use Rattle.cx_vscope.specs.Drafts.{draft_modules, draft_externals}
use Rattle.cx_vtree.specs.Sound as sound
use Rattle.cx_vsound.specs.Search.{over}
use Rattle.cx_vsound.proofs.externals.external_lines.Given as goal

abbrev pub invariant-loop-e : goal.invariant-loop-e
invariant-loop-e l = over l.search (sound.externals_faults (draft_modules l.modules) l.names l.taken (draft_externals (drop l.e-index l.externals))) ≡ over l.initial.search (sound.externals_faults (draft_modules l.modules) [] [] (draft_externals l.externals))
