use Rattle.std.proofs.Common.{◌≡◌, map, drop}
use Rattle.cx_vscope.specs.Drafts.{draft_decl}
use Rattle.cx_vtree.specs.Sound as sound
use Rattle.cx_vsound.specs.Parts.{counts_in}
use Rattle.cx_vsound.proofs.counts.decls_counts.Given as goal

abbrev pub invariant-loop-d : goal.invariant-loop-d
invariant-loop-d l = sound.decls_counts (counts_in l.sums) (map draft_decl (drop l.d-index l.decls)) ≡ sound.decls_counts (counts_in l.initial.sums) (map draft_decl l.decls)
