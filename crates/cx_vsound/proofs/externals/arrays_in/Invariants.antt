use Rattle.std.proofs.Common.{◌≡◌, map, drop}
use Rattle.cx_vscope.specs.Drafts.{draft_decl}
use Rattle.cx_vtree.specs.Sound as sound
use Rattle.cx_vsound.specs.Arrays.{arrays_among, with_arrays, seen}
use Rattle.cx_vsound.proofs.externals.arrays_in.Given as goal

abbrev pub invariant-loop-d : goal.invariant-loop-d
invariant-loop-d l = with_arrays (seen l.arrays) (sound.arrays_in (map draft_decl (drop l.d-index l.decls))) ≡ arrays_among (sound.arrays_in (map draft_decl l.decls))
