use Rattle.std.proofs.Common.{◌≡◌, map, drop}
use Rattle.cx_vtree.specs.PlainParts.{plain_instance}
use Rattle.cx_vscope.specs.Drafts.{draft_modules}
use Rattle.cx_vtree.specs.Sound as sound
use Rattle.cx_vsound.specs.Parts.{counts_in}
use Rattle.cx_vsound.proofs.counts.instances_counts.Given as goal

abbrev pub invariant-loop-i : goal.invariant-loop-i
invariant-loop-i l = sound.instances_counts (draft_modules l.before) (map counts_in l.counts) (counts_in l.sums) (map plain_instance (drop l.i-index l.instances)) ≡ sound.instances_counts (draft_modules l.before) (map counts_in l.counts) (counts_in l.initial.sums) (map plain_instance l.instances)
