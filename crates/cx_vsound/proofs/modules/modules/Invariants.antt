use Rattle.std.proofs.Common.{◌≡◌, [], map, take, drop}
use Rattle.cx_vscope.specs.Drafts.{draft_modules}
use Rattle.cx_vtree.specs.Sound as sound
use Rattle.cx_vsound.specs.Parts.{counts_in}
use Rattle.cx_vsound.specs.Search.{over}
use Rattle.cx_vsound.proofs.modules.modules.Given as goal

abbrev pub invariant-loop-i : goal.invariant-loop-i
invariant-loop-i l = record {
  before : l.before ≡ take l.i l.modules;
  lines : over l.search (sound.modules_faults (draft_modules (take l.i l.modules)) (map counts_in l.counts.items) (draft_modules (drop l.i l.modules))) ≡ over l.initial.search (sound.modules_faults [] [] (draft_modules l.modules));
}
