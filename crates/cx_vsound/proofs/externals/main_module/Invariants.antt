use Rattle.std.proofs.Common.{◌≡◌, Some, option_map, drop}
use Rattle.std.specs.Prelude.{codes}
use Rattle.std.specs.Option.{option_map_or, option_copied}
use Rattle.cx_vscope.specs.Drafts.{draft_module, draft_modules}
use Rattle.cx_vtree.specs.Sound as sound
use Rattle.cx_vsound.proofs.externals.main_module.Given as goal

abbrev pub invariant-loop-m : goal.invariant-loop-m
invariant-loop-m l = option_map_or Some (sound.last_named (draft_modules (drop l.m-index l.modules)) (codes "main")) (option_map draft_module (option_copied l.found)) ≡ sound.last_named (draft_modules l.modules) (codes "main")
