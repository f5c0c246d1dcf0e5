use Rattle.std.proofs.Common.{◌≡◌, ◌++◌, map, drop}
use Rattle.cx_vtree.specs.PlainParts.{plain_assign, plain_instance}
use Rattle.cx_vscope.specs.Drafts.{draft_modules}
use Rattle.cx_vtree.specs.Sound as sound
use Rattle.cx_vsound.proofs.nets.drivers.Given as goal

abbrev pub invariant-loop-a : goal.invariant-loop-a
invariant-loop-a l = l.names ++ map (λ a. a.name) (map plain_assign (drop l.a-index l.a-items)) ≡ map (λ a. a.name) (map plain_assign l.a-items)

abbrev pub invariant-loop-i : goal.invariant-loop-i
invariant-loop-i l = l.names ++ sound.driven_by_all (draft_modules l.before) (map plain_instance (drop l.i-index l.i-items)) ≡ l.initial.names ++ sound.driven_by_all (draft_modules l.before) (map plain_instance l.i-items)
