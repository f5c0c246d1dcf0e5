use Rattle.std.proofs.Common.{◌≡◌, [], ◌∷◌, map, length}
use Rattle.cx_vscope.specs.Drafts.{draft_module}
use Rattle.cx_vread_exprs.specs.Answers.{place_of}
use Rattle.cx_vread_exprs.specs.Places.{many, with_front}
use Rattle.cx_vread.specs.Parts as parts
use Rattle.cx_vread.proofs.modules.more_modules.Given as goal

abbrev pub invariant-loop-left : goal.invariant-loop-left
invariant-loop-left l = with_front (map draft_module l.list.items) (many parts.is_left parts.module_at l.left (place_of l.here)) ≡ with_front (draft_module l.fn.first ∷ []) (many parts.is_left parts.module_at (length l.fn.at.rest.now) (place_of l.fn.at))

abbrev pub decreases-loop-left : goal.decreases-loop-left
decreases-loop-left l = l.left
