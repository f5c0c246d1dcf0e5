use Rattle.std.proofs.Common.{◌≡◌, map, length}
use Rattle.cx_vscope.specs.Drafts.{draft_decl}
use Rattle.cx_vread_exprs.specs.Answers.{place_of}
use Rattle.cx_vread_exprs.specs.Places.{many, with_front}
use Rattle.cx_vread.specs.Parts as parts
use Rattle.cx_vread.proofs.lines.decls.Given as goal

abbrev pub invariant-loop-left : goal.invariant-loop-left
invariant-loop-left l = with_front (map draft_decl l.list.items) (many parts.is_decl parts.decl_at l.left (place_of l.here)) ≡ many parts.is_decl parts.decl_at (length l.fn.at.rest.now) (place_of l.fn.at)

abbrev pub decreases-loop-left : goal.decreases-loop-left
decreases-loop-left l = l.left
