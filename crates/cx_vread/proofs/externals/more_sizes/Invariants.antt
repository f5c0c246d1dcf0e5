use Rattle.std.proofs.Common.{◌≡◌, [], ◌∷◌}
use Rattle.std.specs.Prelude.{codes}
use Rattle.cx_vscope.specs.Drafts.{draft_sizes}
use Rattle.cx_vread_exprs.specs.Answers.{place_of}
use Rattle.cx_vread_exprs.specs.Places.{begins, many, with_front}
use Rattle.cx_vread.specs.Parts as parts
use Rattle.cx_vread.proofs.externals.more_sizes.Given as goal

abbrev pub invariant-loop-left : goal.invariant-loop-left
invariant-loop-left l = with_front (draft_sizes l.sizes.items) (many (begins (codes " ")) parts.more_size_at l.left (place_of l.here)) ≡ with_front (l.fn.first ∷ []) (many (begins (codes " ")) parts.more_size_at 3 (place_of l.fn.at))

abbrev pub decreases-loop-left : goal.decreases-loop-left
decreases-loop-left l = l.left
