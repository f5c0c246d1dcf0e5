use Rattle.std.proofs.Common.{List, ℕ, ◌++◌, drop}
use Rattle.cx_print.specs.Layout.{IsLaidOut, AppendsLayout}
use Rattle.cx_print.proofs.rendering.render.Given as goal

-- whatever lays out the pieces that are left completes the text
abbrev pub invariant-loop-piece : goal.invariant-loop-piece
invariant-loop-piece l = (rest : List ℕ) → IsLaidOut (drop l.piece-index l.pieces) rest → AppendsLayout l.pieces l.fn.out.items (l.out.items ++ rest)
