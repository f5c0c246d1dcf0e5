use Rattle.std.proofs.Common.{◌≡◌, ◌++◌, drop}
use Rattle.cx_copies.proofs.parts.copied_marks.Given as goal

-- the copies so far, and what is left, are all
abbrev pub invariant-loop-mark : goal.invariant-loop-mark
invariant-loop-mark l = l.copies.items ++ drop l.mark-index l.marks ≡ l.marks
