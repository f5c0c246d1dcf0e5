use Rattle.std.proofs.Common.{◌≡◌, codes, drop}
use Rattle.cx_numbering.specs.Names.{has_mark}
use Rattle.cx_names_parts.proofs.cells.has_mark.Given as goal

-- the marks behind have it exactly where all have
abbrev pub invariant-loop-mark : goal.invariant-loop-mark
invariant-loop-mark l = has_mark (codes "external") (drop l.mark-index l.marks) ≡ has_mark (codes "external") l.marks
