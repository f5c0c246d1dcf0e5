use Rattle.std.proofs.Common.{◌≡◌, ◌++◌, drop}
use Rattle.cx_rewritten.specs.PromotedTexts.{lines}
use Rattle.cx_rewritten.proofs.promoting.lines.Given as goal

abbrev pub invariant-loop-row : goal.invariant-loop-row
invariant-loop-row l = l.text.items ++ lines (drop l.row-index l.rows) ≡ lines l.rows
