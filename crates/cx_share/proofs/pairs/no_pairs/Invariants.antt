use Rattle.std.proofs.Common.{◌≡◌, false, replicate}
use Rattle.cx_share.proofs.pairs.no_pairs.Given as goal

-- the rows so far
abbrev pub invariant-loop-row : goal.invariant-loop-row
invariant-loop-row l = l.table.items ≡ replicate l._row (replicate l.count false)
