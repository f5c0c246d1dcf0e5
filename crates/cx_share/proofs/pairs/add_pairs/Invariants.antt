use Rattle.std.proofs.Common.{◌*◌}
use Rattle.cx_share.specs.Tables.{Joins, between, marked_pairs}
use Rattle.cx_share.proofs.pairs.add_pairs.Given as goal

-- the pairs of the words so far are added
abbrev pub invariant-loop-word : goal.invariant-loop-word
invariant-loop-word l = Joins l.initial.table.items l.table.items (between 0 (l.word * 64) (marked_pairs l.ones l.others))
