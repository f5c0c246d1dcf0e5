use Rattle.std.proofs.Common.{◌+◌, ◌*◌}
use Rattle.cx_share.specs.Tables.{Joins, between, marked_pairs}
use Rattle.cx_share.proofs.pairs.add_word.Given as goal

-- the pairs of the cells so far are added
abbrev pub invariant-loop-bit : goal.invariant-loop-bit
invariant-loop-bit l = Joins l.initial.table.items l.table.items (between (l.word * 64) (l.word * 64 + l.bit) (marked_pairs l.ones l.others))
