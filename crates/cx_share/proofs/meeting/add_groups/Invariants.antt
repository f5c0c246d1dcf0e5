use Rattle.std.proofs.Common.{take}
use Rattle.cx_share.specs.Tables.{Joins, marked_pairs, pairs_of}
use Rattle.cx_share.proofs.meeting.add_groups.Given as goal

-- the pairs of the groups so far are added
abbrev pub invariant-loop-cells : goal.invariant-loop-cells
invariant-loop-cells l = Joins l.initial.table.items l.table.items (pairs_of (λ s. marked_pairs s s) (take l.cells-index l.used))
