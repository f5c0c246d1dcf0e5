use Rattle.std.proofs.Common.{◌≡◌, ◌≤◌, false, drop, get_or, length}
use Rattle.cx_share.specs.Marks.{AreMarks, any_of}
use Rattle.cx_share.specs.Tables.{Joins, in_order}
use Rattle.cx_share.proofs.pairs.add_later.Given as goal

-- the later sets are done, and their cells marked
abbrev pub invariant-loop-left : goal.invariant-loop-left
invariant-loop-left l = record {
  within : l.left ≤ length l.sets;
  count : length l.later ≡ l.count;
  marks : AreMarks l.later (any_of (λ s c. get_or s c false) (drop l.left l.sets));
  joined : Joins l.initial.table.items l.table.items (in_order (drop l.left l.sets));
}

abbrev pub decreases-loop-left : goal.decreases-loop-left
decreases-loop-left l = l.left
