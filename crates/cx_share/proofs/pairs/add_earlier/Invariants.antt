use Rattle.std.proofs.Common.{◌≡◌, false, get_or, length, take}
use Rattle.cx_share.specs.Marks.{AreMarks, any_of}
use Rattle.cx_share.specs.Tables.{Joins, in_order}
use Rattle.cx_share.proofs.pairs.add_earlier.Given as goal

-- the earlier sets are done, and their cells marked
abbrev pub invariant-loop-set : goal.invariant-loop-set
invariant-loop-set l = record {
  count : length l.earlier ≡ l.count;
  marks : AreMarks l.earlier (any_of (λ s c. get_or s c false) (take l.set-index l.sets));
  joined : Joins l.initial.table.items l.table.items (λ x y. in_order (take l.set-index l.sets) y x);
}
