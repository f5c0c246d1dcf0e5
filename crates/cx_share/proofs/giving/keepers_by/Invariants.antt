use Rattle.std.proofs.Common.{◌≤◌, drop, length, map}
use Rattle.cx_share.specs.Givings.{KeptBy, plain_kept}
use Rattle.cx_share.proofs.giving.keepers_by.Given as goal

-- the last of what is kept stand for theirs
abbrev pub invariant-loop-left : goal.invariant-loop-left
invariant-loop-left l = record {
  within : l.left ≤ length l.kept;
  keeps : KeptBy l.count (map plain_kept (drop l.left l.kept)) l.keepers.items;
}

abbrev pub decreases-loop-left : goal.decreases-loop-left
decreases-loop-left l = l.left
