use Rattle.std.proofs.Common.{◌-◌, ◌≤◌, length}
use Rattle.cx_vnets.specs.Gates.{ZerosStand}
use Rattle.cx_vnets.specs.Readers.{Sweeping}
use Rattle.cx_vnets.proofs.sweep.sweep.Given as goal

abbrev pub invariant-loop-marked : goal.invariant-loop-marked
invariant-loop-marked l = record {
  within : l.rank ≤ length l.stale;
  sweeping : Sweeping l.nets l.stored l.readers l.stale l.values l.rank;
  nonzero : ZerosStand l.readers.carriers.origins.items l.nonzero l.values;
}

abbrev pub decreases-loop-marked : goal.decreases-loop-marked
decreases-loop-marked l = length l.stale - l.rank
