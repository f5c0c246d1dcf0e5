use Rattle.std.proofs.Common.{◌-◌, ◌≤◌, length}
use Rattle.cx_graphs.specs.Graphs.{edges_of}
use Rattle.cx_vnets.specs.Spans.{NotBehind}
use Rattle.cx_vnets.specs.Stale.{SameBelow, Tells, rank_at}
use Rattle.cx_vnets.proofs.behind.mark_behind.Given as goal

abbrev pub invariant-loop-gate : goal.invariant-loop-gate
invariant-loop-gate l = record {
  within : l.at ≤ length l.nonzero;
  tells : Tells l.ranks l.fn.stale l.stale (λ f. l.from ≤ rank_at l.ranks f → NotBehind (edges_of l.gated) l.nonzero l.low l.at f);
  below : SameBelow l.from l.fn.stale l.stale;
}

abbrev pub decreases-loop-gate : goal.decreases-loop-gate
decreases-loop-gate l = length l.nonzero - l.at
