use Rattle.cx_vnets.specs.Stale.{NoneStale}
use Rattle.cx_vnets.proofs.stale.near_marked.Given as goal

abbrev pub invariant-loop-rank : goal.invariant-loop-rank
invariant-loop-rank l = NoneStale l.stale l.from l.rank
