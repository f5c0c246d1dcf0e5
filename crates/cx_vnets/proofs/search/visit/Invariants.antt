use Rattle.std.proofs.Common.{◌+◌, ◌*◌}
use Rattle.cx_vnets.proofs.Steps.{Going, unseen}
use Rattle.cx_vnets.proofs.search.visit.Given as goal

abbrev pub invariant-loop-depth : goal.invariant-loop-depth
invariant-loop-depth l = Going l.nets l.stored l.root l.fn.marks l.marks l.values l.stack l.depth

abbrev pub decreases-loop-depth : goal.decreases-loop-depth
decreases-loop-depth l = 2 * unseen l.marks + l.depth
