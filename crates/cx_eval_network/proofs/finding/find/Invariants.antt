use Rattle.std.proofs.Common.{◌+◌, ◌*◌}
use Rattle.cx_eval_network.proofs.DemandSteps.{Going, unseen}
use Rattle.cx_eval_network.proofs.finding.find.Given as goal

abbrev pub invariant-loop-depth : goal.invariant-loop-depth
invariant-loop-depth g l = Going (g.N.Network.leads l.net) (g.N.Network.value l.net) l.root l.fn.marks l.marks l.stack l.depth

abbrev pub decreases-loop-depth : goal.decreases-loop-depth
decreases-loop-depth g l = 2 * unseen l.marks + l.depth
