use Rattle.std.proofs.Common.{◌≡◌, length}
use Rattle.cx_graphs.specs.Tallies.{IsKept}
use Rattle.cx_graphs.proofs.tally.Tally.clear.Given as goal

abbrev pub invariant-loop-node : goal.invariant-loop-node
invariant-loop-node l = (length l.self.owners.items ≡ length l.initial.self.owners.items) × IsKept l.self.owners.items l.self.touched.items

abbrev pub decreases-loop-node : goal.decreases-loop-node
decreases-loop-node l = length l.self.touched.items
