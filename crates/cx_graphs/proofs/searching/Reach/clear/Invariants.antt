use Rattle.std.proofs.Common.{◌≡◌, length}
use Rattle.cx_graphs.specs.Reach.{IsKept}
use Rattle.cx_graphs.proofs.searching.Reach.clear.Given as goal

abbrev pub invariant-loop-node : goal.invariant-loop-node
invariant-loop-node l = (length l.self.marks.items ≡ length l.initial.self.marks.items) × IsKept l.self.marks.items l.self.touched.items

abbrev pub decreases-loop-node : goal.decreases-loop-node
decreases-loop-node l = length l.self.touched.items
