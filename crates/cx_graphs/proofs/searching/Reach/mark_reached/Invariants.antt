use Rattle.std.proofs.Common.{◌+◌, ◌-◌, ◌*◌, length}
use Rattle.cx_graphs.specs.Graphs.{edges_of, unmarked}
use Rattle.cx_graphs.specs.Ways.{both}
use Rattle.cx_graphs.specs.Reach.{IsQueue}
use Rattle.cx_graphs.proofs.searching.Reach.mark_reached.Given as goal

abbrev pub invariant-loop-next : goal.invariant-loop-next
invariant-loop-next l = IsQueue (both (edges_of l.graph) (edges_of l.more)) (length l.graph) l.start l.self.marks.items l.self.touched.items l.next

-- a node that is touched is marked, and counts twice before
abbrev pub decreases-loop-next : goal.decreases-loop-next
decreases-loop-next l = (length l.self.touched.items - l.next) + 2 * unmarked l.self.marks.items
