use Rattle.std.proofs.Common.{◌+◌, ◌-◌, length}
use Rattle.cx_graphs.specs.Graphs.{edges_of}
use Rattle.cx_graphs.specs.Spreads.{IsSpreading}
use Rattle.cx_graphs.specs.Tallies.{rooms, starts_of}
use Rattle.cx_graphs.proofs.tally.Tally.tally_reached.Given as goal

abbrev pub invariant-loop-next : goal.invariant-loop-next
invariant-loop-next l = IsSpreading (edges_of l.graph) (starts_of (edges_of l.members) (edges_of l.group_lists) (edges_of l.lists)) l.self.owners.items l.self.touched.items l.next

-- a node that is touched once more leaves less room
abbrev pub decreases-loop-next : goal.decreases-loop-next
decreases-loop-next l = (length l.self.touched.items - l.next) + rooms l.self.owners.items
