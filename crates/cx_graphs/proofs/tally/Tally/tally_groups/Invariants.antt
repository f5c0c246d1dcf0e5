use Rattle.std.proofs.Common.{◌≡◌, length, take}
use Rattle.cx_graphs.specs.Graphs.{edges_of}
use Rattle.cx_graphs.specs.Spreads.{IsShared}
use Rattle.cx_graphs.proofs.tally.Tally.tally_groups.Given as goal

-- the owners of the groups so far own what the groups have
abbrev pub invariant-loop-place : goal.invariant-loop-place
invariant-loop-place l =
    (length l.self.owners.items ≡ length l.initial.self.owners.items)
    × IsShared (edges_of l.members) (edges_of l.group_lists) (edges_of l.lists) l.groups.owners.items (take l.place l.groups.touched.items) l.self.owners.items l.self.touched.items
