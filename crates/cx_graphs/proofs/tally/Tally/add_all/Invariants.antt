use Rattle.std.proofs.Common.{take}
use Rattle.cx_graphs.specs.Tallies.{Added}
use Rattle.cx_graphs.proofs.tally.Tally.add_all.Given as goal

-- the owners are added to the nodes so far
abbrev pub invariant-loop-node : goal.invariant-loop-node
invariant-loop-node l = Added l.initial.self.owners.items l.initial.self.touched.items (take l.node-index l.nodes) l.more l.self.owners.items l.self.touched.items
