use Rattle.std.proofs.Common.{take}
use Rattle.cx_graphs.specs.Owners.{IsLeast}
use Rattle.cx_graphs.proofs.tally.Tally.least_several.Given as goal

-- the least of the nodes so far
abbrev pub invariant-loop-node : goal.invariant-loop-node
invariant-loop-node l = IsLeast l.self.owners.items (take l.node-index l.among) l.least
