use Rattle.std.proofs.Common.{length}
use Rattle.cx_graphs.specs.Graphs.{edges_of}
use Rattle.cx_graphs.specs.Spreads.{IsBegun}
use Rattle.cx_graphs.proofs.tally.Tally.tally.Given as goal

-- the lists so far are tallied
abbrev pub invariant-loop-number : goal.invariant-loop-number
invariant-loop-number l = IsBegun (length l.initial.self.owners.items) (edges_of l.lists) l.number l.self.owners.items l.self.touched.items
