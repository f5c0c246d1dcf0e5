use Rattle.std.proofs.Common.{take}
use Rattle.cx_graphs.specs.GroundSearch.{AllMarked}
use Rattle.cx_graphs.proofs.grounding.first_unmarked.Given as goal

-- the edges so far lead to marked nodes
abbrev pub invariant-loop-edge : goal.invariant-loop-edge
invariant-loop-edge l = AllMarked l.marks (take l.from l.edges) → AllMarked l.marks (take l.edge l.edges)
