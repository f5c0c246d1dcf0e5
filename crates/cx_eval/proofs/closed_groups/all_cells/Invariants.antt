use Rattle.std.proofs.Common.{List}
use Rattle.cx_meaning.specs.Instances.{Instance}
use Rattle.cx_eval.specs.declared.sources.Operator.{Operator}
use Rattle.cx_eval.specs.Sources.{AreCellsSeen, AreKnownPorts, IsPartGroup}
use Rattle.cx_eval.proofs.closed_groups.all_cells.Given as goal

-- the cells so far
abbrev pub invariant-loop-cell : goal.invariant-loop-cell
invariant-loop-cell l =
    (i : Instance) (operators : List Operator) → IsPartGroup i l.of → AreKnownPorts i l.of.active.now operators l.known → AreCellsSeen i l.of.active.now operators l.cells.items
