use Rattle.cx_vsim.specs.Tables.{tree_of}
use Rattle.cx_vsim.specs.Passes.{DrivenBelow}
use Rattle.cx_vsim.proofs.driving.drivers.Given as goal

abbrev pub invariant-loop-i : goal.invariant-loop-i
invariant-loop-i l = DrivenBelow (tree_of l.table) l.table.codes.items l.i l.drivers.items
