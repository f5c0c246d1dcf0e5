use Rattle.cx_vtree.specs.Edges.{edge_at, acting_sets}
use Rattle.cx_vnets.specs.EdgesFlat.{SetStands}
use Rattle.cx_vsim.specs.Tables.{tree_of}
use Rattle.cx_vsim.specs.Passes.{StandBelow}
use Rattle.cx_vsim.proofs.stepping.resets.Given as goal

abbrev pub invariant-loop-i : goal.invariant-loop-i
invariant-loop-i l = StandBelow (λ i. acting_sets 1 (edge_at (tree_of l.table) i)) (SetStands (tree_of l.table) l.table.codes.items) l.i l.sets.items
