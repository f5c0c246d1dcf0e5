use Rattle.cx_vtree.specs.Edges.{edge_at, acting_sets, acting_stores}
use Rattle.cx_vnets.specs.EdgesFlat.{SetStands, StoreStands}
use Rattle.cx_vsim.specs.Tables.{tree_of}
use Rattle.cx_vsim.specs.Passes.{StandBelow}
use Rattle.cx_vsim.proofs.stepping.all_steps.Given as goal

abbrev pub invariant-loop-i : goal.invariant-loop-i
invariant-loop-i l = record {
  sets : StandBelow (λ i. acting_sets 0 (edge_at (tree_of l.table) i)) (SetStands (tree_of l.table) l.table.codes.items) l.i l.sets.items;
  stores : StandBelow (λ i. acting_stores 0 (edge_at (tree_of l.table) i)) (StoreStands (tree_of l.table) l.table.codes.items) l.i l.stores.items;
}
