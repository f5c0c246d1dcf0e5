use Rattle.std.proofs.Common.{◌≡◌, map, drop}
use Rattle.cx_design.specs.PlainDesigns.{plain_design}
use Rattle.cx_design.specs.PlainForms.{plain_cell}
use Rattle.cx_limits.specs.Rows.{beside, trees_by}
use Rattle.cx_limits.proofs.TreeLemmas.{IsSmall}
use Rattle.cx_limits.proofs.table.cells_trees.Given as goal

-- the trees so far beside those of the cells that are left are all
abbrev pub invariant-loop-cell : goal.invariant-loop-cell
invariant-loop-cell l =
    (beside l.trees (trees_by (plain_design l.design) l.rows (map plain_cell (drop l.cell-index l.cells))) ≡ trees_by (plain_design l.design) l.rows (map plain_cell l.cells)) × IsSmall l.trees
