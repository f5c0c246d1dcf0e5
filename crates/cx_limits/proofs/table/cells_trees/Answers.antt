use Rattle.std.proofs.Common.{map, ap, ◌∙◌, arith}
use Rattle.std.proofs.Math.ListN.{drop_of_length-le}
use Rattle.cx_design.specs.PlainDesigns.{plain_design}
use Rattle.cx_design.specs.PlainForms.{plain_cell}
use Rattle.cx_limits.specs.Rows.{beside}
use Rattle.cx_limits.proofs.TreeLemmas.{small_none, small_beside, trees_begin, trees_step, trees_end}
use Rattle.cx_limits.proofs.table.cells_trees.Goals as goal

pub loop-cell-init : goal.loop-cell-init
loop-cell-init c = (trees_begin (plain_design c.args.design.now) c.args.rows.now (map plain_cell c.args.cells.now), small_none)

pub loop-cell-preserved : goal.loop-cell-preserved
loop-cell-preserved c = (
  trees_step (plain_design c.args.design.now) c.args.rows.now c.loop-cell.trees c.beside-trees.result c.args.cells.now c.loop-cell.cell-index c.cell-item.result c.loop-cell-test.true c.cell-item.is
      (c.beside-trees.ensures ∙ ap (beside c.loop-cell.trees) c.cell_trees.ensures) ∙ c.loop-cell.invariant.0,
  small_beside c.loop-cell.trees c.cell_trees.result c.beside-trees.result c.beside-trees.ensures,
)

pub returns : goal.returns
returns c =
    trees_end (plain_design c.args.design.now) c.args.rows.now c.loop-cell.trees c.args.cells.now c.loop-cell.cell-index (drop_of_length-le c.args.cells.now (omega arith)) c.loop-cell.invariant.1 c.loop-cell.invariant.0
