use Rattle.std.proofs.Common.{map, ap, ◌∙◌, arith}
use Rattle.std.proofs.Math.ListN.{drop_of_length-le}
use Rattle.cx_design.specs.PlainForms.{plain_cell}
use Rattle.cx_design_sizes.specs.Tallies.{beside}
use Rattle.cx_design_sizes.proofs.StepLemmas.{small_none, small_beside, cells_begin, cells_step, cells_end}
use Rattle.cx_design_sizes.proofs.tallies.cells_tally.Goals as goal

pub loop-cell-init : goal.loop-cell-init
loop-cell-init c = (cells_begin c.args.tallies.now (map plain_cell c.args.cells.now), small_none)

pub loop-cell-preserved : goal.loop-cell-preserved
loop-cell-preserved c = (
  cells_step c.args.tallies.now c.loop-cell.tally c.beside-tally.result c.args.cells.now c.loop-cell.cell-index c.cell-item.result c.loop-cell-test.true c.cell-item.is
      (c.beside-tally.ensures ∙ ap (beside c.loop-cell.tally) c.cell_tally.ensures) ∙ c.loop-cell.invariant.0,
  small_beside c.loop-cell.tally c.cell_tally.result c.beside-tally.result c.beside-tally.ensures,
)

pub returns : goal.returns
returns c =
    cells_end c.args.tallies.now c.loop-cell.tally c.args.cells.now c.loop-cell.cell-index _ (drop_of_length-le c.args.cells.now (omega arith)) c.loop-cell.invariant.1 c.loop-cell.invariant.0
