use Rattle.std.proofs.Common.{length}
use Rattle.cx_state.proofs.FillLemmas.{place_room}
use Rattle.cx_state.proofs.tables.add_cells.Goals as goal

pub place-requires : goal.place-requires
place-requires c = record {
  within = λ k e. place_room c.args.tallies.now c.args.cells.now c.loop-cell.cell c.loop-cell.next (length c.loop-cell.rows) k c.index-cells-cell.result c.loop-cell-test.true c.requires.some c.loop-cell.invariant.room e;
}
