use Rattle.cx_state.specs.States.{words_in}
use Rattle.cx_state.proofs.StartLemmas.{so_far_next}
use Rattle.cx_state.proofs.starts.start_cells.Goals as goal

pub loop-cell-preserved : goal.loop-cell-preserved
loop-cell-preserved c =
    so_far_next c.args.cells.now (words_in c.args.memories.now) c.loop-cell.cell-index c.loop-cell.next c.past-next.result c.loop-cell.held.items c.push.new.self.items c.cell-item.result c.in_ok-start_cell.field-0
    c.loop-cell.invariant c.loop-cell-test.true c.cell-item.is c.in_ok-start_cell.ensures.value c.in_ok-start_cell.ensures.fits c.in_ok-push.ensures.items c.past-next.ensures
