use Rattle.cx_meaning.specs.Instances.{just}
use Rattle.cx_share.proofs.MarkLemmas.{adds_none, adds_at, adds_all}
use Rattle.cx_share.proofs.using.add_tested.Goals as goal

pub loop-cell-init : goal.loop-cell-init
loop-cell-init c = adds_none c.args.marks.now

pub loop-cell-preserved : goal.loop-cell-preserved
loop-cell-preserved c =
    let f = just in
    adds_at f c.args.cells.now c.loop-cell.cell-index 0 c.args.marks.now c.loop-cell.marks c.put.new.self c.loop-cell-test.true c.loop-cell.invariant c.put.ensures.value

pub returns : goal.returns
returns c = record { value = adds_all just c.args.cells.now c.loop-cell.cell-index c.args.marks.now c.loop-cell.marks c.loop-cell-test.false c.loop-cell.invariant }
