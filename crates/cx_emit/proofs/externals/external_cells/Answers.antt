use Rattle.cx_design.specs.PlainForms.{plain_cell}
use Rattle.cx_text.proofs.ListLaws.{item_at}
use Rattle.cx_emit.proofs.externals.external_cells.Goals as goal

pub external-requires : goal.external-requires
external-requires c =
    let n = c.loop-number.number in
    let cell = c.index-cells-number.result in
    record { words = c.requires.words n (plain_cell cell) (item_at plain_cell c.args.cells.now n cell c.loop-number-test.true c.index-cells-number.is) c.if-cell.true }
