use Rattle.std.proofs.Common.{map, sym, ◌∙◌, arith}
use Rattle.cx_design.specs.PlainForms.{plain_cell}
use Rattle.cx_design_sizes.proofs.StepLemmas.{placed_more, cell_at}
use Rattle.cx_design_sizes.proofs.order.next_unplaced.Goals as goal

pub returns-in-Some-clause-some : goal.returns-in-Some-clause-some
returns-in-Some-clause-some c = record {
  later = omega arith;
  cell = plain_cell c.index-cells-number.result;
  stands = cell_at c.args.cells.now c.loop-number.number c.index-cells-number.result c.loop-number-test.true c.index-cells-number.is;
  waits = sym c.unplaced.ensures ∙ c.in-Some.is;
  before = c.loop-number.invariant;
}

pub loop-number-preserved : goal.loop-number-preserved
loop-number-preserved c =
    placed_more c.args.placed.now (map plain_cell c.args.cells.now) c.args.from c.loop-number.number (plain_cell c.index-cells-number.result)
    (cell_at c.args.cells.now c.loop-number.number c.index-cells-number.result c.loop-number-test.true c.index-cells-number.is)
    (sym c.unplaced.ensures ∙ c.in_default.is) c.loop-number.invariant
