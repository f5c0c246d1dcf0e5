use Rattle.cx_eval_cycle.proofs.SteppingLemmas.{all_numbers}
use Rattle.cx_eval_cycle.proofs.stepping.stepping_numbers.Goals as goal

pub returns : goal.returns
returns c = record { value = all_numbers c.args.cells.now c.loop-cell.numbers.items c.loop-cell.cell c.loop-cell-test.false c.loop-cell.invariant }
