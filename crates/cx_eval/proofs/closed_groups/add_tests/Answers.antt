use Rattle.cx_eval.proofs.SourceLemmas.{grown_again, known_grown}
use Rattle.cx_eval.proofs.closed_groups.add_tests.Goals as goal

pub loop-cell-preserved : goal.loop-cell-preserved
loop-cell-preserved c = record {
  grown = grown_again c.args.operators.now.items c.loop-cell.operators.items _ c.loop-cell.invariant.grown c.in_ok-add_outputs.ensures.grown;
  operators = λ i h known before.
      c.in_ok-add_outputs.ensures.operators i h (known_grown i c.args.of.now.active.now c.args.operators.now.items c.loop-cell.operators.items c.loop-cell.invariant.grown c.args.known.now known) (c.loop-cell.invariant.operators i h known before);
}
