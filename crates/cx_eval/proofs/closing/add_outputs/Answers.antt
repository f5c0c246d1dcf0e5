use Rattle.cx_eval.proofs.SourceLemmas.{grown_again, known_grown}
use Rattle.cx_eval.proofs.closing.add_outputs.Goals as goal

pub loop-port-preserved : goal.loop-port-preserved
loop-port-preserved c = record {
  grown = grown_again c.args.operators.now.items c.loop-port.operators.items _ c.loop-port.invariant.grown c.in_ok-add_output.ensures.grown;
  operators = λ i h known before.
      c.in_ok-add_output.ensures.operators i h (known_grown i c.args.of.now.active.now c.args.operators.now.items c.loop-port.operators.items c.loop-port.invariant.grown c.args.known.now known) (c.loop-port.invariant.operators i h known before);
}
