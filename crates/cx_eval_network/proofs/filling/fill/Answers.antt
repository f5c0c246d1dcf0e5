use Rattle.std.proofs.Common.{refl, ◌∙◌}
use Rattle.cx_eval_network.proofs.FoundLemmas.{get_some}
use Rattle.cx_eval_network.proofs.filling.fill.Goals as goal

pub loop-port-init : goal.loop-port-init
loop-port-init c = record { ready = c.requires.ready; kept = λ n x h. h; count = refl }

pub fill_port-requires-clause-port : goal.fill_port-requires-clause-port
fill_port-requires-clause-port c = c.requires.list.each c.loop-port.port-index c.port-item.result (get_some c.args.list.ports.now c.loop-port.port-index c.port-item.result c.loop-port-test.true c.port-item.is)

pub loop-port-preserved : goal.loop-port-preserved
loop-port-preserved c = record {
  ready = c.fill_port.ensures.ready;
  kept = λ n x h. c.fill_port.ensures.kept n x (c.loop-port.invariant.kept n x h);
  count = c.fill_port.ensures.count ∙ c.loop-port.invariant.count;
}
