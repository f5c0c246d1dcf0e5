use Rattle.std.proofs.Common.{None, sym, ◌∙◌}
use Rattle.cx_eval_network.proofs.FoundLemmas.{number_is, node_sum}
use Rattle.cx_eval_network.proofs.instance_ports.InstancePorts.node.Goals as goal

pub returns-in_err-number : goal.returns-in_err-number
returns-in_err-number c = record {
  value = λ d rows n h. c.from_residual.ensures ∙ sym (number_is d rows n c.args.self.now h c.args.port None (λ i g. c.in_err-number.ensures.value i g));
}

pub returns : goal.returns
returns c = record {
  value = λ d rows n h. node_sum d rows n c.args.self.now h c.args.port c.in_ok-number.number c.checked_add.result (λ i g. c.in_ok-number.ensures.value i g) c.checked_add.ensures;
}
