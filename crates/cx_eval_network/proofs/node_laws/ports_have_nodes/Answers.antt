use Rattle.cx_eval_network.proofs.NodeLemmas.{ports_have}
use Rattle.cx_eval_network.proofs.node_laws.ports_have_nodes.Goals as goal

pub returns : goal.returns
returns c = ports_have
