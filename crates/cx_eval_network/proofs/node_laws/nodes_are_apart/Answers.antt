use Rattle.cx_eval_network.proofs.NodeLemmas.{nodes_apart}
use Rattle.cx_eval_network.proofs.node_laws.nodes_are_apart.Goals as goal

pub returns : goal.returns
returns c = nodes_apart
