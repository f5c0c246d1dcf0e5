use Rattle.cx_eval_network.proofs.NodeLemmas.{nodes_later}
use Rattle.cx_eval_network.proofs.node_laws.later_nodes_are_greater.Goals as goal

pub returns : goal.returns
returns c = nodes_later
