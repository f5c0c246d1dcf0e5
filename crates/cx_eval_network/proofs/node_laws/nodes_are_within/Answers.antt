use Rattle.cx_eval_network.proofs.NodeLemmas.{nodes_within}
use Rattle.cx_eval_network.proofs.node_laws.nodes_are_within.Goals as goal

pub returns : goal.returns
returns c = nodes_within
