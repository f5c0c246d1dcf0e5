use Rattle.cx_eval_network.proofs.ValueLemmas.{node_value}
use Rattle.cx_eval_network.proofs.network_laws.known_nodes_decide.Goals as goal

pub returns : goal.returns
returns c = λ a nodes h marks node found e known. node_value a nodes h marks node found e known
