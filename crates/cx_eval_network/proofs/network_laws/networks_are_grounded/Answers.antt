use Rattle.cx_eval_network.proofs.NetworkLemmas.{network_grounded}
use Rattle.cx_eval_network.proofs.network_laws.networks_are_grounded.Goals as goal

pub returns : goal.returns
returns c = network_grounded
