use Rattle.cx_eval_network.proofs.NetworkLemmas.{stays_within}
use Rattle.cx_eval_network.proofs.network_laws.networks_stay_within.Goals as goal

pub returns : goal.returns
returns c = stays_within
