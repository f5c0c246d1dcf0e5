use Rattle.cx_eval_network.proofs.AcceptedLemmas.{accepted_network}
use Rattle.cx_eval_network.proofs.network_laws.accepted_designs_are_networks.Goals as goal

pub returns : goal.returns
returns c = λ a nodes active design accepted table numbered is can. accepted_network a nodes active design accepted table numbered is can c.active_is_acyclic.ensures
