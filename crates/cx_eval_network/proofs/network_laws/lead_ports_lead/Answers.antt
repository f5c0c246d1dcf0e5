use Rattle.cx_eval_network.proofs.LeadLemmas.{lead_ports_are}
use Rattle.cx_eval_network.proofs.network_laws.lead_ports_lead.Goals as goal

pub returns : goal.returns
returns c = lead_ports_are
