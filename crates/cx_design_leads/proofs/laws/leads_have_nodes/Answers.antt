use Rattle.cx_design_leads.proofs.ThereLemmas.{leads_there}
use Rattle.cx_design_leads.proofs.laws.leads_have_nodes.Goals as goal

pub returns : goal.returns
returns c = leads_there
