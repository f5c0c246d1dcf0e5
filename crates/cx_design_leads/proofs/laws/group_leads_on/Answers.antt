use Rattle.cx_design_leads.proofs.DriverLemmas.{leads_by_group, by_group_leads}
use Rattle.cx_design_leads.proofs.laws.group_leads_on.Goals as goal

pub returns : goal.returns
returns c = λ i g p q m e. (leads_by_group i g p q m e, by_group_leads i g p q m e)
