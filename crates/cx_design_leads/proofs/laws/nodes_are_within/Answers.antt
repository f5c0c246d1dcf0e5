use Rattle.cx_design_leads.proofs.NodeLemmas.{within}
use Rattle.cx_design_leads.proofs.laws.nodes_are_within.Goals as goal

pub returns : goal.returns
returns c = within
