use Rattle.cx_design_leads.proofs.NodeLemmas.{has_node}
use Rattle.cx_design_leads.proofs.laws.ports_have_nodes.Goals as goal

pub returns : goal.returns
returns c = has_node
