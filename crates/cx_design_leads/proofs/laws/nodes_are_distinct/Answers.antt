use Rattle.cx_design_leads.proofs.NodeLemmas.{distinct}
use Rattle.cx_design_leads.proofs.laws.nodes_are_distinct.Goals as goal

pub returns : goal.returns
returns c = distinct
