use Rattle.cx_net.proofs.PathLemmas.{no_way_back}
use Rattle.cx_net.proofs.laws.no_cell_leads_back.Goals as goal

pub returns : goal.returns
returns c = no_way_back
