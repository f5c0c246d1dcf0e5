use Rattle.cx_velab.proofs.CoveredLemmas.{driven_stand}
use Rattle.cx_velab.proofs.laws.driven_nets_stand.Goals as goal

pub returns : goal.returns
returns c = driven_stand
