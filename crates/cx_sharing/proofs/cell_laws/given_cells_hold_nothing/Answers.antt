use Rattle.cx_sharing.proofs.TwinLemmas.{given_combines}
use Rattle.cx_sharing.proofs.cell_laws.given_cells_hold_nothing.Goals as goal

pub returns : goal.returns
returns c = λ part cell given. given_combines part cell given
