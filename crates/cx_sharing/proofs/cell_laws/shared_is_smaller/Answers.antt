use Rattle.cx_sharing.proofs.SharedMain.{fewer_cells}
use Rattle.cx_sharing.proofs.cell_laws.shared_is_smaller.Goals as goal

pub returns : goal.returns
returns c = λ d k. fewer_cells d k
