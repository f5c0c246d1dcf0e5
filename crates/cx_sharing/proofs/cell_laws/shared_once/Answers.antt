use Rattle.cx_sharing.proofs.SharedOnce.{once_keeps, once_told}
use Rattle.cx_sharing.proofs.cell_laws.shared_once.Goals as goal

pub returns-clause-keepers : goal.returns-clause-keepers
returns-clause-keepers c = λ d k cell. once_keeps d k cell

pub returns-clause-rows : goal.returns-clause-rows
returns-clause-rows c = λ d. once_told d
