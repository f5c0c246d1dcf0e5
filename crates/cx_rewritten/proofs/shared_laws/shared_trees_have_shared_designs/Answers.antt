use Rattle.cx_rewritten.proofs.DesignShared.{design-shared, kept-shared, rows-alike}
use Rattle.cx_rewritten.proofs.shared_laws.shared_trees_have_shared_designs.Goals as goal

pub returns-clause-same : goal.returns-clause-same
returns-clause-same c = λ tree none. design-shared tree none

pub returns-clause-kept : goal.returns-clause-kept
returns-clause-kept c = λ tree targets none few. kept-shared tree targets none few

pub returns-clause-rows : goal.returns-clause-rows
returns-clause-rows c = λ tree design accepted. rows-alike tree design accepted
