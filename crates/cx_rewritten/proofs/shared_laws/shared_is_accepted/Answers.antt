use Rattle.cx_rewritten.proofs.DesignShared.{flat-shared, shared_tree_accepted, names-kept}
use Rattle.cx_rewritten.proofs.shared_laws.shared_is_accepted.Goals as goal

pub returns-clause-accepted : goal.returns-clause-accepted
returns-clause-accepted c = λ tree design accepted. shared_tree_accepted tree design accepted

pub returns-clause-flat : goal.returns-clause-flat
returns-clause-flat c = λ tree none flat. flat-shared tree none flat

pub returns-clause-named : goal.returns-clause-named
returns-clause-named c = λ tree none. names-kept tree none
