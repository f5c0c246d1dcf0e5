use Rattle.cx_promote.proofs.AcceptedPromoted.{promoted_tree_accepted, promoted_tree_flat}
use Rattle.cx_promote.proofs.NamesPromoted.{names_made}
use Rattle.cx_promote.proofs.TargetsPromoted.{made_tree_has_targets}
use Rattle.cx_promote.proofs.laws.promoted_is_accepted.Goals as goal

pub returns-clause-accepted : goal.returns-clause-accepted
returns-clause-accepted c = λ tree new rows design accepted is. promoted_tree_accepted tree new rows design accepted is

pub returns-clause-flat : goal.returns-clause-flat
returns-clause-flat c = λ tree new rows flat is. promoted_tree_flat tree new rows flat is

pub returns-clause-named : goal.returns-clause-named
returns-clause-named c = λ tree none. names_made tree none

pub returns-clause-targets : goal.returns-clause-targets
returns-clause-targets c = λ tree targets. made_tree_has_targets tree targets
