use Rattle.cx_flattening.proofs.AcceptedTrees.{good}
use Rattle.cx_flattening.proofs.laws.accepted_trees_are_fair.Goals as goal

pub returns-clause-fair : goal.returns-clause-fair
returns-clause-fair c d design accepted undone = (good d design accepted undone).fair

pub returns-clause-controlled : goal.returns-clause-controlled
returns-clause-controlled c d design accepted undone = (good d design accepted undone).controlled
