use Rattle.cx_flattening.proofs.FlatAccepted.{is_accepted, is_accepted_flat}
use Rattle.cx_flattening.proofs.laws.flat_designs_are_accepted.Goals as goal

pub returns-clause-flat : goal.returns-clause-flat
returns-clause-flat c d design accepted undone = is_accepted_flat d design accepted undone

pub returns-clause-whole : goal.returns-clause-whole
returns-clause-whole c d design accepted undone = is_accepted d design accepted undone
