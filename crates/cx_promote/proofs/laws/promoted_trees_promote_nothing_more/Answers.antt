use Rattle.cx_promote.proofs.OncePromoted.{nothing_more, stays_then}
use Rattle.cx_promote.proofs.laws.promoted_trees_promote_nothing_more.Goals as goal

pub returns-clause-rows : goal.returns-clause-rows
returns-clause-rows c = λ tree new newer rows more first second. nothing_more tree new newer rows more first second

pub returns-clause-stays : goal.returns-clause-stays
returns-clause-stays c = λ tree new newer rows more first second. stays_then tree new newer rows more first second
