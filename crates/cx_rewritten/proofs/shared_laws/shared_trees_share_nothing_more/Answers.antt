use Rattle.cx_rewritten.proofs.DesignShared.{nothing_more}
use Rattle.cx_rewritten.proofs.shared_laws.shared_trees_share_nothing_more.Goals as goal

pub returns : goal.returns
returns c = λ tree named. nothing_more tree named
