use Rattle.cx_promote.proofs.DesignPromoted.{promoted_design}
use Rattle.cx_promote.proofs.laws.promoted_trees_have_promoted_designs.Goals as goal

pub returns : goal.returns
returns c = record { made = λ tree new rows is. promoted_design tree new rows is }
