use Rattle.cx_rewritten.proofs.SameTrees.{same_design}
use Rattle.cx_rewritten.proofs.written_laws.same_trees_have_same_designs.Goals as goal

pub returns : goal.returns
returns c = same_design
