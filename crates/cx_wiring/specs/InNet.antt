-- That a net does what a design means.
use Rattle.cx_meaning.specs.Designs.{PlainDesign}
use Rattle.cx_net.specs.Realises.{RealisesBy}
use Rattle.cx_net.specs.NetTree.{NetInstance}
use Rattle.cx_net.specs.NetRuns.{NetRun, AreWords, IsGrounded}

-- all of it has a value in each state that it comes to, and its runs from reset are those of the design
pub record RealisesInNet (d : PlainDesign) (tree : NetInstance) : Type 0 where
  pub grounded : IsGrounded (AreWords d) tree
  pub runs : RealisesBy d (NetRun tree)
