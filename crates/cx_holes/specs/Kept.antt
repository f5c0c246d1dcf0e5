-- What a net without holes keeps of the net that it was made of.
use Rattle.std.specs.Prelude.{◌≡◌, ◌↔◌, ℕ, List}
use Rattle.cx_meaning.specs.Designs.{PlainDesign}
use Rattle.cx_vtree.specs.SimRun.{Outcome}
use Rattle.cx_net.specs.Nets.{PlainNet}
use Rattle.cx_net.specs.NetTree.{net_component_at, net_tree}
use Rattle.cx_net.specs.NetFits.{IsFit, HasNoHoles}
use Rattle.cx_net.specs.NetRuns.{NetRun, AreWords, IsGrounded}

-- A NET DOES WITHOUT HOLES what another does: it comes to what that one comes to, for all words and budgets; all of it has a value
-- where all of that one has; it fits, has no hole, and its components have the same cells
pub record DoesWithoutHoles (net holeless : PlainNet) : Type 0 where
  pub runs : (loaded : List (List ℕ)) (last : ℕ) (o : Outcome)
      → NetRun (net_tree net) loaded last o ↔ NetRun (net_tree holeless) loaded last o
  pub grounded : (d : PlainDesign) → IsGrounded (AreWords d) (net_tree net)
      → IsGrounded (AreWords d) (net_tree holeless)
  pub fits : IsFit holeless
  pub no_holes : HasNoHoles holeless
  pub cells : (k : ℕ) → (net_component_at holeless k).cells ≡ (net_component_at net k).cells
