-- The tree of a component stands on the trees of its cells' components: no chain of components is longer than there are components.
use Rattle.std.proofs.Common.{◌≡◌, ℕ, suc, ◌<◌, [], length, arith}
use Rattle.cx_meaning.specs.Designs.{PlainDesign, component_at}
use Rattle.cx_meaning.specs.Instances.{Node, cells_for}
use Rattle.cx_rules.specs.Ports.{component_of}
use Rattle.cx_rules.specs.Wellformed.{IsDesign}
use Rattle.cx_flattening.proofs.TreeLevels.{no_way, levels}

module _ (d : PlainDesign) (rules : IsDesign d) where
  -- THE TREE OF A COMPONENT has at each of its component cells the tree of the cell's component
  pub component_of-is : (k : ℕ) → k < length d.components → component_of d k ≡ Node (component_at d k) (cells_for (component_of d) (component_at d k).cells)
  component_of-is k there = levels d rules (length d.components) (suc (length d.components)) [] k (no_way d rules k there) (omega arith) (omega arith)
