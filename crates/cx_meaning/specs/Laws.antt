-- What laws of the meaning speak of.
use Rattle.cx_prim.specs.Rows.{Row}
use Rattle.cx_meaning.specs.Instances.{Instance, Node, Cells, no_cells, a_primitive, an_instance}

-- every primitive cell of a tree has a row with this property
abbrev mutual
  pub AllRows : (Row → Type 0) → Instance → Type 0
  AllRows P (Node part cells) = AllRowsBelow P cells

  pub AllRowsBelow : (Row → Type 0) → Cells → Type 0
  AllRowsBelow P no_cells = Unit {0}
  AllRowsBelow P (a_primitive row rest) = P row × AllRowsBelow P rest
  AllRowsBelow P (an_instance child rest) = AllRows P child × AllRowsBelow P rest
