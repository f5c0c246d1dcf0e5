-- The instances of a net without holes, and the wires that stand for its holes.
use Rattle.std.specs.Prelude.{◌≡◌, ℕ, zero, suc, ◌+◌, ◌<◌, [], ◌∷◌, length, Option}
use Rattle.cx_bits.specs.BitVector.{BitVector}
use Rattle.cx_meaning.specs.declared.ports.PortRef.{PortRef}
use Rattle.cx_meaning.specs.Instances.{Path}
use Rattle.cx_net.specs.Nets.{PlainNetComponent}
use Rattle.cx_net.specs.NetTree.{NetInstance, NetNode, NetCells, no_net_cells, a_row, a_child}
use Rattle.cx_net.specs.NetMeaning.{Node, APort, AWire, AHole, TheDone, NetLook}
use Rattle.cx_holes.specs.Inlining.{inlined_component}
use Rattle.cx_holes.specs.Names.{ComponentNames}

-- each instance without holes
abbrev mutual
  pub inlined_tree : NetInstance → NetInstance
  inlined_tree (NetNode part cells) = NetNode (inlined_component part) (inlined_cells cells)

  pub inlined_cells : NetCells → NetCells
  inlined_cells no_net_cells = no_net_cells
  inlined_cells (a_row row rest) = a_row row (inlined_cells rest)
  inlined_cells (a_child child rest) = a_child (inlined_tree child) (inlined_cells rest)

-- the components of all instances name what is there
abbrev mutual
  pub TreeNames : NetInstance → Type 0
  TreeNames (NetNode part cells) = ComponentNames part × CellsName cells

  pub CellsName : NetCells → Type 0
  CellsName no_net_cells = Unit {0}
  CellsName (a_row row rest) = CellsName rest
  CellsName (a_child child rest) = TreeNames child × CellsName rest

-- the node that stands for a node of a component of so many wires
abbrev pub renamed : ℕ → Node → Node
renamed wires (APort p) = APort p
renamed wires (AWire n) = AWire n
renamed wires (AHole n) = AWire (wires + n)
renamed wires TheDone = TheDone

-- wires and holes that are there; of other nodes nothing is asked
abbrev pub IsInside : PlainNetComponent → Node → Type 0
IsInside part (APort p) = Unit {0}
IsInside part (AWire n) = n < length part.wires
IsInside part (AHole n) = n < part.holes
IsInside part TheDone = Unit {0}

-- what is known of a component's nodes is known of those that stand for them
pub record Alike (part : PlainNetComponent) (look new : Node → Option BitVector) : Type 0 where
  pub ports : (p : PortRef) → new (APort p) ≡ look (APort p)
  pub wires : (n : ℕ) → n < length part.wires → new (AWire n) ≡ look (AWire n)
  pub holes : (n : ℕ) → n < part.holes → new (AWire (length part.wires + n)) ≡ look (AHole n)
  pub done : new TheDone ≡ look TheDone

-- the same of each instance; of cells by their numbers
abbrev mutual
  pub renamed_at : NetInstance → Path → Node → Node
  renamed_at (NetNode part cells) [] node = renamed (length part.wires) node
  renamed_at (NetNode part cells) (c ∷ path) node = renamed_below cells c path node

  pub renamed_below : NetCells → ℕ → Path → Node → Node
  renamed_below no_net_cells c path node = node
  renamed_below (a_row row rest) zero path node = node
  renamed_below (a_row row rest) (suc c) path node = renamed_below rest c path node
  renamed_below (a_child child rest) zero path node = renamed_at child path node
  renamed_below (a_child child rest) (suc c) path node = renamed_below rest c path node

abbrev mutual
  pub InsideAt : NetInstance → Path → Node → Type 0
  InsideAt (NetNode part cells) [] node = IsInside part node
  InsideAt (NetNode part cells) (c ∷ path) node = InsideBelow cells c path node

  pub InsideBelow : NetCells → ℕ → Path → Node → Type 0
  InsideBelow no_net_cells c path node = Unit {0}
  InsideBelow (a_row row rest) zero path node = Unit {0}
  InsideBelow (a_row row rest) (suc c) path node = InsideBelow rest c path node
  InsideBelow (a_child child rest) zero path node = InsideAt child path node
  InsideBelow (a_child child rest) (suc c) path node = InsideBelow rest c path node

abbrev mutual
  pub AlikeAt : NetInstance → NetLook → NetLook → Type 0
  AlikeAt (NetNode part cells) look new =
      Alike part (look []) (new []) × AlikeBelow cells (λ c q. look (c ∷ q)) (λ c q. new (c ∷ q))

  pub AlikeBelow : NetCells → (ℕ → NetLook) → (ℕ → NetLook) → Type 0
  AlikeBelow no_net_cells look new = Unit {0}
  AlikeBelow (a_row row rest) look new = AlikeBelow rest (λ c. look (suc c)) (λ c. new (suc c))
  AlikeBelow (a_child child rest) look new =
      AlikeAt child (look 0) (new 0) × AlikeBelow rest (λ c. look (suc c)) (λ c. new (suc c))
