-- The instances of a net: a tree, as that of a design.
use Rattle.std.specs.Prelude.{ℕ, zero, suc, List, [], ◌∷◌, length, get_or}
use Rattle.cx_prim.specs.Rows.{Row}
use Rattle.cx_prim.specs.Table.{row_of}
use Rattle.cx_meaning.specs.Designs.{PlainKind, OfPrimitive, OfComponent, PlainCell}
use Rattle.cx_net.specs.Nets.{PlainNetComponent, PlainNet}

-- an instance: its component, and what stands at each of its cells, in order
mutual
  pub data NetInstance : Type 0 where
    NetNode : (part : PlainNetComponent) (cells : NetCells) → NetInstance

  pub data NetCells : Type 0 where
    no_net_cells : NetCells
    a_row : (row : Row) (rest : NetCells) → NetCells
    a_child : (child : NetInstance) (rest : NetCells) → NetCells

pub data NetAt : Type 0 where
  NoCell : NetAt
  ARow : (row : Row) → NetAt
  AChild : (child : NetInstance) → NetAt

abbrev pub net_part : NetInstance → PlainNetComponent
net_part (NetNode part cells) = part

abbrev pub net_cells : NetInstance → NetCells
net_cells (NetNode part cells) = cells

abbrev pub net_cell_at : NetCells → ℕ → NetAt
net_cell_at no_net_cells c = NoCell
net_cell_at (a_row row rest) zero = ARow row
net_cell_at (a_row row rest) (suc c) = net_cell_at rest c
net_cell_at (a_child child rest) zero = AChild child
net_cell_at (a_child child rest) (suc c) = net_cell_at rest c

abbrev pub no_net_component : PlainNetComponent
no_net_component =
    record {
      name = [];
      inputs = [];
      outputs = [];
      cells = [];
      registers = [];
      wires = [];
      holes = 0;
      drivers = [];
    }

abbrev pub net_component_at : PlainNet → ℕ → PlainNetComponent
net_component_at n k = get_or n.components k no_net_component

abbrev pub add_net_cell : (ℕ → NetInstance) → PlainKind → NetCells → NetCells
add_net_cell child (OfPrimitive primitive) rest = a_row (row_of primitive) rest
add_net_cell child (OfComponent k) rest = a_child (child k) rest

abbrev pub net_cells_for : (ℕ → NetInstance) → List PlainCell → NetCells
net_cells_for child [] = no_net_cells
net_cells_for child (c ∷ cs) = add_net_cell child c.kind (net_cells_for child cs)

abbrev pub net_within : PlainNet → ℕ → ℕ → NetInstance
net_within n zero k = NetNode (net_component_at n k) no_net_cells
net_within n (suc levels) k =
    NetNode (net_component_at n k) (net_cells_for (net_within n levels) (net_component_at n k).cells)

abbrev pub net_tree : PlainNet → NetInstance
net_tree n = net_within n (length n.components) n.main
