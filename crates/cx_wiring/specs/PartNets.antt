-- The net of a component alone, and the rows of its timers: what the tree of a design's net is made of, by structure of the
-- design's tree. Components that are equal have equal nets, so that a component gives its net, and no number is asked for.
use Rattle.std.specs.Prelude.{ℕ, List, [], ◌∷◌, length, drop, flat_map}
use Rattle.cx_prim.specs.Rows.{Row}
use Rattle.cx_prim.specs.Table.{row_of}
use Rattle.cx_meaning.specs.Designs.{PlainKind, OfPrimitive, OfComponent, PlainCell, PlainComponent, PlainDesign}
use Rattle.cx_meaning.specs.Instances as instances
use Rattle.cx_meaning.specs.Instances.{Instance, Cells, no_cells, a_primitive, an_instance}
use Rattle.cx_net.specs.Nets.{PlainNetComponent}
use Rattle.cx_net.specs.NetTree.{NetInstance, NetNode, NetCells, no_net_cells, a_row, a_child}
use Rattle.cx_net.specs.NetMeaning.{NetState}
use Rattle.cx_static.specs.Lowering.{lowered_component, lowered_of}
use Rattle.cx_wiring.specs.Wiring.{net_component}

abbrev pub row_of_kind : PlainKind → List Row
row_of_kind (OfPrimitive primitive) = row_of primitive ∷ []
row_of_kind (OfComponent k) = []

-- the rows of the cells that are primitives
abbrev pub rows_among : List PlainCell → List Row
rows_among cells = flat_map (λ cell. row_of_kind cell.kind) cells

-- the cells that lowering puts behind those of a component
abbrev pub timer_cells : PlainComponent → List PlainCell
timer_cells part = drop (length part.cells) (lowered_component part).part.cells

abbrev pub timers_of : PlainComponent → List Row
timers_of part = rows_among (timer_cells part)

-- the net of a component of a design
abbrev pub wired_in : PlainDesign → PlainComponent → PlainNetComponent
wired_in d part = net_component (lowered_of d) (lowered_component part)

-- THE NET'S TREE by structure of the design's: the net of each component, its cells and behind them its timers
module _ (wired : PlainComponent → PlainNetComponent) (timers : PlainComponent → List Row)
    (numbers : Instance → NetState → ℕ → ℕ) where
  abbrev pub rows_alone : List Row → NetCells
  rows_alone [] = no_net_cells
  rows_alone (row ∷ rest) = a_row row (rows_alone rest)

  abbrev mutual
    pub net_of_instance : Instance → NetInstance
    net_of_instance (instances.Node part cells) = NetNode (wired part) (net_of_cells cells (timers part))

    pub net_of_cells : Cells → List Row → NetCells
    net_of_cells no_cells more = rows_alone more
    net_of_cells (a_primitive row rest) more = a_row row (net_of_cells rest more)
    net_of_cells (an_instance child rest) more = a_child (net_of_instance child) (net_of_cells rest more)
