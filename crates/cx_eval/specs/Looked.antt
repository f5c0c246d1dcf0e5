-- What the ports of the asked instance are seen as, and what its cells hold.
use Rattle.std.specs.Prelude.{◌≡◌, ℕ, ◌+◌, ◌<◌, Bool, true, List, Option, Some, length, slice_get}
use Rattle.cx_prim.specs.CellStates.{CellState}
use Rattle.cx_prim.specs.declared.ports.PortRow.{PortRow}
use Rattle.cx_prim.specs.Rows.{Inputs, value_at}
use Rattle.cx_prim.specs.Table.{PrimitiveRow, row_of}
use Rattle.cx_meaning.specs.declared.ports.PortRef.TheVariants.{Cell}
use Rattle.cx_meaning.specs.declared.sights.Seen.{Seen}
use Rattle.cx_meaning.specs.Designs.{OfPrimitive, PlainCell, component_at}
use Rattle.cx_meaning.specs.Sights.{Look}
use Rattle.cx_design.specs.PlainDesigns.{plain_design}
use Rattle.cx_state.specs.Tables.{row_at}
use Rattle.cx_state.specs.States.{instance_state, plain_state}
use Rattle.cx_eval_drives.specs.Gathers.{AreWide}
use Rattle.cx_eval_network.specs.Demands.{Ready}
use Rattle.cx_eval_network.specs.declared.marks.NodeMark.{NodeMark}
use Rattle.cx_eval_network.specs.Nodes.{node_count}
use Rattle.cx_eval_network.specs.Networks as networks
use Rattle.cx_eval_network.specs.Networks.{seen_at}
use Rattle.cx_eval_network.specs.declared.asking.Asking.{Asking}
use Rattle.cx_eval_network.specs.Askings.{asked_of}
use Rattle.cx_eval_cycle.specs.Passes.{kind_at}
use Rattle.cx_eval_cycle.specs.Ports.{Stands}

-- the value that stands at a port, told whether it is 0
pub record StandsAs (look : ℕ → Seen) (inputs : Inputs) (port : ℕ) (zero : Bool) : Type 0 where
  pub stands : Stands look inputs port
  pub is_zero : zero ≡ true → value_at inputs port ≡ 0

module _ (a : Asking) where
  -- the values of its nodes, and how many there are
  abbrev pub value_in : ℕ → Seen
  value_in = networks.value_at (asked_of a) a.nodes.now

  abbrev pub count_in : ℕ
  count_in = node_count (plain_design a.design.now) a.table.now.rows.items

  -- the ports of the asked instance as they are seen
  abbrev pub seen_look : Look
  seen_look = seen_at (asked_of a) a.instance

  -- what is seen at the nodes from one on
  abbrev pub seen_from : ℕ → ℕ → Seen
  seen_from first p = value_in (first + p)

  -- there is one for each of some ports, with values as wide as these
  pub record HaveNodes (ports : List PortRow) (first : ℕ) : Type 0 where
    pub within : (p : ℕ) → p < length ports → first + p < count_in
    pub wide : AreWide (seen_from first) ports

  -- and these are the ports of a cell
  pub record StandFrom (cell : ℕ) (ports : List PortRow) (first : ℕ) : Type 0 where
    pub nodes : HaveNodes ports first
    pub seen : (p : ℕ) → p < length ports → seen_from first p ≡ seen_look (Cell cell p)

  -- its cells, and what they hold
  abbrev pub own_cells : List PlainCell
  own_cells = (component_at (plain_design a.design.now) (row_at a.table.now.rows.items a.instance).component).cells

  abbrev pub own_held : List (Option CellState)
  own_held = (instance_state (plain_state a.state.now) a.instance).cells

  -- for each of its cells there is a node, from which on the ports of its primitive stand
  pub record StandFirst (firsts : List ℕ) : Type 0 where
    pub count : length firsts ≡ length own_cells
    pub each : (c first : ℕ) (p : PrimitiveRow) → slice_get firsts c ≡ Some first
        → kind_at own_cells c ≡ Some (OfPrimitive p) → StandFrom c (row_of p).ports first

  -- marks that ports can be demanded with: one for each node, all that is known is right, and none waits
  pub record CanDemand (marks : List NodeMark) : Type 0 where
    pub count : length marks ≡ count_in
    pub ready : Ready value_in marks
