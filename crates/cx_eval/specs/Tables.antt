-- What an evaluator keeps of its design, and what it asks of it.
use Rattle.std.specs.Prelude.{◌≡◌, ℕ, List, [], Option, Some, None, length, map, slice_get}
use Rattle.std.specs.declared.vec.Vec.{Vec}
use Rattle.cx_meaning.specs.declared.sights.Seen.{Seen}
use Rattle.cx_meaning.specs.Designs.{PlainDesign, PlainCell, component_at}
use Rattle.cx_rules.specs.Accepted.{IsAccepted}
use Rattle.cx_rules.specs.Wellformed.{IsDesign}
use Rattle.cx_rules.specs.Flat.{IsFlat}
use Rattle.cx_design.specs.declared.actives.Active.{Active}
use Rattle.cx_design.specs.declared.actives.Active.TheVariants as actives
use Rattle.cx_design.specs.PlainDesigns.{plain_design}
use Rattle.cx_state.specs.Tables.{IsTable, row_at}
use Rattle.cx_state.specs.States.{PlainInstance}
use Rattle.cx_eval_network.specs.Demands.{Ready}
use Rattle.cx_eval_network.specs.declared.marks.NodeMark.{NodeMark}
use Rattle.cx_eval_network.specs.Nodes.{IsNodesOf, node_count}
use Rattle.cx_eval_network.specs.Networks.{Asked, value_at}
use Rattle.cx_eval_network.specs.Asked.{asked}
use Rattle.cx_eval_cycle.specs.declared.rooms.CellRoom.{CellRoom}
use Rattle.cx_eval_cycle.specs.declared.stepping.SteppingCell.{SteppingCell}
use Rattle.cx_eval_cycle.specs.declared.stepping.SteppingCells.{SteppingCells}
use Rattle.cx_eval_cycle.specs.Rooms.{HaveRooms}
use Rattle.cx_eval_cycle.specs.Stepping.{AreSteppingCells}
use Rattle.cx_eval.specs.Firsts.{HaveFirsts}
use Rattle.cx_eval.specs.Sources.{HaveSources}
use Rattle.cx_eval.specs.declared.tables.Tables.{Tables}

abbrev pub design_of : Tables → PlainDesign
design_of t = plain_design t.design.now

-- the cells of each component that can step
pub record AreSteppingParts (d : PlainDesign) (parts : List SteppingCells) : Type 0 where
  pub count : length parts ≡ length d.components
  pub each : (k : ℕ) (part : SteppingCells) → slice_get parts k ≡ Some part
      → AreSteppingCells (component_at d k).cells part

-- the tables are those of an accepted design without static components
pub record AreTables (t : Tables) : Type 0 where
  pub design : IsDesign (design_of t)
  pub flat : IsFlat (design_of t)
  pub accepted : IsAccepted (design_of t)
  pub table : IsTable (design_of t) t.table.rows.items t.table.children.items
  pub numbered : IsNodesOf (design_of t) t.table.rows.items t.nodes
  pub firsts : HaveFirsts (design_of t) t.table.rows.items t.firsts.items
  pub sources : HaveSources (design_of t) t.sources.items
  pub stepping : AreSteppingParts (design_of t) t.parts.items
  pub nothing : t.nothing ≡ actives.Nothing

-- what is asked of them, and the values of its nodes
abbrev pub asked_in : Tables → List PlainInstance → ℕ → Active → Asked
asked_in t rows n active = asked (design_of t) t.table.rows.items t.table.children.items rows n active

abbrev pub value_in : Tables → List PlainInstance → ℕ → Active → ℕ → Seen
value_in t rows n active = value_at (asked_in t rows n active) t.nodes

-- a mark for each node
abbrev pub AreMarksOf : Tables → List NodeMark → Type 0
AreMarksOf t marks = length marks ≡ node_count (design_of t) t.table.rows.items

-- and all that is known is right where an instance is asked
pub record AreReady (t : Tables) (rows : List PlainInstance) (n : ℕ) (active : Active)
    (marks : List NodeMark) : Type 0 where
  pub count : AreMarksOf t marks
  pub ready : Ready (value_in t rows n active) marks

-- the cells of an instance
abbrev pub cells_at : Tables → ℕ → List PlainCell
cells_at t n = (component_at (design_of t) (row_at t.table.rows.items n).component).cells

-- those of an instance, as they are kept
abbrev pub kept_in : Option SteppingCells → List (Option SteppingCell)
kept_in None = []
kept_in (Some part) = part.cells.items

abbrev pub kept_of : Tables → ℕ → List (Option SteppingCell)
kept_of t n = kept_in (slice_get t.parts.items (row_at t.table.rows.items n).component)

-- room for a look at each cell of each component that can step
pub record HaveAllRooms (parts : List SteppingCells) (rooms : List (List CellRoom)) : Type 0 where
  pub count : length rooms ≡ length parts
  pub each : (k : ℕ) (part : SteppingCells) (own : List CellRoom) → slice_get parts k ≡ Some part
      → slice_get rooms k ≡ Some own → HaveRooms part.cells.items own

abbrev pub AreRooms : {A : Type 0} → Tables → List (Vec CellRoom A) → Type 0
AreRooms t rooms = HaveAllRooms t.parts.items (map (λ own. own.items) rooms)
