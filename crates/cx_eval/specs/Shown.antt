-- What sources show of the ports of the asked instance.
use Rattle.std.specs.Prelude.{◌≡◌, ◌<◌, ℕ, List, Some, get_or, length, slice_get}
use Rattle.cx_bits.specs.BitVector.{BitVector}
use Rattle.cx_prim.specs.declared.ports.PortRow.{PortRow}
use Rattle.cx_meaning.specs.declared.ports.PortRef.{PortRef}
use Rattle.cx_meaning.specs.declared.ports.PortRef.TheVariants.{Cell}
use Rattle.cx_meaning.specs.declared.sights.Seen.{Seen}
use Rattle.cx_meaning.specs.declared.sights.Seen.TheVariants.{Undefined, Value}
use Rattle.cx_meaning.specs.Instances.{Instance}
use Rattle.cx_design.specs.declared.actives.Active.{Active}
use Rattle.cx_state.specs.Tables.{row_at}
use Rattle.cx_eval_network.specs.declared.asking.Asking.{Asking}
use Rattle.cx_eval_network.specs.Askings.{IsCellPort, asked_of}
use Rattle.cx_eval_network.specs.Networks.{Asked, seen_at}
use Rattle.cx_eval_network.specs.Nodes.{part_at}
use Rattle.cx_eval_network.specs.Plans.{Inputs, decides}
use Rattle.cx_eval.specs.declared.demanding.PortSources.{PortSources}
use Rattle.cx_eval.specs.declared.known.Ahead.{Ahead}
use Rattle.cx_eval.specs.declared.known.Ahead.TheVariants as ahead
use Rattle.cx_eval.specs.declared.known.KnownCells.{KnownCells}
use Rattle.cx_eval.specs.declared.sources.CellSources.{CellSources}
use Rattle.cx_eval.specs.declared.sources.Operator.{Operator}
use Rattle.cx_eval.specs.declared.sources.Source.{Source}
use Rattle.cx_eval.specs.declared.sources.Source.TheVariants.{Fixed, State, Slot}
use Rattle.cx_eval.specs.declared.tables.Tables.{Tables}
use Rattle.cx_eval.specs.Looked.{seen_from}
use Rattle.cx_eval.specs.Sources.{IsClosed}
use Rattle.cx_eval.specs.Tables.{design_of}

-- WHAT A SOURCE IS SEEN AS in the asked instance, by what operators are seen as
abbrev pub source_value : Asked → List Seen → Source → Seen
source_value a slots (Fixed seen) = seen
source_value a slots (State cell output) = seen_at a a.instance (Cell cell output)
source_value a slots (Slot place) = get_or slots place Undefined

-- a source that is an output is one that reads no input
abbrev pub CanBeSeen : Asked → Source → Type 0
CanBeSeen a (Fixed seen) = Unit {0}
CanBeSeen a (State cell output) =
    IsCellPort a a.instance cell output
    × (decides (part_at a.design a.rows a.instance) (Cell cell output) ≡ Inputs 0)
CanBeSeen a (Slot place) = Unit {0}

-- a source shows what a port is seen as
pub record Shows (a : Asked) (slots : List Seen) (p : PortRef) (source : Source) : Type 0 where
  pub can : CanBeSeen a source
  pub value : source_value a slots source ≡ seen_at a a.instance p

-- the inputs of an operator are shown by their sources, and some sources show what is looked at
abbrev pub ShowInputs : Asked → List Seen → Operator → Type 0
ShowInputs a slots o =
    (q : ℕ) (source : Source) → slice_get o.inputs.items q ≡ Some source → Shows a slots (Cell o.cell q) source

abbrev pub ShowLook : Asked → List Seen → List Source → (ℕ → Seen) → Type 0
ShowLook a slots sources look =
    (q : ℕ) (source : Source) → slice_get sources q ≡ Some source → source_value a slots source ≡ look q

-- their values are as wide as the ports
abbrev pub ShowWide : Asked → List Seen → List Source → List PortRow → Type 0
ShowWide a slots sources ports =
    (q : ℕ) (source : Source) (port : PortRow) (b : BitVector) → slice_get sources q ≡ Some source
    → slice_get ports q ≡ Some port → source_value a slots source ≡ Value b → b.width ≡ port.width

-- operators are found: in its slot each has what it is seen as
abbrev pub AreFound : Asked → List Operator → List Seen → Type 0
AreFound a operators slots =
    (place : ℕ) (o : Operator) → slice_get operators place ≡ Some o
    → slice_get slots place ≡ Some (seen_at a a.instance (Cell o.cell o.port))

-- the component of the asked instance
abbrev pub own_component : Asked → ℕ
own_component a = (row_at a.rows a.instance).component

-- what is known of the first ports of a cell is what they are seen as
pub record ShowPorts (a : Asked) (cell : ℕ) (sources : PortSources) : Type 0 where
  pub component : sources.component ≡ own_component a
  pub each : (p : ℕ) (source : Source) → slice_get sources.ports.now p ≡ Some source
      → Shows a sources.slots.now (Cell cell p) source

-- the same of the nodes from one on: of one port, and of those of a row
pub record ShowsFrom (a : Asking) (first port : ℕ) (sources : PortSources) : Type 0 where
  pub component : sources.component ≡ own_component (asked_of a)
  pub can : (source : Source) → slice_get sources.ports.now port ≡ Some source → CanBeSeen (asked_of a) source
  pub value : (source : Source) → slice_get sources.ports.now port ≡ Some source
      → source_value (asked_of a) sources.slots.now source ≡ seen_from a first port

abbrev pub ShowFrom : Asking → ℕ → List PortRow → PortSources → Type 0
ShowFrom a first ports sources = (port : ℕ) → port < length ports → ShowsFrom a first port sources

-- what is known of cells
pub record AreKnownCells (a : Asked) (known : KnownCells) : Type 0 where
  pub component : known.component ≡ own_component a
  pub each : (n p : ℕ) (c : CellSources) (source : Source) → slice_get known.cells.now n ≡ Some c
      → slice_get c.ports.items p ≡ Some source → Shows a known.slots.now (Cell c.cell p) source

-- what serves the cells of a cycle belongs to what is active in an instance
abbrev pub ServesAs : Instance → Active → Ahead → Type 0
ServesAs i active ahead.Nothing = Unit {0}
ServesAs i active (ahead.List list) = Unit {0}
ServesAs i active (ahead.Closed closed) = IsClosed i active closed.now

abbrev pub Serves : Asking → Ahead → Type 0
Serves a ahead = ServesAs (part_at (asked_of a).design (asked_of a).rows a.instance) a.active.now ahead

abbrev pub ServesIn : Tables → ℕ → Active → Ahead → Type 0
ServesIn t n active ahead = ServesAs (part_at (design_of t) t.table.rows.items n) active ahead
