-- What the state of a net can hold: each cell a state of its row, each register a number of its width.
use Rattle.std.specs.Prelude.{◌≡◌, ℕ, ◌<◌, ◌^◌, [], ◌∷◌, ◌++◌, Some, slice_get}
use Rattle.cx_prim.specs.declared.ports.PortRow.{PortRow}
use Rattle.cx_prim.specs.CellStates.{IsState}
use Rattle.cx_prim.specs.Table.{PrimitiveRow, row_of}
use Rattle.cx_prim.specs.Widths.{IsWidth}
use Rattle.cx_meaning.specs.declared.kinds.PortDecl.{PortDecl}
use Rattle.cx_meaning.specs.Designs.{OfPrimitive, PlainCell}
use Rattle.cx_meaning.specs.Instances.{Path}
use Rattle.cx_net.specs.Nets.{PlainNetComponent, PlainNet}
use Rattle.cx_net.specs.NetTree.{net_component_at}
use Rattle.cx_net.specs.NetMeaning.{NetState}
use Rattle.cx_net.specs.NetPaths.{LeadsTo}

-- below component k
pub record Holds (net : PlainNet) (k : ℕ) (s : NetState) : Type 0 where
  pub registers : (path : Path) (h n w : ℕ) → LeadsTo net k path h
      → slice_get (net_component_at net h).registers n ≡ Some w → s.register path n < 2 ^ w
  pub cells : (path : Path) (h c : ℕ) (cell : PlainCell) (primitive : PrimitiveRow) → LeadsTo net k path h
      → slice_get (net_component_at net h).cells c ≡ Some cell → cell.kind ≡ OfPrimitive primitive
      → IsState (row_of primitive).shape (s.cell (path ++ c ∷ []))

-- all widths are 1 to 128
pub record IsWideComponent (part : PlainNetComponent) : Type 0 where
  pub inputs : (n : ℕ) (d : PortDecl) → slice_get part.inputs n ≡ Some d → IsWidth d.width
  pub outputs : (n : ℕ) (d : PortDecl) → slice_get part.outputs n ≡ Some d → IsWidth d.width
  pub registers : (n w : ℕ) → slice_get part.registers n ≡ Some w → IsWidth w
  pub wires : (n w : ℕ) → slice_get part.wires n ≡ Some w → IsWidth w

abbrev pub IsWide : PlainNet → Type 0
IsWide net = (k : ℕ) → IsWideComponent (net_component_at net k)

-- the ports of all rows are
abbrev pub RowsAreWide : Type 0
RowsAreWide =
    (primitive : PrimitiveRow) (n : ℕ) (port : PortRow) → slice_get (row_of primitive).ports n ≡ Some port
    → IsWidth port.width
