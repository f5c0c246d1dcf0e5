-- When the registers and words of a source stand for the state of a net.
use Rattle.std.specs.Prelude.{◌≡◌, ℕ, ◌<◌, ◌^◌, [], ◌∷◌, ◌++◌, Some, slice_get}
use Rattle.cx_prim.specs.CellStates.{IsState}
use Rattle.cx_prim.specs.Table.{PrimitiveRow, row_of}
use Rattle.cx_meaning.specs.Designs.{OfPrimitive, PlainCell}
use Rattle.cx_meaning.specs.Instances.{Path}
use Rattle.cx_vtree.specs.Meaning.{State}
use Rattle.cx_vmods.specs.Built.{kept_at}
use Rattle.cx_net.specs.Nets.{PlainNet}
use Rattle.cx_net.specs.NetTree.{net_component_at}
use Rattle.cx_net.specs.NetMeaning.{NetState}
use Rattle.cx_emit.specs.Names.{register_name}
use Rattle.cx_emit.specs.Sources.{source_of}
use Rattle.cx_net.specs.NetPaths.{LeadsTo}
use Rattle.cx_emit.specs.Places.{number_at}
use Rattle.cx_emit.specs.Fits.{stand_for}

-- below instance i, which is of component k: registers have the net's values, which fit their widths, and the module of each
-- primitive cell holds what stands for the cell's state, which is one of its row
pub record StatesStand (net : PlainNet) (k i : ℕ) (s : NetState) (kept : State) : Type 0 where
  pub registers : (path : Path) (h n w : ℕ) → LeadsTo net k path h
      → slice_get (net_component_at net h).registers n ≡ Some w
      → (kept.register (number_at (source_of net) i path) (register_name n) ≡ s.register path n)
      × (s.register path n < 2 ^ w)
  pub cells : (path : Path) (h c : ℕ) (cell : PlainCell) (primitive : PrimitiveRow) → LeadsTo net k path h
      → slice_get (net_component_at net h).cells c ≡ Some cell → cell.kind ≡ OfPrimitive primitive
      → stand_for primitive (kept_at kept (number_at (source_of net) i (path ++ c ∷ []))) (s.cell (path ++ c ∷ []))
      × IsState (row_of primitive).shape (s.cell (path ++ c ∷ []))
