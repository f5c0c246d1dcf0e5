-- Which nets have a source that runs as they do; widths of their nodes; what the module of a primitive keeps of its cell's state.
use Rattle.std.specs.Prelude.{ℕ, Option, Some, None, slice_get, slice_index}
use Rattle.cx_prim.specs.CellStates.{CellState}
use Rattle.cx_prim.specs.Table.{PrimitiveRow}
use Rattle.cx_meaning.specs.declared.ports.PortRef.TheVariants as ports
use Rattle.cx_vmods.specs.Stands.{Kept, StandsFor}
use Rattle.cx_net.specs.Nets.{PlainNetComponent, PlainNet}
use Rattle.cx_net.specs.NetMeaning.{Node, APort, AWire, AHole, TheDone}
use Rattle.cx_net.specs.NetFits.{port_width, IsFit, HasNoHoles}

-- a fit net without holes
pub record IsFlat (net : PlainNet) : Type 0 where
  pub fits : IsFit net
  pub no_holes : HasNoHoles net

-- the width of a node; None where it is not there
abbrev pub node_width : PlainNet → PlainNetComponent → Node → Option ℕ
node_width net part (APort (ports.Cell c p)) = port_width net part (ports.Cell c p)
node_width net part (APort (ports.Input n)) = None
node_width net part (APort (ports.Output n)) = port_width net part (ports.Output n)
node_width net part (APort (ports.Done g)) = None
node_width net part (APort (ports.Literal w v)) = None
node_width net part (AWire n) = slice_get part.wires n
node_width net part (AHole n) = None
node_width net part TheDone = Some 1

-- what the registers and words of a primitive's module stand for; the first number of those that have a width is the width
abbrev pub stand_for : PrimitiveRow → Kept → CellState → Type 0
stand_for primitive = StandsFor (slice_index primitive.numbers 0)
