-- WHICH NETS CAN BE WRITTEN: what the Verilog subset bounds, and where main stands, in the net's own terms.
use Rattle.std.specs.Prelude.{◌≡◌, ℕ, suc, ◌+◌, ◌-◌, ◌^◌, ◌<◌, ◌≤◌, true, List, [], length, All, Some, slice_get}
use Rattle.cx_prim.specs.Widths.{IsWidth}
use Rattle.cx_prim.specs.CellStates.{StateShape, NoState, RegisterOf, MemoryOf, SequentialMemoryOf, MultiplierOf, DividerOf, TimerOf}
use Rattle.cx_prim.specs.Rows.{Row}
use Rattle.cx_meaning.specs.declared.ports.PortRef.{PortRef}
use Rattle.cx_meaning.specs.declared.ports.PortRef.TheVariants as ports
use Rattle.cx_meaning.specs.Designs.{PlainCell}
use Rattle.cx_rules.specs.Wellformed.{first_number}
use Rattle.cx_rules.specs.Externals.{numbers_of}
use Rattle.cx_rules.specs.Sizes.{shape_words}
use Rattle.cx_vtree.specs.Layout.{is_word}
use Rattle.cx_net.specs.Nets.{PlainNetExpr, OfPort, OfRegister, OfWire, OfHole, OfGo, Fixed, Inverse, AllOf, AnyOf, Sum, Compares, PlainNetExprs, no_exprs, an_expr, PlainNetTarget, PlainNetDriver, PlainNetComponent, PlainNet}
use Rattle.cx_net.specs.NetTree.{NetInstance, NetNode, NetCells, no_net_cells, a_row, a_child, net_part, net_component_at, net_tree}
use Rattle.cx_net.specs.NetMeaning.{drivers_to}

-- an output of the component itself is not read
abbrev pub IsRead : PortRef → Type 0
IsRead (ports.Cell c p) = Unit {0}
IsRead (ports.Input n) = Unit {0}
IsRead (ports.Output n) = ⊥
IsRead (ports.Done g) = Unit {0}
IsRead (ports.Literal w v) = Unit {0}

abbrev pub parts_of : PlainNetExprs → ℕ
parts_of no_exprs = 0
parts_of (an_expr e es) = suc (parts_of es)

-- an expression stands within so many levels of brackets, and reads no output. Parts under one operator are paired again and
-- again, 14 times at most: up to 2 ^ n of them make n levels
abbrev mutual
  pub StandsIn : ℕ → PlainNetExpr → Type 0
  StandsIn levels (OfPort p) = IsRead p
  StandsIn levels (OfRegister n) = Unit {0}
  StandsIn levels (OfWire n) = Unit {0}
  StandsIn levels (OfHole n) = Unit {0}
  StandsIn levels OfGo = Unit {0}
  StandsIn levels (Fixed b) = Unit {0}
  StandsIn levels (Inverse e) = (1 ≤ levels) × StandsIn (levels - 1) e
  StandsIn levels (AllOf es) = (n : ℕ) × (n ≤ 14) × (n ≤ levels) × (parts_of es ≤ 2 ^ n) × AllStandIn (levels - n) es
  StandsIn levels (AnyOf es) = (n : ℕ) × (n ≤ 14) × (n ≤ levels) × (parts_of es ≤ 2 ^ n) × AllStandIn (levels - n) es
  StandsIn levels (Sum a b) = (1 ≤ levels) × StandsIn (levels - 1) a × StandsIn (levels - 1) b
  StandsIn levels (Compares c a b) = (1 ≤ levels) × StandsIn (levels - 1) a × StandsIn (levels - 1) b

  pub AllStandIn : ℕ → PlainNetExprs → Type 0
  AllStandIn levels no_exprs = Unit {0}
  AllStandIn levels (an_expr e es) = StandsIn levels e × AllStandIn levels es

-- a chain of 17 drivers is 17 levels deep, and 64 are the most
pub record IsWritableDriver (d : PlainNetDriver) : Type 0 where
  pub guard : StandsIn 47 d.guard
  pub source : StandsIn 47 d.source

pub record IsWritableComponent (part : PlainNetComponent) : Type 0 where
  -- 1 to 128 bits
  pub input_widths : All (λ d. IsWidth d.width) part.inputs
  pub output_widths : All (λ d. IsWidth d.width) part.outputs
  pub register_widths : All IsWidth part.registers
  pub wire_widths : All IsWidth part.wires
  -- each with a number of 64 bits
  pub few_ports : 2 + length part.inputs + length part.outputs < 2 ^ 64
  pub few_registers : length part.registers < 2 ^ 64
  pub few_wires : length part.wires < 2 ^ 64
  pub few_cells : length part.cells < 2 ^ 64
  -- no target has a long chain
  pub chains : (t : PlainNetTarget) → length (drivers_to t part.drivers) ≤ 17
  pub drivers : All IsWritableDriver part.drivers

-- the words of an external memory have at most 64 bits, and its name is a word
pub record IsWritableExternal (cell : PlainCell) : Type 0 where
  pub word : is_word cell.name ≡ true
  pub few_bits : first_number (numbers_of cell.kind) ≤ 64

-- NETS of a text: the ports of a module, its wires and registers, and around it a wire at each port but the clock and the reset.
-- Those within the module of a primitive hang on what it keeps
abbrev pub nets_inside : StateShape → ℕ
nets_inside NoState = 0
nets_inside (RegisterOf width) = 2
nets_inside (MemoryOf width count) = 3
nets_inside (SequentialMemoryOf width count) = 4
nets_inside (MultiplierOf width latency) = 8
nets_inside (DividerOf width latency) = 17
nets_inside (TimerOf length) = 4

abbrev pub row_nets : Row → ℕ
row_nets row = length row.ports + (2 + length row.ports + nets_inside row.shape)

-- go, the inputs, the outputs and done
abbrev pub signature_size : PlainNetComponent → ℕ
signature_size part = 2 + length part.inputs + length part.outputs

-- the nets over a tree, its instances, and the words of its memories
abbrev mutual
  pub nets_below : NetInstance → ℕ
  nets_below (NetNode part cells) =
      (2 + signature_size part) + length part.wires + length part.registers + nets_in cells

  pub nets_in : NetCells → ℕ
  nets_in no_net_cells = 0
  nets_in (a_row row rest) = row_nets row + nets_in rest
  nets_in (a_child child rest) = signature_size (net_part child) + nets_below child + nets_in rest

abbrev mutual
  pub instances_below : NetInstance → ℕ
  instances_below (NetNode part cells) = 1 + instances_in cells

  pub instances_in : NetCells → ℕ
  instances_in no_net_cells = 0
  instances_in (a_row row rest) = 1 + instances_in rest
  instances_in (a_child child rest) = instances_below child + instances_in rest

abbrev mutual
  pub words_below : NetInstance → ℕ
  words_below (NetNode part cells) = words_in cells

  pub words_in : NetCells → ℕ
  words_in no_net_cells = 0
  words_in (a_row row rest) = shape_words row.shape + words_in rest
  words_in (a_child child rest) = words_below child + words_in rest

pub record IsWritable (net : PlainNet) : Type 0 where
  pub few : length net.components < 2 ^ 64
  pub components : (k : ℕ) → k < length net.components → IsWritableComponent (net_component_at net k)
  -- main comes last, and has no ports of its own
  pub main_last : suc net.main ≡ length net.components
  pub no_inputs : (net_component_at net net.main).inputs ≡ []
  pub no_outputs : (net_component_at net net.main).outputs ≡ []
  -- external memories have names of their own
  pub externals : (c : ℕ) (cell : PlainCell)
      → slice_get (net_component_at net net.main).cells c ≡ Some cell → cell.external ≡ true
      → IsWritableExternal cell
  pub externals_apart : (c e : ℕ) (cell other : PlainCell)
      → slice_get (net_component_at net net.main).cells c ≡ Some cell → cell.external ≡ true
      → slice_get (net_component_at net net.main).cells e ≡ Some other → other.external ≡ true
      → cell.name ≡ other.name → c ≡ e
  -- the tree is not too large
  pub nets : nets_below (net_tree net) ≤ 4194304
  pub instances : instances_below (net_tree net) ≤ 131072
  pub words : words_below (net_tree net) ≤ 4194304
