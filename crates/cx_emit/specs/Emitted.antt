-- Which nets are emitted, and what holds of their parts: widths, and the numbers in expressions.
use Rattle.std.specs.Prelude.{◌≡◌, ℕ, ◌<◌, ◌≤◌, List, length, All, Some, IsSome, true, slice_get}
use Rattle.cx_bits.specs.BitVector.{Fits}
use Rattle.cx_prim.specs.Widths.{IsWidth}
use Rattle.cx_meaning.specs.declared.ports.PortRef.{PortRef}
use Rattle.cx_meaning.specs.declared.ports.PortRef.TheVariants as ports
use Rattle.cx_meaning.specs.Designs.{PlainCell}
use Rattle.cx_rules.specs.Externals.{numbers_of}
use Rattle.cx_rules.specs.Wellformed.{first_number}
use Rattle.cx_net.specs.Nets.{PlainNetExpr, OfPort, OfRegister, OfWire, OfHole, OfGo, Fixed, Inverse, AllOf, AnyOf, Sum, Compares, PlainNetExprs, no_exprs, an_expr, PlainNetDriver, PlainNetComponent, PlainNet}
use Rattle.cx_net.specs.NetFits.{target_width, IsFit, HasNoHoles}
use Rattle.cx_net.specs.NetLimits.{IsWritable}
use Rattle.cx_net.specs.NetTree.{net_component_at}
use Rattle.cx_emit.specs.Signatures.{PlainCellPorts}

-- WHICH NETS ARE EMITTED: those that fit, whose drivers drive what is there, without holes, and within what the Verilog subset bounds
pub record CanBeEmitted (net : PlainNet) : Type 0 where
  pub fits : IsFit net
  pub targets : (k : ℕ) → k < length net.components → (n : ℕ) (d : PlainNetDriver)
      → slice_get (net_component_at net k).drivers n ≡ Some d
      → IsSome (target_width net (net_component_at net k) d.target)
  pub no_holes : HasNoHoles net
  pub writable : IsWritable net

-- the numbers in the place of ports have 1 to 128 bits, and fit them
abbrev pub PortFits : PortRef → Type 0
PortFits (ports.Cell c p) = Unit {0}
PortFits (ports.Input n) = Unit {0}
PortFits (ports.Output n) = Unit {0}
PortFits (ports.Done g) = Unit {0}
PortFits (ports.Literal w v) = Fits (record { width = w; value = v })

abbrev mutual
  pub LiteralsFit : PlainNetExpr → Type 0
  LiteralsFit (OfPort p) = PortFits p
  LiteralsFit (OfRegister n) = Unit {0}
  LiteralsFit (OfWire n) = Unit {0}
  LiteralsFit (OfHole n) = Unit {0}
  LiteralsFit OfGo = Unit {0}
  LiteralsFit (Fixed b) = Unit {0}
  LiteralsFit (Inverse e) = LiteralsFit e
  LiteralsFit (AllOf es) = AllLiteralsFit es
  LiteralsFit (AnyOf es) = AllLiteralsFit es
  LiteralsFit (Sum a b) = LiteralsFit a × LiteralsFit b
  LiteralsFit (Compares c a b) = LiteralsFit a × LiteralsFit b

  pub AllLiteralsFit : PlainNetExprs → Type 0
  AllLiteralsFit no_exprs = Unit {0}
  AllLiteralsFit (an_expr e es) = LiteralsFit e × AllLiteralsFit es

pub record DriverFits (d : PlainNetDriver) : Type 0 where
  pub guard : LiteralsFit d.guard
  pub source : LiteralsFit d.source

-- the ports of each cell have 1 to 128 bits
abbrev pub PortsAreWide : PlainCellPorts → Type 0
PortsAreWide cell = All (λ port. IsWidth port.width) cell.ports

-- all that has a width in the module of a component, whose cells have these ports, has 1 to 128 bits, and its numbers fit
pub record PartFits (part : PlainNetComponent) (cells : List PlainCellPorts) : Type 0 where
  pub ports : All PortsAreWide cells
  pub outputs : All (λ d. IsWidth d.width) part.outputs
  pub wires : All IsWidth part.wires
  pub registers : All IsWidth part.registers
  pub drivers : All DriverFits part.drivers

-- the numbers of an external cell begin with the width of its words
pub record HasWords (cell : PlainCell) : Type 0 where
  pub some_numbers : 1 ≤ length (numbers_of cell.kind)
  pub few_bits : first_number (numbers_of cell.kind) ≤ 64

abbrev pub ExternalsHaveWords : List PlainCell → Type 0
ExternalsHaveWords cells =
    (c : ℕ) (cell : PlainCell) → slice_get cells c ≡ Some cell → cell.external ≡ true → HasWords cell
