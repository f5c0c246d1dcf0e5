-- WHICH NETS FIT: numbers name parts, widths agree, a component comes behind those of its cells, its primitives have rows, and
-- external cells of main are memories.
use Rattle.std.specs.Prelude.{◌≡◌, ℕ, ◌<◌, nat_lt, true, List, [], ◌∷◌, ◌++◌, length, map, Option, Some, None, IsSome, option_map, option_and_then, slice_get, if◌then◌else◌}
use Rattle.cx_prim.specs.Rows.{IsOfWidth}
use Rattle.cx_prim.specs.Table.{HasRow, row_of}
use Rattle.cx_meaning.specs.declared.ports.PortRef.{PortRef}
use Rattle.cx_meaning.specs.declared.ports.PortRef.TheVariants as ports
use Rattle.cx_meaning.specs.Designs.{PlainKind, OfPrimitive, OfComponent, PlainCell}
use Rattle.cx_rules.specs.Wellformed.{is_memory}
use Rattle.cx_net.specs.Nets.{PlainNetExpr, OfPort, OfRegister, OfWire, OfHole, OfGo, Fixed, Inverse, AllOf, AnyOf, Sum, Compares, PlainNetExprs, no_exprs, an_expr, PlainNetTarget, ToPort, ToRegister, ToWire, ToHole, ToDone, PlainNetDriver, PlainNetComponent, PlainNet}
use Rattle.cx_net.specs.NetTree.{net_component_at}

-- the widths of a component's ports: go, the inputs, the outputs and done
abbrev pub signature_widths : PlainNetComponent → List ℕ
signature_widths part = 1 ∷ map (λ d. d.width) part.inputs ++ map (λ d. d.width) part.outputs ++ 1 ∷ []

-- the width of port p of a cell; None where it has no such port
abbrev pub kind_width : PlainNet → PlainKind → ℕ → Option ℕ
kind_width net (OfPrimitive primitive) p = option_map (λ port. port.width) (slice_get (row_of primitive).ports p)
kind_width net (OfComponent k) p = slice_get (signature_widths (net_component_at net k)) p

-- the width of a port of a component; None where it is not there
abbrev pub port_width : PlainNet → PlainNetComponent → PortRef → Option ℕ
port_width net part (ports.Cell c p) = option_and_then (λ cell. kind_width net cell.kind p) (slice_get part.cells c)
port_width net part (ports.Input n) = option_map (λ d. d.width) (slice_get part.inputs n)
port_width net part (ports.Output n) = option_map (λ d. d.width) (slice_get part.outputs n)
port_width net part (ports.Done g) = None
port_width net part (ports.Literal w v) = None

-- the width of a port in an expression, where a literal fits its own
abbrev pub HasPortWidth : PlainNet → PlainNetComponent → PortRef → ℕ → Type 0
HasPortWidth net part (ports.Cell c p) w = port_width net part (ports.Cell c p) ≡ Some w
HasPortWidth net part (ports.Input n) w = port_width net part (ports.Input n) ≡ Some w
HasPortWidth net part (ports.Output n) w = port_width net part (ports.Output n) ≡ Some w
HasPortWidth net part (ports.Done g) w = ⊥
HasPortWidth net part (ports.Literal u v) w = IsOfWidth w (record { width = u; value = v })

-- an expression names what is there, its widths agree, and it has this width
abbrev mutual
  pub HasWidth : PlainNet → PlainNetComponent → PlainNetExpr → ℕ → Type 0
  HasWidth net part (OfPort p) w = HasPortWidth net part p w
  HasWidth net part (OfRegister n) w = slice_get part.registers n ≡ Some w
  HasWidth net part (OfWire n) w = slice_get part.wires n ≡ Some w
  HasWidth net part (OfHole n) w = (n < part.holes) × (w ≡ 1)
  HasWidth net part OfGo w = w ≡ 1
  HasWidth net part (Fixed b) w = IsOfWidth w b
  HasWidth net part (Inverse e) w = HasWidth net part e w
  HasWidth net part (AllOf es) w = (w ≡ 1) × AreBits net part es
  HasWidth net part (AnyOf es) w = (w ≡ 1) × AreBits net part es
  HasWidth net part (Sum a b) w = HasWidth net part a w × HasWidth net part b w
  HasWidth net part (Compares c a b) w = (w ≡ 1) × ((v : ℕ) × HasWidth net part a v × HasWidth net part b v)

  pub AreBits : PlainNet → PlainNetComponent → PlainNetExprs → Type 0
  AreBits net part no_exprs = Unit {0}
  AreBits net part (an_expr e es) = HasWidth net part e 1 × AreBits net part es

abbrev pub target_width : PlainNet → PlainNetComponent → PlainNetTarget → Option ℕ
target_width net part (ToPort p) = port_width net part p
target_width net part (ToRegister n) = slice_get part.registers n
target_width net part (ToWire n) = slice_get part.wires n
target_width net part (ToHole n) = if nat_lt n part.holes then Some 1 else None
target_width net part ToDone = Some 1

-- a guard has one bit, and a source is as wide as its target
pub record IsFitDriver (net : PlainNet) (part : PlainNetComponent) (d : PlainNetDriver) : Type 0 where
  pub guard : HasWidth net part d.guard 1
  pub source : (w : ℕ) → target_width net part d.target ≡ Some w → HasWidth net part d.source w

-- a cell of component k
abbrev pub IsFitKind : ℕ → PlainKind → Type 0
IsFitKind k (OfPrimitive primitive) = HasRow primitive
IsFitKind k (OfComponent child) = child < k

pub record IsFitComponent (net : PlainNet) (k : ℕ) : Type 0 where
  pub drivers : (n : ℕ) (d : PlainNetDriver) → slice_get (net_component_at net k).drivers n ≡ Some d
      → IsFitDriver net (net_component_at net k) d
  pub cells : (c : ℕ) (cell : PlainCell) → slice_get (net_component_at net k).cells c ≡ Some cell
      → IsFitKind k cell.kind

-- an external cell is a memory
abbrev pub IsExternalKind : PlainKind → Type 0
IsExternalKind (OfPrimitive primitive) = is_memory (row_of primitive).shape ≡ true
IsExternalKind (OfComponent child) = ⊥

pub record IsFit (net : PlainNet) : Type 0 where
  pub has_main : net.main < length net.components
  pub externals : (c : ℕ) (cell : PlainCell)
      → slice_get (net_component_at net net.main).cells c ≡ Some cell → cell.external ≡ true
      → IsExternalKind cell.kind
  pub components : (k : ℕ) → k < length net.components → IsFitComponent net k

-- what is left where holes are wires
abbrev pub HasNoHoles : PlainNet → Type 0
HasNoHoles net = (k : ℕ) → (net_component_at net k).holes ≡ 0

-- of each driver the target is there
abbrev pub HasTargets : PlainNet → Type 0
HasTargets n =
    (k : ℕ) → k < length n.components → (m : ℕ) (d : PlainNetDriver)
    → slice_get (net_component_at n k).drivers m ≡ Some d
    → IsSome (target_width n (net_component_at n k) d.target)

-- WHAT EVERY NET KEEPS: its numbers name parts of it, its widths agree, and each component comes behind those of its cells, so that no cell
-- leads back to its own component; and what its drivers drive is there
pub record IsNet (net : PlainNet) : Type 0 where
  pub fits : IsFit net
  pub targets : HasTargets net
