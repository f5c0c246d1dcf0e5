-- A net as plain data: guarded drivers over cells, registers and wires. Numbers name parts of the component.
use Rattle.std.specs.Prelude.{ℕ, List, [], ◌∷◌}
use Rattle.cx_bits.specs.BitVector.{BitVector}
use Rattle.cx_meaning.specs.declared.ports.PortRef.{PortRef}
use Rattle.cx_meaning.specs.declared.ports.Comparison.{Comparison}
use Rattle.cx_meaning.specs.declared.kinds.PortDecl.{PortDecl}
use Rattle.cx_meaning.specs.Designs.{PlainCell}

-- an expression; a conjunction and a disjunction have their parts in order
mutual
  pub data PlainNetExpr : Type 0 where
    OfPort : (p : PortRef) → PlainNetExpr
    OfRegister : (n : ℕ) → PlainNetExpr
    OfWire : (n : ℕ) → PlainNetExpr
    OfHole : (n : ℕ) → PlainNetExpr
    OfGo : PlainNetExpr
    Fixed : (b : BitVector) → PlainNetExpr
    Inverse : (e : PlainNetExpr) → PlainNetExpr
    AllOf : (es : PlainNetExprs) → PlainNetExpr
    AnyOf : (es : PlainNetExprs) → PlainNetExpr
    Sum : (a b : PlainNetExpr) → PlainNetExpr
    Compares : (c : Comparison) (a b : PlainNetExpr) → PlainNetExpr

  pub data PlainNetExprs : Type 0 where
    no_exprs : PlainNetExprs
    an_expr : (e : PlainNetExpr) (es : PlainNetExprs) → PlainNetExprs

abbrev pub exprs_of : List PlainNetExpr → PlainNetExprs
exprs_of [] = no_exprs
exprs_of (e ∷ es) = an_expr e (exprs_of es)

pub data PlainNetTarget : Type 0 where
  ToPort : (p : PortRef) → PlainNetTarget
  ToRegister : (n : ℕ) → PlainNetTarget
  ToWire : (n : ℕ) → PlainNetTarget
  ToHole : (n : ℕ) → PlainNetTarget
  ToDone : PlainNetTarget

-- target = guard ? source
pub record PlainNetDriver : Type 0 where
  pub target : PlainNetTarget
  pub guard : PlainNetExpr
  pub source : PlainNetExpr

-- the inputs and outputs are those of the signature other than go, clk, reset and done; registers and wires are given by
-- their widths; the drivers of one target are tried in order
pub record PlainNetComponent : Type 0 where
  pub name : List ℕ
  pub inputs : List PortDecl
  pub outputs : List PortDecl
  pub cells : List PlainCell
  pub registers : List ℕ
  pub wires : List ℕ
  pub holes : ℕ
  pub drivers : List PlainNetDriver

pub record PlainNet : Type 0 where
  pub components : List PlainNetComponent
  pub main : ℕ
