-- Nets whose expressions and drivers name wires and holes that are there.
use Rattle.std.specs.Prelude.{ℕ, ◌+◌, ◌^◌, ◌<◌, List, [], ◌∷◌, length}
use Rattle.cx_net.specs.Nets.{PlainNetExpr, OfPort, OfRegister, OfWire, OfHole, OfGo, Fixed, Inverse, AllOf, AnyOf, Sum, Compares, PlainNetExprs, no_exprs, an_expr, PlainNetTarget, ToPort, ToRegister, ToWire, ToHole, ToDone, PlainNetDriver, PlainNetComponent, PlainNet}
use Rattle.cx_net.specs.NetTree.{net_component_at}

-- so many wires and holes
module _ (wires holes : ℕ) where
  abbrev mutual
    pub ExprNames : PlainNetExpr → Type 0
    ExprNames (OfPort p) = Unit {0}
    ExprNames (OfRegister n) = Unit {0}
    ExprNames (OfWire n) = n < wires
    ExprNames (OfHole n) = n < holes
    ExprNames OfGo = Unit {0}
    ExprNames (Fixed b) = Unit {0}
    ExprNames (Inverse e) = ExprNames e
    ExprNames (AllOf es) = ExprsName es
    ExprNames (AnyOf es) = ExprsName es
    ExprNames (Sum a b) = ExprNames a × ExprNames b
    ExprNames (Compares c a b) = ExprNames a × ExprNames b

    pub ExprsName : PlainNetExprs → Type 0
    ExprsName no_exprs = Unit {0}
    ExprsName (an_expr e es) = ExprNames e × ExprsName es

  abbrev pub TargetNames : PlainNetTarget → Type 0
  TargetNames (ToPort p) = Unit {0}
  TargetNames (ToRegister n) = Unit {0}
  TargetNames (ToWire n) = n < wires
  TargetNames (ToHole n) = n < holes
  TargetNames ToDone = Unit {0}

  pub record DriverNames (d : PlainNetDriver) : Type 0 where
    pub target : TargetNames d.target
    pub guard : ExprNames d.guard
    pub source : ExprNames d.source

  abbrev pub DriversName : List PlainNetDriver → Type 0
  DriversName [] = Unit {0}
  DriversName (d ∷ ds) = DriverNames d × DriversName ds

abbrev pub ComponentNames : PlainNetComponent → Type 0
ComponentNames c = DriversName (length c.wires) c.holes c.drivers

abbrev pub ComponentsName : List PlainNetComponent → Type 0
ComponentsName [] = Unit {0}
ComponentsName (c ∷ cs) = ComponentNames c × ComponentsName cs

-- in each component of a net
abbrev pub NetNames : PlainNet → Type 0
NetNames n = ComponentsName n.components

-- the wires and holes of each component have numbers of 64 bits
abbrev pub HasFewWires : PlainNet → Type 0
HasFewWires n =
    (k : ℕ) → k < length n.components
    → length (net_component_at n k).wires + (net_component_at n k).holes < 2 ^ 64
