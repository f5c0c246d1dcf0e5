-- What the expressions of a net name: nodes that are there, inputs of the component, numbers.
use Rattle.std.specs.Prelude.{◌≡◌, nat_lt, Bool, true, false, List, [], ◌∷◌, length}
use Rattle.cx_meaning.specs.declared.ports.PortRef.{PortRef}
use Rattle.cx_meaning.specs.declared.ports.PortRef.TheVariants as ports
use Rattle.cx_net.specs.Nets.{PlainNetExpr, OfPort, OfRegister, OfWire, OfHole, OfGo, Fixed, Inverse, AllOf, AnyOf, Sum, Compares, PlainNetExprs, no_exprs, an_expr, PlainNetDriver, PlainNetComponent}
use Rattle.cx_net.specs.NetTree.{NetInstance, NetNode, NetCells, no_net_cells, a_row, a_child, net_cell_at}
use Rattle.cx_net.specs.NetMeaning.{is_port_of}

module _ (part : PlainNetComponent) (cells : NetCells) where
  abbrev pub is_named_port : PortRef → Bool
  is_named_port (ports.Cell c p) = is_port_of (net_cell_at cells c) p
  is_named_port (ports.Input n) = nat_lt n (length part.inputs)
  is_named_port (ports.Output n) = nat_lt n (length part.outputs)
  is_named_port (ports.Done g) = false
  is_named_port (ports.Literal w v) = true

  abbrev mutual
    pub ExprNames : PlainNetExpr → Type 0
    ExprNames (OfPort p) = is_named_port p ≡ true
    ExprNames (OfRegister n) = Unit {0}
    ExprNames (OfWire n) = nat_lt n (length part.wires) ≡ true
    ExprNames (OfHole n) = nat_lt n part.holes ≡ true
    ExprNames OfGo = Unit {0}
    ExprNames (Fixed b) = Unit {0}
    ExprNames (Inverse e) = ExprNames e
    ExprNames (AllOf es) = ExprsName es
    ExprNames (AnyOf es) = ExprsName es
    ExprNames (Sum a b) = ExprNames a × ExprNames b
    ExprNames (Compares c a b) = ExprNames a × ExprNames b

    pub ExprsName : PlainNetExprs → Type 0
    ExprsName no_exprs = Unit {0}
    ExprsName (an_expr e es) = ExprNames e × ExprsName es

  abbrev pub DriversName : List PlainNetDriver → Type 0
  DriversName [] = Unit {0}
  DriversName (d ∷ ds) = (ExprNames d.guard × ExprNames d.source) × DriversName ds

-- of all components of a tree
abbrev mutual
  pub TreeNames : NetInstance → Type 0
  TreeNames (NetNode part cells) = DriversName part cells part.drivers × CellsName cells

  pub CellsName : NetCells → Type 0
  CellsName no_net_cells = Unit {0}
  CellsName (a_row row rest) = CellsName rest
  CellsName (a_child child rest) = TreeNames child × CellsName rest
