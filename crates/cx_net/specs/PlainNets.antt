-- What the parts of a net stand for, as plain data. An expression is told by its fold.
use Rattle.std.specs.Prelude.{ℕ, List, map}
use Rattle.cx_design.specs.PlainForms.{plain_cell}
use Rattle.cx_net.specs.Nets.{PlainNetExpr, OfPort, OfRegister, OfWire, OfHole, OfGo, Fixed, Inverse, AllOf, AnyOf, Sum, Compares, exprs_of, PlainNetTarget, ToPort, ToRegister, ToWire, ToHole, ToDone, PlainNetDriver, PlainNetComponent, PlainNet}
use Rattle.cx_net.specs.declared.exprs.NetExpr.{NetExpr, NetExpr-F, fold-NetExpr}
use Rattle.cx_net.specs.declared.exprs.NetExpr.TheOpen as open_expr
use Rattle.cx_net.specs.declared.drivers.NetTarget.{NetTarget}
use Rattle.cx_net.specs.declared.drivers.NetTarget.TheVariants as targets
use Rattle.cx_net.specs.declared.drivers.NetDriver.{NetDriver}
use Rattle.cx_net.specs.declared.components.NetComponent.{NetComponent}

abbrev pub net_expr_step : NetExpr-F PlainNetExpr → PlainNetExpr
net_expr_step (open_expr.Port p) = OfPort p
net_expr_step (open_expr.Register n) = OfRegister n
net_expr_step (open_expr.Wire n) = OfWire n
net_expr_step (open_expr.Hole n) = OfHole n
net_expr_step open_expr.Go = OfGo
net_expr_step (open_expr.Literal b) = Fixed b
net_expr_step (open_expr.Not e) = Inverse e.value
net_expr_step (open_expr.And es) = AllOf (exprs_of es.items)
net_expr_step (open_expr.Or es) = AnyOf (exprs_of es.items)
net_expr_step (open_expr.Add a b) = Sum a.value b.value
net_expr_step (open_expr.Compare c a b) = Compares c a.value b.value

abbrev pub plain_net_expr : NetExpr → PlainNetExpr
plain_net_expr = fold-NetExpr PlainNetExpr net_expr_step

abbrev pub plain_net_target : NetTarget → PlainNetTarget
plain_net_target (targets.Port p) = ToPort p
plain_net_target (targets.Register n) = ToRegister n
plain_net_target (targets.Wire n) = ToWire n
plain_net_target (targets.Hole n) = ToHole n
plain_net_target targets.Done = ToDone

abbrev pub plain_net_driver : NetDriver → PlainNetDriver
plain_net_driver d = record {
  target = plain_net_target d.target;
  guard = plain_net_expr d.guard;
  source = plain_net_expr d.source;
}

abbrev pub plain_net_drivers : List NetDriver → List PlainNetDriver
plain_net_drivers drivers = map plain_net_driver drivers

abbrev pub plain_net_component : NetComponent → PlainNetComponent
plain_net_component c = record {
  name = c.name;
  inputs = c.inputs.items;
  outputs = c.outputs.items;
  cells = map plain_cell c.cells.items;
  registers = c.registers.items;
  wires = c.wires.items;
  holes = c.holes;
  drivers = plain_net_drivers c.drivers.items;
}

-- the net of these components and this main
abbrev pub net_of_parts : List NetComponent → ℕ → PlainNet
net_of_parts components main = record { components = map plain_net_component components; main = main }
