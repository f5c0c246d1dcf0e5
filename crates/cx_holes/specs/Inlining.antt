-- A net without holes, as plain data: each hole of a component becomes a wire behind its wires.
use Rattle.std.specs.Prelude.{ℕ, ◌+◌, ◌++◌, length, map, replicate}
use Rattle.cx_net.specs.Nets.{PlainNetExpr, OfPort, OfRegister, OfWire, OfHole, OfGo, Fixed, Inverse, AllOf, AnyOf, Sum, Compares, PlainNetExprs, no_exprs, an_expr, PlainNetTarget, ToPort, ToRegister, ToWire, ToHole, ToDone, PlainNetDriver, PlainNetComponent, PlainNet}

-- wires from the first on in place of the holes
abbrev mutual
  pub inlined_expr : ℕ → PlainNetExpr → PlainNetExpr
  inlined_expr first (OfPort p) = OfPort p
  inlined_expr first (OfRegister n) = OfRegister n
  inlined_expr first (OfWire n) = OfWire n
  inlined_expr first (OfHole n) = OfWire (first + n)
  inlined_expr first OfGo = OfGo
  inlined_expr first (Fixed b) = Fixed b
  inlined_expr first (Inverse e) = Inverse (inlined_expr first e)
  inlined_expr first (AllOf es) = AllOf (inlined_exprs first es)
  inlined_expr first (AnyOf es) = AnyOf (inlined_exprs first es)
  inlined_expr first (Sum a b) = Sum (inlined_expr first a) (inlined_expr first b)
  inlined_expr first (Compares c a b) = Compares c (inlined_expr first a) (inlined_expr first b)

  pub inlined_exprs : ℕ → PlainNetExprs → PlainNetExprs
  inlined_exprs first no_exprs = no_exprs
  inlined_exprs first (an_expr e es) = an_expr (inlined_expr first e) (inlined_exprs first es)

abbrev pub inlined_target : ℕ → PlainNetTarget → PlainNetTarget
inlined_target first (ToPort p) = ToPort p
inlined_target first (ToRegister n) = ToRegister n
inlined_target first (ToWire n) = ToWire n
inlined_target first (ToHole n) = ToWire (first + n)
inlined_target first ToDone = ToDone

abbrev pub inlined_driver : ℕ → PlainNetDriver → PlainNetDriver
inlined_driver first d = record {
  target = inlined_target first d.target;
  guard = inlined_expr first d.guard;
  source = inlined_expr first d.source;
}

-- the holes become wires of one bit
abbrev pub inlined_component : PlainNetComponent → PlainNetComponent
inlined_component c = record {
  name = c.name;
  inputs = c.inputs;
  outputs = c.outputs;
  cells = c.cells;
  registers = c.registers;
  wires = c.wires ++ replicate c.holes 1;
  holes = 0;
  drivers = map (inlined_driver (length c.wires)) c.drivers;
}

abbrev pub inlined : PlainNet → PlainNet
inlined net = record { components = map inlined_component net.components; main = net.main }
