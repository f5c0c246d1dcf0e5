-- What drives a target: its drivers as choices, in their order.
use Rattle.std.specs.Prelude.{◌==◌, Bool, false, List, [], ◌∷◌, if◌then◌else◌}
use Rattle.cx_vtree.specs.Plain.{PlainExpr, Chosen}
use Rattle.cx_net.specs.Nets.{PlainNetExpr, Fixed, PlainNetTarget, PlainNetDriver}
use Rattle.cx_net.specs.NetMeaning.{drivers_to}
use Rattle.cx_emit.specs.Exprs.{expr_of}

abbrev pub is_one : PlainNetExpr → Bool
is_one (Fixed b) = b.value == 1
is_one e = false

-- a driver before a chain; none is looked at behind one whose guard is the number 1
abbrev pub before : PlainNetDriver → PlainExpr → PlainExpr
before d rest = if is_one d.guard then expr_of d.source else Chosen (expr_of d.guard) (expr_of d.source) rest

-- the drivers in order; where no guard is 1 the target is what stands last
abbrev pub chain_of : PlainExpr → List PlainNetDriver → PlainExpr
chain_of last [] = last
chain_of last (d ∷ ds) = before d (chain_of last ds)

abbrev pub chain_to : PlainNetTarget → PlainExpr → List PlainNetDriver → PlainExpr
chain_to t last ds = chain_of last (drivers_to t ds)
