-- Guards in the net: an expression of one level over ports and wires. A part of a guard that is no port is a wire of its own.
use Rattle.std.specs.Prelude.{ℕ, suc, ◌+◌, List, [], ◌∷◌, ◌++◌}
use Rattle.cx_meaning.specs.declared.ports.Comparison.TheVariants.{Less, AtLeast}
use Rattle.cx_meaning.specs.Designs.{PlainGuard, Always, Atom, Negation, All, Any, Compared, Within, PlainGuards, no_guards, a_guard}
use Rattle.cx_net.specs.Nets.{PlainNetExpr, OfPort, OfWire, Inverse, AllOf, AnyOf, Compares, PlainNetExprs, no_exprs, an_expr, PlainNetDriver}
use Rattle.cx_wiring.specs.Parts.{word, one, both, connect}

-- the wires of a guard's parts, in pre-order; of a part, which is one wire more unless it is a port
abbrev mutual
  pub guard_wires : PlainGuard → ℕ
  guard_wires Always = 0
  guard_wires (Atom p) = 0
  guard_wires (Negation g) = part_wires g
  guard_wires (All gs) = parts_wires gs
  guard_wires (Any gs) = parts_wires gs
  guard_wires (Compared c a b) = 0
  guard_wires (Within from to) = 0

  pub part_wires : PlainGuard → ℕ
  part_wires Always = 1
  part_wires (Atom p) = 0
  part_wires (Negation g) = suc (part_wires g)
  part_wires (All gs) = suc (parts_wires gs)
  part_wires (Any gs) = suc (parts_wires gs)
  part_wires (Compared c a b) = 1
  part_wires (Within from to) = 1

  pub parts_wires : PlainGuards → ℕ
  parts_wires no_guards = 0
  parts_wires (a_guard g gs) = part_wires g + parts_wires gs

-- a part: a port, or the wire that it has
abbrev pub part_expr : ℕ → PlainGuard → PlainNetExpr
part_expr wire Always = OfWire wire
part_expr wire (Atom p) = OfPort p.port
part_expr wire (Negation g) = OfWire wire
part_expr wire (All gs) = OfWire wire
part_expr wire (Any gs) = OfWire wire
part_expr wire (Compared c a b) = OfWire wire
part_expr wire (Within from to) = OfWire wire

abbrev pub parts_exprs : ℕ → PlainGuards → PlainNetExprs
parts_exprs wire no_guards = no_exprs
parts_exprs wire (a_guard g gs) = an_expr (part_expr wire g) (parts_exprs (wire + part_wires g) gs)

-- A GUARD over its parts, which have wires from this one on, at an offset
abbrev pub guard_expr : PlainNetExpr → ℕ → PlainGuard → PlainNetExpr
guard_expr offset wire Always = one
guard_expr offset wire (Atom p) = OfPort p.port
guard_expr offset wire (Negation g) = Inverse (part_expr wire g)
guard_expr offset wire (All gs) = AllOf (parts_exprs wire gs)
guard_expr offset wire (Any gs) = AnyOf (parts_exprs wire gs)
guard_expr offset wire (Compared c a b) = Compares c (OfPort a.port) (OfPort b.port)
guard_expr offset wire (Within from to) = both (Compares AtLeast offset (word from)) (Compares Less offset (word to))

-- what drives the wires of a guard's parts
abbrev mutual
  pub guard_drivers : PlainNetExpr → ℕ → PlainGuard → List PlainNetDriver
  guard_drivers offset wire Always = []
  guard_drivers offset wire (Atom p) = []
  guard_drivers offset wire (Negation g) = part_drivers offset wire g
  guard_drivers offset wire (All gs) = parts_drivers offset wire gs
  guard_drivers offset wire (Any gs) = parts_drivers offset wire gs
  guard_drivers offset wire (Compared c a b) = []
  guard_drivers offset wire (Within from to) = []

  pub part_drivers : PlainNetExpr → ℕ → PlainGuard → List PlainNetDriver
  part_drivers offset wire Always = connect wire (guard_expr offset (suc wire) Always) ∷ []
  part_drivers offset wire (Atom p) = []
  part_drivers offset wire (Negation g) =
      part_drivers offset (suc wire) g ++ connect wire (guard_expr offset (suc wire) (Negation g)) ∷ []
  part_drivers offset wire (All gs) =
      parts_drivers offset (suc wire) gs ++ connect wire (guard_expr offset (suc wire) (All gs)) ∷ []
  part_drivers offset wire (Any gs) =
      parts_drivers offset (suc wire) gs ++ connect wire (guard_expr offset (suc wire) (Any gs)) ∷ []
  part_drivers offset wire (Compared c a b) = connect wire (guard_expr offset (suc wire) (Compared c a b)) ∷ []
  part_drivers offset wire (Within from to) = connect wire (guard_expr offset (suc wire) (Within from to)) ∷ []

  pub parts_drivers : PlainNetExpr → ℕ → PlainGuards → List PlainNetDriver
  parts_drivers offset wire no_guards = []
  parts_drivers offset wire (a_guard g gs) = part_drivers offset wire g ++ parts_drivers offset (wire + part_wires g) gs
