-- What the drivers of assignments cost: 370 for each assignment and each node of its guard at most.
use Rattle.std.proofs.Common.{◌≡◌, ℕ, suc, ◌+◌, ◌*◌, ◌≤◌, List, [], ◌∷◌, ◌++◌, Option, Some, None, arith}
use Rattle.cx_meaning.specs.declared.ports.PortRef.{PortRef}
use Rattle.cx_meaning.specs.declared.ports.PortRef.TheVariants as ports
use Rattle.cx_meaning.specs.Designs.{PlainGuard, Always, Atom, Negation, All, Any, Compared, Within, PlainGuards, no_guards, a_guard, PlainAssign}
use Rattle.cx_meaning.specs.Active.{Owned}
use Rattle.cx_rules.specs.Items.{guard_nodes, nodes_in}
use Rattle.cx_net.specs.Nets.{PlainNetExpr, OfPort, OfWire, PlainNetTarget, ToWire}
use Rattle.cx_wiring.specs.Parts.{drive, connect}
use Rattle.cx_wiring.specs.Guards.{part_wires, part_expr, parts_exprs, guard_expr, guard_drivers, part_drivers, parts_drivers}
use Rattle.cx_wiring.specs.Assignments.{target_of, Looks, LooksAlways, LooksIn, looks_of, go, gate_drivers, gated_drivers, looking_drivers, assign_wires, assign_drivers, assigns_drivers}
use Rattle.cx_wiring.specs.Nesting.{IsPart, AreParts, HasParts}
use Rattle.cx_wiring.proofs.AssignCounts.{units, AllParts}
use Rattle.cx_emitted.proofs.NetBytes.{expr_cost, exprs_cost, all_few, any_few, drivers_cost, drivers_cost-append}

-- GUARDS
module _ (offset : PlainNetExpr) (brief : expr_cost offset ≤ 42) where
  mutual
    -- a part, with what stands for it twice in the guard around it
    part_cost : (g : PlainGuard) (wire : ℕ) → IsPart g → drivers_cost (part_drivers offset wire g) + (expr_cost (part_expr wire g) + expr_cost (part_expr wire g)) ≤ 370 * guard_nodes g
    part_cost Always wire is = absurd is
    part_cost (Atom p) wire is = omega arith
    part_cost (Negation g) wire is =
        let h : drivers_cost (part_drivers offset (suc wire) g) + (expr_cost (part_expr (suc wire) g) + expr_cost (part_expr (suc wire) g)) ≤ 370 * guard_nodes g = part_cost g (suc wire) is in
        omega (arith, drivers_cost-append (part_drivers offset (suc wire) g) (connect wire (guard_expr offset (suc wire) (Negation g)) ∷ []))
    part_cost (All gs) wire is =
        let h : drivers_cost (parts_drivers offset (suc wire) gs) + (exprs_cost (parts_exprs (suc wire) gs) + exprs_cost (parts_exprs (suc wire) gs)) ≤ 370 * nodes_in gs = parts_cost gs (suc wire) is in
        omega (arith, all_few (parts_exprs (suc wire) gs), drivers_cost-append (parts_drivers offset (suc wire) gs) (connect wire (guard_expr offset (suc wire) (All gs)) ∷ []))
    part_cost (Any gs) wire is =
        let h : drivers_cost (parts_drivers offset (suc wire) gs) + (exprs_cost (parts_exprs (suc wire) gs) + exprs_cost (parts_exprs (suc wire) gs)) ≤ 370 * nodes_in gs = parts_cost gs (suc wire) is in
        omega (arith, any_few (parts_exprs (suc wire) gs), drivers_cost-append (parts_drivers offset (suc wire) gs) (connect wire (guard_expr offset (suc wire) (Any gs)) ∷ []))
    part_cost (Compared c a b) wire is = omega arith
    part_cost (Within from to) wire is = omega arith

    parts_cost : (gs : PlainGuards) (wire : ℕ) → AreParts gs → drivers_cost (parts_drivers offset wire gs) + (exprs_cost (parts_exprs wire gs) + exprs_cost (parts_exprs wire gs)) ≤ 370 * nodes_in gs
    parts_cost no_guards wire are = omega arith
    parts_cost (a_guard g gs) wire are =
        let h : drivers_cost (part_drivers offset wire g) + (expr_cost (part_expr wire g) + expr_cost (part_expr wire g)) ≤ 370 * guard_nodes g = part_cost g wire are.0 in
        let k : drivers_cost (parts_drivers offset (wire + part_wires g) gs) + (exprs_cost (parts_exprs (wire + part_wires g) gs) + exprs_cost (parts_exprs (wire + part_wires g) gs)) ≤ 370 * nodes_in gs = parts_cost gs (wire + part_wires g) are.1 in
        omega (arith, drivers_cost-append (part_drivers offset wire g) (parts_drivers offset (wire + part_wires g) gs))

  guard_cost : (g : PlainGuard) (wire : ℕ) → HasParts g → drivers_cost (guard_drivers offset wire g) + (expr_cost (guard_expr offset wire g) + expr_cost (guard_expr offset wire g)) ≤ 84 + 370 * guard_nodes g
  guard_cost Always wire is = omega arith
  guard_cost (Atom p) wire is = omega arith
  guard_cost (Negation g) wire is = let h : drivers_cost (part_drivers offset wire g) + (expr_cost (part_expr wire g) + expr_cost (part_expr wire g)) ≤ 370 * guard_nodes g = part_cost g wire is in omega arith
  guard_cost (All gs) wire is = let h : drivers_cost (parts_drivers offset wire gs) + (exprs_cost (parts_exprs wire gs) + exprs_cost (parts_exprs wire gs)) ≤ 370 * nodes_in gs = parts_cost gs wire is in omega (arith, all_few (parts_exprs wire gs))
  guard_cost (Any gs) wire is = let h : drivers_cost (parts_drivers offset wire gs) + (exprs_cost (parts_exprs wire gs) + exprs_cost (parts_exprs wire gs)) ≤ 370 * nodes_in gs = parts_cost gs wire is in omega (arith, any_few (parts_exprs wire gs))
  guard_cost (Compared c a b) wire is = omega arith
  guard_cost (Within from to) wire is = omega arith

abbrev LooksBriefly : Looks → Type 0
LooksBriefly (LooksAlways offset) = expr_cost offset ≤ 42
LooksBriefly (LooksIn g) = Unit {0}

looks_brief : (owner : Option ℕ) (target : PortRef) → LooksBriefly (looks_of owner target)
looks_brief None target = omega arith
looks_brief (Some g) (ports.Done h) = omega arith
looks_brief (Some g) (ports.Cell c p) = tt
looks_brief (Some g) (ports.Input n) = tt
looks_brief (Some g) (ports.Output n) = tt
looks_brief (Some g) (ports.Literal w v) = tt

-- ASSIGNMENTS
module _ (groups : ℕ) where
  behind_gate_cost : (g wire : ℕ) (guard : PlainGuard) (target : PlainNetTarget) (p : PortRef) → HasParts guard → drivers_cost (gate_drivers groups g wire guard ++ drive target (OfWire wire) (OfPort p) ∷ []) ≤ 370 * suc (guard_nodes guard)
  behind_gate_cost g wire guard target p is =
      let brief : 16 ≤ 42 = omega arith in
      let own : drivers_cost (guard_drivers (OfWire g) (suc wire) guard) + (expr_cost (guard_expr (OfWire g) (suc wire) guard) + expr_cost (guard_expr (OfWire g) (suc wire) guard)) ≤ 84 + 370 * guard_nodes guard = guard_cost (OfWire g) brief guard (suc wire) is in
      let gate : drivers_cost (gate_drivers groups g wire guard) ≡ drivers_cost (guard_drivers (OfWire g) (suc wire) guard) + drivers_cost (drive (ToWire wire) (go groups g) (guard_expr (OfWire g) (suc wire) guard) ∷ []) = drivers_cost-append (guard_drivers (OfWire g) (suc wire) guard) _ in
      let all : drivers_cost (gate_drivers groups g wire guard ++ drive target (OfWire wire) (OfPort p) ∷ []) ≡ drivers_cost (gate_drivers groups g wire guard) + drivers_cost (drive target (OfWire wire) (OfPort p) ∷ []) = drivers_cost-append (gate_drivers groups g wire guard) (drive target (OfWire wire) (OfPort p) ∷ []) in
      omega arith

  gated_cost : (g wire : ℕ) (guard : PlainGuard) (target : PlainNetTarget) (p : PortRef) → HasParts guard → drivers_cost (gated_drivers groups g wire guard target (OfPort p)) ≤ 370 * suc (guard_nodes guard)
  gated_cost g wire Always target p is = omega arith
  gated_cost g wire (Atom x) target p is = behind_gate_cost g wire (Atom x) target p is
  gated_cost g wire (Negation x) target p is = behind_gate_cost g wire (Negation x) target p is
  gated_cost g wire (All gs) target p is = behind_gate_cost g wire (All gs) target p is
  gated_cost g wire (Any gs) target p is = behind_gate_cost g wire (Any gs) target p is
  gated_cost g wire (Compared c x y) target p is = behind_gate_cost g wire (Compared c x y) target p is
  gated_cost g wire (Within from to) target p is = behind_gate_cost g wire (Within from to) target p is

  looking_cost : (l : Looks) (wire : ℕ) (a : PlainAssign) → LooksBriefly l → HasParts a.guard → drivers_cost (looking_drivers groups l wire a) ≤ 370 * suc (guard_nodes a.guard)
  looking_cost (LooksAlways offset) wire a brief is =
      let own : drivers_cost (guard_drivers offset wire a.guard) + (expr_cost (guard_expr offset wire a.guard) + expr_cost (guard_expr offset wire a.guard)) ≤ 84 + 370 * guard_nodes a.guard = guard_cost offset brief a.guard wire is in
      omega (arith, drivers_cost-append (guard_drivers offset wire a.guard) (drive (target_of a.target) (guard_expr offset wire a.guard) (OfPort a.source.port) ∷ []))
  looking_cost (LooksIn g) wire a brief is = gated_cost g wire a.guard (target_of a.target) a.source.port is

  pub assigns_cost : (list : List Owned) (wire : ℕ) → AllParts groups list → drivers_cost (assigns_drivers groups wire list) ≤ 370 * units list
  assigns_cost [] wire are = omega arith
  assigns_cost (a ∷ rest) wire are =
      let h : drivers_cost (assign_drivers groups wire a) ≤ 370 * suc (guard_nodes a.assign.guard) = looking_cost (looks_of a.owner a.assign.target) wire a.assign (looks_brief a.owner a.assign.target) are.0 in
      let k : drivers_cost (assigns_drivers groups (wire + assign_wires a) rest) ≤ 370 * units rest = assigns_cost rest (wire + assign_wires a) are.1 in
      let all : drivers_cost (assign_drivers groups wire a ++ assigns_drivers groups (wire + assign_wires a) rest) ≡ drivers_cost (assign_drivers groups wire a) + drivers_cost (assigns_drivers groups (wire + assign_wires a) rest) =
      drivers_cost-append (assign_drivers groups wire a) (assigns_drivers groups (wire + assign_wires a) rest) in
      omega arith
