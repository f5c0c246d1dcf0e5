-- How many wires and drivers the assignments of a component have: a wire and two drivers for each unit of their size at most.
use Rattle.std.proofs.Common.{◌≡◌, ℕ, suc, ◌+◌, ◌≤◌, Bool, true, false, cond, not, if◌then◌else◌, List, [], ◌∷◌, ◌++◌, length, Option, Some, None, refl, ap, arith, length-append}
use Rattle.std.specs.Prelude.{filter, flat_map}
use Rattle.cx_meaning.specs.Designs.{PlainGuard, Always, Atom, Negation, All, Any, Compared, Within, PlainGuards, no_guards, a_guard, PlainAssign, PlainGroup, PlainComponent}
use Rattle.cx_meaning.specs.Active.{Owned, owned, owned_by_groups, no_later, placed_in, by_place, source_order}
use Rattle.cx_rules.specs.Items.{guard_nodes, nodes_in}
use Rattle.cx_rules.specs.Sizes.{assigns_size, groups_size}
use Rattle.cx_net.specs.Nets.{PlainNetExpr, OfPort, OfWire, PlainNetTarget, PlainNetDriver}
use Rattle.cx_wiring.specs.Parts.{drive, connect}
use Rattle.cx_wiring.specs.Guards.{guard_wires, part_wires, parts_wires, guard_expr, guard_drivers, part_drivers, parts_drivers}
use Rattle.cx_wiring.specs.Assignments.{target_of, Looks, LooksAlways, LooksIn, looks_of, gate_wires, looking_wires, assign_wires, assigns_wires, gate_drivers, gated_drivers, looking_drivers, assign_drivers, assigns_drivers}
use Rattle.cx_wiring.specs.Trees.{goes_before, placed_among, by_target, Driven, driven, pairs, tree_widths}
use Rattle.cx_wiring.specs.Nesting.{IsPart, AreParts, HasParts}
use Rattle.cx_wiring.proofs.OrderLaws.{driven_keeps}
use Rattle.cx_wiring.proofs.TreeDrivers.{entries_long}
use Rattle.cx_wiring.proofs.PairCounts.{pairs_few}

-- GUARDS: a wire and a driver for each node at most
mutual
  part_wires_few : (g : PlainGuard) → IsPart g → part_wires g ≤ guard_nodes g
  part_wires_few Always is = absurd is
  part_wires_few (Atom p) is = omega arith
  part_wires_few (Negation g) is = let h : part_wires g ≤ guard_nodes g = part_wires_few g is in omega arith
  part_wires_few (All gs) is = let h : parts_wires gs ≤ nodes_in gs = parts_wires_few gs is in omega arith
  part_wires_few (Any gs) is = let h : parts_wires gs ≤ nodes_in gs = parts_wires_few gs is in omega arith
  part_wires_few (Compared c a b) is = omega arith
  part_wires_few (Within from to) is = omega arith

  parts_wires_few : (gs : PlainGuards) → AreParts gs → parts_wires gs ≤ nodes_in gs
  parts_wires_few no_guards are = omega arith
  parts_wires_few (a_guard g gs) are =
      let h : part_wires g ≤ guard_nodes g = part_wires_few g are.0 in
      let k : parts_wires gs ≤ nodes_in gs = parts_wires_few gs are.1 in
      omega arith

guard_wires_few : (g : PlainGuard) → HasParts g → guard_wires g ≤ guard_nodes g
guard_wires_few Always is = omega arith
guard_wires_few (Atom p) is = omega arith
guard_wires_few (Negation g) is = let h : part_wires g ≤ guard_nodes g = part_wires_few g is in omega arith
guard_wires_few (All gs) is = let h : parts_wires gs ≤ nodes_in gs = parts_wires_few gs is in omega arith
guard_wires_few (Any gs) is = let h : parts_wires gs ≤ nodes_in gs = parts_wires_few gs is in omega arith
guard_wires_few (Compared c a b) is = omega arith
guard_wires_few (Within from to) is = omega arith

module _ (offset : PlainNetExpr) where
  mutual
    part_count : (g : PlainGuard) (wire : ℕ) → length (part_drivers offset wire g) ≤ part_wires g
    part_count Always wire = omega arith
    part_count (Atom p) wire = omega arith
    part_count (Negation g) wire =
        let h : length (part_drivers offset (suc wire) g) ≤ part_wires g = part_count g (suc wire) in
        omega (arith, length-append (part_drivers offset (suc wire) g) (connect wire (guard_expr offset (suc wire) (Negation g)) ∷ []))
    part_count (All gs) wire =
        let h : length (parts_drivers offset (suc wire) gs) ≤ parts_wires gs = parts_count gs (suc wire) in
        omega (arith, length-append (parts_drivers offset (suc wire) gs) (connect wire (guard_expr offset (suc wire) (All gs)) ∷ []))
    part_count (Any gs) wire =
        let h : length (parts_drivers offset (suc wire) gs) ≤ parts_wires gs = parts_count gs (suc wire) in
        omega (arith, length-append (parts_drivers offset (suc wire) gs) (connect wire (guard_expr offset (suc wire) (Any gs)) ∷ []))
    part_count (Compared c a b) wire = omega arith
    part_count (Within from to) wire = omega arith

    parts_count : (gs : PlainGuards) (wire : ℕ) → length (parts_drivers offset wire gs) ≤ parts_wires gs
    parts_count no_guards wire = omega arith
    parts_count (a_guard g gs) wire =
        let h : length (part_drivers offset wire g) ≤ part_wires g = part_count g wire in
        let k : length (parts_drivers offset (wire + part_wires g) gs) ≤ parts_wires gs = parts_count gs (wire + part_wires g) in
        omega (arith, length-append (part_drivers offset wire g) (parts_drivers offset (wire + part_wires g) gs))

  guard_count : (g : PlainGuard) (wire : ℕ) → length (guard_drivers offset wire g) ≤ guard_wires g
  guard_count Always wire = omega arith
  guard_count (Atom p) wire = omega arith
  guard_count (Negation g) wire = part_count g wire
  guard_count (All gs) wire = parts_count gs wire
  guard_count (Any gs) wire = parts_count gs wire
  guard_count (Compared c a b) wire = omega arith
  guard_count (Within from to) wire = omega arith

-- ASSIGNMENTS
abbrev pub units : List Owned → ℕ
units [] = 0
units (a ∷ rest) = suc (guard_nodes a.assign.guard) + units rest

gate_few : (g : PlainGuard) → HasParts g → gate_wires g ≤ suc (guard_nodes g)
gate_few Always is = omega arith
gate_few (Atom p) is = let h : guard_wires (Atom p) ≤ guard_nodes (Atom p) = guard_wires_few (Atom p) is in omega arith
gate_few (Negation g) is = let h : guard_wires (Negation g) ≤ guard_nodes (Negation g) = guard_wires_few (Negation g) is in omega arith
gate_few (All gs) is = let h : guard_wires (All gs) ≤ guard_nodes (All gs) = guard_wires_few (All gs) is in omega arith
gate_few (Any gs) is = let h : guard_wires (Any gs) ≤ guard_nodes (Any gs) = guard_wires_few (Any gs) is in omega arith
gate_few (Compared c a b) is = let h : guard_wires (Compared c a b) ≤ guard_nodes (Compared c a b) = guard_wires_few (Compared c a b) is in omega arith
gate_few (Within from to) is = let h : guard_wires (Within from to) ≤ guard_nodes (Within from to) = guard_wires_few (Within from to) is in omega arith

looking_few : (l : Looks) (g : PlainGuard) → HasParts g → looking_wires l g ≤ suc (guard_nodes g)
looking_few (LooksAlways offset) g is = let h : guard_wires g ≤ guard_nodes g = guard_wires_few g is in omega arith
looking_few (LooksIn group) g is = gate_few g is

module _ (groups : ℕ) where
  behind_gate_count : (g wire : ℕ) (guard : PlainGuard) (target : PlainNetTarget) (source : PlainNetExpr) → HasParts guard
      → length (gate_drivers groups g wire guard ++ drive target (OfWire wire) source ∷ []) ≤ suc (guard_nodes guard) + suc (guard_nodes guard)
  behind_gate_count g wire guard target source is =
      let own : guard_wires guard ≤ guard_nodes guard = guard_wires_few guard is in
      let few : length (guard_drivers (OfWire g) (suc wire) guard) ≤ guard_wires guard = guard_count (OfWire g) guard (suc wire) in
      let gate : length (gate_drivers groups g wire guard) ≡ length (guard_drivers (OfWire g) (suc wire) guard) + 1 = length-append (guard_drivers (OfWire g) (suc wire) guard) _ in
      let all : length (gate_drivers groups g wire guard ++ drive target (OfWire wire) source ∷ []) ≡ length (gate_drivers groups g wire guard) + 1 = length-append (gate_drivers groups g wire guard) (drive target (OfWire wire) source ∷ []) in
      omega arith

  gated_count : (g wire : ℕ) (guard : PlainGuard) (target : PlainNetTarget) (source : PlainNetExpr) → HasParts guard → length (gated_drivers groups g wire guard target source) ≤ suc (guard_nodes guard) + suc (guard_nodes guard)
  gated_count g wire Always target source is = omega arith
  gated_count g wire (Atom p) target source is = behind_gate_count g wire (Atom p) target source is
  gated_count g wire (Negation x) target source is = behind_gate_count g wire (Negation x) target source is
  gated_count g wire (All gs) target source is = behind_gate_count g wire (All gs) target source is
  gated_count g wire (Any gs) target source is = behind_gate_count g wire (Any gs) target source is
  gated_count g wire (Compared c x y) target source is = behind_gate_count g wire (Compared c x y) target source is
  gated_count g wire (Within from to) target source is = behind_gate_count g wire (Within from to) target source is

  looking_count : (l : Looks) (wire : ℕ) (a : PlainAssign) → HasParts a.guard → length (looking_drivers groups l wire a) ≤ suc (guard_nodes a.guard) + suc (guard_nodes a.guard)
  looking_count (LooksAlways offset) wire a is =
      let own : guard_wires a.guard ≤ guard_nodes a.guard = guard_wires_few a.guard is in
      let few : length (guard_drivers offset wire a.guard) ≤ guard_wires a.guard = guard_count offset a.guard wire in
      omega (arith, length-append (guard_drivers offset wire a.guard) (drive (target_of a.target) (guard_expr offset wire a.guard) (OfPort a.source.port) ∷ []))
  looking_count (LooksIn g) wire a is = gated_count g wire a.guard (target_of a.target) (OfPort a.source.port) is

  abbrev pub AllParts : List Owned → Type 0
  AllParts [] = Unit {0}
  AllParts (a ∷ rest) = HasParts a.assign.guard × AllParts rest

  pub assigns_wires_few : (list : List Owned) → AllParts list → assigns_wires list ≤ units list
  assigns_wires_few [] are = omega arith
  assigns_wires_few (a ∷ rest) are =
      let h : assign_wires a ≤ suc (guard_nodes a.assign.guard) = looking_few (looks_of a.owner a.assign.target) a.assign.guard are.0 in
      let k : assigns_wires rest ≤ units rest = assigns_wires_few rest are.1 in
      omega arith

  pub assigns_count : (list : List Owned) (wire : ℕ) → AllParts list → length (assigns_drivers groups wire list) ≤ units list + units list
  assigns_count [] wire are = omega arith
  assigns_count (a ∷ rest) wire are =
      let h : length (assign_drivers groups wire a) ≤ suc (guard_nodes a.assign.guard) + suc (guard_nodes a.assign.guard) = looking_count (looks_of a.owner a.assign.target) wire a.assign are.0 in
      let k : length (assigns_drivers groups (wire + assign_wires a) rest) ≤ units rest + units rest = assigns_count rest (wire + assign_wires a) are.1 in
      let all : length (assign_drivers groups wire a ++ assigns_drivers groups (wire + assign_wires a) rest) ≡ length (assign_drivers groups wire a) + length (assigns_drivers groups (wire + assign_wires a) rest) =
      length-append (assign_drivers groups wire a) (assigns_drivers groups (wire + assign_wires a) rest) in
      omega arith

-- UNITS of a component's assignments are their size
units-append : (xs ys : List Owned) → units (xs ++ ys) ≡ units xs + units ys
units-append [] ys = omega arith
units-append (x ∷ xs) ys = let h : units (xs ++ ys) ≡ units xs + units ys = units-append xs ys in omega arith

units_owned : (owner : Option ℕ) (list : List PlainAssign) → units (owned owner list) ≡ assigns_size list
units_owned owner [] = refl
units_owned owner (a ∷ list) = let h : units (owned owner list) ≡ assigns_size list = units_owned owner list in omega arith

units_groups : (n : ℕ) (groups : List PlainGroup) → length groups + units (owned_by_groups n groups) ≡ groups_size groups
units_groups n [] = omega arith
units_groups n (x ∷ groups) =
    let h : length groups + units (owned_by_groups (suc n) groups) ≡ groups_size groups = units_groups (suc n) groups in
    let own : units (owned (Some n) x.assigns) ≡ assigns_size x.assigns = units_owned (Some n) x.assigns in
    let all : units (owned (Some n) x.assigns ++ owned_by_groups (suc n) groups) ≡ units (owned (Some n) x.assigns) + units (owned_by_groups (suc n) groups) = units-append (owned (Some n) x.assigns) (owned_by_groups (suc n) groups) in
    omega arith

units_placed : (a : Owned) (list : List Owned) → units (placed_in a list) ≡ suc (guard_nodes a.assign.guard) + units list
units_placed a [] = omega arith
units_placed a (b ∷ list) = choice (no_later a.assign.place b.assign.place) (units_placed a list)
  where
    choice : (t : Bool) → units (placed_in a list) ≡ suc (guard_nodes a.assign.guard) + units list → units (if t then a ∷ b ∷ list else b ∷ placed_in a list) ≡ suc (guard_nodes a.assign.guard) + units (b ∷ list)
    choice true h = omega arith
    choice false h = omega arith

units_by_place : (list : List Owned) → units (by_place list) ≡ units list
units_by_place [] = refl
units_by_place (a ∷ list) =
    let h : units (by_place list) ≡ units list = units_by_place list in
    let k : units (placed_in a (by_place list)) ≡ suc (guard_nodes a.assign.guard) + units (by_place list) = units_placed a (by_place list) in
    omega arith

pub units_filter : (p : Owned → Bool) (list : List Owned) → units (filter p list) ≤ units list
units_filter p [] = omega arith
units_filter p (a ∷ list) = choice (p a) (units_filter p list)
  where
    choice : (t : Bool) → units (filter p list) ≤ units list → units (cond t (a ∷ filter p list) (filter p list)) ≤ units (a ∷ list)
    choice true h = omega arith
    choice false h = omega arith

pub units_order : (part : PlainComponent) → length part.groups + units (source_order part) ≡ assigns_size part.always + groups_size part.groups
units_order part =
    let all : units (source_order part) ≡ units (owned None part.always ++ owned_by_groups 0 part.groups) = units_by_place (owned None part.always ++ owned_by_groups 0 part.groups) in
    let both : units (owned None part.always ++ owned_by_groups 0 part.groups) ≡ units (owned None part.always) + units (owned_by_groups 0 part.groups) = units-append (owned None part.always) (owned_by_groups 0 part.groups) in
    let first : units (owned None part.always) ≡ assigns_size part.always = units_owned None part.always in
    let second : length part.groups + units (owned_by_groups 0 part.groups) ≡ groups_size part.groups = units_groups 0 part.groups in
    omega arith

-- THE WIRES OF TREES are no more than the drivers
length_placed : (d : PlainNetDriver) (ds : List PlainNetDriver) → length (placed_among d ds) ≡ suc (length ds)
length_placed d [] = refl
length_placed d (e ∷ es) = choice (goes_before e d) (length_placed d es)
  where
    choice : (t : Bool) → length (placed_among d es) ≡ suc (length es) → length (if not t then d ∷ e ∷ es else e ∷ placed_among d es) ≡ suc (length (e ∷ es))
    choice true h = omega arith
    choice false h = omega arith

length_by_target : (ds : List PlainNetDriver) → length (by_target ds) ≡ length ds
length_by_target [] = refl
length_by_target (d ∷ ds) =
    let h : length (by_target ds) ≡ length ds = length_by_target ds in
    let k : length (placed_among d (by_target ds)) ≡ suc (length (by_target ds)) = length_placed d (by_target ds) in
    omega arith

tree_widths_few : (width : PlainNetTarget → ℕ) (ts : List Driven) → length (tree_widths width ts) ≤ length (flat_map (λ (t : Driven). t.drivers) ts)
tree_widths_few width [] = omega arith
tree_widths_few width (t ∷ ts) =
    let h : length (tree_widths width ts) ≤ length (flat_map (λ (x : Driven). x.drivers) ts) = tree_widths_few width ts in
    let own : pairs (length t.drivers) + pairs (length t.drivers) ≤ length t.drivers = pairs_few (length t.drivers) in
    let left : length (tree_widths width (t ∷ ts)) ≡ (pairs (length t.drivers) + pairs (length t.drivers)) + length (tree_widths width ts) = entries_long width t ts in
    let right : length (t.drivers ++ flat_map (λ (x : Driven). x.drivers) ts) ≡ length t.drivers + length (flat_map (λ (x : Driven). x.drivers) ts) = length-append t.drivers (flat_map (λ (x : Driven). x.drivers) ts) in
    omega arith

pub all_trees_few : (width : PlainNetTarget → ℕ) (ds : List PlainNetDriver) → length (tree_widths width (driven (by_target ds))) ≤ length ds
all_trees_few width ds =
    let h : length (tree_widths width (driven (by_target ds))) ≤ length (flat_map (λ (t : Driven). t.drivers) (driven (by_target ds))) = tree_widths_few width (driven (by_target ds)) in
    let flat : length (flat_map (λ (t : Driven). t.drivers) (driven (by_target ds))) ≡ length (by_target ds) = ap length (driven_keeps (by_target ds)) in
    let all : length (by_target ds) ≡ length ds = length_by_target ds in
    omega arith
