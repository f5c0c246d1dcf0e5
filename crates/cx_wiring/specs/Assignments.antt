-- Assignments in the net. In a group an assignment drives where the group goes and its guard is 1; its guard is looked at only
-- there.
use Rattle.std.specs.Prelude.{ℕ, suc, ◌+◌, ◌||◌, Bool, true, false, nat_eq, List, [], ◌∷◌, ◌++◌, Option, Some, None, slice_get, option_map, filter}
use Rattle.cx_meaning.specs.declared.ports.PortRef.{PortRef}
use Rattle.cx_meaning.specs.declared.ports.PortRef.TheVariants as ports
use Rattle.cx_meaning.specs.declared.kinds.GroupKind.{GroupKind}
use Rattle.cx_meaning.specs.declared.kinds.GroupKind.TheVariants as kinds
use Rattle.cx_meaning.specs.Designs.{PlainGuard, Always, Atom, Negation, All, Any, Compared, Within, PlainAssign}
use Rattle.cx_meaning.specs.Active.{Owned, source_order}
use Rattle.cx_net.specs.Nets.{PlainNetExpr, OfPort, OfWire, OfHole, PlainNetTarget, ToPort, ToWire, ToHole, PlainNetDriver}
use Rattle.cx_static.specs.Islands.{PlainOccurrence, PlainIsland, PlainLowered}
use Rattle.cx_wiring.specs.Parts.{word, drive}
use Rattle.cx_wiring.specs.Guards.{guard_wires, guard_expr, guard_drivers}

-- the group has an occurrence in an island
abbrev pub occurs_among : ℕ → List PlainOccurrence → Bool
occurs_among g [] = false
occurs_among g (o ∷ rest) = nat_eq o.group g || occurs_among g rest

abbrev pub occurs_in : ℕ → List PlainIsland → Bool
occurs_in g [] = false
occurs_in g (island ∷ rest) = occurs_among g island.occurrences || occurs_in g rest

-- LEFT OUT are the assignments of static groups without an occurrence, which never go
abbrev pub kind_drives : Bool → Option GroupKind → Bool
kind_drives occurs None = false
kind_drives occurs (Some kinds.Plain) = true
kind_drives occurs (Some kinds.Comb) = true
kind_drives occurs (Some (kinds.Timed cycles)) = occurs

abbrev pub owner_drives : PlainLowered → Option ℕ → Bool
owner_drives lowered None = true
owner_drives lowered (Some g) =
    kind_drives (occurs_in g lowered.islands)
    (option_map (λ group. group.kind) (slice_get lowered.part.groups g))

abbrev pub is_driven : PlainLowered → Owned → Bool
is_driven lowered a = owner_drives lowered a.owner

-- the assignments that stand in the net, in source order
abbrev pub driven_assigns : PlainLowered → List Owned
driven_assigns lowered = filter (is_driven lowered) (source_order lowered.part)

abbrev pub target_of : PortRef → PlainNetTarget
target_of (ports.Cell c p) = ToPort (ports.Cell c p)
target_of (ports.Input n) = ToPort (ports.Input n)
target_of (ports.Output n) = ToPort (ports.Output n)
target_of (ports.Done g) = ToHole g
target_of (ports.Literal w v) = ToPort (ports.Literal w v)

-- an assignment looks at its guard always, or only where a group goes
pub data Looks : Type 0 where
  LooksAlways : (offset : PlainNetExpr) → Looks
  LooksIn : (group : ℕ) → Looks

-- continuous assignments look always, at the offset 0; so do those of a done, since holes rest on states alone
abbrev pub looks_of : Option ℕ → PortRef → Looks
looks_of None target = LooksAlways (word 0)
looks_of (Some g) (ports.Done h) = LooksAlways (OfWire g)
looks_of (Some g) (ports.Cell c p) = LooksIn g
looks_of (Some g) (ports.Input n) = LooksIn g
looks_of (Some g) (ports.Output n) = LooksIn g
looks_of (Some g) (ports.Literal w v) = LooksIn g

-- a guard in a group has a gate, unless it is none: a wire before those of its parts, which looks at it where the group goes
abbrev pub gate_wires : PlainGuard → ℕ
gate_wires Always = 0
gate_wires (Atom p) = suc (guard_wires (Atom p))
gate_wires (Negation g) = suc (guard_wires (Negation g))
gate_wires (All gs) = suc (guard_wires (All gs))
gate_wires (Any gs) = suc (guard_wires (Any gs))
gate_wires (Compared c a b) = suc (guard_wires (Compared c a b))
gate_wires (Within from to) = suc (guard_wires (Within from to))

abbrev pub looking_wires : Looks → PlainGuard → ℕ
looking_wires (LooksAlways offset) guard = guard_wires guard
looking_wires (LooksIn g) guard = gate_wires guard

abbrev pub assign_wires : Owned → ℕ
assign_wires a = looking_wires (looks_of a.owner a.assign.target) a.assign.guard

abbrev pub assigns_wires : List Owned → ℕ
assigns_wires [] = 0
assigns_wires (a ∷ rest) = assign_wires a + assigns_wires rest

-- a component of so many groups
module _ (groups : ℕ) where
  abbrev pub go : ℕ → PlainNetExpr
  go g = OfHole (groups + g)

  abbrev pub gate_drivers : ℕ → ℕ → PlainGuard → List PlainNetDriver
  gate_drivers g wire guard =
      guard_drivers (OfWire g) (suc wire) guard
      ++ drive (ToWire wire) (go g) (guard_expr (OfWire g) (suc wire) guard) ∷ []

  abbrev pub gated_drivers : ℕ → ℕ → PlainGuard → PlainNetTarget → PlainNetExpr → List PlainNetDriver
  gated_drivers g wire Always target source = drive target (go g) source ∷ []
  gated_drivers g wire (Atom p) target source = gate_drivers g wire (Atom p) ++ drive target (OfWire wire) source ∷ []
  gated_drivers g wire (Negation h) target source =
      gate_drivers g wire (Negation h) ++ drive target (OfWire wire) source ∷ []
  gated_drivers g wire (All gs) target source = gate_drivers g wire (All gs) ++ drive target (OfWire wire) source ∷ []
  gated_drivers g wire (Any gs) target source = gate_drivers g wire (Any gs) ++ drive target (OfWire wire) source ∷ []
  gated_drivers g wire (Compared c a b) target source =
      gate_drivers g wire (Compared c a b) ++ drive target (OfWire wire) source ∷ []
  gated_drivers g wire (Within from to) target source =
      gate_drivers g wire (Within from to) ++ drive target (OfWire wire) source ∷ []

  -- an assignment whose wires begin with this one
  abbrev pub looking_drivers : Looks → ℕ → PlainAssign → List PlainNetDriver
  looking_drivers (LooksAlways offset) wire a =
      guard_drivers offset wire a.guard
      ++ drive (target_of a.target) (guard_expr offset wire a.guard) (OfPort a.source.port) ∷ []
  looking_drivers (LooksIn g) wire a = gated_drivers g wire a.guard (target_of a.target) (OfPort a.source.port)

  abbrev pub assign_drivers : ℕ → Owned → List PlainNetDriver
  assign_drivers wire a = looking_drivers (looks_of a.owner a.assign.target) wire a.assign

  -- ASSIGNMENTS, in source order, with the first of their wires
  abbrev pub assigns_drivers : ℕ → List Owned → List PlainNetDriver
  assigns_drivers wire [] = []
  assigns_drivers wire (a ∷ rest) = assign_drivers wire a ++ assigns_drivers (wire + assign_wires a) rest
