-- What the drivers of guards and assignments drive: wires of their own, and the targets of the assignments.
use Rattle.std.proofs.Common.{inl, inr, ℕ, suc, ◌+◌, ◌<◌, List, [], ◌∷◌, refl}
use Rattle.cx_meaning.specs.declared.ports.PortRef.{PortRef}
use Rattle.cx_meaning.specs.declared.ports.PortRef.TheVariants as ports
use Rattle.cx_meaning.specs.Designs.{PlainGuard, Always, Atom, Negation, All, Any, Compared, Within, PlainGuards, no_guards, a_guard, PlainAssign}
use Rattle.cx_meaning.specs.Active.{Owned}
use Rattle.cx_text.specs.Members.{In}
use Rattle.cx_net.specs.Nets.{PlainNetExpr, OfPort, OfWire, PlainNetTarget, ToPort, ToHole}
use Rattle.cx_wiring.specs.Parts.{drive}
use Rattle.cx_wiring.specs.Guards.{guard_wires, part_wires, parts_wires, guard_drivers, part_drivers, parts_drivers}
use Rattle.cx_wiring.specs.Assignments.{target_of, Looks, LooksAlways, LooksIn, looks_of, gate_wires, looking_wires, assign_wires, assigns_wires, gate_drivers, gated_drivers, looking_drivers, assigns_drivers}
use Rattle.cx_wiring.specs.Bounds.{AllDrive, TargetNames, AssignsName}
use Rattle.cx_wiring.proofs.RoomLemmas.{drive_both, Wires, first_wire, later_wires, first_wires, rest_wires}

module _ (P : PlainNetTarget → Type 0) where
  module _ (offset : PlainNetExpr) where
    mutual
      pub guard_drives : (g : PlainGuard) (wire : ℕ) → Wires P wire (guard_wires g) → AllDrive P (guard_drivers offset wire g)
      guard_drives Always wire own = tt
      guard_drives (Atom p) wire own = tt
      guard_drives (Negation g) wire own = part_drives g wire own
      guard_drives (All gs) wire own = parts_drive gs wire own
      guard_drives (Any gs) wire own = parts_drive gs wire own
      guard_drives (Compared c x y) wire own = tt
      guard_drives (Within from to) wire own = tt

      pub part_drives : (g : PlainGuard) (wire : ℕ) → Wires P wire (part_wires g) → AllDrive P (part_drivers offset wire g)
      part_drives Always wire own = (first_wire P {w = wire} {n = 0} own, tt)
      part_drives (Atom p) wire own = tt
      part_drives (Negation g) wire own = drive_both P _ _ (part_drives g (suc wire) (later_wires P own)) (first_wire P own, tt)
      part_drives (All gs) wire own = drive_both P _ _ (parts_drive gs (suc wire) (later_wires P own)) (first_wire P own, tt)
      part_drives (Any gs) wire own = drive_both P _ _ (parts_drive gs (suc wire) (later_wires P own)) (first_wire P own, tt)
      part_drives (Compared c x y) wire own = (first_wire P {w = wire} {n = 0} own, tt)
      part_drives (Within from to) wire own = (first_wire P {w = wire} {n = 0} own, tt)

      pub parts_drive : (gs : PlainGuards) (wire : ℕ) → Wires P wire (parts_wires gs) → AllDrive P (parts_drivers offset wire gs)
      parts_drive no_guards wire own = tt
      parts_drive (a_guard g gs) wire own = drive_both P _ _ (part_drives g wire (first_wires P (part_wires g) (parts_wires gs) own)) (parts_drive gs (wire + part_wires g) (rest_wires P (part_wires g) (parts_wires gs) own))

  module _ (groups : ℕ) where
    gate_drives : (g : ℕ) (guard : PlainGuard) (wire : ℕ) → Wires P wire (suc (guard_wires guard)) → AllDrive P (gate_drivers groups g wire guard)
    gate_drives g guard wire own = drive_both P _ _ (guard_drives (OfWire g) guard (suc wire) (later_wires P own)) (first_wire P own, tt)

    gated_drives : (g : ℕ) (guard : PlainGuard) (wire : ℕ) (target : PlainNetTarget) (source : PlainNetExpr) → P target → Wires P wire (gate_wires guard)
        → AllDrive P (gated_drivers groups g wire guard target source)
    gated_drives g Always wire target source is own = (is, tt)
    gated_drives g (Atom p) wire target source is own = drive_both P (gate_drivers groups g wire (Atom p)) (drive target (OfWire wire) source ∷ []) (gate_drives g (Atom p) wire own) (is, tt)
    gated_drives g (Negation x) wire target source is own = drive_both P (gate_drivers groups g wire (Negation x)) (drive target (OfWire wire) source ∷ []) (gate_drives g (Negation x) wire own) (is, tt)
    gated_drives g (All gs) wire target source is own = drive_both P (gate_drivers groups g wire (All gs)) (drive target (OfWire wire) source ∷ []) (gate_drives g (All gs) wire own) (is, tt)
    gated_drives g (Any gs) wire target source is own = drive_both P (gate_drivers groups g wire (Any gs)) (drive target (OfWire wire) source ∷ []) (gate_drives g (Any gs) wire own) (is, tt)
    gated_drives g (Compared c x y) wire target source is own = drive_both P (gate_drivers groups g wire (Compared c x y)) (drive target (OfWire wire) source ∷ []) (gate_drives g (Compared c x y) wire own) (is, tt)
    gated_drives g (Within from to) wire target source is own = drive_both P (gate_drivers groups g wire (Within from to)) (drive target (OfWire wire) source ∷ []) (gate_drives g (Within from to) wire own) (is, tt)

    pub looking_drives_to : (l : Looks) (a : PlainAssign) (wire : ℕ) → P (target_of a.target) → Wires P wire (looking_wires l a.guard) → AllDrive P (looking_drivers groups l wire a)
    looking_drives_to (LooksAlways offset) a wire is own = drive_both P _ _ (guard_drives offset a.guard wire own) (is, tt)
    looking_drives_to (LooksIn g) a wire is own = gated_drives g a.guard wire (target_of a.target) (OfPort a.source.port) is own

    -- assignments drive what holds of each one's target
    pub assigns_drive_to : (list : List Owned) (wire : ℕ) → ((a : Owned) → In list a → P (target_of a.assign.target)) → Wires P wire (assigns_wires list) → AllDrive P (assigns_drivers groups wire list)
    assigns_drive_to [] wire is own = tt
    assigns_drive_to (a ∷ rest) wire is own =
        drive_both P _ _ (looking_drives_to (looks_of a.owner a.assign.target) a.assign wire (is a (inl refl)) (first_wires P (assign_wires a) (assigns_wires rest) own))
        (assigns_drive_to rest (wire + assign_wires a) (λ b i. is b (inr i)) (rest_wires P (assign_wires a) (assigns_wires rest) own))

  module _ (port : (p : PortRef) → P (ToPort p)) (groups : ℕ) (hole : (g : ℕ) → g < groups → P (ToHole g)) where
    pub target_drives : (p : PortRef) → TargetNames groups p → P (target_of p)
    target_drives (ports.Cell c p) named = port _
    target_drives (ports.Input n) named = port _
    target_drives (ports.Output n) named = port _
    target_drives (ports.Done g) named = hole g named
    target_drives (ports.Literal w v) named = port _

    pub looking_drives : (l : Looks) (a : PlainAssign) (wire : ℕ) → TargetNames groups a.target → Wires P wire (looking_wires l a.guard) → AllDrive P (looking_drivers groups l wire a)
    looking_drives l a wire named own = looking_drives_to groups l a wire (target_drives a.target named) own

    -- THE ASSIGNMENTS of a component
    pub assigns_drive : (list : List Owned) (wire : ℕ) → AssignsName groups list → Wires P wire (assigns_wires list) → AllDrive P (assigns_drivers groups wire list)
    assigns_drive [] wire named own = tt
    assigns_drive (a ∷ rest) wire named own =
        drive_both P _ _ (looking_drives (looks_of a.owner a.assign.target) a.assign wire named.0 (first_wires P (assign_wires a) (assigns_wires rest) own))
        (assigns_drive rest (wire + assign_wires a) named.1 (rest_wires P (assign_wires a) (assigns_wires rest) own))
