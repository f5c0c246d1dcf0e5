-- The drivers of guards and assignments fit where their ports do.
use Rattle.std.proofs.Common.{◌≡◌, ℕ, suc, ◌+◌, ◌<◌, List, [], ◌∷◌, ◌++◌, Option, Some, None, slice_get, refl, arith}
use Rattle.cx_meaning.specs.declared.ports.PortRef.{PortRef}
use Rattle.cx_meaning.specs.declared.ports.PortRef.TheVariants as ports
use Rattle.cx_meaning.specs.Designs.{PlainGuard, Always, Atom, Negation, All, Any, Compared, Within, PlainGuards, no_guards, a_guard, PlainAssign}
use Rattle.cx_meaning.specs.Active.{Owned}
use Rattle.cx_net.specs.Nets.{PlainNetExpr, OfPort, OfWire, PlainNetTarget, ToWire, PlainNetDriver, PlainNetComponent, PlainNet}
use Rattle.cx_net.specs.NetFits.{HasWidth, AreBits, target_width}
use Rattle.cx_wiring.specs.Parts.{one, drive, connect}
use Rattle.cx_wiring.specs.Guards.{guard_wires, part_wires, parts_wires, part_expr, parts_exprs, guard_expr, guard_drivers, part_drivers, parts_drivers}
use Rattle.cx_wiring.specs.Assignments.{target_of, Looks, LooksAlways, LooksIn, looks_of, gate_wires, looking_wires, assign_wires, assigns_wires, go, gate_drivers, gated_drivers, looking_drivers, assign_drivers, assigns_drivers}
use Rattle.cx_wiring.specs.Bounds.{IsProper}
use Rattle.cx_wiring.specs.Fitting.{Drives, GuardFits, GuardsFit, AssignFits, OwnerFits, OwnedFits}
use Rattle.cx_wiring.proofs.RoomLemmas.{Wires, first_wire, later_wires, first_wires, rest_wires}
use Rattle.cx_wiring.proofs.FitLemmas.{word_width, bit_width}
use Rattle.cx_text.specs.Members.{Each}
use Rattle.cx_text.proofs.MemberLaws.{each_append}

module _ (net : PlainNet) (part : PlainNetComponent) where
  -- a target of one bit
  abbrev pub IsBit : PlainNetTarget → Type 0
  IsBit t = target_width net part t ≡ Some 1

  abbrev pub AllDrive : List PlainNetDriver → Type 0
  AllDrive ds = Each (Drives net part) ds

  pub one_fits : HasWidth net part one 1
  one_fits = bit_width (record { width = 1; value = 1 }) refl (omega arith)

  pub connects : (wire : ℕ) (e : PlainNetExpr) → IsBit (ToWire wire) → HasWidth net part e 1 → Drives net part (connect wire e)
  connects wire e bit fits = record { proper = tt; guard = one_fits; width = 1; target = bit; source = fits }

  module _ (offset : PlainNetExpr) (wide : HasWidth net part offset 32) where
    part_fits : (g : PlainGuard) (wire : ℕ) → GuardFits net part g → Wires IsBit wire (part_wires g) → HasWidth net part (part_expr wire g) 1
    part_fits Always wire fits own = first_wire IsBit {w = wire} {n = 0} own
    part_fits (Atom p) wire fits own = fits
    part_fits (Negation g) wire fits own = first_wire IsBit own
    part_fits (All gs) wire fits own = first_wire IsBit own
    part_fits (Any gs) wire fits own = first_wire IsBit own
    part_fits (Compared c a b) wire fits own = first_wire IsBit {w = wire} {n = 0} own
    part_fits (Within from to) wire fits own = first_wire IsBit {w = wire} {n = 0} own

    parts_fit : (gs : PlainGuards) (wire : ℕ) → GuardsFit net part gs → Wires IsBit wire (parts_wires gs) → AreBits net part (parts_exprs wire gs)
    parts_fit no_guards wire fits own = tt
    parts_fit (a_guard g gs) wire fits own =
        (part_fits g wire fits.0 (first_wires IsBit (part_wires g) (parts_wires gs) own), parts_fit gs (wire + part_wires g) fits.1 (rest_wires IsBit (part_wires g) (parts_wires gs) own))

    pub guard_fits : (g : PlainGuard) (wire : ℕ) → GuardFits net part g → Wires IsBit wire (guard_wires g) → HasWidth net part (guard_expr offset wire g) 1
    guard_fits Always wire fits own = one_fits
    guard_fits (Atom p) wire fits own = fits
    guard_fits (Negation g) wire fits own = part_fits g wire fits own
    guard_fits (All gs) wire fits own = (refl, parts_fit gs wire fits own)
    guard_fits (Any gs) wire fits own = (refl, parts_fit gs wire fits own)
    guard_fits (Compared c a b) wire fits own = (refl, fits)
    guard_fits (Within from to) wire fits own = (refl, ((refl, (32, wide, word_width from fits.0)), ((refl, (32, wide, word_width to fits.1)), tt)))

    mutual
      pub guard_drive : (g : PlainGuard) (wire : ℕ) → GuardFits net part g → Wires IsBit wire (guard_wires g) → AllDrive (guard_drivers offset wire g)
      guard_drive Always wire fits own = tt
      guard_drive (Atom p) wire fits own = tt
      guard_drive (Negation g) wire fits own = part_drive g wire fits own
      guard_drive (All gs) wire fits own = parts_drive gs wire fits own
      guard_drive (Any gs) wire fits own = parts_drive gs wire fits own
      guard_drive (Compared c a b) wire fits own = tt
      guard_drive (Within from to) wire fits own = tt

      part_drive : (g : PlainGuard) (wire : ℕ) → GuardFits net part g → Wires IsBit wire (part_wires g) → AllDrive (part_drivers offset wire g)
      part_drive Always wire fits own =
          (connects wire (guard_expr offset (suc wire) Always) (first_wire IsBit {w = wire} {n = 0} own) (guard_fits Always (suc wire) fits (later_wires IsBit {w = wire} {n = 0} own)), tt)
      part_drive (Atom p) wire fits own = tt
      part_drive (Negation g) wire fits own =
          each_append (Drives net part) (part_drivers offset (suc wire) g) (connect wire (guard_expr offset (suc wire) (Negation g)) ∷ []) (part_drive g (suc wire) fits (later_wires IsBit own))
          (connects wire (guard_expr offset (suc wire) (Negation g)) (first_wire IsBit own) (guard_fits (Negation g) (suc wire) fits (later_wires IsBit own)), tt)
      part_drive (All gs) wire fits own =
          each_append (Drives net part) (parts_drivers offset (suc wire) gs) (connect wire (guard_expr offset (suc wire) (All gs)) ∷ []) (parts_drive gs (suc wire) fits (later_wires IsBit own))
          (connects wire (guard_expr offset (suc wire) (All gs)) (first_wire IsBit own) (guard_fits (All gs) (suc wire) fits (later_wires IsBit own)), tt)
      part_drive (Any gs) wire fits own =
          each_append (Drives net part) (parts_drivers offset (suc wire) gs) (connect wire (guard_expr offset (suc wire) (Any gs)) ∷ []) (parts_drive gs (suc wire) fits (later_wires IsBit own))
          (connects wire (guard_expr offset (suc wire) (Any gs)) (first_wire IsBit own) (guard_fits (Any gs) (suc wire) fits (later_wires IsBit own)), tt)
      part_drive (Compared c a b) wire fits own =
          (connects wire (guard_expr offset (suc wire) (Compared c a b)) (first_wire IsBit {w = wire} {n = 0} own) (guard_fits (Compared c a b) (suc wire) fits (later_wires IsBit {w = wire} {n = 0} own)), tt)
      part_drive (Within from to) wire fits own =
          (connects wire (guard_expr offset (suc wire) (Within from to)) (first_wire IsBit {w = wire} {n = 0} own) (guard_fits (Within from to) (suc wire) fits (later_wires IsBit {w = wire} {n = 0} own)), tt)

      parts_drive : (gs : PlainGuards) (wire : ℕ) → GuardsFit net part gs → Wires IsBit wire (parts_wires gs) → AllDrive (parts_drivers offset wire gs)
      parts_drive no_guards wire fits own = tt
      parts_drive (a_guard g gs) wire fits own =
          each_append (Drives net part) (part_drivers offset wire g) (parts_drivers offset (wire + part_wires g) gs) (part_drive g wire fits.0 (first_wires IsBit (part_wires g) (parts_wires gs) own))
          (parts_drive gs (wire + part_wires g) fits.1 (rest_wires IsBit (part_wires g) (parts_wires gs) own))

  -- ASSIGNMENTS, in a component of so many groups, each of which has an offset of 32 bits and a hole that says that it goes
  module _ (groups : ℕ) (offset : (g : ℕ) → g < groups → slice_get part.wires g ≡ Some 32) (goes : (g : ℕ) → g < groups → groups + g < part.holes) where
    gate_drive : (g wire : ℕ) (guard : PlainGuard) → g < groups → GuardFits net part guard → Wires IsBit wire (suc (guard_wires guard)) → AllDrive (gate_drivers groups g wire guard)
    gate_drive g wire guard there fits own =
        each_append (Drives net part) (guard_drivers (OfWire g) (suc wire) guard) (drive (ToWire wire) (go groups g) (guard_expr (OfWire g) (suc wire) guard) ∷ [])
        (guard_drive (OfWire g) (offset g there) guard (suc wire) fits (later_wires IsBit own))
        (record { proper = tt; guard = (goes g there, refl); width = 1; target = first_wire IsBit own; source = guard_fits (OfWire g) (offset g there) guard (suc wire) fits (later_wires IsBit own) }, tt)

    behind_gate : (g wire w : ℕ) (guard : PlainGuard) (target : PlainNetTarget) (source : PlainNetExpr) → g < groups → GuardFits net part guard → IsProper target → target_width net part target ≡ Some w
        → HasWidth net part source w → Wires IsBit wire (suc (guard_wires guard)) → AllDrive (gate_drivers groups g wire guard ++ drive target (OfWire wire) source ∷ [])
    behind_gate g wire w guard target source there fits proper wide has own =
        each_append (Drives net part) (gate_drivers groups g wire guard) (drive target (OfWire wire) source ∷ []) (gate_drive g wire guard there fits own)
        (record { proper = proper; guard = first_wire IsBit own; width = w; target = wide; source = has }, tt)

    gated_drive : (g wire w : ℕ) (guard : PlainGuard) (target : PlainNetTarget) (source : PlainNetExpr) → g < groups → GuardFits net part guard → IsProper target → target_width net part target ≡ Some w
        → HasWidth net part source w → Wires IsBit wire (gate_wires guard) → AllDrive (gated_drivers groups g wire guard target source)
    gated_drive g wire w Always target source there fits proper wide has own = (record { proper = proper; guard = (goes g there, refl); width = w; target = wide; source = has }, tt)
    gated_drive g wire w (Atom p) target source there fits proper wide has own = behind_gate g wire w (Atom p) target source there fits proper wide has own
    gated_drive g wire w (Negation x) target source there fits proper wide has own = behind_gate g wire w (Negation x) target source there fits proper wide has own
    gated_drive g wire w (All gs) target source there fits proper wide has own = behind_gate g wire w (All gs) target source there fits proper wide has own
    gated_drive g wire w (Any gs) target source there fits proper wide has own = behind_gate g wire w (Any gs) target source there fits proper wide has own
    gated_drive g wire w (Compared c x y) target source there fits proper wide has own = behind_gate g wire w (Compared c x y) target source there fits proper wide has own
    gated_drive g wire w (Within from to) target source there fits proper wide has own = behind_gate g wire w (Within from to) target source there fits proper wide has own

    -- what an assignment looks at
    abbrev LooksFit : Looks → Type 0
    LooksFit (LooksAlways offset) = HasWidth net part offset 32
    LooksFit (LooksIn g) = g < groups

    looks_fit : (owner : Option ℕ) (target : PortRef) → OwnerFits net part groups owner → LooksFit (looks_of owner target)
    looks_fit None target owns = word_width 0 (omega arith)
    looks_fit (Some g) (ports.Done h) owns = offset g owns
    looks_fit (Some g) (ports.Cell c p) owns = owns
    looks_fit (Some g) (ports.Input n) owns = owns
    looks_fit (Some g) (ports.Output n) owns = owns
    looks_fit (Some g) (ports.Literal w v) owns = owns

    looking_drive : (l : Looks) (wire : ℕ) (a : PlainAssign) → LooksFit l → AssignFits net part a → Wires IsBit wire (looking_wires l a.guard) → AllDrive (looking_drivers groups l wire a)
    looking_drive (LooksAlways offset) wire a wide fits own =
        each_append (Drives net part) (guard_drivers offset wire a.guard) (drive (target_of a.target) (guard_expr offset wire a.guard) (OfPort a.source.port) ∷ []) (guard_drive offset wide a.guard wire fits.guard own)
        (record { proper = fits.proper; guard = guard_fits offset wide a.guard wire fits.guard own; width = fits.width; target = fits.target; source = fits.source }, tt)
    looking_drive (LooksIn g) wire a there fits own = gated_drive g wire fits.width a.guard (target_of a.target) (OfPort a.source.port) there fits.guard fits.proper fits.target fits.source own

    -- THE ASSIGNMENTS of a component
    pub assigns_fit : (list : List Owned) (wire : ℕ) → Each (OwnedFits net part groups) list → Wires IsBit wire (assigns_wires list) → AllDrive (assigns_drivers groups wire list)
    assigns_fit [] wire fits own = tt
    assigns_fit (a ∷ rest) wire fits own =
        each_append (Drives net part) (assign_drivers groups wire a) (assigns_drivers groups (wire + assign_wires a) rest)
        (looking_drive (looks_of a.owner a.assign.target) wire a.assign (looks_fit a.owner a.assign.target fits.0.owner) fits.0.assign (first_wires IsBit (assign_wires a) (assigns_wires rest) own))
        (assigns_fit rest (wire + assign_wires a) fits.1 (rest_wires IsBit (assign_wires a) (assigns_wires rest) own))
