-- The assignments of each port of a component, by its number there.
use Rattle.std.specs.Prelude.{◌≡◌, ℕ, ◌<◌, List, [], Some, get_or, length, map}
use Rattle.std.specs.declared.vec.Vec.{Vec}
use Rattle.cx_meaning.specs.declared.ports.PortRef.{PortRef}
use Rattle.cx_meaning.specs.Active.{Owned, source_order}
use Rattle.cx_meaning.specs.Designs.{PlainDesign, component_at}
use Rattle.cx_meaning.specs.Instances.{Instance}
use Rattle.cx_rules.specs.Ports.{component_of}
use Rattle.cx_design_parts.specs.declared.ordering.OwnedAssign.{OwnedAssign}
use Rattle.cx_design_parts.specs.Plain.{plain_owned}
use Rattle.cx_design_leads.specs.Nodes.{node_count, node_of}
use Rattle.cx_eval_drives.specs.Drives.{owned_for}
use Rattle.cx_eval_drives.specs.declared.driving.Drivers.{Drivers}

abbrev pub lists_of : {A : Type 0} → List (Vec OwnedAssign A) → List (List OwnedAssign)
lists_of ports = map (λ assigns. assigns.items) ports

abbrev pub assigns_at : List (List OwnedAssign) → ℕ → List OwnedAssign
assigns_at lists n = get_or lists n []

-- for each port of an instance those of some assignments whose target it is, in their order
pub record ArePartDrivers (i : Instance) (assigns : List Owned) (lists : List (List OwnedAssign)) : Type 0 where
  pub count : length lists ≡ node_count i
  pub each : (n : ℕ) (p : PortRef) → node_of i p ≡ Some n → map plain_owned (assigns_at lists n) ≡ owned_for p assigns

-- those of each component
abbrev pub parts_of : {A B : Type 0} → List (Vec (Vec OwnedAssign A) B) → List (List (List OwnedAssign))
parts_of parts = map (λ ports. lists_of ports.items) parts

-- the first components have their drivers
pub record HaveDrivers (d : PlainDesign) (count : ℕ) (parts : List (List (List OwnedAssign))) : Type 0 where
  pub sized : length parts ≡ count
  pub each : (k : ℕ) → k < count
      → ArePartDrivers (component_of d k) (source_order (component_at d k)) (get_or parts k [])

-- what the drivers of a design keep
abbrev pub AreDrivers : PlainDesign → Drivers → Type 0
AreDrivers d drivers = HaveDrivers d (length d.components) (parts_of drivers.parts.items)
