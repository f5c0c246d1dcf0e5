-- What decides each port of a component, and the plan of it.
use Rattle.std.specs.Prelude.{◌≡◌, ℕ, ◌<◌, false, List, Some, length, map, slice_get}
use Rattle.cx_prim.specs.declared.ports.Side.{Side}
use Rattle.cx_prim.specs.declared.ports.Side.TheVariants as sides
use Rattle.cx_prim.specs.Rows.{Row}
use Rattle.cx_meaning.specs.declared.ports.PortRef.{PortRef}
use Rattle.cx_meaning.specs.declared.ports.PortRef.TheVariants as ports
use Rattle.cx_meaning.specs.declared.sights.Seen.{Seen}
use Rattle.cx_meaning.specs.declared.sights.Seen.TheVariants.{Undefined}
use Rattle.cx_meaning.specs.Active.{source_order}
use Rattle.cx_meaning.specs.Rows.{side_of}
use Rattle.cx_meaning.specs.Designs.{PlainDesign}
use Rattle.cx_meaning.specs.Instances.{Instance, At, Nothing, OfRow, OfInstance, cell_at, cells_of, part_of}
use Rattle.cx_meaning.specs.Sights.{PartPort, Go, AnInput, AnOutput, ItsDone, bit_of, part_port}
use Rattle.cx_rules.specs.Ports.{component_of}
use Rattle.cx_design.specs.PlainDesigns.{plain_design}
use Rattle.cx_design_parts.specs.Outputs.{read_count}
use Rattle.cx_design_leads.specs.Nodes.{IsNodesOf, node_count, node_of}
use Rattle.cx_eval_drives.specs.Drives.{owned_for}
use Rattle.cx_eval_drives.specs.Drivers.{AreDrivers}
use Rattle.cx_eval_network.specs.Planned.{NumberedAssign, assign_plan, numbered_assign}
use Rattle.cx_eval_network.specs.declared.planned.PortPlan.{PortPlan}
use Rattle.cx_eval_network.specs.declared.planned.PortPlan.TheVariants as plans
use Rattle.cx_eval_network.specs.declared.planned.PartPlans.{PartPlans}
use Rattle.cx_eval_network.specs.declared.plans.PlannedPart.{PlannedPart}

-- WHAT DECIDES a port: its assignments, with what it is seen as where no guard is 1; the state of its primitive with so many
-- inputs of this, the first; or no port of its instance
pub data Deciding : Type 0 where
  Assigns : (undriven : Seen) (assigns : List NumberedAssign) → Deciding
  Inputs : (reads : ℕ) → Deciding
  Apart : Deciding

abbrev pub assigned : Instance → PortRef → Seen → Deciding
assigned i p undriven = Assigns undriven (map (assign_plan i) (owned_for p (source_order (part_of i))))

module _ (i : Instance) (p : PortRef) where
  abbrev pub side_decides : Row → Side → Deciding
  side_decides row sides.Enable = assigned i p (bit_of false)
  side_decides row sides.Plain = assigned i p Undefined
  side_decides row sides.Output = Inputs (read_count row.ports)
  side_decides row sides.Registered = Inputs 0

  abbrev pub part_decides : PartPort → Deciding
  part_decides Go = assigned i p (bit_of false)
  part_decides (AnInput n) = assigned i p Undefined
  part_decides (AnOutput n) = Apart
  part_decides ItsDone = Apart

  abbrev pub cell_decides : ℕ → At → Deciding
  cell_decides n Nothing = Apart
  cell_decides n (OfRow row) = side_decides row (side_of row n)
  cell_decides n (OfInstance child) = part_decides (part_port (part_of child) n)

abbrev pub decides : Instance → PortRef → Deciding
decides i (ports.Cell c n) = cell_decides i (ports.Cell c n) n (cell_at (cells_of i) c)
decides i (ports.Input n) = Apart
decides i (ports.Output n) = assigned i (ports.Output n) Undefined
decides i (ports.Done g) = assigned i (ports.Done g) (bit_of false)
decides i (ports.Literal w v) = Apart

-- THE PLAN of a port has what decides it
abbrev pub planned : PortPlan → Deciding
planned (plans.Driven plan) = Assigns plan.undriven (map numbered_assign plan.assigns.items)
planned (plans.Output reads) = Inputs reads
planned plans.Apart = Apart

abbrev pub IsPlanOf : Instance → PortRef → PortPlan → Type 0
IsPlanOf i p plan = planned plan ≡ decides i p

-- the plan of each port of a component, by its number
pub record ArePlans (i : Instance) (plans : List PortPlan) : Type 0 where
  pub sized : length plans ≡ node_count i
  pub each : (m : ℕ) (p : PortRef) (plan : PortPlan) → slice_get plans m ≡ Some plan
      → node_of i p ≡ Some m → IsPlanOf i p plan

-- those of each component
pub record HavePlans (d : PlainDesign) (parts : List PartPlans) : Type 0 where
  pub count : length parts ≡ length d.components
  pub each : (k : ℕ) (plans : PartPlans) → slice_get parts k ≡ Some plans
      → ArePlans (component_of d k) plans.ports.items

-- a component of a design with its numbers and the drivers of the design
abbrev pub instance_of : PlannedPart → Instance
instance_of part = component_of (plain_design part.design.now) part.component

pub record IsPlannedPart (part : PlannedPart) : Type 0 where
  pub within : part.component < length part.design.now.components.items
  pub numbered : IsNodesOf (instance_of part) part.numbers.now
  pub driven : AreDrivers (plain_design part.design.now) part.drivers.now
