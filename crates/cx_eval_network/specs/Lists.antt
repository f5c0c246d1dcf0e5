-- Ports that are found one behind the other while a group is active.
use Rattle.std.specs.Prelude.{◌≡◌, ℕ, List, Option, Some, is_some, slice_get}
use Rattle.cx_meaning.specs.declared.ports.PortRef.{PortRef}
use Rattle.cx_meaning.specs.declared.ports.PortRef.TheVariants.{Cell}
use Rattle.cx_meaning.specs.declared.sights.Seen.{Seen}
use Rattle.cx_meaning.specs.Active.{Owned, only_at}
use Rattle.cx_meaning.specs.Instances.{Instance}
use Rattle.cx_meaning.specs.Sights.{Look, target_seen}
use Rattle.cx_design.specs.declared.actives.Active.{Active}
use Rattle.cx_design.specs.declared.actives.Active.TheVariants.{Group}
use Rattle.cx_design.specs.declared.actives.ActiveEntry.{ActiveEntry}
use Rattle.cx_eval_drives.specs.declared.targets.Drive.{Drive}
use Rattle.cx_eval_drives.specs.declared.targets.Drive.TheVariants as drives
use Rattle.cx_eval_drives.specs.Drives.{acting_of, offset_among, offset_by}
use Rattle.cx_eval_network.specs.declared.listed.FoundBy.{FoundBy}
use Rattle.cx_eval_network.specs.declared.listed.FoundBy.TheVariants as by
use Rattle.cx_eval_network.specs.declared.listed.ListedPort.{ListedPort}
use Rattle.cx_eval_network.specs.declared.listed.GroupPorts.{GroupPorts}
use Rattle.cx_eval_network.specs.declared.listed.PartLists.{PartLists}
use Rattle.cx_eval_network.specs.declared.marks.NodeMark.{NodeMark}
use Rattle.cx_eval_network.specs.declared.parts.PartNodes.{PartNodes}
use Rattle.cx_eval_network.specs.declared.planned.DrivenPlan.{DrivenPlan}
use Rattle.cx_eval_network.specs.declared.planned.PartPlans.{PartPlans}
use Rattle.cx_eval_network.specs.declared.planned.PlannedPort.{PlannedPort}
use Rattle.cx_eval_network.specs.declared.planned.PlannedPort.TheVariants.{Numbered, Fixed}
use Rattle.cx_eval_network.specs.declared.planned.PortPlan.{PortPlan}
use Rattle.cx_eval_network.specs.declared.planned.PortPlan.TheVariants as plans
use Rattle.cx_eval_network.specs.declared.soles.Sole.{Sole}
use Rattle.cx_eval_network.specs.declared.soles.Sole.TheVariants as soles
use Rattle.cx_eval_network.specs.Evaluated.{Agree, Gives, port_found}
use Rattle.cx_eval_network.specs.Planned.{StandFor}

-- OTHERS ACT AS some where the assignments of the same groups are active, at whatever offsets
abbrev pub ActsAs : Active → Active → Type 0
ActsAs active other = (owner : Option ℕ) → is_some (offset_by other owner) ≡ is_some (offset_by active owner)

-- of static groups only this one is active
abbrev pub IsOnly : List ActiveEntry → ℕ → Type 0
IsOnly entries group = (owner : ℕ) → is_some (offset_among entries owner) ≡ is_some (only_at group owner)

-- A SOURCE of a port under all that act as an active set: where it is known, the port is seen as it is. Only ports
-- that assignments drive have one
abbrev pub IsSeenAs : Active → DrivenPlan → PlannedPort → Type 0
IsSeenAs active plan source =
    (other : Active) → ActsAs active other
    → (i : Instance) (owned : List Owned) (look : Look) (own : List NodeMark)
    → StandFor i plan.assigns.items owned → Agree i look own
    → Gives (target_seen plan.undriven look (acting_of (offset_by other) owned)) (port_found own source)

abbrev pub IsSource : Active → PortPlan → PlannedPort → Type 0
IsSource active (plans.Driven plan) source = IsSeenAs active plan source
IsSource active (plans.Output reads) source = ⊥
IsSource active plans.Apart source = ⊥

-- how a port is found: as another one, or as a value, which is a source of it; as an output of a cell, by the state of
-- this where it reads no input, and by so many of its inputs; or by a look
abbrev pub IsFoundBy : Active → PortRef → PortPlan → FoundBy → Type 0
IsFoundBy active port plan (by.Port number) = IsSource active plan (Numbered number)
IsFoundBy active port plan (by.Fixed seen) = IsSource active plan (Fixed seen)
IsFoundBy active port plan (by.State cell output) = (port ≡ Cell cell output) × (plan ≡ plans.Output 0)
IsFoundBy active port plan (by.Inputs cell output reads) = (port ≡ Cell cell output) × (plan ≡ plans.Output reads)
IsFoundBy active port plan by.Look = Unit {0}

-- what the drivers of a port come to, by those that are active: none, one without a guard, or others
abbrev pub IsSole : List NodeMark → Sole → Drive → Type 0
IsSole own soles.Nothing drive = drive ≡ drives.Nothing
IsSole own (soles.Source source) drive = (x : Seen) × (drive ≡ drives.Gives x) × Gives x (port_found own source)
IsSole own soles.Others drive = Unit {0}

-- A LISTED PORT stands at its number with its plan, and is found by that
pub record IsListed (ports : List PortRef) (plans : List PortPlan) (active : Active)
    (listed : ListedPort) : Type 0 where
  pub port : PortRef
  pub stands : slice_get ports listed.number ≡ Some port
  pub plan : PortPlan
  pub there : slice_get plans listed.number ≡ Some plan
  pub found_by : IsFoundBy active port plan listed.found_by

abbrev pub AreListed : List PortRef → List PortPlan → Active → List ListedPort → Type 0
AreListed ports plans active list =
    (j : ℕ) (listed : ListedPort) → slice_get list j ≡ Some listed → IsListed ports plans active listed

-- those of a group, of each group of a component while that group is active, and of each component
pub record AreGroupPorts (ports : List PortRef) (plans : List PortPlan) (active : Active)
    (group : GroupPorts) : Type 0 where
  pub hole : AreListed ports plans active group.hole.items
  pub others : AreListed ports plans active group.others.items

abbrev pub ArePartLists : List PortRef → List PortPlan → PartLists → Type 0
ArePartLists ports plans own =
    (g : ℕ) (group : GroupPorts) → slice_get own.groups.items g ≡ Some group
    → AreGroupPorts ports plans (Group g) group

abbrev pub HaveLists : List PartNodes → List PartPlans → List PartLists → Type 0
HaveLists parts plans lists =
    (k : ℕ) (part : PartNodes) (planned : PartPlans) (own : PartLists) → slice_get parts k ≡ Some part
    → slice_get plans k ≡ Some planned → slice_get lists k ≡ Some own
    → ArePartLists part.ports.items planned.ports.items own
