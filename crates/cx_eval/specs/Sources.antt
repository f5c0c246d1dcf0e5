-- What the ports of a component are seen as while something is active in it, as it is known before any run.
use Rattle.std.specs.Prelude.{◌≡◌, ℕ, suc, List, [], ◌++◌, Some, length, slice_get, take}
use Rattle.cx_meaning.specs.declared.ports.PortRef.{PortRef}
use Rattle.cx_meaning.specs.declared.ports.PortRef.TheVariants.{Cell, Done}
use Rattle.cx_meaning.specs.declared.sights.Seen.{Seen}
use Rattle.cx_meaning.specs.Designs.{PlainDesign}
use Rattle.cx_meaning.specs.Instances.{Instance}
use Rattle.cx_rules.specs.Ports.{component_of}
use Rattle.cx_design.specs.declared.actives.Active.{Active}
use Rattle.cx_design.specs.declared.actives.Active.TheVariants.{Group}
use Rattle.cx_design_leads.specs.Nodes.{node_of}
use Rattle.cx_eval_network.specs.declared.planned.PlannedPort.TheVariants as planned
use Rattle.cx_eval_network.specs.declared.planned.PortPlan.{PortPlan}
use Rattle.cx_eval_network.specs.declared.planned.PortPlan.TheVariants.{Output}
use Rattle.cx_eval_network.specs.Lists.{IsSource}
use Rattle.cx_eval_network.specs.Nodes.{IsPartOf}
use Rattle.cx_eval_network.specs.Plans.{ArePlans, IsPlanOf}
use Rattle.cx_eval.specs.declared.closing.KnownPorts.{KnownPorts}
use Rattle.cx_eval.specs.declared.groups.PartSources.{PartSources}
use Rattle.cx_eval.specs.declared.leaves.PartGroup.{PartGroup}
use Rattle.cx_eval.specs.declared.sources.CellSources.{CellSources}
use Rattle.cx_eval.specs.declared.sources.ClosedGroup.{ClosedGroup}
use Rattle.cx_eval.specs.declared.sources.GroupSources.{GroupSources}
use Rattle.cx_eval.specs.declared.sources.Operator.{Operator}
use Rattle.cx_eval.specs.declared.sources.Source.{Source}
use Rattle.cx_eval.specs.declared.sources.Source.TheVariants.{Fixed, State, Slot}

-- a port that has a number has this plan
pub record HasPlan (i : Instance) (p : PortRef) (plan : PortPlan) : Type 0 where
  pub number : ℕ
  pub at : node_of i p ≡ Some number
  pub is : IsPlanOf i p plan

-- the ports of a component, and their plans
pub record IsPartGroup (i : Instance) (group : PartGroup) : Type 0 where
  pub part : IsPartOf i group.part.now
  pub plans : ArePlans i group.plans.now.ports.items

-- A PORT IS SEEN BY a source: as a value; as an output that reads no input; as an operator; or as another port, by a source of that
pub data IsSeenBy (i : Instance) (active : Active) (operators : List Operator) : PortRef → Source → Type 0 where
  as_value : {p : PortRef} {seen : Seen} (plan : PortPlan) → HasPlan i p plan → IsSource active plan (planned.Fixed seen)
      → IsSeenBy i active operators p (Fixed seen)
  as_state : {cell output : ℕ} → HasPlan i (Cell cell output) (Output 0)
      → IsSeenBy i active operators (Cell cell output) (State cell output)
  as_operator : {place : ℕ} (o : Operator) → slice_get operators place ≡ Some o
      → IsSeenBy i active operators (Cell o.cell o.port) (Slot place)
  as_another : {p q : PortRef} {source : Source} (plan : PortPlan) (number : ℕ) → HasPlan i p plan
      → IsSource active plan (planned.Numbered number) → node_of i q ≡ Some number
      → IsSeenBy i active operators q source → IsSeenBy i active operators p source

module _ (i : Instance) (active : Active) where
  -- the first ports of a cell are seen by some sources
  abbrev pub AreSeenBy : List Operator → ℕ → List Source → Type 0
  AreSeenBy operators cell sources =
      (p : ℕ) (source : Source) → slice_get sources p ≡ Some source → IsSeenBy i active operators (Cell cell p) source

  -- AN OPERATOR is an output that reads its first inputs, which are seen by what stands before it
  pub record IsOperator (before : List Operator) (o : Operator) : Type 0 where
    pub plan : HasPlan i (Cell o.cell o.port) (Output (length o.inputs.items))
    pub inputs : AreSeenBy before o.cell o.inputs.items

  abbrev pub AreOperators : List Operator → Type 0
  AreOperators operators =
      (place : ℕ) (o : Operator) → slice_get operators place ≡ Some o → IsOperator (take place operators) o

  abbrev pub AreCellsSeen : List Operator → List CellSources → Type 0
  AreCellsSeen operators cells =
      (n : ℕ) (c : CellSources) → slice_get cells n ≡ Some c → AreSeenBy operators c.cell c.ports.items

  pub record IsClosed (closed : ClosedGroup) : Type 0 where
    pub operators : AreOperators closed.operators.items
    pub cells : AreCellsSeen closed.operators.items closed.cells.items

-- what is known of a group while it is active
pub record AreSourcesOf (i : Instance) (group : ℕ) (known : GroupSources) : Type 0 where
  pub hole : (source : Source) → known.hole ≡ Some source → IsSeenBy i (Group group) [] (Done group) source
  pub closed : (closed : ClosedGroup) → known.closed ≡ Some closed → IsClosed i (Group group) closed

-- of each group of a component, and of each component
abbrev pub ArePartSources : Instance → PartSources → Type 0
ArePartSources i part =
    (group : ℕ) (known : GroupSources) → slice_get part.groups.items group ≡ Some known → AreSourcesOf i group known

abbrev pub HaveSources : PlainDesign → List PartSources → Type 0
HaveSources d all =
    (k : ℕ) (part : PartSources) → slice_get all k ≡ Some part → ArePartSources (component_of d k) part

-- the port of a number is seen by a source
pub record IsNumberSeen (i : Instance) (active : Active) (operators : List Operator) (number : ℕ) (source : Source) : Type 0 where
  pub port : PortRef
  pub at : node_of i port ≡ Some number
  pub by : IsSeenBy i active operators port source

-- WHAT IS KNOWN of listed ports while a group is closed: some are seen by sources
abbrev pub AreKnownPorts : Instance → Active → List Operator → KnownPorts → Type 0
AreKnownPorts i active operators known =
    (place number : ℕ) (source : Source) → slice_get known.numbers.items place ≡ Some number
    → slice_get known.sources.items place ≡ Some (Some source) → IsNumberSeen i active operators number source

-- more operators stand behind those that were there
pub record HaveGrown (old new : List Operator) : Type 0 where
  pub more : List Operator
  pub behind : new ≡ old ++ more

-- the last of some operators is a port
pub record EndsAt (port : PortRef) (operators : List Operator) : Type 0 where
  pub place : ℕ
  pub last : suc place ≡ length operators
  pub operator : Operator
  pub there : slice_get operators place ≡ Some operator
  pub is : port ≡ Cell operator.cell operator.port
