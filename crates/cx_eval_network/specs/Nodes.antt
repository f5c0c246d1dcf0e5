-- Numbers for the ports of all instances, their nodes: instance by instance, and in each as its component numbers its ports.
use Rattle.std.specs.Prelude.{◌≡◌, ℕ, zero, suc, ◌+◌, ◌^◌, ◌≤◌, ◌<◌, ◌⊎◌, List, Option, Some, None, length, replicate, slice_get, option_map}
use Rattle.cx_meaning.specs.declared.ports.PortRef.{PortRef}
use Rattle.cx_meaning.specs.Designs.{PlainDesign}
use Rattle.cx_meaning.specs.Instances.{Instance}
use Rattle.cx_rules.specs.Ports.{component_of}
use Rattle.cx_design.specs.declared.actives.Active.{Active}
use Rattle.cx_state.specs.declared.tables.InstanceRow.{InstanceRow}
use Rattle.cx_state.specs.Tables.{row_at}
use Rattle.cx_design_leads.specs.Nodes as part
use Rattle.cx_eval_network.specs.Parts.{ArePorts}
use Rattle.cx_eval_network.specs.declared.parts.PartNodes.{PartNodes}
use Rattle.cx_eval_network.specs.declared.numbering.InstanceNodes.{InstanceNodes}
use Rattle.cx_eval_network.specs.declared.numbering.NodePort.{NodePort}
use Rattle.cx_eval_network.specs.declared.numbering.Nodes.{Nodes}
use Rattle.cx_eval_network.specs.Plans.{HavePlans, IsPlanOf}
use Rattle.cx_eval_network.specs.declared.planned.PortPlan.{PortPlan}
use Rattle.cx_eval_network.specs.declared.listed.ListedPort.{ListedPort}
use Rattle.cx_eval_network.specs.declared.listed.InstanceList.{InstanceList}
use Rattle.cx_eval_network.specs.Lists.{HaveLists, IsFoundBy}
use Rattle.cx_eval_network.specs.declared.instance_ports.InstancePorts.{InstancePorts}

-- the component of an instance with what is below it, by the rows of the instances
abbrev pub part_at : PlainDesign → List InstanceRow → ℕ → Instance
part_at d rows n = component_of d (row_at rows n).component

-- how many nodes the instances before a number have
abbrev pub first_node : PlainDesign → List InstanceRow → ℕ → ℕ
first_node d rows zero = 0
first_node d rows (suc n) = first_node d rows n + part.node_count (part_at d rows n)

abbrev pub node_count : PlainDesign → List InstanceRow → ℕ
node_count d rows = first_node d rows (length rows)

-- THE NODE of a port of an instance that is there; a literal has none
abbrev pub node_at : PlainDesign → List InstanceRow → ℕ → PortRef → Option ℕ
node_at d rows n p = option_map (λ m. first_node d rows n + m) (part.node_of (part_at d rows n) p)

-- the ports of an instance, by the numbers of its component, with its first node
pub record ArePortsOf (d : PlainDesign) (rows : List InstanceRow) (n : ℕ) (ports : InstancePorts) : Type 0 where
  pub numbers : part.IsNodesOf (part_at d rows n) ports.numbers.now
  pub first : ports.first ≡ first_node d rows n
  pub fits : first_node d rows n + part.node_count (part_at d rows n) < 2 ^ 64

-- the port of a node, with its instance, its component and its number there
pub record IsAt (d : PlainDesign) (rows : List InstanceRow) (node : ℕ) (found : NodePort) : Type 0 where
  pub within : found.instance < length rows
  pub component : found.component ≡ (row_at rows found.instance).component
  pub number : part.node_of (part_at d rows found.instance) found.port ≡ Some found.number
  pub is : first_node d rows found.instance + found.number ≡ node

abbrev pub IsPortOf : PlainDesign → List InstanceRow → ℕ → Option NodePort → Type 0
IsPortOf d rows node None = node_count d rows ≤ node
IsPortOf d rows node (Some found) = IsAt d rows node found

-- what the ports of a component keep
pub record IsPartOf (i : Instance) (nodes : PartNodes) : Type 0 where
  pub numbers : part.IsNodesOf i nodes.numbers
  pub ports : ArePorts i (part.node_count i) nodes.ports.items

pub record HaveParts (d : PlainDesign) (parts : List PartNodes) : Type 0 where
  pub count : length parts ≡ length d.components
  pub each : (k : ℕ) (nodes : PartNodes) → slice_get parts k ≡ Some nodes → IsPartOf (component_of d k) nodes

-- one of the ports of an instance that stand from a node on
pub record StandsBehind (instance component : ℕ) (ports : List PortRef) (start node : ℕ)
    (found : NodePort) : Type 0 where
  pub instance_is : found.instance ≡ instance
  pub component_is : found.component ≡ component
  pub port : slice_get ports found.number ≡ Some found.port
  pub is : start + found.number ≡ node

-- the first ports of an instance stand behind what stood before
pub record StandBehind (instance component : ℕ) (ports : List PortRef) (count : ℕ)
    (before after : List NodePort) : Type 0 where
  pub sized : length after ≡ length before + count
  pub each : (node : ℕ) (found : NodePort) → slice_get after node ≡ Some found
      → (slice_get before node ≡ Some found) ⊎ StandsBehind instance component ports (length before) node found

-- the first instances are placed: each has its component and its first node, and each of their nodes its port
pub record ArePlaced (d : PlainDesign) (rows : List InstanceRow) (count : ℕ)
    (instances : List InstanceNodes) (ports : List NodePort) : Type 0 where
  pub sized : length instances ≡ count
  pub components : (n : ℕ) (i : InstanceNodes) → slice_get instances n ≡ Some i
      → i.component ≡ (row_at rows n).component
  pub firsts : (n : ℕ) (i : InstanceNodes) → slice_get instances n ≡ Some i → i.first ≡ first_node d rows n
  pub nodes : length ports ≡ first_node d rows count
  pub each : (node : ℕ) (found : NodePort) → slice_get ports node ≡ Some found → IsAt d rows node found

-- what the numbering of a design keeps
pub record IsNodesOf (d : PlainDesign) (rows : List InstanceRow) (nodes : Nodes) : Type 0 where
  pub parts : HaveParts d nodes.parts.items
  pub plans : HavePlans d nodes.plans.items
  pub lists : HaveLists nodes.parts.items nodes.plans.items nodes.lists.items
  pub there : (n : ℕ) → n < length rows → (row_at rows n).component < length d.components
  pub placed : ArePlaced d rows (length rows) nodes.instances.items nodes.ports.items
  pub nothing : nodes.nothing.items ≡ replicate 9 None
  pub fits : node_count d rows < 2 ^ 64

-- what stands at a node, as the numbering has it
abbrev pub found_at : Nodes → ℕ → Option NodePort
found_at nodes node = slice_get nodes.ports.items node

-- a listed port of a component has a plan, and is found by that
pub record IsInList (i : Instance) (active : Active) (listed : ListedPort) : Type 0 where
  pub port : PortRef
  pub number : part.node_of i port ≡ Some listed.number
  pub plan : PortPlan
  pub plans : IsPlanOf i port plan
  pub found_by : IsFoundBy active port plan listed.found_by

-- where an instance stands: its component, and its first node
pub record IsPlaceOf (d : PlainDesign) (rows : List InstanceRow) (n : ℕ) (place : InstanceNodes) : Type 0 where
  pub component : place.component ≡ (row_at rows n).component
  pub first : place.first ≡ first_node d rows n

-- A LIST of an instance under an active set: where that stands, and ports of its component
pub record IsListOf (d : PlainDesign) (rows : List InstanceRow) (n : ℕ) (active : Active)
    (list : InstanceList) : Type 0 where
  pub place : IsPlaceOf d rows n list.place
  pub each : (j : ℕ) (listed : ListedPort) → slice_get list.ports.now j ≡ Some listed
      → IsInList (part_at d rows n) active listed
