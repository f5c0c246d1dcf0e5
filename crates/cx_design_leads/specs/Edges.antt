-- What leads to what in a component, as edges between the nodes of its ports.
use Rattle.std.specs.Prelude.{◌≡◌, ℕ, false, List, [], Some, length}
use Rattle.cx_text.specs.Members.{In}
use Rattle.cx_graphs.specs.Graphs as graphs
use Rattle.cx_graphs.specs.Graphs.{Edges, edges_of, targets_of}
use Rattle.cx_graphs.specs.Additions.{IsBare}
use Rattle.cx_meaning.specs.declared.ports.PortRef.{PortRef}
use Rattle.cx_meaning.specs.declared.ports.PortRef.TheVariants as ports
use Rattle.cx_meaning.specs.Designs.{PlainAssign, group_at}
use Rattle.cx_prim.specs.declared.ports.Side.TheVariants.{Output}
use Rattle.cx_prim.specs.Rows.{Row}
use Rattle.cx_meaning.specs.Rows.{side_of}
use Rattle.cx_meaning.specs.Instances.{Instance, OfRow, cell_at, cells_of, part_of}
use Rattle.cx_meaning.specs.Sights.{IsWanted}
use Rattle.cx_rules.specs.Ports.{is_source_only}
use Rattle.cx_rules.specs.Footprints.{AssignNames}
use Rattle.cx_design_leads.specs.Nodes.{node_count, node_of}
use Rattle.cx_design_leads.specs.declared.leading.GroupLeads.{GroupLeads}

-- an edge between the nodes of two ports
pub record Between (i : Instance) (relation : PortRef → PortRef → Type 0) (m n : ℕ) : Type 0 where
  pub from : PortRef
  pub to : PortRef
  pub is_from : node_of i from ≡ Some m
  pub is_to : node_of i to ≡ Some n
  pub leads : relation from to

-- a graph has an edge between two nodes exactly where one of their ports leads to the other
pub record HasEdges (i : Instance) (relation : PortRef → PortRef → Type 0) (g : Edges) : Type 0 where
  pub same_length : length g ≡ node_count i
  pub sound : (m n : ℕ) → In (targets_of g m) n → Between i relation m n
  pub all : (m n : ℕ) → Between i relation m n → In (targets_of g m) n

-- a combinational output of a primitive reads an input
pub record ReadsInRow (i : Instance) (p q : PortRef) : Type 0 where
  pub cell : ℕ
  pub port : ℕ
  pub row : Row
  pub is : p ≡ ports.Cell cell port
  pub stands : cell_at (cells_of i) cell ≡ OfRow row
  pub side : side_of row port ≡ Output
  pub wanted : IsWanted cell (row.reads port) q

-- an assignment of a group leads from its target to what it names
pub record LeadsInGroup (i : Instance) (g : ℕ) (p q : PortRef) : Type 0 where
  pub assign : PlainAssign
  pub stands : In (group_at (part_of i) g).assigns assign
  pub target : assign.target ≡ p
  pub drivable : is_source_only i p ≡ false
  pub names : AssignNames assign q

-- no edge stands in it, among so many nodes
pub record IsClear (count : ℕ) (more : GroupLeads) : Type 0 where
  pub bare : IsBare count (edges_of more.edges.items)
  pub no_targets : more.targets.items ≡ []

-- the edges lead from the targets alone, which are some of so many nodes
pub record IsSpread (count : ℕ) (g : Edges) (targets : List ℕ) : Type 0 where
  pub same_length : length g ≡ count
  pub within : graphs.Bounded count targets
  pub from_targets : (m n : ℕ) → In (targets_of g m) n → In targets m

abbrev pub IsSpreadOf : ℕ → GroupLeads → Type 0
IsSpreadOf count more = IsSpread count (edges_of more.edges.items) more.targets.items

-- it has the edges of a group
pub record IsGroupOf (i : Instance) (g : ℕ) (more : GroupLeads) : Type 0 where
  pub spread : IsSpreadOf (node_count i) more
  pub edges : HasEdges i (LeadsInGroup i g) (edges_of more.edges.items)
