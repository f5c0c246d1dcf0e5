-- Which groups drive a port to which a node leads.
use Rattle.std.specs.Prelude.{◌≡◌, ℕ, ◌⊎◌, List, Some, length, slice_get}
use Rattle.cx_text.specs.Members.{In}
use Rattle.cx_graphs.specs.Graphs.{Edges, Bounded, targets_of}
use Rattle.cx_graphs.specs.Ways.{Way}
use Rattle.cx_graphs.specs.declared.owners.Owners.{Owners}
use Rattle.cx_graphs.specs.Owners.{Covers, owners_at}
use Rattle.cx_meaning.specs.Designs.{PlainAssign, PlainGroup, group_at}
use Rattle.cx_meaning.specs.Instances.{Instance, part_of}
use Rattle.cx_design_leads.specs.Nodes.{node_count}
use Rattle.cx_design_leads.specs.Links.{driven_node}

-- for each group the nodes that it drives
pub record AreTargetLists (i : Instance) (groups : List PlainGroup) (lists : Edges) : Type 0 where
  pub count : length lists ≡ length groups
  pub within : (k : ℕ) → Bounded (node_count i) (targets_of lists k)
  pub all : (k : ℕ) (g : PlainGroup) (a : PlainAssign) (m : ℕ) → slice_get groups k ≡ Some g
      → In g.assigns a → driven_node i a.target ≡ Some m → In (targets_of lists k) m

-- a node is one that a group drives, or leads to one
pub record LeadsToGroup (i : Instance) (graph : Edges) (g n : ℕ) : Type 0 where
  pub assign : PlainAssign
  pub stands : In (group_at (part_of i) g).assigns assign
  pub target : ℕ
  pub drives : driven_node i assign.target ≡ Some target
  pub leads : (n ≡ target) ⊎ Way (targets_of graph) n target

-- the owners of each node are the groups to which it leads, or several
abbrev pub AreOwners : Instance → Edges → List Owners → Type 0
AreOwners i graph owners = (g n : ℕ) → LeadsToGroup i graph g n → Covers (owners_at owners n) g
