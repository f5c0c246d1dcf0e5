-- What is left of a graph for the search of circles under one group.
use Rattle.std.specs.Prelude.{◌≡◌, ℕ, ◌<◌, ◌⊎◌, Bool, List, Some, length}
use Rattle.cx_graphs.specs.Graphs.{Edges, targets_of, Marked, Bounded}
use Rattle.cx_meaning.specs.Designs.{PlainAssign, PlainGroup, group_at}
use Rattle.cx_meaning.specs.Instances.{Instance, part_of}
use Rattle.cx_text.specs.Members.{In}
use Rattle.cx_meaning.specs.Active.{nothing}
use Rattle.cx_rules.specs.Footprints.{Leads}
use Rattle.cx_graphs.specs.Ways.{HasCircle}
use Rattle.cx_design_leads.specs.Nodes.{node_count}
use Rattle.cx_design_leads.specs.Edges.{HasEdges}
use Rattle.cx_design_leads.specs.Links.{driven_node}

-- a list of nodes to which those are added that assignments drive
pub record AddsTargets (i : Instance) (assigns : List PlainAssign) (before after : List ℕ) : Type 0 where
  pub kept : (m : ℕ) → In before m → In after m
  pub within : (m : ℕ) → In after m → In before m ⊎ (m < node_count i)
  pub all : (a : PlainAssign) (m : ℕ) → In assigns a → driven_node i a.target ≡ Some m → In after m

-- the nodes that groups drive are in the list
pub record HasTargets (i : Instance) (groups : List PlainGroup) (targets : List ℕ) : Type 0 where
  pub within : Bounded (node_count i) targets
  pub all : (g : PlainGroup) (a : PlainAssign) (m : ℕ) → In groups g → In g.assigns a
      → driven_node i a.target ≡ Some m → In targets m

-- the marked nodes of a list
pub record AreMarked (nodes : List ℕ) (marks : List Bool) (marked : List ℕ) : Type 0 where
  pub sound : (n : ℕ) → In marked n → In nodes n
  pub all : (n : ℕ) → In nodes n → Marked marks n → In marked n

-- the edges of a graph to marked nodes
pub record IsKept (g : Edges) (marks : List Bool) (kept : Edges) : Type 0 where
  pub same_length : length kept ≡ length g
  pub sound : (m n : ℕ) → In (targets_of kept m) n → In (targets_of g m) n
  pub all : (m n : ℕ) → In (targets_of g m) n → Marked marks n → In (targets_of kept m) n

-- a graph without the edges to nodes that are not marked, where the marks are on each node that a group drives, and on each
-- from which an edge leads to a marked one
pub record IsPruned (i : Instance) (g : Edges) (marks : List Bool) (pruned : Edges) : Type 0 where
  pub kept : IsKept g marks pruned
  pub driven : (group : ℕ) (a : PlainAssign) (m : ℕ) → In (group_at (part_of i) group).assigns a
      → driven_node i a.target ≡ Some m → Marked marks m
  pub along : (m n : ℕ) → In (targets_of g m) n → Marked marks n → Marked marks m

-- a graph serves for the search of circles under groups
pub record ServesGroups (i : Instance) (pruned : Edges) : Type 0 where
  pub graph : Edges
  pub marks : List Bool
  pub edges : HasEdges i (Leads i nothing) graph
  pub no_circle : HasCircle (targets_of graph) → ⊥
  pub is_pruned : IsPruned i graph marks pruned
