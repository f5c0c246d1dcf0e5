-- Inputs of component cells that depend on an output or the done of their own cell.
use Rattle.std.specs.Prelude.{◌≡◌, ℕ, ◌⊎◌, nat_eq, Bool, true, false, List, Some}
use Rattle.cx_text.specs.Members.{In}
use Rattle.cx_graphs.specs.Graphs.{edges_of}
use Rattle.cx_graphs.specs.Reach.{IsUnmarked}
use Rattle.cx_meaning.specs.declared.ports.PortRef.{PortRef}
use Rattle.cx_meaning.specs.declared.ports.PortRef.TheVariants as ports
use Rattle.cx_meaning.specs.Designs.{PlainAssign, PlainComponent}
use Rattle.cx_meaning.specs.Instances.{Instance, OfInstance, part_of, cells_of, cell_at}
use Rattle.cx_meaning.specs.Active.{group, nothing}
use Rattle.cx_meaning.specs.Sights.{PartPort, Go, AnInput, AnOutput, ItsDone, part_port}
use Rattle.cx_rules.specs.Footprints.{Leads, Depends}
use Rattle.cx_design_leads.specs.Nodes.{IsNodesOf, node_count}
use Rattle.cx_design_leads.specs.Edges.{HasEdges, IsClear, IsGroupOf}
use Rattle.cx_callees.specs.Callees.{PlainCallee, callee_of}
use Rattle.cx_shape_calls.specs.declared.inputs.Paths.{Paths}

-- under a group
pub record IsDependent (i : Instance) (g : ℕ) (port : PortRef) : Type 0 where
  pub cell : ℕ
  pub input : ℕ
  pub is : port ≡ ports.Cell cell input
  pub child : Instance
  pub stands : cell_at (cells_of i) cell ≡ OfInstance child
  pub number : ℕ
  pub is_input : part_port (part_of child) input ≡ AnInput number
  pub output : ℕ
  pub is_output : ((m : ℕ) × (part_port (part_of child) output ≡ AnOutput m))
      ⊎ (part_port (part_of child) output ≡ ItsDone)
  pub depends : Depends i (group g) (ports.Cell cell input) (ports.Cell cell output)

-- a port is an input of a component cell
abbrev pub is_an_input : PartPort → Bool
is_an_input Go = false
is_an_input (AnInput n) = true
is_an_input (AnOutput n) = false
is_an_input ItsDone = false

abbrev pub is_input : PlainComponent → PortRef → Bool
is_input part (ports.Cell c p) = is_an_input (part_port part p)
is_input part (ports.Input n) = false
is_input part (ports.Output n) = false
is_input part (ports.Done g) = false
is_input part (ports.Literal w v) = false

abbrev pub IsInputOf : Instance → PortRef → PlainCallee → Type 0
IsInputOf i port k = (callee_of i port ≡ Some k) × (is_input k.part port ≡ true)

-- those of the targets of a list of assignments are counted, and no others
abbrev pub AreDependent : Instance → ℕ → List PlainAssign → (ℕ → ℕ → ℕ) → Type 0
AreDependent i g assigns times =
    (a : PlainAssign) (c p : ℕ) → In assigns a → a.target ≡ ports.Cell c p
    → (nat_eq (times c p) 0 ≡ false → IsDependent i g a.target)
    × (IsDependent i g a.target → nat_eq (times c p) 0 ≡ false)

-- what is kept of a component: its nodes, what leads to what under its continuous assignments, no edges of a group, and the room of
-- searches, in which no node is marked
pub record ArePathsOf (i : Instance) (paths : Paths) : Type 0 where
  pub nodes : IsNodesOf i paths.nodes
  pub graph : HasEdges i (Leads i nothing) (edges_of paths.graph.items)
  pub clear : IsClear (node_count i) paths.leads
  pub unmarked : IsUnmarked (node_count i) paths.reach

-- with the edges of a group
pub record HasPaths (i : Instance) (g : ℕ) (paths : Paths) : Type 0 where
  pub nodes : IsNodesOf i paths.nodes
  pub graph : HasEdges i (Leads i nothing) (edges_of paths.graph.items)
  pub leads : IsGroupOf i g paths.leads
  pub unmarked : IsUnmarked (node_count i) paths.reach

-- the targets of a list of assignments that are so, and no others
pub record AreDependentPorts (i : Instance) (g : ℕ) (assigns : List PlainAssign) (found : List PortRef) : Type 0 where
  pub sound : (port : PortRef) → In found port → IsDependent i g port
  pub all : (a : PlainAssign) → In assigns a → IsDependent i g a.target → In found a.target
