-- The network of the ports of a design, as one of its instances is asked under an active set.
use Rattle.std.specs.Prelude.{◌≡◌, ℕ, ◌<◌, nat_eq, nat_le, Bool, true, false, List, [], ◌∷◌, ◌++◌, Option, Some, None, get_or, length, option_to_list, slice_get, if◌then◌else◌}
use Rattle.cx_meaning.specs.declared.ports.PortRef.{PortRef}
use Rattle.cx_meaning.specs.declared.ports.PortRef.TheVariants as ports
use Rattle.cx_meaning.specs.declared.sights.Seen.{Seen}
use Rattle.cx_meaning.specs.declared.sights.Seen.TheVariants.{Undefined}
use Rattle.cx_meaning.specs.Designs.{PlainDesign}
use Rattle.cx_meaning.specs.Instances.{Instance, At, Nothing, OfRow, OfInstance, Path, cell_at, cells_of, instance_at, part_of, paths_of, tree_of}
use Rattle.cx_meaning.specs.Active.{Active, nothing}
use Rattle.cx_meaning.specs.Sights.{Below, Held, Look, PartPort, Go, AnInput, AnOutput, ItsDone, part_port, seen, unheld}
use Rattle.cx_rules.specs.Circles.{AcyclicBelow, IsAcyclic}
use Rattle.cx_rules.specs.Footprints.{Leads}
use Rattle.cx_rules.specs.Ports.{keeps_literal}
use Rattle.cx_rules.specs.Wellformed.{IsDesign}
use Rattle.cx_eval_network.specs.declared.marks.NodeMark.{NodeMark}
use Rattle.cx_state.specs.declared.tables.InstanceRow.{InstanceRow}
use Rattle.cx_state.specs.Tables.{IsTable, child_of}
use Rattle.cx_state.specs.States.{PlainInstance, inputs_held, under_path}
use Rattle.cx_state.specs.ReadStates.{state_in}
use Rattle.cx_eval_network.specs.declared.numbering.NodePort.{NodePort}
use Rattle.cx_eval_network.specs.declared.numbering.Nodes.{Nodes}
use Rattle.cx_eval_network.specs.Nodes.{IsNodesOf, found_at, node_at}
use Rattle.cx_eval_network.specs.LeadPorts.{lead_ports}
pub use Rattle.cx_eval_network.specs.Literals.{literal_seen}
pub use Rattle.cx_eval_network.specs.Demands.{shown}

-- what is asked: an instance of a design under an active set, in a state by its rows
pub record Asked : Type 0 where
  pub design : PlainDesign
  pub rows : List InstanceRow
  pub children : List ℕ
  pub state : List PlainInstance
  pub instance : ℕ
  pub active : Active

abbrev pub path_at : PlainDesign → ℕ → Path
path_at d n = get_or (paths_of (tree_of d)) n []

module _ (a : Asked) where
  abbrev pub instance_of : ℕ → Instance
  instance_of n = instance_at (tree_of a.design) (path_at a.design n)

  -- the asked instance has its active set and its held inputs; in the others nothing is active, and no input is held
  abbrev pub active_at : ℕ → Active
  active_at n = if nat_eq n a.instance then a.active else nothing

  abbrev pub held_at : ℕ → Held
  held_at n = if nat_eq n a.instance then inputs_held a.state n else unheld

  -- THE VALUE of a port of an instance is what it is seen as
  abbrev pub seen_at : ℕ → PortRef → Seen
  seen_at n p =
      seen (instance_of n) (held_at n) (active_at n)
      (under_path (path_at a.design n) (state_in (tree_of a.design) a.state)) p

  -- what a port of an instance LEADS to: the ports of the instance that it depends on at once, and for an output of a
  -- component's cell that output of the instance there
  abbrev pub nodes_of : ℕ → List PortRef → List ℕ
  nodes_of n [] = []
  nodes_of n (q ∷ qs) = option_to_list (node_at a.design a.rows n q) ++ nodes_of n qs

  abbrev pub output_node : ℕ → ℕ → PartPort → List ℕ
  output_node n c Go = []
  output_node n c (AnInput k) = []
  output_node n c (AnOutput k) =
      option_to_list (node_at a.design a.rows (child_of a.rows a.children n c) (ports.Output k))
  output_node n c ItsDone = []

  abbrev pub child_node : ℕ → ℕ → ℕ → At → List ℕ
  child_node n c p Nothing = []
  child_node n c p (OfRow row) = []
  child_node n c p (OfInstance child) = output_node n c (part_port (part_of child) p)

  abbrev pub below_nodes : ℕ → PortRef → List ℕ
  below_nodes n (ports.Cell c p) = child_node n c p (cell_at (cells_of (instance_of n)) c)
  below_nodes n (ports.Input k) = []
  below_nodes n (ports.Output k) = []
  below_nodes n (ports.Done g) = []
  below_nodes n (ports.Literal w v) = []

  -- of a node that stands for a port; the ports of earlier instances are not asked
  abbrev pub if_asked : Bool → NodePort → Option NodePort
  if_asked true found = Some found
  if_asked false found = None

  abbrev pub asked_port : Option NodePort → Option NodePort
  asked_port None = None
  asked_port (Some found) = if_asked (nat_le a.instance found.instance) found

  abbrev pub value_of : Option NodePort → Seen
  value_of None = Undefined
  value_of (Some found) = seen_at found.instance found.port

  abbrev pub leads_of : Option NodePort → List ℕ
  leads_of None = []
  leads_of (Some found) =
      nodes_of found.instance
      (lead_ports (instance_of found.instance) (active_at found.instance) found.port)
      ++ below_nodes found.instance found.port

  abbrev pub value_at : Nodes → ℕ → Seen
  value_at nodes node = value_of (asked_port (found_at nodes node))

  abbrev pub leads_at : Nodes → ℕ → List ℕ
  leads_at nodes node = leads_of (asked_port (found_at nodes node))

-- WHAT MARKS SHOW of a port of an instance: a literal that fits its width as it is, and of a node what is known
abbrev pub node_shown : List NodeMark → PortRef → Option ℕ → Seen
node_shown marks q None = literal_seen q
node_shown marks q (Some m) = shown (slice_get marks m)

abbrev pub look_at : Asked → List NodeMark → ℕ → Look
look_at a marks n q = node_shown marks q (node_at a.design a.rows n q)

-- and of the outputs of the instances at its cells
abbrev pub below_at : Asked → List NodeMark → ℕ → Below
below_at a marks n c k = look_at a marks (child_of a.rows a.children n c) (ports.Output k)

-- nodes of the design by its table, where nothing leads in a circle in any instance, and no port to a literal that does not
-- fit its width
pub record IsNetwork (a : Asked) (nodes : Nodes) : Type 0 where
  pub table : IsTable a.design a.rows a.children
  pub numbered : IsNodesOf a.design a.rows nodes
  pub acyclic : (n : ℕ) → IsAcyclic (instance_of a n) (active_at a n)
  pub below : (n : ℕ) → AcyclicBelow (cells_of (instance_of a n))
  pub literals : (n w v : ℕ) (p : PortRef) → n < length a.rows
      → Leads (instance_of a n) (active_at a n) p (ports.Literal w v) → keeps_literal w v ≡ true
  pub design : IsDesign a.design
