-- What one edge owes, in the net of an accepted design: from what control and ports give each node, by the tree.
use Rattle.std.proofs.Common.{◌≡◌, ℕ, [], ◌∷◌}
use Rattle.cx_meaning.specs.Designs.{PlainComponent, PlainDesign}
use Rattle.cx_meaning.specs.Instances as instances
use Rattle.cx_meaning.specs.Instances.{Instance, Cells, OfInstance, cell_at, Path, State, tree_of, instance_at, words_of}
use Rattle.cx_rules.specs.Flat.{IsFlat}
use Rattle.cx_rules.specs.Accepted.{IsAccepted}
use Rattle.cx_rules.specs.Wellformed.{IsDesign}
use Rattle.cx_control.specs.Controls.{coded_control, coded_below}
use Rattle.cx_control.specs.ControlRules.{ControlRules}
use Rattle.cx_control.specs.IslandRules.{IslandRules}
use Rattle.cx_control.proofs.CallLaws.{ChildLaws}
use Rattle.cx_control.proofs.ControlLaws.{child_does}
use Rattle.cx_control.proofs.KeepLaws.{KeepsBelow, child_keeps}
use Rattle.cx_control.proofs.DesignRuns.{islands_do, rules_below, islands_below}
use Rattle.cx_lockstep.specs.Worlds.{Machine}
use Rattle.cx_control.specs.Leaves.{Coded}
use Rattle.cx_control.specs.Spots.{Kept}
use Rattle.cx_net.specs.NetMeaning.{NetState, NetLook, NetAround}
use Rattle.cx_wiring.specs.PartNets.{wired_in, timers_of}
use Rattle.cx_wiring_runs.proofs.NodeRules.{NodeRules, node_rules}
use Rattle.cx_wiring_runs.specs.BlockNumbers.{component_numbers}
use Rattle.cx_wiring_runs.specs.Blocks.{block, block_below, NodeLaws, BlockLaws}
use Rattle.cx_wiring_runs.proofs.TreeRules.{AllNodes, FineAt, all_nodes}
use Rattle.cx_wiring_runs.proofs.BlockTree.{block_laws}
use Rattle.cx_wiring_runs.proofs.OutputFlows.{SeamAt, seams_at}
use Rattle.cx_wiring_runs.proofs.NodeCells.{CellRules, cell_rules}
use Rattle.cx_wiring_runs.proofs.NodeEdges.{ControlGives, PortsGive, node_laws}

-- Begun says of a node that the ports of the static ifs that begin have in the net what the machine takes
module _ (d : PlainDesign) (of_island : PlainComponent → NetState → ℕ → ℕ → ℕ → ℕ)
    (Begun : (part : PlainComponent) (cells : Cells) → Machine.Place (Coded.machine (coded_control (instances.Node part cells))) → Kept → NetState → NetAround → NetLook → Type 0) where
  -- what the rules of acceptance give a node and all below it
  pub record NodeGiven (part : PlainComponent) (cells : Cells) : Type 0 where
    pub rules : NodeRules d (instances.Node part cells)
    pub own : CellRules (instances.Node part cells)
    pub control : (path : Path) → ControlRules (instance_at (instances.Node part cells) path)
    pub islands : (path : Path) → IslandRules (instance_at (instances.Node part cells) path)
    pub seams : AllNodes (SeamAt d) (instances.Node part cells)

  -- so its children keep theirs
  module _ (part : PlainComponent) (cells : Cells) (given : NodeGiven part cells) where
    pub given_below : (c : ℕ) (child : Instance) → cell_at cells c ≡ OfInstance child → ChildLaws cells c (coded_below cells c)
    given_below c child at = child_does cells c (λ path. given.control (c ∷ path)) (λ path. islands_do (instance_at (instances.Node part cells) (c ∷ path)) (given.control (c ∷ path)) (given.islands (c ∷ path))) child at

    pub given_kept : (c : ℕ) (child : Instance) → cell_at cells c ≡ OfInstance child → KeepsBelow cells c
    given_kept c child at = child_keeps cells c (λ path. given.control (c ∷ path)) (λ path. islands_do (instance_at (instances.Node part cells) (c ∷ path)) (given.control (c ∷ path)) (given.islands (c ∷ path))) child at

  -- WHAT IS LEFT of each node: its control and its ports
  pub record NodeGives (part : PlainComponent) (cells : Cells) (rules : NodeRules d (instances.Node part cells)) (own : CellRules (instances.Node part cells)) : Type 0 where
    pub gives : ControlGives d of_island part cells rules own (Begun part cells)
    pub ported : PortsGive d of_island part cells rules own (Begun part cells) gives

  module _ (nodes : (part : PlainComponent) (cells : Cells) (given : NodeGiven part cells) → ((c : ℕ) (child : Instance) → cell_at cells c ≡ OfInstance child → BlockLaws (block_below (wired_in d) timers_of (component_numbers of_island) cells (timers_of part) c))
      → NodeGives part cells given.rules given.own) where
    laws_of : (part : PlainComponent) (cells : Cells) → NodeGiven part cells → NodeLaws (wired_in d) timers_of (component_numbers of_island) part cells
    laws_of part cells given children =
        let n = nodes part cells given children in
        node_laws d of_island part cells given.rules given.own (Begun part cells) n.gives (given.control []) (islands_do (instances.Node part cells) (given.control []) (given.islands [])) (given_below part cells given) (given_kept part cells given)
        children n.ported

    -- THE LAWS OF THE ROOT'S BLOCK
    module _ (design : IsDesign d) (flat : IsFlat d) (accepted : IsAccepted d) (rules : (path : Path) → ControlRules (instance_at (tree_of d) path)) (islands : (path : Path) → IslandRules (instance_at (tree_of d) path)) where
      given_at : (path : Path) → FineAt NodeGiven (instance_at (tree_of d) path)
      given_at path = by (instance_at (tree_of d) path) (node_rules d design flat accepted path) (cell_rules d design flat accepted path) (rules_below d rules islands path) (islands_below d rules islands path) (seams_at d design flat accepted path)
        where
          by : (i : Instance) → NodeRules d i → CellRules i → ((more : Path) → ControlRules (instance_at i more)) → ((more : Path) → IslandRules (instance_at i more)) → AllNodes (SeamAt d) i → FineAt NodeGiven i
          by (instances.Node part cells) r o c k e = record { rules = r; own = o; control = c; islands = k; seams = e }

      pub design_blocks : BlockLaws (block (wired_in d) timers_of (component_numbers of_island) (tree_of d))
      design_blocks = block_laws (wired_in d) timers_of (component_numbers of_island) NodeGiven laws_of (tree_of d) (all_nodes NodeGiven (tree_of d) given_at)
