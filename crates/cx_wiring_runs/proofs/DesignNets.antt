-- THE NET OF AN ACCEPTED DESIGN REALISES IT, from what the machine of its control and the first state of its cells keep.
use Rattle.std.proofs.Common.{true, ◌≡◌, ℕ, List}
use Rattle.cx_meaning.specs.Designs.{PlainComponent, PlainDesign}
use Rattle.cx_meaning.specs.Instances.{Instance, Cells, OfInstance, cell_at, Path, tree_of, instance_at, start, IsSettled}
use Rattle.cx_rules.specs.Flat.{IsFlat}
use Rattle.cx_rules.specs.Accepted.{IsAccepted}
use Rattle.cx_rules.specs.Wellformed.{IsDesign}
use Rattle.cx_control.specs.ControlRules.{ControlRules}
use Rattle.cx_control.specs.IslandRules.{IslandRules}
use Rattle.cx_control.proofs.DesignRuns.{design_runs}
use Rattle.cx_net.specs.NetTree.{net_tree}
use Rattle.cx_static.specs.Lowering.{lowered_of}
use Rattle.cx_wiring.specs.Wiring.{net_of}
use Rattle.cx_wiring.specs.PartNets.{wired_in, timers_of}
use Rattle.cx_wiring.specs.InNet.{RealisesInNet}
use Rattle.cx_wiring_cycles.specs.IslandNumbers.{of_island}
use Rattle.cx_wiring_runs.specs.BlockNumbers.{component_numbers}
use Rattle.cx_wiring_runs.specs.Blocks.{block_below, BlockLaws}
use Rattle.cx_wiring_runs.proofs.DesignEdges.{NodeGiven, NodeGives}
use Rattle.cx_wiring_runs.proofs.DesignPorts.{node_ports}
use Rattle.cx_wiring_runs.proofs.IslandsGiven.{port_in, island_begun, timed_begun, Begun}
use Rattle.cx_wiring_runs.proofs.IslandsOwed.{controlled, owed_now}
use Rattle.cx_wiring_runs.proofs.DesignRoots.{CellsHold, design_realised}
use Rattle.cx_wiring_runs.proofs.DesignHolds.{HoldsNet, design_solves, design_holds_on, design_holds_first}
use Rattle.cx_wiring_runs.proofs.IslandStarts.{islands_start}
use Rattle.cx_wiring_runs.proofs.DesignGrounded.{design_grounded}

module _ (d : PlainDesign) where
  -- EACH NODE gives its control and its ports
  pub nodes : (part : PlainComponent) (cells : Cells) (given : NodeGiven d of_island (λ component inside. Begun d component inside) part cells)
      → ((c : ℕ) (child : Instance) → cell_at cells c ≡ OfInstance child → BlockLaws (block_below (wired_in d) timers_of (component_numbers of_island) cells (timers_of part) c))
      → NodeGives d of_island (λ component inside. Begun d component inside) part cells given.rules given.own
  nodes part cells given children = record {
    gives = controlled d part cells given;
    ported = node_ports d (λ component inside. Begun d component inside) part cells given (controlled d part cells given) (λ s v around look. timed_begun part cells s (port_in d part cells v around look))
        (λ s v around look form q. island_begun part cells s (port_in d part cells v around look) form q) (λ p s v around look cycle. owed_now d part cells given p s v around look cycle);
  }

  module _ (design : IsDesign d) (flat : IsFlat d) (accepted : IsAccepted d) (rules : (path : Path) → ControlRules (instance_at (tree_of d) path)) (islands : (path : Path) → IslandRules (instance_at (tree_of d) path))
      (settled : (words : List (List ℕ)) → IsSettled (tree_of d) (start (tree_of d) words)) where
    pub cells_hold : CellsHold d of_island (λ component inside. Begun d component inside) (HoldsNet d design flat accepted) nodes design flat accepted rules islands settled
    cells_hold = record {
      whole_solves = design_solves d design flat accepted true;
      holds_on = design_holds_on d design flat accepted true;
      holds_first = design_holds_first d design flat accepted;
      islands_first = islands_start d design flat accepted;
    }

    -- THE NET REALISES THE DESIGN
    pub net_realised : RealisesInNet d (net_tree (net_of (lowered_of d)))
    net_realised =
        design_realised d of_island (λ component inside. Begun d component inside) (HoldsNet d design flat accepted) nodes design flat accepted rules islands settled cells_hold (design_runs d rules islands settled) (design_grounded d design flat accepted)
