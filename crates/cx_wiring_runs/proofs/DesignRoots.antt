-- What one edge owes, in the net of an accepted design, and so that the net realises it: from what control and ports give each node, and
-- that the net is grounded.
use Rattle.std.proofs.Common.{◌≡◌, ℕ, true, false, List, [], ◌∷◌, refl, sym, ◌∙◌, subst}
use Rattle.cx_meaning.specs.Designs.{PlainComponent, PlainDesign}
use Rattle.cx_meaning.specs.Instances as instances
use Rattle.cx_meaning.specs.Instances.{Instance, Cells, OfInstance, cell_at, Path, idle_at, tree_of, instance_at, start, IsSettled}
use Rattle.cx_meaning.specs.Sights.{unheld}
use Rattle.cx_rules.specs.Flat.{IsFlat}
use Rattle.cx_rules.specs.Accepted.{IsAccepted}
use Rattle.cx_rules.specs.Wellformed.{IsDesign}
use Rattle.cx_lockstep.specs.Worlds.{Machine}
use Rattle.cx_control.specs.CodingLaws.{region_bank_is}
use Rattle.cx_control.specs.StatementCodingLaws.{IsRegion}
use Rattle.cx_control.specs.Spots.{Cell, Kept, shown}
use Rattle.cx_control.specs.Leaves.{Coded, code_of}
use Rattle.cx_control.specs.Controls.{coded_control}
use Rattle.cx_control.specs.Numbers.{number_idle_at}
use Rattle.cx_control.specs.Standing.{bare, good_control}
use Rattle.cx_control.specs.Keeping.{Keeps}
use Rattle.cx_control.specs.ControlRules.{ControlRules}
use Rattle.cx_control.specs.IslandRules.{IslandRules}
use Rattle.cx_control.proofs.ControlLaws.{control_coded}
use Rattle.cx_control.proofs.KeepLaws.{control_keeps}
use Rattle.cx_control.specs.DesignRuns.{MachineRuns}
use Rattle.cx_control.proofs.DesignRuns.{islands_do}
use Rattle.cx_net.specs.NetMeaning.{NetState, NetLook, NetAround, outside}
use Rattle.cx_net.specs.NetTree.{net_tree}
use Rattle.cx_net.specs.NetEdges.{net_after}
use Rattle.cx_net.specs.NetRuns.{IsWholeLook, AreWords, IsGrounded, net_start}
use Rattle.cx_static.specs.Lowering.{lowered_of}
use Rattle.cx_wiring.specs.Wiring.{net_of}
use Rattle.cx_wiring.specs.PartNets.{wired_in, timers_of, net_of_instance}
use Rattle.cx_wiring.specs.InNet.{RealisesInNet}
use Rattle.cx_wiring.proofs.NetTrees.{net_tree-net_of}
use Rattle.cx_wiring_runs.specs.BlockNumbers.{component_numbers}
use Rattle.cx_wiring_runs.specs.Blocks.{block, block_below, numbers_at, Solves, BlockLaws}
use Rattle.cx_wiring_runs.proofs.EdgeRuns.{EdgeKeeps}
use Rattle.cx_wiring_runs.proofs.RootEdges.{GoodRoot, ShowsRoot, RootLaws, edge_of_blocks}
use Rattle.cx_wiring_runs.proofs.NetRealises.{net_realises}
use Rattle.cx_wiring_runs.proofs.ZeroNumbers.{IslandsRest, numbers_zero}
use Rattle.cx_wiring_runs.proofs.StartCells.{cells_start, words_same, external_there}
use Rattle.cx_wiring_runs.proofs.DesignEdges.{NodeGiven, NodeGives, design_blocks}
use Rattle.cx_meaning.proofs.InstancesLemmas.{here}

-- CONTROL AT THE ROOT: its codes begin with 0, and it keeps its children resting
module _ (d : PlainDesign) (rules : (path : Path) → ControlRules (instance_at (tree_of d) path)) where
  pub root_region : IsRegion (Coded.machine (coded_control (tree_of d))) (Coded.coding (coded_control (tree_of d)))
  root_region = control_coded (tree_of d) (subst ControlRules (here (tree_of d)) (rules []))

  pub start_zero : (n : ℕ) → code_of (coded_control (tree_of d)) (Machine.start (Coded.machine (coded_control (tree_of d)))) n ≡ 0
  start_zero = (region_bank_is (Coded.machine (coded_control (tree_of d))) (Coded.coding (coded_control (tree_of d))) root_region.coded root_region.front).zeros_at

  pub root_keeps : ((path : Path) → IslandRules (instance_at (tree_of d) path))
      → Keeps (coded_control (tree_of d)) (good_control (tree_of d)) (λ path v. idle_at (tree_of d) path v) (λ path n v. number_idle_at (tree_of d) path n v)
  root_keeps islands = control_keeps (tree_of d) rules (λ path. islands_do (instance_at (tree_of d) path) (rules path) (islands path))

module _ (d : PlainDesign) (of_island : PlainComponent → NetState → ℕ → ℕ → ℕ → ℕ)
    (Begun : (part : PlainComponent) (cells : Cells) → Machine.Place (Coded.machine (coded_control (instances.Node part cells))) → Kept → NetState → NetAround → NetLook → Type 0) (Holds : NetState → Type 0)
    (nodes : (part : PlainComponent) (cells : Cells) (given : NodeGiven d of_island Begun part cells)
    → ((c : ℕ) (child : Instance) → cell_at cells c ≡ OfInstance child → BlockLaws (block_below (wired_in d) timers_of (component_numbers of_island) cells (timers_of part) c)) → NodeGives d of_island Begun part cells given.rules given.own)
    (design : IsDesign d) (flat : IsFlat d) (accepted : IsAccepted d) (rules : (path : Path) → ControlRules (instance_at (tree_of d) path)) (islands : (path : Path) → IslandRules (instance_at (tree_of d) path))
    (settled : (words : List (List ℕ)) → IsSettled (tree_of d) (start (tree_of d) words)) where
  -- WHAT CELLS HOLD, so that each node of one bit is a bit; and islands rest after the reset
  pub record CellsHold : Type 0 where
    pub whole_solves : (v : NetState) (look : NetLook) → Holds v → IsWholeLook (net_of_instance (wired_in d) timers_of (component_numbers of_island) (tree_of d)) true v look
        → Solves (block (wired_in d) timers_of (component_numbers of_island) (tree_of d)) (outside true) v look
    pub holds_on : (v : NetState) (look : NetLook) → Holds v → IsWholeLook (net_of_instance (wired_in d) timers_of (component_numbers of_island) (tree_of d)) true v look
        → Holds (net_after (net_of_instance (wired_in d) timers_of (component_numbers of_island) (tree_of d)) false true v look)
    pub holds_first : (words : List (List ℕ)) (look : NetLook) → AreWords d words
        → Holds (net_after (net_of_instance (wired_in d) timers_of (component_numbers of_island) (tree_of d)) true false (net_start (net_of_instance (wired_in d) timers_of (component_numbers of_island) (tree_of d)) words) look)
    pub islands_first : (words : List (List ℕ)) (look : NetLook)
        → IslandsRest of_island (wired_in d) timers_of (tree_of d) (net_after (net_of_instance (wired_in d) timers_of (component_numbers of_island) (tree_of d)) true false
        (net_start (net_of_instance (wired_in d) timers_of (component_numbers of_island) (tree_of d)) words) look)

  module _ (cells_hold : CellsHold) where
    abbrev first_state : List (List ℕ) → NetLook → NetState
    first_state words look = net_after (net_of_instance (wired_in d) timers_of (component_numbers of_island) (tree_of d)) true false (net_start (net_of_instance (wired_in d) timers_of (component_numbers of_island) (tree_of d)) words) look

    zero_first : (words : List (List ℕ)) (look : NetLook) (path : Path) (n : ℕ) → numbers_at (wired_in d) timers_of (component_numbers of_island) (tree_of d) (first_state words look) path n ≡ 0
    zero_first words look path n = numbers_zero of_island (wired_in d) timers_of (tree_of d) (first_state words look) (λ p m. refl) (cells_hold.islands_first words look) path n

    root_laws : RootLaws (wired_in d) timers_of (component_numbers of_island) d Holds
    root_laws = record {
      block_laws = design_blocks d of_island Begun nodes design flat accepted rules islands;
      keeps = root_keeps d rules islands;
      below = (root_region d rules).coded.below;
      whole_solves = cells_hold.whole_solves;
      holds_on = cells_hold.holds_on;
      starts = λ words look fits whole. (
        record {
          fine = (root_region d rules).coded.starts;
          good = (root_keeps d rules islands).started (bare (shown unheld (start (tree_of d) words))) (record { cells = settled words; numbers = λ c path n. refl });
          no_input = λ n x e. absurd cc;
        },
        record {
          shown_so = record {
            cells = λ path there. cells_start d (component_numbers of_island) (tree_of d) look words path there;
            own = λ n. zero_first words look [] n ∙ sym (start_zero d rules n);
            below = λ c path n. zero_first words look (c ∷ path) n;
          };
          holds = cells_hold.holds_first words look fits;
        },
      );
      words = λ s v same. words_same d (component_numbers of_island) (tree_of d) (λ path. s (Cell path)) v (external_there d design) same;
    }

    -- WHAT ONE EDGE OWES
    pub edge_keeps : EdgeKeeps d (net_tree (net_of (lowered_of d))) (GoodRoot (wired_in d) timers_of (component_numbers of_island) d Holds) (ShowsRoot (wired_in d) timers_of (component_numbers of_island) d Holds)
    edge_keeps =
        subst (λ tree. EdgeKeeps d tree (GoodRoot (wired_in d) timers_of (component_numbers of_island) d Holds) (ShowsRoot (wired_in d) timers_of (component_numbers of_island) d Holds))
        (sym (net_tree-net_of d design (component_numbers of_island))) (edge_of_blocks (wired_in d) timers_of (component_numbers of_island) d Holds root_laws)

    -- THE NET REALISES THE DESIGN where it is grounded
    pub design_realised : MachineRuns d → IsGrounded (AreWords d) (net_tree (net_of (lowered_of d))) → RealisesInNet d (net_tree (net_of (lowered_of d)))
    design_realised runs grounded =
        net_realises d (net_tree (net_of (lowered_of d))) (GoodRoot (wired_in d) timers_of (component_numbers of_island) d Holds) (ShowsRoot (wired_in d) timers_of (component_numbers of_island) d Holds) runs edge_keeps grounded
