-- What the edges of a script owe in the net of an accepted design: those of a run, that of the cycle of done, and those that wait.
use Rattle.std.proofs.Common.{◌≡◌, ℕ, Bool, true, false, List, refl, sym, ap, ◌∙◌, subst, arith}
use Rattle.std.specs.Option.{option_map_or}
use Rattle.cx_meaning.specs.Designs.{PlainDesign}
use Rattle.cx_meaning.specs.Instances.{State, Path, idle_at, tree_of, instance_at, start, IsSettled}
use Rattle.cx_meaning.specs.Sights.{unheld}
use Rattle.cx_rules.specs.Flat.{IsFlat}
use Rattle.cx_rules.specs.Accepted.{IsAccepted}
use Rattle.cx_rules.specs.Wellformed.{IsDesign}
use Rattle.cx_lockstep.specs.Worlds.{Done, Machine}
use Rattle.cx_control.specs.Codings.{Coding}
use Rattle.cx_control.specs.Spots.{Kept, shown}
use Rattle.cx_control.specs.Leaves.{Coded, code_of}
use Rattle.cx_control.specs.Controls.{coded_control}
use Rattle.cx_control.specs.Numbers.{number_idle_at}
use Rattle.cx_control.specs.Standing.{bare, good_control}
use Rattle.cx_control.specs.Keeping.{AllRest}
use Rattle.cx_control.specs.ControlRules.{ControlRules}
use Rattle.cx_control.specs.DesignRuns.{design_machine}
use Rattle.cx_control.specs.IslandRules.{IslandRules}
use Rattle.cx_net.specs.NetTree.{NetInstance, net_tree}
use Rattle.cx_net.specs.NetMeaning.{NetState, NetLook, outside, truth_bit, is_true}
use Rattle.cx_net.specs.NetEdges.{net_after}
use Rattle.cx_net.specs.NetRuns as nets
use Rattle.cx_net.specs.NetRuns.{IsWholeLook}
use Rattle.cx_static.specs.Lowering.{lowered_of}
use Rattle.cx_wiring.specs.PartNets.{wired_in, timers_of, net_of_instance}
use Rattle.cx_wiring.specs.Wiring.{net_of}
use Rattle.cx_wiring_cycles.specs.IslandNumbers.{of_island}
use Rattle.cx_wiring_runs.proofs.GroundedRuns.{HasLook}
use Rattle.cx_wiring_runs.specs.BlockNumbers.{component_numbers}
use Rattle.cx_wiring_runs.specs.Blocks.{block, BlockLaws}
use Rattle.cx_wiring_runs.proofs.DesignEdges.{design_blocks}
use Rattle.cx_wiring_runs.proofs.DesignHolds.{HoldsNet, design_solves, design_holds_on, same}
use Rattle.cx_wiring_runs.proofs.DesignRoots.{edge_keeps, root_region, start_zero, root_keeps}
use Rattle.cx_wiring_runs.proofs.EdgeRuns.{Place, EdgeKeeps}
use Rattle.cx_wiring_runs.proofs.IslandsGiven.{Begun}
use Rattle.cx_wiring_runs.proofs.RootEdges.{GoodRoot, ShowsRoot}
use Rattle.cx_wiring_runs.proofs.DesignNets.{nodes, cells_hold}
use Rattle.cx_emitted.proofs.BlockLemmas.{shows_behind, shows_still}
use Rattle.cx_emitted.proofs.GroundLemmas.{has_look}

-- WHAT THE EDGES OF A SCRIPT OWE beside those of a run, where Holds says what states hold
pub record ScriptKeeps (d : PlainDesign) (tree : NetInstance) (Holds : NetState → Type 0) (Good : Place d tree → Kept → Type 0) (Shows : Place d tree → Kept → NetState → Type 0) : Type 0 where
  pub law : EdgeKeeps d tree Good Shows
  pub looks : (go : Bool) (v : NetState) → Holds v → HasLook tree go v
  pub holds_on : (go : Bool) (v : NetState) (look : NetLook) → Holds v → IsWholeLook tree go v look → Holds (net_after tree false go v look)
  pub holds : (c : Place d tree) (s : Kept) (v : NetState) → Shows c s v → Holds v
  pub good : (s : State) → IsSettled (tree_of d) s → Good (Machine.start (design_machine d)) (shown unheld s)
  pub again : (s : State) (v : NetState) (look : NetLook) → IsSettled (tree_of d) s → Shows Done (shown unheld s) v → IsWholeLook tree true v look
      → Shows (Machine.start (design_machine d)) (shown unheld s) (net_after tree false true v look)
  pub still : (s : State) (v : NetState) (look : NetLook) → IsSettled (tree_of d) s → Shows (Machine.start (design_machine d)) (shown unheld s) v → IsWholeLook tree false v look
      → Shows (Machine.start (design_machine d)) (shown unheld s) (net_after tree false false v look)
  pub quiet : (s : State) (v : NetState) (look : NetLook) → Shows (Machine.start (design_machine d)) (shown unheld s) v → IsWholeLook tree false v look → nets.is_done look ≡ false

module _ (d : PlainDesign) (design : IsDesign d) (flat : IsFlat d) (accepted : IsAccepted d) where
  abbrev whole : NetInstance
  whole = net_of_instance (wired_in d) timers_of (component_numbers of_island) (tree_of d)

  module _ (rules : (path : Path) → ControlRules (instance_at (tree_of d) path)) (islands : (path : Path) → IslandRules (instance_at (tree_of d) path))
      (settled : (words : List (List ℕ)) → IsSettled (tree_of d) (start (tree_of d) words)) where
    abbrev pub RootGood : Place d (net_tree (net_of (lowered_of d))) → Kept → Type 0
    RootGood c s = GoodRoot (wired_in d) timers_of (component_numbers of_island) d (HoldsNet d design flat accepted) c s

    abbrev pub RootShows : Place d (net_tree (net_of (lowered_of d))) → Kept → NetState → Type 0
    RootShows c s v = ShowsRoot (wired_in d) timers_of (component_numbers of_island) d (HoldsNet d design flat accepted) c s v

    blocks : BlockLaws (block (wired_in d) timers_of (component_numbers of_island) (tree_of d))
    blocks = design_blocks d of_island (λ component inside. Begun d component inside) (nodes d) design flat accepted rules islands

    -- the cells of a settled state rest
    rest : (s : State) → IsSettled (tree_of d) s → AllRest (coded_control (tree_of d)) (good_control (tree_of d)) (λ path v. idle_at (tree_of d) path v) (λ path n v. number_idle_at (tree_of d) path n v) (bare (shown unheld s))
    rest s is = record { cells = is; numbers = λ c path n. refl }

    start_good : (s : State) → IsSettled (tree_of d) s → RootGood (Machine.start (design_machine d)) (shown unheld s)
    start_good s is = record { fine = (root_region d rules).coded.starts; good = (root_keeps d rules islands).started (bare (shown unheld s)) (rest s is); no_input = λ n x e. absurd cc }

    -- the place of a start is not the end
    not_ended : code_of (coded_control (tree_of d)) (Machine.start (Coded.machine (coded_control (tree_of d)))) 0 ≡ Coding.size (Coded.coding (coded_control (tree_of d))) → ⊥
    not_ended e =
        let zero_is = sym (start_zero d rules 0) ∙ e in
        let low = (root_region d rules).coded.below (root_region d rules).front.first in
        omega (arith, zero_is, low)

    edges : ScriptKeeps d whole (HoldsNet d design flat accepted) RootGood RootShows
    edges = record {
      law = subst (λ tree. EdgeKeeps d tree RootGood RootShows) (same d design flat accepted) (edge_keeps d of_island (λ component inside. Begun d component inside) (HoldsNet d design flat accepted) (nodes d) design flat accepted rules islands settled (cells_hold d design flat accepted rules islands settled));
      looks = λ go v h. subst (λ tree. HasLook tree go v) (same d design flat accepted) (has_look d design flat accepted go v h);
      holds_on = design_holds_on d design flat accepted;
      holds = λ c s v shows. shows.holds;
      good = start_good;
      again = λ s v look is shows w. record {
        shown_so = shows_behind (block (wired_in d) timers_of (component_numbers of_island) (tree_of d)) blocks (root_keeps d rules islands) (start_zero d rules) (shown unheld s) v (outside true) look shows.shown_so (rest s is) (design_solves d design flat accepted true v look shows.holds w);
        holds = design_holds_on d design flat accepted true v look shows.holds w;
      };
      still = λ s v look is shows w. record {
        shown_so =
            shows_still (block (wired_in d) timers_of (component_numbers of_island) (tree_of d)) blocks (root_keeps d rules islands) (start_zero d rules) (shown unheld s) v (outside false) look shows.shown_so (rest s is) (truth_bit false, refl, refl)
            (design_solves d design flat accepted false v look shows.holds w);
        holds = design_holds_on d design flat accepted false v look shows.holds w;
      };
      quiet = λ s v look shows w.
          let t = blocks.done.told v (outside false) look (design_solves d design flat accepted false v look shows.holds w) in
          ap (λ o. option_map_or is_true o false) t.1 ∙ t.3 (λ e. not_ended (sym (shows.shown_so.own 0) ∙ e));
    }

    -- IN THE NET of the design
    pub script_keeps : ScriptKeeps d (net_tree (net_of (lowered_of d))) (HoldsNet d design flat accepted) RootGood RootShows
    script_keeps = subst (λ tree. ScriptKeeps d tree (HoldsNet d design flat accepted) RootGood RootShows) (sym (same d design flat accepted)) edges
