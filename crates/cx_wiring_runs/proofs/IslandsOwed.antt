-- WHAT THE ISLANDS OF A NODE OWE in a good cycle: the ports that begin are as the machine sees them, so its islands take the same samples,
-- and their groups go at the same offsets.
use Rattle.std.proofs.Common.{◌≡◌, ℕ, false, [], Some, refl}
use Rattle.std.specs.Prelude.{is_some}
use Rattle.cx_text.specs.declared.places.Place.{Place}
use Rattle.cx_meaning.specs.declared.kinds.GroupKind.{GroupKind}
use Rattle.cx_meaning.specs.declared.kinds.GroupKind.TheVariants as kinds
use Rattle.cx_meaning.specs.Designs.{PlainComponent, PlainDesign, PlainForm, Enable, group_at}
use Rattle.cx_meaning.specs.Instances as instances
use Rattle.cx_meaning.specs.Instances.{Instance, Cells, OfInstance, cell_at}
use Rattle.cx_meaning.specs.Active.{offset_in}
use Rattle.cx_text.specs.Members.{In}
use Rattle.cx_laws.specs.Samples.{active_by}
use Rattle.cx_lockstep.specs.Worlds.{Machine}
use Rattle.cx_lockstep.specs.Running.{Running, AGroup, AnIsland, running}
use Rattle.cx_control.specs.Spots.{Kept}
use Rattle.cx_control.specs.Leaves.{InIsland, Cycle, LastTurn, Coded, sampled_now, kind_machine, leaf_machines}
use Rattle.cx_control.specs.Controls.{coded_control, coded_below}
use Rattle.cx_control.proofs.CallLaws.{ChildLaws}
use Rattle.cx_control.proofs.ControlLaws.{IslandsDo}
use Rattle.cx_control.proofs.KeepLaws.{KeepsBelow}
use Rattle.cx_control.proofs.DesignRuns.{islands_do}
use Rattle.cx_net.specs.NetMeaning.{NetState, NetLook, NetAround, truth_bit}
use Rattle.cx_wiring_cycles.specs.IslandNumbers.{of_island}
use Rattle.cx_wiring_cycles.specs.Shown.{told}
use Rattle.cx_wiring_cycles.proofs.IslandOwns.{goes_told, goes_at, goes_of_kind}
use Rattle.cx_wiring_runs.proofs.IslandsGiven.{port_in, island_begun, timed_begun, Begun, islands_give, islands_say}
use Rattle.cx_wiring_runs.proofs.BegunGiven.{kind_seen, PortsSeen, LeafSeen, begun_given}
use Rattle.cx_wiring_runs.proofs.BegunSeen.{begun_now}
use Rattle.cx_wiring_runs.proofs.NodeControls.{control_gives}
use Rattle.cx_wiring_runs.proofs.NodeEdges.{IsGoodCycle, ControlGives}
use Rattle.cx_wiring_runs.proofs.NodeSeam.{entries_at}
use Rattle.cx_wiring_runs.proofs.NodeWires.{kind_entries}
use Rattle.cx_wiring_runs.proofs.DesignEdges.{NodeGiven, given_below, given_kept}
use Rattle.cx_wiring_runs.proofs.DesignPorts.{IslandsOwe}

module _ (d : PlainDesign) (part : PlainComponent) (cells : Cells) (given : NodeGiven d of_island (λ component inside. Begun d component inside) part cells) where
  -- the control of the node
  abbrev pub controlled : ControlGives d of_island part cells given.rules given.own (Begun d part cells)
  controlled = control_gives d part cells given.rules given.own (given.control []) (Begun d part cells) (islands_give d part cells given.rules given.own (given.control []))

  abbrev islands : IslandsDo (instances.Node part cells)
  islands = islands_do (instances.Node part cells) (given.control []) (given.islands [])

  abbrev below : (c : ℕ) (child : Instance) → cell_at cells c ≡ OfInstance child → ChildLaws cells c (coded_below cells c)
  below = given_below d of_island (λ component inside. Begun d component inside) part cells given

  abbrev kept : (c : ℕ) (child : Instance) → cell_at cells c ≡ OfInstance child → KeepsBelow cells c
  kept = given_kept d of_island (λ component inside. Begun d component inside) part cells given

  module _ (p : Machine.Place (Coded.machine (coded_control (instances.Node part cells)))) (s : Kept) (v : NetState) (around : NetAround) (look : NetLook) (cycle : IsGoodCycle d of_island part cells given.rules given.own p s v around look) where
    -- the ports that begin
    form_sees : (form : PlainForm) (place : Place) (stand : InIsland) → In (running (leaf_machines (instances.Node part cells) (coded_below cells)) part.control p) (AnIsland form place stand) → PortsSeen d part cells s v around look form stand
    form_sees form place (Cycle t samples) m = λ q i. begun_now d of_island part cells given.rules given.own given.seams.0 given.seams.1 (given.control []) p s v around look cycle form place t samples m q i
    form_sees form place LastTurn m = tt

    enable_sees : (g : ℕ) (stand : InIsland) → PortsSeen d part cells s v around look (Enable g) stand
    enable_sees g (Cycle t samples) = λ q i. absurd i
    enable_sees g LastTurn = tt

    kind_sees : (g : ℕ) (kind : GroupKind) (stand : Machine.Place (kind_machine (instances.Node part cells) (coded_below cells) g kind)) → kind_seen d part cells s v around look g kind stand
    kind_sees g kinds.Plain stand = tt
    kind_sees g kinds.Comb stand = tt
    kind_sees g (kinds.Timed n) stand = enable_sees g stand

    leaf_sees : (r : Running (leaf_machines (instances.Node part cells) (coded_below cells))) → In (running (leaf_machines (instances.Node part cells) (coded_below cells)) part.control p) r → LeafSeen d part cells s v around look r
    leaf_sees (AGroup g place stand) m = kind_sees g (group_at part g).kind stand
    leaf_sees (AnIsland form place stand) m = form_sees form place stand m

    begun : Begun d part cells p s v around look
    begun = begun_given d part cells s v around look p leaf_sees

    -- the goes
    form_told : (form : PlainForm) (stand : InIsland) (h : ℕ) → told h (Some (truth_bit false)) (goes_at part cells s form stand) ≡ Some (truth_bit (is_some (offset_in (entries_at part cells around v look s p form stand) h)))
    form_told form (Cycle t samples) h = goes_told (active_by part (sampled_now (instances.Node part cells) form t samples s) t form) h
    form_told form LastTurn h = refl

    kind_told : (g : ℕ) (kind : GroupKind) (stand : Machine.Place (kind_machine (instances.Node part cells) (coded_below cells) g kind)) (h : ℕ) → told h (Some (truth_bit false)) (goes_of_kind part cells s g kind stand)
        ≡ Some (truth_bit (is_some (offset_in (kind_entries d part cells given.rules given.own (given.control []) islands below kept p s v around look cycle.cycle g kind stand) h)))
    kind_told g kinds.Plain stand h = refl
    kind_told g kinds.Comb stand h = refl
    kind_told g (kinds.Timed n) stand h = form_told (Enable g) stand h

    pub owed_now : IslandsOwe d (λ component inside. Begun d component inside) part cells given controlled (λ s v around look. timed_begun part cells s (port_in d part cells v around look))
        (λ s v around look form q. island_begun part cells s (port_in d part cells v around look) form q) p s v around look cycle
    unfolding control_gives
    owed_now = record {
      begun = begun;
      timed_go = λ g stand h. kind_told g (group_at part g).kind stand h;
      static_go = λ form stand h. form_told form stand h;
      has = begun;
      offsets = λ h inside. islands_say d part cells given.rules given.own (given.control []) p s v around look cycle.cycle islands below kept h inside;
    }
