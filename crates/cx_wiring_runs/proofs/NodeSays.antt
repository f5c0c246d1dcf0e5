-- Each leaf of an island that runs has its say in the net: its entries go, their offsets stand in their wires, and their assignments stand in
-- the net. What one island says is a premise here.
use Rattle.std.proofs.Common.{◌≡◌, ℕ, ◌<◌, true, false, inl, inr, List, [], ◌∷◌, length, Option, Some, None, refl, sym, ap, ◌∙◌, subst}
use Rattle.std.specs.Prelude.{is_some}
use Rattle.cx_text.specs.declared.places.Place.{Place}
use Rattle.cx_meaning.specs.declared.kinds.GroupKind.{GroupKind}
use Rattle.cx_meaning.specs.declared.kinds.GroupKind.TheVariants as kinds
use Rattle.cx_meaning.specs.Designs.{PlainCell, PlainComponent, PlainDesign, PlainForm, Enable, group_at}
use Rattle.cx_meaning.specs.Instances as instances
use Rattle.cx_meaning.specs.Instances.{Instance, Cells, OfInstance, cell_at}
use Rattle.cx_meaning.specs.Active.{Entry, offset_in}
use Rattle.cx_text.specs.Members.{In}
use Rattle.cx_meaning.specs.Islands.{kind_length, group_length}
use Rattle.cx_lockstep.specs.Worlds.{At, Machine}
use Rattle.cx_lockstep.specs.Statements.{LeafMachines}
use Rattle.cx_lockstep.specs.Running.{Running, AGroup, AnIsland, running}
use Rattle.cx_control.specs.Spots.{Kept}
use Rattle.cx_control.specs.Leaves.{Coded, InIsland, Cycle, LastTurn, sampled_now, kind_machine, leaf_machines}
use Rattle.cx_control.specs.Controls.{coded_control, coded_below}
use Rattle.cx_control.specs.ControlRules.{ControlRules}
use Rattle.cx_control.proofs.CallLaws.{ChildLaws}
use Rattle.cx_control.proofs.ControlLaws.{IslandsDo}
use Rattle.cx_control.proofs.KeepLaws as keeps
use Rattle.cx_control.proofs.KeepLaws.{KeepsBelow}
use Rattle.cx_net.specs.NetMeaning.{NetState, NetLook, NetAround, truth_bit}
use Rattle.cx_wiring.specs.Assignments.{occurs_among}
use Rattle.cx_wiring_cycles.specs.IslandNumbers.{of_island}
use Rattle.cx_wiring_cycles.specs.IslandNumbers.{of_island}
use Rattle.cx_wiring_cycles.specs.Shown.{Going, told}
use Rattle.cx_wiring_cycles.specs.AtLeaves.{IslandsHold}
use Rattle.cx_static.specs.Lowering.{island_gathered}
use Rattle.cx_wiring_cycles.proofs.OffsetWalk.{timed_entries}
use Rattle.cx_wiring_runs.proofs.NodeRules.{NodeRules}
use Rattle.cx_wiring_runs.proofs.SeamRules.{SeamRules}
use Rattle.cx_wiring_runs.proofs.NodeCells.{CellRules}
use Rattle.cx_wiring_runs.proofs.NodeEdges.{IsCycle}
use Rattle.cx_wiring_runs.proofs.NodeSeam.{entries_at, SaysActive, KindSays, LeafSays}
use Rattle.cx_wiring_runs.proofs.Occurrences.{active_occurs}
use Rattle.cx_wiring_runs.proofs.RunOccurs.{leaf_stands_in}
use Rattle.cx_wiring_runs.proofs.NodeOffsets.{IslandsSay}
use Rattle.cx_wiring_runs.proofs.NodeWires.{kind_entries, timed_now, static_now, form_own, leaf_wire}
use Rattle.cx_meaning.proofs.DesignsLemmas.{driver_there}

module _ (d : PlainDesign) (part : PlainComponent) (cells : Cells) (rules : NodeRules d (instances.Node part cells)) (own : CellRules (instances.Node part cells)) (seams : SeamRules d (instances.Node part cells))
    (control : ControlRules (instances.Node part cells)) (islands : IslandsDo (instances.Node part cells)) (below : (c : ℕ) (child : Instance) → cell_at cells c ≡ OfInstance child → ChildLaws cells c (coded_below cells c))
    (kept : (c : ℕ) (child : Instance) → cell_at cells c ≡ OfInstance child → KeepsBelow cells c)
    (p : Machine.Place (Coded.machine (coded_control (instances.Node part cells)))) (s : Kept) (v : NetState) (around : NetAround) (look : NetLook) (cycle : IsCycle d of_island part cells rules own p s v around look)
    (timed_saw : (g : ℕ) → Machine.Place (LeafMachines.enable (leaf_machines (instances.Node part cells) (coded_below cells)) g) → Type 0) (island_saw : (form : PlainForm) → Machine.Place (LeafMachines.island (leaf_machines (instances.Node part cells) (coded_below cells)) form) → Type 0) where
  -- the leaf's own entries
  abbrev timed_here : (g : ℕ) → Machine.Place (LeafMachines.enable (leaf_machines (instances.Node part cells) (coded_below cells)) g) → List Entry
  timed_here = timed_now d part cells rules own control islands below kept p s v around look cycle

  abbrev static_here : (form : PlainForm) → Machine.Place (LeafMachines.island (leaf_machines (instances.Node part cells) (coded_below cells)) form) → List Entry
  static_here = static_now d part cells rules own control islands below kept p s v around look cycle

  -- WHAT ONE ISLAND SAYS of each group's offset
  abbrev pub OffsetsSaid : Type 0
  OffsetsSaid = (g : ℕ) → g < length part.groups → IslandsSay d part cells rules own control p s v around look cycle (timed_now d part cells rules own control islands below kept p s v around look cycle)
      (static_now d part cells rules own control islands below kept p s v around look cycle) timed_saw island_saw g

  module _ (said : OffsetsSaid) (has : IslandsHold (leaf_machines (instances.Node part cells) (coded_below cells)) part timed_saw island_saw part.control p)
      (of_enable : (g : ℕ) → Machine.Place (LeafMachines.enable (leaf_machines (instances.Node part cells) (coded_below cells)) g) → List Going)
      (of_form : (form : PlainForm) → Machine.Place (LeafMachines.island (leaf_machines (instances.Node part cells) (coded_below cells)) form) → List Going)
      (timed_go : (g : ℕ) (stand : Machine.Place (LeafMachines.enable (leaf_machines (instances.Node part cells) (coded_below cells)) g)) (h : ℕ) → told h (Some (truth_bit false)) (of_enable g stand)
      ≡ Some (truth_bit (is_some (offset_in (timed_now d part cells rules own control islands below kept p s v around look cycle g stand) h))))
      (static_go : (form : PlainForm) (stand : Machine.Place (LeafMachines.island (leaf_machines (instances.Node part cells) (coded_below cells)) form)) (h : ℕ) → told h (Some (truth_bit false)) (of_form form stand)
      ≡ Some (truth_bit (is_some (offset_in (entries_at part cells around v look s p form stand) h)))) where
    none_has : {A : Type 0} (o : ℕ) → ◌≡◌ {A = Option ℕ} None (Some o) → A
    none_has o f = absurd cc

    -- an occurrence in its island
    form_occurs : (form : PlainForm) (stand : InIsland) (g o : ℕ) → is_some (group_length part g) ≡ true → offset_in (entries_at part cells around v look s p form stand) g ≡ Some o → (front : List PlainCell)
        → occurs_among g (island_gathered part form front).occurrences ≡ true
    form_occurs form (Cycle t samples) g o static e front = active_occurs part g (sampled_now (instances.Node part cells) form t samples s) static form t o front e
    form_occurs form LastTurn g o static e front = none_has o e

    island_says : (form : PlainForm) (place : Place) (stand : InIsland) → In (running (leaf_machines (instances.Node part cells) (coded_below cells)) part.control p) (AnIsland form place stand) → SaysActive part cells around v look s p (of_form form stand) (entries_at part cells around v look s p form stand)
    island_says form place stand m = record {
      goes = static_go form stand;
      wire = λ g c o drives_it e. leaf_wire d part cells rules own control islands below kept p s v around look cycle timed_saw island_saw said has (AnIsland form place stand) m g c o drives_it e;
      stands = λ g c o drives_it e.
          leaf_stands_in (leaf_machines (instances.Node part cells) (coded_below cells)) part g (AnIsland form place stand) (form_occurs form stand g o (its_length g o e) e) p m (driver_there part g c drives_it);
    }
      where
        its_length : (g o : ℕ) → offset_in (entries_at part cells around v look s p form stand) g ≡ Some o → is_some (group_length part g) ≡ true
        its_length g o e =
            seams.rests.statics form place (keeps.run_stands part cells control islands below kept (At p) (AnIsland form place stand) m) (keeps.run_leaf part cells control islands below kept (At p) (AnIsland form place stand) m) g
            (form_own d part cells rules own control islands below kept p s v around look cycle form place stand g o e)

    timed_says : (g : ℕ) (place : Place) (stand : Machine.Place (LeafMachines.enable (leaf_machines (instances.Node part cells) (coded_below cells)) g)) → In (running (leaf_machines (instances.Node part cells) (coded_below cells)) part.control p) (AGroup g place stand) → (n : ℕ)
        → (group_at part g).kind ≡ kinds.Timed n → SaysActive part cells around v look s p (of_enable g stand) (timed_now d part cells rules own control islands below kept p s v around look cycle g stand)
    timed_says g place stand m n is = record {
      goes = timed_go g stand;
      wire = λ h c o drives_it e. leaf_wire d part cells rules own control islands below kept p s v around look cycle timed_saw island_saw said has (AGroup g place stand) m h c o drives_it
          (subst (λ u. offset_in (timed_list u) h ≡ Some o) (sym (ap kind_length is)) e);
      stands = λ h c o drives_it e.
          leaf_stands_in (leaf_machines (instances.Node part cells) (coded_below cells)) part h (AGroup g place stand) ((n, ap kind_length is), occurs (group_at part g).kind stand h o is e) p m (driver_there part h c drives_it);
    }
      where
        timed_list : Option ℕ → List Entry
        timed_list u = timed_entries (leaf_machines (instances.Node part cells) (coded_below cells)) part timed_here static_here g u stand

        same_group : (h : ℕ) → In (g ∷ []) h → is_some (group_length part h) ≡ true
        same_group h (inl f) = ap (λ x. is_some (group_length part x)) (sym f) ∙ ap (λ k. is_some (kind_length k)) is
        same_group h (inr none) = absurd none

        occurs : (k : GroupKind) (q : Machine.Place (kind_machine (instances.Node part cells) (coded_below cells) g k)) (h o : ℕ) → k ≡ kinds.Timed n
            → offset_in (kind_entries d part cells rules own control islands below kept p s v around look cycle g k q) h ≡ Some o → (front : List PlainCell) → occurs_among h (island_gathered part (Enable g) front).occurrences ≡ true
        occurs kinds.Plain q h o f e front = none_has o e
        occurs kinds.Comb q h o f e front = none_has o e
        occurs (kinds.Timed k) q h o f e front =
            form_occurs (Enable g) q h o (same_group h (form_own d part cells rules own control islands below kept p s v around look cycle (Enable g) place q h o e)) e front

    -- EACH LEAF that runs
    pub leaves_say : (r : Running (leaf_machines (instances.Node part cells) (coded_below cells))) → In (running (leaf_machines (instances.Node part cells) (coded_below cells)) part.control p) r → LeafSays part cells around v look s p of_enable of_form r
    leaves_say (AnIsland form place stand) m = island_says form place stand m
    leaves_say (AGroup g place stand) m = of_kind (group_at part g).kind refl stand (λ n e. timed_says g place stand m n e)
      where
        of_kind : (k : GroupKind) → (group_at part g).kind ≡ k → (q : Machine.Place (kind_machine (instances.Node part cells) (coded_below cells) g k))
            → ((n : ℕ) → k ≡ kinds.Timed n → SaysActive part cells around v look s p (of_enable g stand) (kind_entries d part cells rules own control islands below kept p s v around look cycle g k q))
            → KindSays part cells around v look s p of_enable of_form g (of_enable g stand) k q
        of_kind kinds.Plain e q says = tt
        of_kind kinds.Comb e q says = tt
        of_kind (kinds.Timed n) e q says = says n refl
