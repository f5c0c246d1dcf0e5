-- The wires of the offsets of the groups that are active in an island that runs: where such a group drives a cell no other leaf that runs has it.
use Rattle.std.proofs.Common.{◌≡◌, ℕ, ◌<◌, true, List, [], ◌∷◌, length, Option, Some, None, sym}
use Rattle.cx_text.specs.declared.places.Place.{Place}
use Rattle.cx_meaning.specs.declared.kinds.GroupKind.{GroupKind}
use Rattle.cx_meaning.specs.declared.kinds.GroupKind.TheVariants as kinds
use Rattle.cx_meaning.specs.Designs.{PlainComponent, PlainDesign, PlainForm, Enable, Placed, group_at}
use Rattle.cx_meaning.specs.Instances as instances
use Rattle.cx_meaning.specs.Instances.{Cells, OfInstance, Instance, cell_at}
use Rattle.cx_meaning.specs.Active.{Entry, offset_in}
use Rattle.cx_text.specs.Members.{In}
use Rattle.cx_meaning.specs.Islands.{group_length}
use Rattle.cx_meaning.specs.Control.{groups_of, group_drives, drives}
use Rattle.cx_meaning.specs.Running.{leaves, control_below}
use Rattle.cx_rules.specs.Footprints.{Reads}
use Rattle.cx_lockstep.specs.Worlds.{Machine}
use Rattle.cx_lockstep.specs.Statements.{LeafMachines}
use Rattle.cx_lockstep.specs.Running.{Running, AGroup, AnIsland, leaf_of, running}
use Rattle.cx_lockstep.proofs.WriteLaws.{Alone, alone}
use Rattle.cx_control.specs.Spots.{Cell, Kept, spots_of, reads_spot}
use Rattle.cx_control.specs.Numbers.{world_of, Rests}
use Rattle.cx_control.specs.Leaves.{Coded, InIsland, Cycle, LastTurn, sampled_now, kind_machine, leaf_machines}
use Rattle.cx_control.specs.Controls.{coded_control, coded_below}
use Rattle.cx_control.specs.InstanceRules.{Stands}
use Rattle.cx_control.specs.ControlRules.{ControlRules}
use Rattle.cx_control.proofs.CallLaws.{ChildLaws}
use Rattle.cx_control.proofs.ControlLaws.{IslandsDo}
use Rattle.cx_control.proofs.KeepLaws as keeps
use Rattle.cx_control.proofs.KeepLaws.{KeepsBelow}
use Rattle.cx_net.specs.NetMeaning.{NetState, NetLook, NetAround, AWire}
use Rattle.cx_wiring_cycles.specs.IslandNumbers.{of_island}
use Rattle.cx_wiring_cycles.specs.IslandNumbers.{of_island}
use Rattle.cx_wiring_cycles.specs.Shown.{wide}
use Rattle.cx_wiring_cycles.specs.AtLeaves.{IslandsHold}
use Rattle.cx_wiring_cycles.proofs.OffsetWalk.{timed_entries, entries_of}
use Rattle.cx_wiring_runs.proofs.NodeRules.{NodeRules}
use Rattle.cx_wiring_runs.proofs.IslandSets.{active_own}
use Rattle.cx_wiring_runs.proofs.NodeCells.{CellRules}
use Rattle.cx_wiring_runs.proofs.NodeEdges.{IsCycle}
use Rattle.cx_wiring_runs.proofs.NodeSeam.{entries_at}
use Rattle.cx_wiring_runs.proofs.NodeOffsets.{IslandsSay, offset_wire}
use Rattle.cx_meaning.proofs.ControlLaws.{groups_drive_in}
use Rattle.cx_meaning.proofs.DesignsLemmas.{driver_there}

module _ (d : PlainDesign) (part : PlainComponent) (cells : Cells) (rules : NodeRules d (instances.Node part cells)) (own : CellRules (instances.Node part cells))
    (control : ControlRules (instances.Node part cells)) (islands : IslandsDo (instances.Node part cells)) (below : (c : ℕ) (child : Instance) → cell_at cells c ≡ OfInstance child → ChildLaws cells c (coded_below cells c))
    (kept : (c : ℕ) (child : Instance) → cell_at cells c ≡ OfInstance child → KeepsBelow cells c)
    (p : Machine.Place (Coded.machine (coded_control (instances.Node part cells)))) (s : Kept) (v : NetState) (around : NetAround) (look : NetLook) (cycle : IsCycle d of_island part cells rules own p s v around look) where
  -- what is active at the place of a leaf
  abbrev pub kind_entries : (g : ℕ) (k : GroupKind) → Machine.Place (kind_machine (instances.Node part cells) (coded_below cells) g k) → List Entry
  kind_entries g kinds.Plain stand = []
  kind_entries g kinds.Comb stand = []
  kind_entries g (kinds.Timed n) stand = entries_at part cells around v look s p (Enable g) stand

  abbrev pub timed_now : (g : ℕ) → Machine.Place (LeafMachines.enable (leaf_machines (instances.Node part cells) (coded_below cells)) g) → List Entry
  timed_now g stand = kind_entries g (group_at part g).kind stand

  abbrev pub static_now : (form : PlainForm) → Machine.Place (LeafMachines.island (leaf_machines (instances.Node part cells) (coded_below cells)) form) → List Entry
  static_now form stand = entries_at part cells around v look s p form stand

  abbrev pub leaf_entries : Running (leaf_machines (instances.Node part cells) (coded_below cells)) → List Entry
  leaf_entries = entries_of (leaf_machines (instances.Node part cells) (coded_below cells)) part timed_now static_now

  none_has : {A : Type 0} (o : ℕ) → ◌≡◌ {A = Option ℕ} None (Some o) → A
  none_has o f = absurd cc

  pub form_own : (form : PlainForm) (place : Place) (stand : InIsland) (g o : ℕ) → offset_in (entries_at part cells around v look s p form stand) g ≡ Some o → In (groups_of (Placed form place)) g
  form_own form place (Cycle t samples) g o e = active_own part (sampled_now (instances.Node part cells) form t samples s) form place t g o e
  form_own form place LastTurn g o e = none_has o e

  kind_own : (g : ℕ) (place : Place) (k : GroupKind) (stand : Machine.Place (kind_machine (instances.Node part cells) (coded_below cells) g k)) (h o : ℕ) → offset_in (kind_entries g k stand) h ≡ Some o → In (groups_of (Placed (Enable g) place)) h
  kind_own g place kinds.Plain stand h o e = none_has o e
  kind_own g place kinds.Comb stand h o e = none_has o e
  kind_own g place (kinds.Timed n) stand h o e = form_own (Enable g) place stand h o e

  -- its groups are the leaf's
  leaf_own : (r : Running (leaf_machines (instances.Node part cells) (coded_below cells))) (h o : ℕ) → offset_in (leaf_entries r) h ≡ Some o → In (groups_of (leaf_of (leaf_machines (instances.Node part cells) (coded_below cells)) r)) h
  leaf_own (AnIsland form place stand) h o e = form_own form place stand h o e
  leaf_own (AGroup g place stand) h o e = by (group_length part g) e
    where
      by : (u : Option ℕ) → offset_in (timed_entries (leaf_machines (instances.Node part cells) (coded_below cells)) part timed_now static_now g u stand) h ≡ Some o → In (groups_of (Placed (Enable g) place)) h
      by None f = none_has o f
      by (Some n) f = kind_own g place (group_at part g).kind stand h o f

  -- THE WIRE
  pub leaf_wire : (timed_saw : (g : ℕ) → Machine.Place (LeafMachines.enable (leaf_machines (instances.Node part cells) (coded_below cells)) g) → Type 0) (island_saw : (form : PlainForm) → Machine.Place (LeafMachines.island (leaf_machines (instances.Node part cells) (coded_below cells)) form) → Type 0)
      → ((g : ℕ) → g < length part.groups → IslandsSay d part cells rules own control p s v around look cycle timed_now static_now timed_saw island_saw g) → IslandsHold (leaf_machines (instances.Node part cells) (coded_below cells)) part timed_saw island_saw part.control p
      → (r : Running (leaf_machines (instances.Node part cells) (coded_below cells))) → In (running (leaf_machines (instances.Node part cells) (coded_below cells)) part.control p) r → (g c o : ℕ) → group_drives part g c ≡ true
      → offset_in (leaf_entries r) g ≡ Some o → look [] (AWire g) ≡ Some (wide o)
  leaf_wire timed_saw island_saw say has r m g c o drives_it e =
      offset_wire d part cells rules own control p s v around look cycle timed_now static_now timed_saw island_saw g (driver_there part g c drives_it) (say g (driver_there part g c drives_it)) has r m o e only
    where
      leaf_drives : (q : Running (leaf_machines (instances.Node part cells) (coded_below cells))) (n : ℕ) → offset_in (leaf_entries q) g ≡ Some n → drives part (leaf_of (leaf_machines (instances.Node part cells) (coded_below cells)) q) c ≡ true
      leaf_drives q n f = groups_drive_in part (groups_of (leaf_of (leaf_machines (instances.Node part cells) (coded_below cells)) q)) g c (leaf_own q g n f) drives_it

      only : (q : Running (leaf_machines (instances.Node part cells) (coded_below cells))) (n : ℕ) → In (running (leaf_machines (instances.Node part cells) (coded_below cells)) part.control p) q → offset_in (leaf_entries q) g ≡ Some n → q ≡ r
      only q n j f =
          sym
          (Alone.is_only (alone (world_of (instances.Node part cells)) (Rests (instances.Node part cells)) (leaves (instances.Node part cells) (control_below cells)) (leaf_machines (instances.Node part cells) (coded_below cells))
          (λ t. spots_of (drives part t)) (λ t. reads_spot (Reads part t)) (Stands (instances.Node part cells)) (keeps.law part cells control islands below kept) s (Cell (c ∷ [])) r (leaf_drives r o e) part.control
          (keeps.root part cells control islands below kept) p m) q j (leaf_drives q n f))
