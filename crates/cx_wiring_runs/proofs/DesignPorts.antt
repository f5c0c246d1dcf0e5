-- The ports of each node of an accepted design give what it needs of them, where its islands say which groups of theirs go and at which
-- offsets.
use Rattle.std.proofs.Common.{◌≡◌, ℕ, false, [], Some}
use Rattle.std.specs.Prelude.{is_some}
use Rattle.cx_meaning.specs.Designs.{PlainComponent, PlainDesign, PlainForm}
use Rattle.cx_meaning.specs.Instances as instances
use Rattle.cx_meaning.specs.Instances.{Instance, Cells, OfInstance, cell_at}
use Rattle.cx_meaning.specs.Active.{offset_in}
use Rattle.cx_lockstep.specs.Worlds.{Machine}
use Rattle.cx_lockstep.specs.Statements.{LeafMachines}
use Rattle.cx_control.specs.Spots.{Kept}
use Rattle.cx_control.specs.Leaves.{Coded, leaf_machines}
use Rattle.cx_control.specs.Controls.{coded_control, coded_below}
use Rattle.cx_control.proofs.CallLaws.{ChildLaws}
use Rattle.cx_control.proofs.ControlLaws.{IslandsDo}
use Rattle.cx_control.proofs.KeepLaws.{KeepsBelow}
use Rattle.cx_control.proofs.DesignRuns.{islands_do}
use Rattle.cx_net.specs.NetMeaning.{NetState, NetLook, NetAround, truth_bit}
use Rattle.cx_wiring_cycles.specs.IslandNumbers.{of_island}
use Rattle.cx_wiring_cycles.specs.Shown.{told}
use Rattle.cx_wiring_cycles.specs.AtLeaves.{IslandsHold}
use Rattle.cx_wiring_runs.proofs.NodeEdges.{IsGoodCycle, ControlGives, PortsGive}
use Rattle.cx_wiring_runs.proofs.NodeSeam.{entries_at}
use Rattle.cx_wiring_runs.proofs.NodeWires.{timed_now}
use Rattle.cx_wiring_runs.proofs.NodeSays.{OffsetsSaid, leaves_say}
use Rattle.cx_wiring_runs.proofs.PortsGiven.{ports_give}
use Rattle.cx_wiring_runs.proofs.DesignEdges.{NodeGiven, given_below, given_kept}

module _ (d : PlainDesign)
    (Begun : (part : PlainComponent) (cells : Cells) → Machine.Place (Coded.machine (coded_control (instances.Node part cells))) → Kept → NetState → NetAround → NetLook → Type 0)
    (part : PlainComponent) (cells : Cells) (given : NodeGiven d of_island Begun part cells) (gives : ControlGives d of_island part cells given.rules given.own (Begun part cells))
    (timed_saw : Kept → NetState → NetAround → NetLook → (g : ℕ) → Machine.Place (LeafMachines.enable (leaf_machines (instances.Node part cells) (coded_below cells)) g) → Type 0)
    (island_saw : Kept → NetState → NetAround → NetLook → (form : PlainForm) → Machine.Place (LeafMachines.island (leaf_machines (instances.Node part cells) (coded_below cells)) form) → Type 0) where
  abbrev islands : IslandsDo (instances.Node part cells)
  islands = islands_do (instances.Node part cells) (given.control []) (given.islands [])

  abbrev below : (c : ℕ) (child : Instance) → cell_at cells c ≡ OfInstance child → ChildLaws cells c (coded_below cells c)
  below = given_below d of_island Begun part cells given

  abbrev kept : (c : ℕ) (child : Instance) → cell_at cells c ≡ OfInstance child → KeepsBelow cells c
  kept = given_kept d of_island Begun part cells given

  -- what its islands owe in a good cycle
  module _ (p : Machine.Place (Coded.machine (coded_control (instances.Node part cells)))) (s : Kept) (v : NetState) (around : NetAround) (look : NetLook) (cycle : IsGoodCycle d of_island part cells given.rules given.own p s v around look) where
    pub record IslandsOwe : Type 0 where
      -- the ports of static ifs that begin
      pub begun : Begun part cells p s v around look
      -- the goes of its entries
      pub timed_go : (g : ℕ) (stand : Machine.Place (LeafMachines.enable (leaf_machines (instances.Node part cells) (coded_below cells)) g)) (h : ℕ) → told h (Some (truth_bit false)) (gives.of_enable s g stand)
          ≡ Some (truth_bit (is_some (offset_in (timed_now d part cells given.rules given.own (given.control []) islands below kept p s v around look cycle.cycle g stand) h)))
      pub static_go : (form : PlainForm) (stand : Machine.Place (LeafMachines.island (leaf_machines (instances.Node part cells) (coded_below cells)) form)) (h : ℕ) → told h (Some (truth_bit false)) (gives.of_form s form stand)
          ≡ Some (truth_bit (is_some (offset_in (entries_at part cells around v look s p form stand) h)))
      -- and their offsets, where each saw its own
      pub has : IslandsHold (leaf_machines (instances.Node part cells) (coded_below cells)) part (timed_saw s v around look) (island_saw s v around look) part.control p
      pub offsets : OffsetsSaid d part cells given.rules given.own given.seams.0 (given.control []) islands below kept p s v around look cycle.cycle (timed_saw s v around look) (island_saw s v around look)

  -- THE PORTS of the node
  pub node_ports : ((p : Machine.Place (Coded.machine (coded_control (instances.Node part cells)))) (s : Kept) (v : NetState) (around : NetAround) (look : NetLook) (cycle : IsGoodCycle d of_island part cells given.rules given.own p s v around look)
      → IslandsOwe p s v around look cycle) → PortsGive d of_island part cells given.rules given.own (Begun part cells) gives
  node_ports owe =
      ports_give d of_island part cells given.rules given.own given.seams.0 given.seams.1 (given.control []) islands below kept (Begun part cells) gives (λ p s v around look cycle. (owe p s v around look cycle).begun)
      (λ p s v around look cycle r m.
      leaves_say d part cells given.rules given.own given.seams.0 (given.control []) islands below kept p s v around look cycle.cycle (timed_saw s v around look) (island_saw s v around look) (owe p s v around look cycle).offsets
      (owe p s v around look cycle).has (gives.of_enable s) (gives.of_form s)
      (owe p s v around look cycle).timed_go (owe p s v around look cycle).static_go r m)
