-- In a cycle without a fault the ports of the static ifs that begin have in the net of a node what its machine takes, whatever goes there.
use Rattle.std.proofs.Common.{◌≡◌, ℕ, [], ◌∷◌}
use Rattle.cx_text.specs.Members.{In}
use Rattle.cx_text.specs.declared.places.Place.{Place}
use Rattle.cx_meaning.specs.declared.ports.PortRef.{PortRef}
use Rattle.cx_meaning.specs.Designs.{PlainComponent, PlainDesign, PlainForm}
use Rattle.cx_meaning.specs.Instances as instances
use Rattle.cx_meaning.specs.Instances.{Cells, OfRow, cell_at}
use Rattle.cx_meaning.specs.Active.{nothing}
use Rattle.cx_meaning.specs.Sights.{seen}
use Rattle.cx_laws.specs.Samples.{Samples, says, begun_by}
use Rattle.cx_lockstep.specs.Worlds.{Machine}
use Rattle.cx_lockstep.specs.Running.{AnIsland, running}
use Rattle.cx_lockstep.proofs.RunningLaws.{no_faults}
use Rattle.cx_control.specs.Spots.{Kept, cells_in, held_in}
use Rattle.cx_control.specs.Leaves.{Coded, Cycle, sampled_now, leaf_machines}
use Rattle.cx_control.specs.Controls.{coded_control, coded_below}
use Rattle.cx_control.specs.ControlRules.{ControlRules}
use Rattle.cx_net.specs.NetMeaning.{NetState, NetLook, NetAround}
use Rattle.cx_wiring_runs.proofs.NodeRules.{NodeRules}
use Rattle.cx_wiring_runs.proofs.SeamRules.{SeamRules}
use Rattle.cx_wiring_runs.specs.BlockNumbers.{component_numbers}
use Rattle.cx_wiring_runs.proofs.OutputFlows.{SeamAt, row_cell, fine_node}
use Rattle.cx_wiring_runs.proofs.BlockTells.{port_now}
use Rattle.cx_wiring_runs.proofs.TreeRules.{CellsNodes}
use Rattle.cx_wiring_runs.proofs.NodeCells.{CellRules}
use Rattle.cx_wiring_runs.proofs.NodeEdges.{IsGoodCycle}
use Rattle.cx_wiring_runs.proofs.NodeSeam.{NodeRest}
use Rattle.cx_wiring_runs.proofs.NodeAgrees.{node_rest}
use Rattle.cx_wiring_runs.proofs.IslandTests.{begun_seen}

module _ (d : PlainDesign) (of_island : PlainComponent → NetState → ℕ → ℕ → ℕ → ℕ) (part : PlainComponent) (cells : Cells) (rules : NodeRules d (instances.Node part cells)) (own : CellRules (instances.Node part cells))
    (seams : SeamRules d (instances.Node part cells)) (seams_below : CellsNodes (SeamAt d) cells) (control : ControlRules (instances.Node part cells))
    (p : Machine.Place (Coded.machine (coded_control (instances.Node part cells)))) (s : Kept) (v : NetState) (around : NetAround) (look : NetLook) (cycle : IsGoodCycle d of_island part cells rules own p s v around look) where
  -- which groups go does not matter here
  rest : NodeRest part cells around v look s p
  rest =
      node_rest d of_island part cells seams seams_below control around v look cycle.cycle.solves s p cycle.cycle.shows cycle.good cycle.fits (λ g q. []) (λ form q. []) (λ g q x i. absurd i) (λ form q x i. absurd i)

  pub begun_now : (form : PlainForm) (place : Place) (t : ℕ) (samples : Samples) → In (running (leaf_machines (instances.Node part cells) (coded_below cells)) part.control p) (AnIsland form place (Cycle t samples)) → (port : PortRef)
      → In (begun_by part (sampled_now (instances.Node part cells) form t samples s) t form) port
      → port_now d of_island part cells (fine_node d of_island part cells rules) v around look cycle.cycle.solves port ≡ says (seen (instances.Node part cells) (held_in s) nothing (cells_in s)) port
  begun_now form place t samples m port i =
      begun_seen d (component_numbers of_island) part cells seams control around v look cycle.cycle.solves s (λ c row at. cycle.cycle.shows.cells (c ∷ []) (row_cell cells c row at)) cycle.fits p rest form place
      (rest.stands (AnIsland form place (Cycle t samples)) m) (λ c child reads at. rest.island_rests form place (Cycle t samples) m c child reads at) t samples
      (no_faults (leaf_machines (instances.Node part cells) (coded_below cells)) s (AnIsland form place (Cycle t samples)) part.control p cycle.clean m) port i
