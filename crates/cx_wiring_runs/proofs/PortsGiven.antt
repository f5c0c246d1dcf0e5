-- WHAT THE PORTS OF A NODE GIVE it in a cycle in which it is known which groups go: holes and tests are what its machine takes them for,
-- primitives make its steps, and calls that go on have go and their inputs. Of islands that is a premise here.
use Rattle.std.proofs.Common.{◌≡◌, ℕ, suc, true, false, [], ◌∷◌, Some, None, unwrap_or, ap, ◌∙◌}
use Rattle.cx_text.specs.declared.places.Place.{Place}
use Rattle.cx_bits.specs.BitVector.{BitVector, zero_of}
use Rattle.cx_prim.specs.Rows.{Row}
use Rattle.cx_meaning.specs.declared.ports.PortRef.TheVariants as ports
use Rattle.cx_meaning.specs.declared.sights.Seen.TheVariants.{Value}
use Rattle.cx_meaning.specs.Designs.{PlainComponent, PlainDesign}
use Rattle.cx_meaning.specs.Instances as instances
use Rattle.cx_meaning.specs.Instances.{Instance, Cells, OfRow, OfInstance, cell_at}
use Rattle.cx_text.specs.Members.{In}
use Rattle.cx_meaning.specs.Islands.{kind_length, group_length}
use Rattle.cx_meaning.specs.Calls.{called, captures}
use Rattle.cx_lockstep.specs.Worlds.{At, Machine, edge_of, is_done}
use Rattle.cx_lockstep.specs.Statements.{LeafMachines}
use Rattle.cx_lockstep.specs.Running.{Running, AGroup, leaf_faults, running}
use Rattle.cx_lockstep.proofs.RunningLaws.{no_faults}
use Rattle.cx_control.specs.Spots.{Cell, Kept}
use Rattle.cx_control.specs.Leaves.{Coded, child_at, inputs_now, leaf_machines}
use Rattle.cx_control.specs.Controls.{coded_control, coded_below, leaf_codings}
use Rattle.cx_control.specs.CallRules.{CallRules}
use Rattle.cx_control.specs.ControlRules.{ControlRules}
use Rattle.cx_control.proofs.CallLaws.{ChildLaws}
use Rattle.cx_control.proofs.ControlLaws.{IslandsDo}
use Rattle.cx_control.proofs.KeepLaws.{KeepsBelow}
use Rattle.cx_net.specs.NetMeaning.{NetState, NetLook, NetAround, AHole, is_true, APort, around_child}
use Rattle.cx_net.specs.NetEdges.{inputs_from}
use Rattle.cx_static.specs.Lowering.{lowered_component}
use Rattle.cx_wiring.specs.PartNets.{wired_in, timers_of}
use Rattle.cx_wiring_runs.proofs.NodeRules.{NodeRules}
use Rattle.cx_wiring_runs.proofs.SeamRules.{SeamRules}
use Rattle.cx_wiring_runs.specs.BlockNumbers.{component_numbers}
use Rattle.cx_wiring_runs.specs.Blocks.{block_below, HasGo}
use Rattle.cx_wiring_runs.proofs.OutputFlows.{SeamAt, row_cell}
use Rattle.cx_wiring_runs.proofs.TreeRules.{CellsNodes}
use Rattle.cx_wiring_runs.proofs.NodeCells.{CellRules}
use Rattle.cx_wiring_runs.proofs.GoingLaws.{hole_agrees}
use Rattle.cx_wiring_runs.proofs.NodeEdges.{IsGoodCycle, holes, tests, Agrees, GoesSo, ControlGives, PortsGive}
use Rattle.cx_wiring_runs.proofs.NodeSeam.{NodeSeam, LeafSays}
use Rattle.cx_wiring_runs.proofs.NodeAgrees.{node_seam, leaf_says, node_agrees}
use Rattle.cx_wiring_runs.proofs.IslandRows.{static_row}
use Rattle.cx_wiring_runs.proofs.CallHoles.{call_hole}
use Rattle.cx_wiring_runs.proofs.NodeCalls.{call_has_go, call_has_inputs}
use Rattle.cx_wiring_runs.proofs.NodeRows.{node_rows}

module _ (d : PlainDesign) (of_island : PlainComponent → NetState → ℕ → ℕ → ℕ → ℕ) (part : PlainComponent) (cells : Cells) (rules : NodeRules d (instances.Node part cells)) (own : CellRules (instances.Node part cells))
    (seams : SeamRules d (instances.Node part cells)) (seams_below : CellsNodes (SeamAt d) cells)
    (control : ControlRules (instances.Node part cells)) (islands : IslandsDo (instances.Node part cells)) (below : (c : ℕ) (child : Instance) → cell_at cells c ≡ OfInstance child → ChildLaws cells c (coded_below cells c))
    (kept : (c : ℕ) (child : Instance) → cell_at cells c ≡ OfInstance child → KeepsBelow cells c)
    (Begun : Machine.Place (Coded.machine (coded_control (instances.Node part cells))) → Kept → NetState → NetAround → NetLook → Type 0) (gives : ControlGives d of_island part cells rules own Begun) where
  module _ (p : Machine.Place (Coded.machine (coded_control (instances.Node part cells)))) (s : Kept) (v : NetState) (around : NetAround) (look : NetLook) (cycle : IsGoodCycle d of_island part cells rules own p s v around look)
      (goes : GoesSo d of_island part cells rules own p s v around look cycle.cycle.solves (gives.of_enable s) (gives.of_form s)) where
    pub seam_now : NodeSeam part cells around v look s p
    seam_now =
        node_seam d of_island part cells seams seams_below control around v look cycle.cycle.solves s p cycle.cycle.shows cycle.good cycle.fits (gives.of_enable s) (gives.of_form s) (gives.timed_own s) (gives.static_own s) goes

    same_cells : (c : ℕ) (row : Row) → cell_at cells c ≡ OfRow row → v.cell (c ∷ []) ≡ s (Cell (c ∷ []))
    same_cells c row at = cycle.cycle.shows.cells (c ∷ []) (row_cell cells c row at)

    -- THE HOLES AND TESTS
    saw_so : Agrees d of_island part cells rules own p s v around look cycle.cycle.solves
    saw_so =
        node_agrees d of_island part cells seams seams_below control around v look cycle.cycle.solves s p cycle.cycle.shows cycle.good cycle.fits (gives.of_enable s) (gives.of_form s) (gives.timed_own s) (gives.static_own s) goes
        (λ g place stand c m e clean. call_hole d (component_numbers of_island) part cells seams control around v look cycle.cycle.solves s same_cells g place c (seam_now.stands (AGroup g place stand) m) e (cycle.dones g place stand c m e) stand) cycle.clean

    same_faults : (r : Running (leaf_machines (instances.Node part cells) (coded_below cells))) → In (running (leaf_machines (instances.Node part cells) (coded_below cells)) part.control p) r
        → leaf_faults (leaf_machines (instances.Node part cells) (coded_below cells)) r s ≡ false
    same_faults r m = no_faults (leaf_machines (instances.Node part cells) (coded_below cells)) s r part.control p cycle.clean m

    module _ (agrees : Agrees d of_island part cells rules own p s v around look cycle.cycle.solves) where
      holes_so : (g : ℕ) (place : Place) (stand : Machine.Place (LeafMachines.enable (leaf_machines (instances.Node part cells) (coded_below cells)) g)) → In (running (leaf_machines (instances.Node part cells) (coded_below cells)) part.control p) (AGroup g place stand)
          → group_length part g ≡ None → is_true (unwrap_or (look [] (AHole g)) (zero_of 1)) ≡ is_done (Machine.step (LeafMachines.enable (leaf_machines (instances.Node part cells) (coded_below cells)) g) stand s)
      holes_so g place stand m plain =
          hole_agrees (leaf_machines (instances.Node part cells) (coded_below cells)) (leaf_codings (instances.Node part cells) (coded_below cells)) part (lowered_component part).islands s (holes d of_island part cells rules own p s v around look cycle.cycle.solves)
          (tests d of_island part cells rules own p s v around look cycle.cycle.solves) (AGroup g place stand) part.control p agrees m plain

      -- CALLS that go on
      calls_so : (g : ℕ) (place : Place) (stand : Machine.Place (LeafMachines.enable (leaf_machines (instances.Node part cells) (coded_below cells)) g)) (c : ℕ) → In (running (leaf_machines (instances.Node part cells) (coded_below cells)) part.control p) (AGroup g place stand)
          → called (instances.Node part cells) g ≡ Some c → is_done (Machine.step (LeafMachines.enable (leaf_machines (instances.Node part cells) (coded_below cells)) g) stand s) ≡ false
          → (q : Machine.Place (Coded.machine (coded_below cells c))) → child_at (coded_below cells c) c s ≡ At q
          → HasGo (block_below (wired_in d) timers_of (component_numbers of_island) cells (timers_of part) c) (around_child c (look [])) true
          × ((n : ℕ) (x : BitVector) → inputs_now (instances.Node part cells) (coded_below cells c) g c (captures (instances.Node part cells) g) s n ≡ Value x → look [] (APort (ports.Cell c (suc n))) ≡ Some x)
      calls_so g place stand c m e goes_on q at_q =
          let plain = ap kind_length (CallRules.plain (control.calls g place c (seam_now.stands (AGroup g place stand) m) e)) in
          let off = holes_so g place stand m plain ∙ goes_on in (
            call_has_go d (component_numbers of_island) part cells seams control around v look cycle.cycle.solves s same_cells cycle.fits p seam_now g place stand m c e off (cycle.dones g place stand c m e) (ap is_done at_q),
            call_has_inputs d (component_numbers of_island) part cells seams control around v look cycle.cycle.solves s same_cells cycle.fits p seam_now g place stand m c e off,
          )

      -- PRIMITIVES
      rows_so : ((r : Running (leaf_machines (instances.Node part cells) (coded_below cells))) → In (running (leaf_machines (instances.Node part cells) (coded_below cells)) part.control p) r → LeafSays part cells around v look s p (gives.of_enable s) (gives.of_form s) r)
          → (c : ℕ) (row : Row) → cell_at cells c ≡ OfRow row
          → row.next (v.cell (c ∷ [])) (inputs_from look c 0 row.ports) ≡ edge_of (Machine.writes (Coded.machine (coded_control (instances.Node part cells))) p s (Cell (c ∷ []))) (row.idle (s (Cell (c ∷ []))))
      rows_so says c row at =
          node_rows d (component_numbers of_island) part cells seams control islands below kept around v look cycle.cycle.solves s same_cells cycle.fits p cycle.good cycle.clean seam_now holes_so cycle.dones
          (λ r m static x other at_x drives_it. static_row d (component_numbers of_island) part cells seams control around v look cycle.cycle.solves s same_cells cycle.fits p seam_now r m static
          (leaf_says d of_island part cells seams seams_below control around v look cycle.cycle.solves s p cycle.cycle.shows cycle.good cycle.fits (gives.of_enable s) (gives.of_form s) (gives.timed_own s) (gives.static_own s) goes r m (says r m)) (same_faults r m) x other
          at_x drives_it) c row at

  -- THE PORTS OF THE NODE, where of each island that runs its entries go
  pub ports_give : ((p : Machine.Place (Coded.machine (coded_control (instances.Node part cells)))) (s : Kept) (v : NetState) (around : NetAround) (look : NetLook) → IsGoodCycle d of_island part cells rules own p s v around look → Begun p s v around look)
      → ((p : Machine.Place (Coded.machine (coded_control (instances.Node part cells)))) (s : Kept) (v : NetState) (around : NetAround) (look : NetLook) → IsGoodCycle d of_island part cells rules own p s v around look
      → (r : Running (leaf_machines (instances.Node part cells) (coded_below cells))) → In (running (leaf_machines (instances.Node part cells) (coded_below cells)) part.control p) r → LeafSays part cells around v look s p (gives.of_enable s) (gives.of_form s) r)
      → PortsGive d of_island part cells rules own Begun gives
  ports_give begun says = record {
    begun = begun;
    saw = λ p s v around look cycle goes. saw_so p s v around look cycle goes;
    rows = λ p s v around look cycle goes agrees c row at. rows_so p s v around look cycle goes agrees (says p s v around look cycle) c row at;
    calls = λ p s v around look cycle goes agrees g place stand c m e goes_on q at_q. calls_so p s v around look cycle goes agrees g place stand c m e goes_on q at_q;
  }
