-- Without go, or at its end, the control of a node waits: its numbers move as an idle edge moves them, and no group goes.
use Rattle.std.proofs.Common.{◌≡◌, ℕ, ◌+◌, ◌<◌, false, [], Some, ◌∙◌}
use Rattle.cx_meaning.specs.Designs.{PlainComponent, PlainDesign}
use Rattle.cx_meaning.specs.Instances as instances
use Rattle.cx_meaning.specs.Instances.{Cells}
use Rattle.cx_net.specs.Nets.{ToHole}
use Rattle.cx_net.specs.NetMeaning.{NetState, NetLook, NetAround, AHole, truth_bit}
use Rattle.cx_static.specs.Lowering.{lowered, lowered_component, unlowered}
use Rattle.cx_wiring.specs.Control.{whole_stand, drivers_of}
use Rattle.cx_wiring.specs.Wiring.{groups, first_of_control}
use Rattle.cx_wiring.specs.PartNets.{wired_in, timers_of}
use Rattle.cx_wiring.proofs.TakingLemmas.{idle_passes}
use Rattle.cx_wiring_cycles.specs.IslandNumbers.{of_island}
use Rattle.cx_wiring_cycles.specs.Standing.{Away}
use Rattle.cx_wiring_cycles.proofs.ComponentLaws as laws
use Rattle.cx_wiring_runs.proofs.NodeRules.{NodeRules}
use Rattle.cx_wiring_runs.specs.BlockNumbers.{component_numbers}
use Rattle.cx_wiring_runs.specs.Blocks.{block, Solves, IsIdle}
use Rattle.cx_wiring_runs.proofs.OutputFlows.{fine_node}
use Rattle.cx_wiring_runs.proofs.BlockTells.{IsFineNode, hole_now, port_now, node_cycle}
use Rattle.cx_wiring_runs.proofs.BlockIdles.{next, now_R, control_away, node_numbers_idle}
use Rattle.cx_wiring_runs.proofs.NodeCells.{CellRules, ControlWaits}

module _ (d : PlainDesign) (part : PlainComponent) (cells : Cells) (fine : IsFineNode d of_island part cells) (v : NetState) (around : NetAround) (look : NetLook)
    (solves : Solves (block (wired_in d) timers_of (component_numbers of_island) (instances.Node part cells)) around v look) (idle : IsIdle (block (wired_in d) timers_of (component_numbers of_island) (instances.Node part cells)) around v) where
  pub none_goes : (g : ℕ) → g < groups (lowered_component part) → look [] (AHole (groups (lowered_component part) + g)) ≡ Some (truth_bit false)
  none_goes g there =
      laws.goes_are part fine.islands_named around (now_R d of_island part cells fine v around look solves) (look []) (v.register []) (next d of_island part cells fine v around look solves)
      (hole_now d of_island part cells fine v around look solves) (port_now d of_island part cells fine v around look solves) fine.control_named fine.assigns_named solves.go.0 (node_cycle d of_island part cells fine v around look solves) g there
      ∙ idle_passes around (now_R d of_island part cells fine v around look solves) (look []) (ToHole (groups (lowered_component part) + g)) tt (Some (truth_bit false))
      (drivers_of (groups (lowered_component part)) (lowered_component part).islands (whole_stand (first_of_control (lowered_component part))) (lowered part part.control (unlowered part)))
      (Away.idle (control_away d of_island part cells fine v around look solves idle))

-- THE CONTROL OF A NODE WAITS
pub control_waits : (d : PlainDesign) (part : PlainComponent) (cells : Cells) (rules : NodeRules d (instances.Node part cells)) (own : CellRules (instances.Node part cells)) → ControlWaits d (component_numbers of_island) part cells rules own
control_waits d part cells rules own = record {
  numbers_idle = λ v around look idle solves n. node_numbers_idle d part cells (fine_node d of_island part cells rules) v around look solves idle n;
  none_goes = λ v around look idle solves g there. none_goes d part cells (fine_node d of_island part cells rules) v around look solves idle g there;
}
