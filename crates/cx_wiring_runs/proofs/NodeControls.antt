-- What the control of a node gives in a cycle, where its islands make their turns.
use Rattle.std.proofs.Common.{ℕ}
use Rattle.cx_meaning.specs.Designs.{PlainComponent, PlainDesign, PlainForm}
use Rattle.cx_meaning.specs.Instances as instances
use Rattle.cx_meaning.specs.Instances.{Cells}
use Rattle.cx_lockstep.specs.Worlds.{Machine}
use Rattle.cx_lockstep.specs.Statements.{LeafMachines}
use Rattle.cx_control.specs.Spots.{Kept}
use Rattle.cx_control.specs.Leaves.{Coded, leaf_machines}
use Rattle.cx_control.specs.Controls.{coded_control, coded_below}
use Rattle.cx_control.specs.ControlRules.{ControlRules}
use Rattle.cx_net.specs.NetMeaning.{NetState, NetLook, NetAround}
use Rattle.cx_wiring.specs.PartNets.{wired_in, timers_of}
use Rattle.cx_wiring_cycles.specs.IslandNumbers.{of_island}
use Rattle.cx_wiring_cycles.specs.AtLeaves.{IslandsHold}
use Rattle.cx_wiring_cycles.proofs.IslandOwns.{goes_at, goes_of_enable, timed_own, static_own}
use Rattle.cx_wiring_runs.proofs.NodeRules.{NodeRules}
use Rattle.cx_wiring_runs.specs.BlockNumbers.{component_numbers}
use Rattle.cx_wiring_runs.specs.Blocks.{block, after_edge}
use Rattle.cx_wiring_runs.proofs.NodeCells.{CellRules}
use Rattle.cx_wiring_runs.proofs.NodeEdges.{IsCycle, ControlGives}
use Rattle.cx_wiring_runs.proofs.NodeWaits.{control_waits}
use Rattle.cx_wiring_runs.proofs.NodeTurns.{IslandsTurn, goes_so, numbers_so}
use Rattle.cx_wiring_runs.proofs.IslandEnds.{islands_end}

module _ (d : PlainDesign) (part : PlainComponent) (cells : Cells) (rules : NodeRules d (instances.Node part cells)) (own : CellRules (instances.Node part cells)) (control : ControlRules (instances.Node part cells))
    (Begun : Machine.Place (Coded.machine (coded_control (instances.Node part cells))) → Kept → NetState → NetAround → NetLook → Type 0) where
  -- WHAT ISLANDS GIVE: their turns, where what goes of them is what is active
  pub record IslandsGive : Type 1 where
    -- what is asked of each island that runs, and that Begun says it
    pub timed_saw : Kept → NetState → NetAround → NetLook → (g : ℕ) → Machine.Place (LeafMachines.enable (leaf_machines (instances.Node part cells) (coded_below cells)) g) → Type 0
    pub island_saw : Kept → NetState → NetAround → NetLook → (form : PlainForm) → Machine.Place (LeafMachines.island (leaf_machines (instances.Node part cells) (coded_below cells)) form) → Type 0
    pub has : (p : Machine.Place (Coded.machine (coded_control (instances.Node part cells)))) (s : Kept) (v : NetState) (around : NetAround) (look : NetLook) → Begun p s v around look
        → IslandsHold (leaf_machines (instances.Node part cells) (coded_below cells)) part (timed_saw s v around look) (island_saw s v around look) part.control p
    pub turn : (p : Machine.Place (Coded.machine (coded_control (instances.Node part cells)))) (s : Kept) (v : NetState) (around : NetAround) (look : NetLook) (cycle : IsCycle d of_island part cells rules own p s v around look)
        → IslandsTurn d part cells rules own control p s v around look cycle (goes_of_enable part cells s) (goes_at part cells s) (timed_saw s v around look) (island_saw s v around look)

  -- THE CONTROL OF THE NODE
  unfoldable pub control_gives : IslandsGive → ControlGives d of_island part cells rules own Begun
  control_gives gives = record {
    of_enable = λ s. goes_of_enable part cells s;
    of_form = λ s. goes_at part cells s;
    timed_own = timed_own part cells;
    static_own = static_own part cells;
    waits = control_waits d part cells rules own;
    goes = λ p s v around look cycle begun. goes_so d part cells rules own control p s v around look cycle (goes_of_enable part cells s) (goes_at part cells s) (gives.timed_saw s v around look) (gives.island_saw s v around look) (gives.turn p s v around look cycle) (gives.has p s v around look begun);
    numbers = λ p s v around look cycle begun agrees n.
        numbers_so d part cells rules own control p s v around look cycle (goes_of_enable part cells s) (goes_at part cells s) (gives.timed_saw s v around look) (gives.island_saw s v around look) (gives.turn p s v around look cycle) (gives.has p s v around look begun) agrees
        (islands_end d part cells rules own control (after_edge (block (wired_in d) timers_of (component_numbers of_island) (instances.Node part cells)) around v look)) n;
  }
