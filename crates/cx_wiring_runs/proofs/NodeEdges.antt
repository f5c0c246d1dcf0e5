-- The laws of a node, from what its control and its ports give it in one cycle.
use Rattle.std.proofs.Common.{◌≡◌, ℕ, suc, ◌+◌, ◌<◌, Bool, true, false, List, [], ◌∷◌, length, Some}
use Rattle.cx_text.specs.declared.places.Place.{Place}
use Rattle.cx_bits.specs.BitVector.{BitVector}
use Rattle.cx_prim.specs.Rows.{Row}
use Rattle.cx_meaning.specs.declared.ports.PortRef.{PortRef}
use Rattle.cx_meaning.specs.declared.ports.PortRef.TheVariants as ports
use Rattle.cx_meaning.specs.declared.sights.Seen.TheVariants.{Value}
use Rattle.cx_meaning.specs.Designs.{PlainComponent, PlainDesign, PlainForm}
use Rattle.cx_meaning.specs.Instances as instances
use Rattle.cx_meaning.specs.Instances.{Instance, Cells, OfRow, OfInstance, cell_at}
use Rattle.cx_text.specs.Members.{In}
use Rattle.cx_meaning.specs.Cycles.{Fault}
use Rattle.cx_meaning.specs.Control.{groups_in}
use Rattle.cx_meaning.specs.Calls.{called, captures}
use Rattle.cx_lockstep.specs.Worlds.{At, Machine, edge_of, is_done}
use Rattle.cx_lockstep.specs.Statements.{LeafMachines}
use Rattle.cx_lockstep.specs.Running.{AGroup, running}
use Rattle.cx_control.specs.Codings.{Coding}
use Rattle.cx_control.specs.Spots.{Spot, Cell, Holds, Kept}
use Rattle.cx_control.specs.Leaves.{Coded, code_of, child_at, inputs_now, leaf_machines}
use Rattle.cx_control.specs.Controls.{coded_control, coded_below, leaf_codings}
use Rattle.cx_control.specs.Standing.{bare, GoodAt, good_below}
use Rattle.cx_control.specs.ControlRules.{ControlRules}
use Rattle.cx_control.proofs.CallLaws.{ChildLaws}
use Rattle.cx_control.proofs.ControlLaws.{IslandsDo}
use Rattle.cx_control.proofs.KeepLaws.{KeepsBelow}
use Rattle.cx_net.specs.NetMeaning.{NetState, NetLook, NetAround, APort, AHole, TheDone, truth_bit, around_child}
use Rattle.cx_net.specs.NetEdges.{inputs_from}
use Rattle.cx_static.specs.Lowering.{lowered_component}
use Rattle.cx_wiring.specs.PartNets.{wired_in, timers_of}
use Rattle.cx_wiring_cycles.specs.Shown.{Going, told, going, StatementAgrees}
use Rattle.cx_wiring_runs.proofs.NodeRules.{NodeRules}
use Rattle.cx_wiring_runs.specs.BlockNumbers.{component_numbers}
use Rattle.cx_wiring_runs.specs.Blocks.{block, block_below, Shows, Solves, HasGo, FitsInputs, BlockLaws, after_edge}
use Rattle.cx_wiring_runs.proofs.OutputFlows.{fine_node}
use Rattle.cx_wiring_runs.proofs.BlockTells.{hole_now, port_now, block_tells}
use Rattle.cx_wiring_runs.proofs.NodeCells.{CellRules, ControlWaits, idles_of_control}
use Rattle.cx_wiring_runs.proofs.NodeRuns.{OwesStep, node_runs}
use Rattle.cx_wiring_runs.proofs.CallStands.{dones_seen}
use Rattle.cx_wiring_runs.proofs.GoingLaws.{hole_agrees}
use Rattle.cx_wiring_runs.proofs.ChildSteps.{child_steps, nothing_written}

module _ (d : PlainDesign) (of_island : PlainComponent → NetState → ℕ → ℕ → ℕ → ℕ) (part : PlainComponent) (cells : Cells) (rules : NodeRules d (instances.Node part cells)) (own : CellRules (instances.Node part cells)) where
  abbrev P : LeafMachines Spot Holds Fault
  P = leaf_machines (instances.Node part cells) (coded_below cells)

  -- ONE CYCLE WITH GO in which the net shows a place and a store
  module _ (p : Machine.Place (Coded.machine (coded_control (instances.Node part cells)))) (s : Kept) (v : NetState) (around : NetAround) (look : NetLook) where
    pub record IsCycle : Type 0 where
      pub fine : Coding.IsFine (Coded.coding (coded_control (instances.Node part cells))) p
      pub shows : Shows (block (wired_in d) timers_of (component_numbers of_island) (instances.Node part cells)) (At p) s v
      pub go : HasGo (block (wired_in d) timers_of (component_numbers of_island) (instances.Node part cells)) around true
      pub solves : Solves (block (wired_in d) timers_of (component_numbers of_island) (instances.Node part cells)) around v look

    -- and in which its control is good and has no fault
    pub record IsGoodCycle : Type 0 where
      pub cycle : IsCycle
      pub good : GoodAt (instances.Node part cells) (coded_below cells) (good_below cells) (running (leaf_machines (instances.Node part cells) (coded_below cells)) part.control p) (bare s)
      pub clean : Machine.faults (Coded.machine (coded_control (instances.Node part cells))) p s ≡ false
      pub fits : FitsInputs (block (wired_in d) timers_of (component_numbers of_island) (instances.Node part cells)) s around
      -- the dones of the children that running groups call are what their machines take them for
      pub dones : (g : ℕ) (place : Place) (stand : Machine.Place (LeafMachines.enable (leaf_machines (instances.Node part cells) (coded_below cells)) g)) (c : ℕ)
          → In (running (leaf_machines (instances.Node part cells) (coded_below cells)) part.control p) (AGroup g place stand) → called (instances.Node part cells) g ≡ Some c
          → look (c ∷ []) TheDone ≡ Some (truth_bit (is_done (child_at (coded_below cells c) c s)))

    module _ (solves : Solves (block (wired_in d) timers_of (component_numbers of_island) (instances.Node part cells)) around v look) where
      abbrev pub holes : ℕ → Bool
      holes = hole_now d of_island part cells (fine_node d of_island part cells rules) v around look solves

      abbrev pub tests : PortRef → Bool
      tests = port_now d of_island part cells (fine_node d of_island part cells rules) v around look solves

      -- what the machine saw is what the net has
      abbrev pub Agrees : Type 0
      Agrees = StatementAgrees (leaf_machines (instances.Node part cells) (coded_below cells)) (leaf_codings (instances.Node part cells) (coded_below cells)) part (lowered_component part).islands s
          (hole_now d of_island part cells (fine_node d of_island part cells rules) v around look solves) (port_now d of_island part cells (fine_node d of_island part cells rules) v around look solves) part.control p

      -- which groups go
      abbrev pub GoesSo : ((g : ℕ) → Machine.Place (LeafMachines.enable (leaf_machines (instances.Node part cells) (coded_below cells)) g) → List Going)
          → ((form : PlainForm) → Machine.Place (LeafMachines.island (leaf_machines (instances.Node part cells) (coded_below cells)) form) → List Going) → Type 0
      GoesSo of_enable of_form = (g : ℕ) → g < length part.groups → look [] (AHole (length part.groups + g))
          ≡ told g (Some (truth_bit false)) (going (leaf_machines (instances.Node part cells) (coded_below cells)) (leaf_codings (instances.Node part cells) (coded_below cells)) part (lowered_component part).islands
          (hole_now d of_island part cells (fine_node d of_island part cells rules) v around look solves) of_enable of_form part.control p)

  -- Begun says that the ports of the static ifs that begin have in the net what the machine takes
  module _ (Begun : Machine.Place (Coded.machine (coded_control (instances.Node part cells))) → Kept → NetState → NetAround → NetLook → Type 0) where
    -- WHAT CONTROL GIVES: its numbers and its goes, with go and without
    pub record ControlGives : Type 0 where
      -- of its islands, by the store of the machine
      pub of_enable : Kept → (g : ℕ) → Machine.Place (LeafMachines.enable (leaf_machines (instances.Node part cells) (coded_below cells)) g) → List Going
      pub of_form : Kept → (form : PlainForm) → Machine.Place (LeafMachines.island (leaf_machines (instances.Node part cells) (coded_below cells)) form) → List Going
      -- in an island groups of its own go
      pub timed_own : (s : Kept) (g : ℕ) (stand : Machine.Place (LeafMachines.enable (leaf_machines (instances.Node part cells) (coded_below cells)) g)) (x : Going) → In (of_enable s g stand) x → x.group ≡ g
      pub static_own : (s : Kept) (form : PlainForm) (stand : Machine.Place (LeafMachines.island (leaf_machines (instances.Node part cells) (coded_below cells)) form)) (x : Going) → In (of_form s form stand) x → In (groups_in form) x.group
      pub waits : ControlWaits d (component_numbers of_island) part cells rules own
      pub goes : (p : Machine.Place (Coded.machine (coded_control (instances.Node part cells)))) (s : Kept) (v : NetState) (around : NetAround) (look : NetLook) (cycle : IsCycle p s v around look) → Begun p s v around look
          → GoesSo p s v around look cycle.solves (of_enable s) (of_form s)
      pub numbers : (p : Machine.Place (Coded.machine (coded_control (instances.Node part cells)))) (s : Kept) (v : NetState) (around : NetAround) (look : NetLook) (cycle : IsCycle p s v around look) → Begun p s v around look
          → Agrees p s v around look cycle.solves → (n : ℕ) → component_numbers of_island (instances.Node part cells) (after_edge (block (wired_in d) timers_of (component_numbers of_island) (instances.Node part cells)) around v look) n
          ≡ code_of (coded_control (instances.Node part cells)) (Machine.step (Coded.machine (coded_control (instances.Node part cells))) p s) n

    -- WHAT PORTS GIVE, where the goes are known: holes and tests, primitives, and the go and the inputs of a call that goes on
    module _ (gives : ControlGives) where
      pub record PortsGive : Type 0 where
        pub begun : (p : Machine.Place (Coded.machine (coded_control (instances.Node part cells)))) (s : Kept) (v : NetState) (around : NetAround) (look : NetLook) → IsGoodCycle p s v around look → Begun p s v around look
        pub saw : (p : Machine.Place (Coded.machine (coded_control (instances.Node part cells)))) (s : Kept) (v : NetState) (around : NetAround) (look : NetLook) (cycle : IsGoodCycle p s v around look)
            → GoesSo p s v around look cycle.cycle.solves (gives.of_enable s) (gives.of_form s) → Agrees p s v around look cycle.cycle.solves
        pub rows : (p : Machine.Place (Coded.machine (coded_control (instances.Node part cells)))) (s : Kept) (v : NetState) (around : NetAround) (look : NetLook) (cycle : IsGoodCycle p s v around look)
            → GoesSo p s v around look cycle.cycle.solves (gives.of_enable s) (gives.of_form s) → Agrees p s v around look cycle.cycle.solves → (c : ℕ) (row : Row) → cell_at cells c ≡ OfRow row
            → row.next (v.cell (c ∷ [])) (inputs_from look c 0 row.ports) ≡ edge_of (Machine.writes (Coded.machine (coded_control (instances.Node part cells))) p s (Cell (c ∷ []))) (row.idle (s (Cell (c ∷ []))))
        pub calls : (p : Machine.Place (Coded.machine (coded_control (instances.Node part cells)))) (s : Kept) (v : NetState) (around : NetAround) (look : NetLook) (cycle : IsGoodCycle p s v around look)
            → GoesSo p s v around look cycle.cycle.solves (gives.of_enable s) (gives.of_form s) → Agrees p s v around look cycle.cycle.solves
            → (g : ℕ) (place : Place) (stand : Machine.Place (LeafMachines.enable (leaf_machines (instances.Node part cells) (coded_below cells)) g)) (c : ℕ) → In (running (leaf_machines (instances.Node part cells) (coded_below cells)) part.control p) (AGroup g place stand)
            → called (instances.Node part cells) g ≡ Some c → is_done (Machine.step (LeafMachines.enable (leaf_machines (instances.Node part cells) (coded_below cells)) g) stand s) ≡ false
            → (q : Machine.Place (Coded.machine (coded_below cells c))) → child_at (coded_below cells c) c s ≡ At q
            → HasGo (block_below (wired_in d) timers_of (component_numbers of_island) cells (timers_of part) c) (around_child c (look [])) true
            × ((n : ℕ) (x : BitVector) → inputs_now (instances.Node part cells) (coded_below cells c) g c (captures (instances.Node part cells) g) s n ≡ Value x → look [] (APort (ports.Cell c (suc n))) ≡ Some x)

      -- THE LAWS OF THE NODE
      module _ (control : ControlRules (instances.Node part cells)) (islands : IslandsDo (instances.Node part cells)) (below : (c : ℕ) (child : Instance) → cell_at cells c ≡ OfInstance child → ChildLaws cells c (coded_below cells c))
          (kept : (c : ℕ) (child : Instance) → cell_at cells c ≡ OfInstance child → KeepsBelow cells c)
          (children : (c : ℕ) (child : Instance) → cell_at cells c ≡ OfInstance child → BlockLaws (block_below (wired_in d) timers_of (component_numbers of_island) cells (timers_of part) c)) (ported : PortsGive) where
        module _ (p : Machine.Place (Coded.machine (coded_control (instances.Node part cells)))) (s : Kept) (v : NetState) (around : NetAround) (look : NetLook) (cycle : IsCycle p s v around look)
            (good : GoodAt (instances.Node part cells) (coded_below cells) (good_below cells) (running (leaf_machines (instances.Node part cells) (coded_below cells)) part.control p) (bare s))
            (clean : Machine.faults (Coded.machine (coded_control (instances.Node part cells))) p s ≡ false) (fits : FitsInputs (block (wired_in d) timers_of (component_numbers of_island) (instances.Node part cells)) s around) where
          good_cycle : IsGoodCycle p s v around look
          good_cycle = record {
            cycle = cycle;
            good = good;
            clean = clean;
            fits = fits;
            dones = dones_seen (wired_in d) timers_of (component_numbers of_island) part cells below children s v around look (λ c n. cycle.shows.below c [] n) cycle.solves control islands kept p good;
          }

          begun_so : Begun p s v around look
          begun_so = ported.begun p s v around look good_cycle

          goes_so : GoesSo p s v around look cycle.solves (gives.of_enable s) (gives.of_form s)
          goes_so = gives.goes p s v around look cycle begun_so

          agrees : Agrees p s v around look cycle.solves
          agrees = ported.saw p s v around look good_cycle goes_so

          owes : OwesStep (wired_in d) timers_of (component_numbers of_island) part cells p s v around look
          owes = record {
            own = gives.numbers p s v around look cycle begun_so agrees;
            rows = ported.rows p s v around look good_cycle goes_so agrees;
            children = child_steps d (component_numbers of_island) part cells rules own control islands below kept p s v around look good clean cycle.shows cycle.solves (holes p s v around look cycle.solves) (tests p s v around look cycle.solves)
                (gives.of_enable s) (gives.of_form s) (gives.static_own s) (gives.timed_own s) goes_so
                (λ r m. hole_agrees (leaf_machines (instances.Node part cells) (coded_below cells)) (leaf_codings (instances.Node part cells) (coded_below cells)) part (lowered_component part).islands s (holes p s v around look cycle.solves) (tests p s v around look cycle.solves) r
                part.control p agrees m)
                (ported.calls p s v around look good_cycle goes_so agrees);
            nowhere = nothing_written d (component_numbers of_island) part cells rules own control islands below kept p s v around look good clean cycle.shows cycle.solves (holes p s v around look cycle.solves) (tests p s v around look cycle.solves)
                (gives.of_enable s) (gives.of_form s) (gives.static_own s) (gives.timed_own s) goes_so
                (λ r m. hole_agrees (leaf_machines (instances.Node part cells) (coded_below cells)) (leaf_codings (instances.Node part cells) (coded_below cells)) part (lowered_component part).islands s (holes p s v around look cycle.solves) (tests p s v around look cycle.solves) r
                part.control p agrees m);
          }

        pub node_laws : BlockLaws (block (wired_in d) timers_of (component_numbers of_island) (instances.Node part cells))
        node_laws = record {
          runs = node_runs (wired_in d) timers_of (component_numbers of_island) part cells children
              (λ p s v around look fine good clean shows go fits solves. owes p s v around look (record { fine = fine; shows = shows; go = go; solves = solves }) good clean fits);
          idles = idles_of_control d (component_numbers of_island) part cells rules own gives.waits children;
          done = block_tells d of_island part cells (fine_node d of_island part cells rules);
        }
