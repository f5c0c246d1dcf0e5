-- WHAT ISLANDS GIVE each node: which groups of theirs go, and their turns, where the ports of the static ifs that begin have in the net
-- what the machine takes.
use Rattle.std.proofs.Common.{◌≡◌, ℕ, zero, suc, ◌+◌, ◌^◌, ◌<◌, ◌≤◌, ◌&&◌, ⊎_elim, Bool, true, false, if◌then◌else◌, List, [], ◌∷◌, ◌++◌, length, replicate, Option, Some, None, option_map, unwrap_or, slice_get, refl, sym, ap, ◌∙◌, subst, arith}
use Rattle.std.proofs.lemmas.Bool.{cases_lt, lt-ltb, le-ltb, eq-eqb, ne_eqb}
use Rattle.cx_text.specs.declared.places.Place.{Place}
use Rattle.cx_bits.specs.BitVector.{BitVector, zero_of}
use Rattle.cx_prim.specs.CellStates.{CellState, Timer}
use Rattle.cx_prim.specs.PipeRows.{timer_idle, timer_go}
use Rattle.cx_meaning.specs.declared.kinds.GroupKind.{GroupKind}
use Rattle.cx_meaning.specs.declared.kinds.GroupKind.TheVariants as kinds
use Rattle.cx_meaning.specs.declared.ports.PortRef.{PortRef}
use Rattle.cx_meaning.specs.Designs.{PlainCell, PlainComponent, PlainDesign, PlainForm, Empty, Enable, Seq, Par, If, While, Repeat, StaticSeq, StaticPar, StaticIf, StaticRepeat, Timed, PlainStatement, Placed, group_at}
use Rattle.cx_meaning.specs.Instances as instances
use Rattle.cx_meaning.specs.Instances.{Instance, Cells, OfInstance, cell_at}
use Rattle.cx_meaning.specs.Active.{Entry}
use Rattle.cx_meaning.specs.Cycles.{Fault}
use Rattle.cx_meaning.specs.Islands.{group_length, kind_length, form_length}
use Rattle.cx_laws.specs.Positions.{FormIfs}
use Rattle.cx_laws.specs.Samples.{form_ifs}
use Rattle.cx_lockstep.specs.Worlds.{Control, At, Machine}
use Rattle.cx_lockstep.specs.Statements.{LeafMachines, machine_of}
use Rattle.cx_control.specs.Codings.{Coding}
use Rattle.cx_control.specs.StatementCodings.{statement_coding}
use Rattle.cx_control.specs.Sampling.{form_now}
use Rattle.cx_control.specs.Spots.{Spot, Holds, Kept}
use Rattle.cx_control.specs.Leaves.{InIsland, Cycle, LastTurn, Coded, sampled_now, island_step, kind_machine, leaf_machines}
use Rattle.cx_control.specs.Controls.{island_other, island_fine, island_coding, kind_coding, coded_control, coded_below, leaf_codings}
use Rattle.cx_control.specs.InstanceRules.{Stands}
use Rattle.cx_control.specs.ControlRules.{ControlRules}
use Rattle.cx_control.proofs.CallLaws.{ChildLaws}
use Rattle.cx_control.proofs.ControlLaws.{IslandsDo}
use Rattle.cx_control.proofs.KeepLaws.{KeepsBelow}
use Rattle.cx_net.specs.Nets.{OfPort, ToRegister, ToWire, ToHole}
use Rattle.cx_net.specs.NetMeaning.{NetState, NetLook, NetAround, Node, is_true, truth_bit, registers_of}
use Rattle.cx_static.specs.declared.islands.IslandTimer.{IslandTimer}
use Rattle.cx_static.specs.Islands.{PlainIsland}
use Rattle.cx_static.specs.Lowering.{Gathered, timer_cell, Lowering, island_gathered, island_of, with_island, after_enable, lowered_enable, after, lowered, lowered_component, unlowered}
use Rattle.cx_wiring.specs.Counts.{sample_registers}
use Rattle.cx_wiring.specs.Stands.{Stand, at, end_of, stands}
use Rattle.cx_wiring.specs.IslandDrivers.{first_of_island, island_drivers}
use Rattle.cx_wiring.specs.Control.{timed_drivers, form_drivers, drivers_of}
use Rattle.cx_wiring.specs.Wiring.{groups, first_of_control}
use Rattle.cx_wiring.specs.PartNets.{wired_in, timers_of, net_of_cells}
use Rattle.cx_wiring.specs.Takings.{value, Says, takes, takes_of, AreRegisters}
use Rattle.cx_wiring.specs.TimerCounts.{kind_cycles, cycles_at}
use Rattle.cx_wiring.proofs.GatherLaws.{island_aligned, island_there}
use Rattle.cx_wiring.proofs.IslandCells.{IsBefore}
use Rattle.cx_wiring.proofs.TimerRows.{IsTimerIn}
use Rattle.cx_wiring.proofs.ListedLaws.{first_has}
use Rattle.cx_wiring_cycles.specs.Standing.{IsIn}
use Rattle.cx_wiring_cycles.specs.IslandTakes.{IslandNexts}
use Rattle.cx_wiring_cycles.specs.Shown.{wide, Going, told, number_of, enable_going, enable_number, going}
use Rattle.cx_wiring_cycles.specs.AtLeaves.{AnyTest, AnyGroup, IslandsHold, enable_holds}
use Rattle.cx_wiring_cycles.specs.Turning.{Turns}
use Rattle.cx_wiring_cycles.specs.Wired.{IsWired}
use Rattle.cx_wiring_cycles.specs.IslandNumbers.{count_in, done_bit, cell_of_timer, island_number, of_island}
use Rattle.cx_wiring_cycles.proofs.IslandValues.{IslandLooks, live}
use Rattle.cx_wiring_cycles.proofs.IslandAway as away
use Rattle.cx_wiring_cycles.proofs.IslandHoles.{port_so}
use Rattle.cx_wiring_cycles.proofs.IslandOwns.{goes_at, goes_of_kind, goes_of_enable}
use Rattle.cx_wiring_cycles.proofs.IslandKeeps.{region_so}
use Rattle.cx_wiring_cycles.proofs.IslandTurns as turns
use Rattle.cx_wiring_cycles.proofs.StandsLaws.{at_true}
use Rattle.cx_wiring_cycles.proofs.TimerStates.{IsTimer}
use Rattle.cx_wiring_cycles.proofs.OffsetWires.{isles_of}
use Rattle.cx_wiring_cycles.proofs.OffsetWalk.{offset_told, offset_both, timed_entries}
use Rattle.cx_wiring_runs.proofs.NodeRules.{NodeRules}
use Rattle.cx_wiring_runs.specs.BlockNumbers.{component_numbers}
use Rattle.cx_wiring_runs.specs.Blocks.{block, after_edge}
use Rattle.cx_wiring_runs.proofs.OutputFlows.{fine_node}
use Rattle.cx_wiring_runs.proofs.BlockTells.{IsFineNode, hole_now, port_now}
use Rattle.cx_wiring_runs.proofs.BlockIdles.{next, now_R}
use Rattle.cx_wiring_runs.proofs.NodeTimers.{timer_is, timer_edge, node_away, rows, tells, island_bits, count_of, done_of}
use Rattle.cx_wiring_runs.proofs.NodeCells.{CellRules}
use Rattle.cx_wiring_runs.proofs.NodeEdges.{IsCycle}
use Rattle.cx_wiring_runs.proofs.NodeTurns.{IslandsTurn}
use Rattle.cx_wiring_runs.proofs.NodeControls.{IslandsGive}
use Rattle.cx_wiring_runs.proofs.NodeSeam.{entries_at}
use Rattle.cx_wiring_runs.proofs.NodeOffsets.{IslandsSay}
use Rattle.cx_wiring_runs.proofs.NodeWires.{kind_entries, timed_now, static_now}
use Rattle.cx_text.proofs.ListLaws.{get_end}

-- registers of one bit
register_at : (around : NetAround) (registers : ℕ → Option BitVector) (look : Node → Option BitVector) (kept : ℕ → ℕ) (n m w count : ℕ) → w ≡ n + m → m < count → AreRegisters around registers look kept n (replicate count 1)
    → registers w ≡ Some (record { width = 1; value = kept w })
register_at around registers look kept n m w zero same less r = absurd (omega arith)
register_at around registers look kept n zero w (suc count) same less r = let is : n ≡ w = omega arith in subst (λ k. registers k ≡ Some (record { width = 1; value = kept k })) is r.0
register_at around registers look kept n (suc m) w (suc count) same less r = register_at around registers look kept (suc n) m w count (omega arith) (omega arith) r.1

module _ (part : PlainComponent) (cells : Cells) where
  -- THE SAMPLES that the machine takes are those that the ports give
  abbrev pub island_begun : Kept → (PortRef → Bool) → PlainForm → InIsland → Type 0
  island_begun s port form (Cycle t kept) = (m : ℕ) → m < form_ifs form → form_now part port kept form 0 (Some t) m ≡ sampled_now (instances.Node part cells) form t kept s m
  island_begun s port form LastTurn = Unit {0}

  abbrev pub kind_begun : Kept → (PortRef → Bool) → (g : ℕ) (kind : GroupKind) → Machine.Place (kind_machine (instances.Node part cells) (coded_below cells) g kind) → Type 0
  kind_begun s port g kinds.Plain q = Unit {0}
  kind_begun s port g kinds.Comb q = Unit {0}
  kind_begun s port g (kinds.Timed n) q = island_begun s port (Enable g) q

  abbrev pub timed_begun : Kept → (PortRef → Bool) → (g : ℕ) → Machine.Place (LeafMachines.enable (leaf_machines (instances.Node part cells) (coded_below cells)) g) → Type 0
  timed_begun s port g q = kind_begun s port g (group_at part g).kind q

module _ (d : PlainDesign) (part : PlainComponent) (cells : Cells) where
  -- a port in the net
  abbrev pub port_in : NetState → NetAround → NetLook → PortRef → Bool
  port_in v around look p =
      is_true (unwrap_or (value around (registers_of (wired_in d part) (net_of_cells (wired_in d) timers_of (component_numbers of_island) cells (timers_of part)) around v (look []) (λ c. look (c ∷ []))) (look []) (OfPort p)) (zero_of 1))

  -- THE PORTS OF THE STATIC IFS THAT BEGIN have in the net what the machine takes
  abbrev pub Begun : Machine.Place (Coded.machine (coded_control (instances.Node part cells))) → Kept → NetState → NetAround → NetLook → Type 0
  Begun p s v around look =
      IslandsHold (leaf_machines (instances.Node part cells) (coded_below cells)) part (timed_begun part cells s (port_in v around look)) (island_begun part cells s (port_in v around look)) part.control p

module _ (d : PlainDesign) (part : PlainComponent) (cells : Cells) (rules : NodeRules d (instances.Node part cells)) (own : CellRules (instances.Node part cells)) (control : ControlRules (instances.Node part cells)) where
  module _ (p : Machine.Place (Coded.machine (coded_control (instances.Node part cells)))) (s : Kept) (v : NetState) (around : NetAround) (look : NetLook) (cycle : IsCycle d of_island part cells rules own p s v around look) where
    abbrev P : LeafMachines Spot Holds Fault
    P = leaf_machines (instances.Node part cells) (coded_below cells)

    abbrev fine : IsFineNode d of_island part cells
    fine = fine_node d of_island part cells rules

    abbrev R : ℕ → Option BitVector
    R = now_R d of_island part cells (fine_node d of_island part cells rules) v around look cycle.solves

    abbrev N : ℕ → ℕ
    N = next d of_island part cells (fine_node d of_island part cells rules) v around look cycle.solves

    abbrev H : ℕ → Bool
    H = hole_now d of_island part cells (fine_node d of_island part cells rules) v around look cycle.solves

    abbrev T : PortRef → Bool
    T = port_now d of_island part cells (fine_node d of_island part cells rules) v around look cycle.solves

    abbrev V2 : NetState
    V2 = after_edge (block (wired_in d) timers_of (component_numbers of_island) (instances.Node part cells)) around v look

    abbrev G : ℕ
    G = groups (lowered_component part)

    abbrev L : List PlainIsland
    L = (lowered_component part).islands

    abbrev B : ℕ
    B = first_of_control (lowered_component part)

    abbrev C : List PlainCell
    C = (lowered_component part).part.cells

    abbrev now : ℕ → CellState
    now c = v.cell (c ∷ [])

    abbrev later : ℕ → CellState
    later c = V2.cell (c ∷ [])

    abbrev Nexts : ℕ → Stand → Type 0
    Nexts = IslandNexts (groups (lowered_component part)) (lowered_component part).islands around R (look []) (v.register []) N

    abbrev W : Stand → PlainStatement → Type 0
    W = IsWired (groups (lowered_component part)) (lowered_component part).islands around R (look []) (first_of_control (lowered_component part)) (v.register []) N H T

    abbrev Turned : {Q : Type 0} → Coding Q → Stand → ℕ → PlainStatement → (ℕ → ℕ) → List Going → Control Q → Type 0
    Turned coding x r t numbers goes k = Turns (groups (lowered_component part)) around R (look []) coding x.wire x.region x.position r (drivers_of (groups (lowered_component part)) (lowered_component part).islands x t) numbers goes k

    -- AN ISLAND, made of a form at a stage of the lowering
    module _ (form : PlainForm) (l : Lowering) (stage : IsBefore (with_island part form l) (after part part.control (unlowered part))) (place : Place) (x : Stand) (r : ℕ)
        (acts : IsIn around R (look []) x.acts x.region true r) (so : r ≡ x.position + 0) (w : W x (Placed (Timed (length l.islands)) place)) where
      abbrev k : ℕ
      k = length l.islands

      abbrev final : Gathered
      final = island_gathered part form l.cells

      abbrev island : PlainIsland
      island = island_of (form_length part form) (island_gathered part form l.cells)

      is : slice_get (lowered_component part).islands (length l.islands) ≡ Some (island_of (form_length part form) (island_gathered part form l.cells))
      is = stage.islands (length l.islands) island (get_end l.islands island)

      abbrev its : Nexts (length l.islands) x
      its = record {
        taken = record { there = (island, is); wires = w.nexts.taken.wires; goes = w.nexts.taken.goes };
        apart = w.nexts.apart;
        samples = w.nexts.samples;
      }

      abbrev F : ℕ
      F = first_of_island (groups (lowered_component part)) (lowered_component part).islands (length l.islands)

      abbrev counts : ℕ → ℕ
      counts t = count_in (v.cell (cell_of_timer (island_gathered part form l.cells).timers t ∷ []))

      abbrev its_done : Bool
      its_done = done_bit (v.cell (cell_of_timer (island_gathered part form l.cells).timers 0 ∷ []))

      looks : IslandLooks G x F island around R (look []) counts its_done
      looks =
          away.its_looks part fine.islands_named around R (look []) (v.register []) N H T (island_bits d of_island part cells fine v around look cycle.solves) (count_of d of_island part cells fine v around look cycle.solves)
          (done_of d of_island part cells fine v around look cycle.solves) (tells d of_island part cells fine v around look cycle.solves) k x w.low its

      here_so : r ≡ x.position
      here_so = omega (arith, so)

      here : Says around R (look []) (at x) true
      here = at_true G L around R (look []) B (v.register []) N H T (node_away d of_island part cells fine v around look cycle.solves) x r acts here_so w.low w.connects.0

      abbrev row_at : (n : ℕ) (timer : IslandTimer) → slice_get (island_gathered part form l.cells).timers n ≡ Some timer → IsTimerIn part (net_of_cells (wired_in d) timers_of (component_numbers of_island) cells (timers_of part)) timer
      row_at n timer e = rows d of_island part cells fine v around look cycle.solves k island is n timer e

      cycles_row : (n : ℕ) (timer : IslandTimer) (e : slice_get (island_gathered part form l.cells).timers n ≡ Some timer) → cycles_at C timer.cell ≡ IsTimerIn.cycles (row_at n timer e)
      cycles_row n timer e = ap (λ (o : Option PlainCell). unwrap_or (option_map (λ (c : PlainCell). kind_cycles c.kind) o) 0) (IsTimerIn.there (row_at n timer e))

      cycles_are : (n : ℕ) (timer : IslandTimer) → slice_get (island_gathered part form l.cells).timers n ≡ Some timer → cycles_at C timer.cell ≡ cycles_at (island_gathered part form l.cells).cells timer.cell
      cycles_are n timer e =
          let there = island_there part form l.cells n timer e in
          ap (λ (o : Option PlainCell). unwrap_or (option_map (λ (c : PlainCell). kind_cycles c.kind) o) 0) (stage.cells timer.cell (timer_cell part.place there.0) there.1 ∙ sym there.1)

      some : (n : ℕ) (timer : IslandTimer) → slice_get (island_gathered part form l.cells).timers n ≡ Some timer → 0 < cycles_at C timer.cell
      some n timer e = subst (λ c. 0 < c) (sym (cycles_row n timer e)) (IsTimerIn.some (row_at n timer e))

      is_timer : (n : ℕ) (timer : IslandTimer) → slice_get (island_gathered part form l.cells).timers n ≡ Some timer → now timer.cell ≡ Timer (count_in (now timer.cell)) (done_bit (now timer.cell))
      is_timer n timer e = IsTimer.is (timer_is d of_island part cells fine v around look cycle.solves k island is n timer e)

      steps : (n : ℕ) (timer : IslandTimer) → slice_get (island_gathered part form l.cells).timers n ≡ Some timer
          → later timer.cell ≡ (if live G x F island around R (look []) counts its_done looks n then timer_go (cycles_at C timer.cell) (now timer.cell) else timer_idle (now timer.cell))
      steps n timer e =
          let go = live G x F island around R (look []) counts its_done looks n in
          timer_edge d of_island part cells fine v around look cycle.solves go k island is n timer e
          (w.nexts.taken.goes island is n timer e ∙ port_so G x F island around R (look []) counts its_done looks (length l.cells) (island_aligned part form l.cells).timers n timer e)
          ∙ ap (λ c. if go then timer_go c (now timer.cell) else timer_idle (now timer.cell)) (sym (cycles_row n timer e))

      samples : (m : ℕ) (old new : BitVector) → m < length (island_gathered part form l.cells).points → old.value ≡ v.register [] (x.register + m)
          → takes around R (look []) (ToRegister (x.register + m)) (Some old) (island_drivers G x F island) ≡ Some new → N (x.register + m) ≡ new.value
      samples m old new less e takes_so = w.nexts.samples island is (x.register + m) old new (omega arith) (omega (arith, less)) e takes_so

      regs : (m : ℕ) → m < length (island_gathered part form l.cells).points → R (x.register + m) ≡ Some (record { width = 1; value = v.register [] (x.register + m) })
      regs m less =
          register_at around R (look []) (v.register []) x.register m (x.register + m) (length final.points) refl less
          (subst (λ o. AreRegisters around R (look []) (v.register []) x.register (sample_registers o)) is w.registers_are)

      -- its drivers
      passes_region : (o : Option BitVector) → takes around R (look []) (ToRegister x.region) o (form_drivers G L x (Timed (length l.islands))) ≡ o
      passes_region o = ap (λ z. takes around R (look []) (ToRegister x.region) o (timed_drivers G L x (length l.islands) z)) is ∙ region_so G x F island around R (look []) x.region w.nexts.apart o

      ends_so : Says around R (look []) (end_of x.wire) its_done
      ends_so =
          away.end_so part fine.islands_named around R (look []) (v.register []) N H T (island_bits d of_island part cells fine v around look cycle.solves) (count_of d of_island part cells fine v around look cycle.solves)
          (done_of d of_island part cells fine v around look cycle.solves) (tells d of_island part cells fine v around look cycle.solves) k x w.low its true r acts w.connects
          ∙ ap (λ b. Some (truth_bit (b && its_done))) (eq-eqb r x.position here_so)

      abbrev Numbers : ℕ → ℕ
      Numbers = of_island part V2 x.register (length l.islands)

      numbers_is : (m : ℕ) → of_island part v x.register (length l.islands) m ≡ island_number C now (v.register []) (Some island) x.register m
      numbers_is m = ap (λ z. island_number C now (v.register []) z x.register m) is

      later_is : (m : ℕ) → of_island part V2 x.register (length l.islands) m ≡ island_number C later N (Some island) x.register m
      later_is m = ap (λ z. island_number C later N z x.register m) is

      holes_is : (g : ℕ) (o : Option BitVector) → takes around R (look []) (ToHole (G + g)) o (form_drivers G L x (Timed (length l.islands))) ≡ takes around R (look []) (ToHole (G + g)) o (island_drivers G x F island)
      holes_is g o = ap (λ z. takes around R (look []) (ToHole (G + g)) o (timed_drivers G L x (length l.islands) z)) is

      -- ITS TURN
      turn_now : FormIfs (λ n. 0 < n) part form → (q : InIsland) → island_fine part form q → ((m : ℕ) → m < 2 + form_ifs form → of_island part v x.register (length l.islands) m ≡ island_other q m)
          → island_begun part cells s (port_in d part cells v around look) form q
          → Turned (island_coding part form) x r (Placed (Timed (length l.islands)) place) (of_island part V2 x.register (length l.islands)) (goes_at part cells s form q) (island_step (instances.Node part cells) form q s)
      turn_now ifs (Cycle t kept) fits shows begun = ⊎_elim going_on ending (cases_lt (suc t) (form_length part form))
        where
          shown : (m : ℕ) → m < 2 + form_ifs form → island_number C now (v.register []) (Some island) x.register m ≡ island_other (Cycle t kept) m
          shown m low = sym (numbers_is m) ∙ shows m low

          none_done : its_done ≡ false
          none_done =
              turns.undone part form l.cells C G x F around R (look []) now later (v.register []) N looks cycles_are some is_timer steps samples regs here ifs t kept fits.less shown (sampled_now (instances.Node part cells) form t kept s) begun

          goes_now : (g : ℕ) (o : Option BitVector) → takes around R (look []) (ToHole (G + g)) o (form_drivers G L x (Timed (length l.islands))) ≡ told g o (goes_at part cells s form (Cycle t kept))
          goes_now g o =
              holes_is g o
              ∙ turns.goes_so part form l.cells C G x F around R (look []) now later (v.register []) N looks cycles_are some is_timer steps samples regs here ifs t kept fits.less shown (sampled_now (instances.Node part cells) form t kept s) begun g o

          to : (q2 : InIsland) → ((m : ℕ) → m < 2 + form_ifs form → island_number C later N (Some island) x.register m ≡ island_other q2 m)
              → Turned (island_coding part form) x r (Placed (Timed (length l.islands)) place) (of_island part V2 x.register (length l.islands)) (goes_at part cells s form (Cycle t kept)) (At q2)
          to q2 numbers = record {
            ends = ends_so ∙ ap (λ b. Some (truth_bit b)) none_done;
            moves = passes_region (Some (wide r)) ∙ ap (λ m. Some (wide m)) so;
            others = λ m low. later_is m ∙ numbers m low;
            goes_so = goes_now;
          }

          going_on : suc t < form_length part form
              → Turned (island_coding part form) x r (Placed (Timed (length l.islands)) place) (of_island part V2 x.register (length l.islands)) (goes_at part cells s form (Cycle t kept)) (island_step (instances.Node part cells) form (Cycle t kept) s)
          going_on more =
              subst (λ b. Turned (island_coding part form) x r (Placed (Timed (length l.islands)) place) (of_island part V2 x.register (length l.islands)) (goes_at part cells s form (Cycle t kept))
              (if b then At (Cycle (suc t) (sampled_now (instances.Node part cells) form t kept s)) else At LastTurn)) (sym (lt-ltb (suc t) (form_length part form) more))
              (to (Cycle (suc t) (sampled_now (instances.Node part cells) form t kept s))
              (turns.numbers_go part form l.cells C G x F around R (look []) now later (v.register []) N looks cycles_are some is_timer steps samples regs here ifs t kept fits.less shown (sampled_now (instances.Node part cells) form t kept s) begun more))

          ending : form_length part form ≤ suc t
              → Turned (island_coding part form) x r (Placed (Timed (length l.islands)) place) (of_island part V2 x.register (length l.islands)) (goes_at part cells s form (Cycle t kept)) (island_step (instances.Node part cells) form (Cycle t kept) s)
          ending over =
              let less : t < form_length part form = fits.less in
              let last : suc t ≡ form_length part form = omega arith in
              subst (λ b. Turned (island_coding part form) x r (Placed (Timed (length l.islands)) place) (of_island part V2 x.register (length l.islands)) (goes_at part cells s form (Cycle t kept))
              (if b then At (Cycle (suc t) (sampled_now (instances.Node part cells) form t kept s)) else At LastTurn)) (sym (le-ltb (suc t) (form_length part form) over))
              (to LastTurn
              (turns.numbers_end part form l.cells C G x F around R (look []) now later (v.register []) N looks cycles_are some is_timer steps samples regs here ifs t kept fits.less shown (sampled_now (instances.Node part cells) form t kept s) begun last))
      turn_now ifs LastTurn fits shows begun = record {
        ends = ends_so ∙ ap (λ b. Some (truth_bit b)) (turns.its_done part form l.cells C G x F around R (look []) now later (v.register []) N looks cycles_are some is_timer steps samples regs here shown);
        moves = λ o. passes_region o;
        others = λ m low. later_is m ∙ turns.numbers_rest part form l.cells C G x F around R (look []) now later (v.register []) N looks cycles_are some is_timer steps samples regs here shown m low;
        goes_so = λ g o. holes_is g o ∙ turns.none_goes part form l.cells C G x F around R (look []) now later (v.register []) N looks cycles_are some is_timer steps samples regs here shown g o;
      }
        where
          shown : (m : ℕ) → m < 2 + form_ifs form → island_number C now (v.register []) (Some island) x.register m ≡ island_other LastTurn m
          shown m low = sym (numbers_is m) ∙ shows m low

      -- ITS OFFSETS
      above : groups (lowered_component part) ≤ F
      above = omega arith

      wires_is : (g : ℕ) → g < G → (o : Option BitVector) → takes around R (look []) (ToWire g) o (form_drivers G L x (Timed (length l.islands))) ≡ takes around R (look []) (ToWire g) o (island_drivers G x F island)
      wires_is g inside o =
          let low = w.low in
          ap (λ b. takes_of around R (look []) b (stands x) (takes around R (look []) (ToWire g) o (timed_drivers G L x (length l.islands) (slice_get L (length l.islands))))) (ne_eqb x.wire g (λ e. omega (arith, low, e)))
          ∙ ap (λ z. takes around R (look []) (ToWire g) o (timed_drivers G L x (length l.islands) z)) is

      few : (n : ℕ) (timer : IslandTimer) → slice_get (island_gathered part form l.cells).timers n ≡ Some timer → cycles_at C timer.cell < 2 ^ 32
      few n timer e = subst (λ c. c < 2 ^ 32) (sym (cycles_row n timer e)) (IsTimerIn.few (row_at n timer e))

      whole_few : form_length part form < 2 ^ 32
      whole_few =
          let h = first_has part form l.cells in
          let at : cycles_at C h.timer.cell ≡ form_length part form = ap (λ (o : Option PlainCell). unwrap_or (option_map (λ (c : PlainCell). kind_cycles c.kind) o) 0) (stage.cells h.timer.cell (timer_cell part.place (form_length part form)) h.cell) in
          subst (λ c. c < 2 ^ 32) at (few 0 h.timer h.listed)

      pub offsets_now : FormIfs (λ n. 0 < n) part form → (q : InIsland) → island_fine part form q → ((m : ℕ) → m < 2 + form_ifs form → of_island part v x.register (length l.islands) m ≡ island_other q m)
          → island_begun part cells s (port_in d part cells v around look) form q → (g : ℕ) → g < G → (o : Option BitVector)
          → takes around R (look []) (ToWire g) o (form_drivers G L x (Timed (length l.islands))) ≡ offset_told g o (entries_at part cells around v look s p form q)
      offsets_now ifs (Cycle t kept) fits shows begun g inside o =
          wires_is g inside o
          ∙ turns.offsets_so part form l.cells C G x F around R (look []) now later (v.register []) N looks cycles_are some is_timer steps samples regs here ifs t kept fits.less (λ m low. sym (numbers_is m) ∙ shows m low)
          (sampled_now (instances.Node part cells) form t kept s) begun above (let a = fits.less in let b = whole_few in omega (arith, a, b)) few g inside o
      offsets_now ifs LastTurn fits shows begun g inside o =
          wires_is g inside o
          ∙ turns.none_offsets part form l.cells C G x F around R (look []) now later (v.register []) N looks cycles_are some is_timer steps samples regs here (λ m low. sym (numbers_is m) ∙ shows m low) above g inside o

    -- AN ENABLE, by the kind of its group
    kind_turn : (g : ℕ) (kind : GroupKind) (l : Lowering) → IsBefore (after_enable part g (kind_length kind) l) (after part part.control (unlowered part)) → (own_place place : Place)
        → Placed (lowered_enable part g (kind_length kind) l) own_place ≡ Placed (Timed (length l.islands)) place → (x : Stand) (r : ℕ) (q : Machine.Place (kind_machine (instances.Node part cells) (coded_below cells) g kind))
        → Coding.IsFine (kind_coding (instances.Node part cells) (coded_below cells) g kind) q → IsIn around R (look []) x.acts x.region true r → r ≡ x.position + Coding.number (kind_coding (instances.Node part cells) (coded_below cells) g kind) q
        → ((n : ℕ) → n < Coding.extra (kind_coding (instances.Node part cells) (coded_below cells) g kind)
        → enable_number P (leaf_codings (instances.Node part cells) (coded_below cells)) part L (v.register []) (of_island part v) (kind_length kind) l x.register n ≡ Coding.other (kind_coding (instances.Node part cells) (coded_below cells) g kind) q n)
        → W x (Placed (lowered_enable part g (kind_length kind) l) own_place) → kind_begun part cells s (port_in d part cells v around look) g kind q
        → Turned (kind_coding (instances.Node part cells) (coded_below cells) g kind) x r (Placed (lowered_enable part g (kind_length kind) l) own_place)
        (enable_number P (leaf_codings (instances.Node part cells) (coded_below cells)) part L N (of_island part V2) (kind_length kind) l x.register) (goes_of_kind part cells s g kind q) (Machine.step (kind_machine (instances.Node part cells) (coded_below cells) g kind) q s)
    kind_turn g kinds.Plain l stage own_place place e x r q fits acts so shows w begun = absurd cc
    kind_turn g kinds.Comb l stage own_place place e x r q fits acts so shows w begun = absurd cc
    kind_turn g (kinds.Timed n) l stage own_place place e x r q fits acts so shows w begun = turn_now (Enable g) l stage own_place x r acts so w tt q fits shows begun

    -- EACH ISLAND makes its turn
    turn : (t : PlainStatement) → Stands (instances.Node part cells) t → (l : Lowering) → IsBefore (after part t l) (after part part.control (unlowered part)) → (place : Place) → lowered part t l ≡ Placed (Timed (length l.islands)) place → (x : Stand) (r : ℕ)
        (q : Machine.Place (machine_of (leaf_machines (instances.Node part cells) (coded_below cells)) t)) → Coding.IsFine (statement_coding P (leaf_codings (instances.Node part cells) (coded_below cells)) t) q → IsIn around R (look []) x.acts x.region true r
        → (r ≡ x.position + Coding.number (statement_coding P (leaf_codings (instances.Node part cells) (coded_below cells)) t) q)
        × ((n : ℕ) → n < Coding.extra (statement_coding P (leaf_codings (instances.Node part cells) (coded_below cells)) t)
        → number_of P (leaf_codings (instances.Node part cells) (coded_below cells)) part L (v.register []) (of_island part v) t l x.register n ≡ Coding.other (statement_coding P (leaf_codings (instances.Node part cells) (coded_below cells)) t) q n)
        → W x (lowered part t l) → IslandsHold P part (timed_begun part cells s (port_in d part cells v around look)) (island_begun part cells s (port_in d part cells v around look)) t q
        → Turned (statement_coding P (leaf_codings (instances.Node part cells) (coded_below cells)) t) x r (lowered part t l) (number_of P (leaf_codings (instances.Node part cells) (coded_below cells)) part L N (of_island part V2) t l x.register)
        (going P (leaf_codings (instances.Node part cells) (coded_below cells)) part L H (goes_of_enable part cells s) (goes_at part cells s) t q) (Machine.step (machine_of P t) q s)
    turn (Placed Empty own_place) u l stage place e x r q fits acts shows w has = absurd cc
    turn (Placed (Enable g) own_place) u l stage place e x r q fits acts shows w has = by (group_length part g) refl e has
      where
        by : (o : Option ℕ) → group_length part g ≡ o → Placed (lowered_enable part g o l) own_place ≡ Placed (Timed (length l.islands)) place
            → enable_holds P part AnyTest (AnyGroup P) (timed_begun part cells s (port_in d part cells v around look)) (island_begun part cells s (port_in d part cells v around look)) g o q
            → Turned (statement_coding P (leaf_codings (instances.Node part cells) (coded_below cells)) (Placed (Enable g) own_place)) x r (lowered part (Placed (Enable g) own_place) l)
            (number_of P (leaf_codings (instances.Node part cells) (coded_below cells)) part L N (of_island part V2) (Placed (Enable g) own_place) l x.register)
            (going P (leaf_codings (instances.Node part cells) (coded_below cells)) part L H (goes_of_enable part cells s) (goes_at part cells s) (Placed (Enable g) own_place) q) (Machine.step (machine_of P (Placed (Enable g) own_place)) q s)
        by None f e2 h = absurd cc
        by (Some c) f e2 h =
            subst (λ o. Turned (statement_coding P (leaf_codings (instances.Node part cells) (coded_below cells)) (Placed (Enable g) own_place)) x r (lowered part (Placed (Enable g) own_place) l)
            (number_of P (leaf_codings (instances.Node part cells) (coded_below cells)) part L N (of_island part V2) (Placed (Enable g) own_place) l x.register)
            (enable_going P (leaf_codings (instances.Node part cells) (coded_below cells)) part L H (goes_of_enable part cells s) (goes_at part cells s) g o q) (Machine.step (machine_of P (Placed (Enable g) own_place)) q s)) (sym f)
            (kind_turn g (group_at part g).kind l stage own_place place e x r q fits acts shows.0 shows.1 w h)
    turn (Placed (Seq parts) own_place) u l stage place e x r q fits acts shows w has = absurd cc
    turn (Placed (Par arms) own_place) u l stage place e x r q fits acts shows w has = absurd cc
    turn (Placed (If test comb a b) own_place) u l stage place e x r q fits acts shows w has = absurd cc
    turn (Placed (While test comb a) own_place) u l stage place e x r q fits acts shows w has = absurd cc
    turn (Placed (Repeat count a) own_place) u l stage place e x r q fits acts shows w has = absurd cc
    turn (Placed (StaticSeq written parts) own_place) u l stage place e x r q fits acts shows w has =
        turn_now (StaticSeq written parts) l stage own_place x r acts shows.0 w (rules.timers.ifs _ u) q fits shows.1 has
    turn (Placed (StaticPar written arms) own_place) u l stage place e x r q fits acts shows w has =
        turn_now (StaticPar written arms) l stage own_place x r acts shows.0 w (rules.timers.ifs _ u) q fits shows.1 has
    turn (Placed (StaticIf written test a b) own_place) u l stage place e x r q fits acts shows w has =
        turn_now (StaticIf written test a b) l stage own_place x r acts shows.0 w (rules.timers.ifs _ u) q fits shows.1 has
    turn (Placed (StaticRepeat written count a) own_place) u l stage place e x r q fits acts shows w has =
        turn_now (StaticRepeat written count a) l stage own_place x r acts shows.0 w (rules.timers.ifs _ u) q fits shows.1 has
    turn (Placed (Timed k) own_place) u l stage place e x r q fits acts shows w has = absurd (control.is_untimed k own_place u)

    pub islands_turn : IslandsTurn d part cells rules own control p s v around look cycle (goes_of_enable part cells s) (goes_at part cells s) (timed_begun part cells s (port_in d part cells v around look))
        (island_begun part cells s (port_in d part cells v around look))
    islands_turn = record { turn = turn }

    -- WHAT EACH ISLAND SAYS of the offsets of its groups
    module _ (islands : IslandsDo (instances.Node part cells)) (below : (c : ℕ) (child : Instance) → cell_at cells c ≡ OfInstance child → ChildLaws cells c (coded_below cells c))
        (kept : (c : ℕ) (child : Instance) → cell_at cells c ≡ OfInstance child → KeepsBelow cells c) where
      abbrev of_enable : (g : ℕ) → Machine.Place (LeafMachines.enable (leaf_machines (instances.Node part cells) (coded_below cells)) g) → List Entry
      of_enable = timed_now d part cells rules own control islands below kept p s v around look cycle

      abbrev of_form : (form : PlainForm) → Machine.Place (LeafMachines.island (leaf_machines (instances.Node part cells) (coded_below cells)) form) → List Entry
      of_form = static_now d part cells rules own control islands below kept p s v around look cycle

      none_more : (g : ℕ) (o : Option BitVector) (es : List Entry) → offset_told g o es ≡ offset_told g o (es ++ [])
      none_more g o es = sym (offset_both g o es [])

      kind_say : (g : ℕ) (kind : GroupKind) (l : Lowering) → IsBefore (after_enable part g (kind_length kind) l) (after part part.control (unlowered part)) → (own_place place : Place)
          → Placed (lowered_enable part g (kind_length kind) l) own_place ≡ Placed (Timed (length l.islands)) place → (x : Stand) (r : ℕ) (q : Machine.Place (kind_machine (instances.Node part cells) (coded_below cells) g kind))
          → Coding.IsFine (kind_coding (instances.Node part cells) (coded_below cells) g kind) q → IsIn around R (look []) x.acts x.region true r → r ≡ x.position + Coding.number (kind_coding (instances.Node part cells) (coded_below cells) g kind) q
          → ((n : ℕ) → n < Coding.extra (kind_coding (instances.Node part cells) (coded_below cells) g kind)
          → enable_number P (leaf_codings (instances.Node part cells) (coded_below cells)) part L (v.register []) (of_island part v) (kind_length kind) l x.register n ≡ Coding.other (kind_coding (instances.Node part cells) (coded_below cells) g kind) q n)
          → W x (Placed (lowered_enable part g (kind_length kind) l) own_place) → kind_begun part cells s (port_in d part cells v around look) g kind q → (h : ℕ) → h < G → (o : Option BitVector)
          → takes around R (look []) (ToWire h) o (isles_of G L x (Placed (lowered_enable part g (kind_length kind) l) own_place)) ≡ offset_told h o (kind_entries d part cells rules own control islands below kept p s v around look cycle g kind q)
      kind_say g kinds.Plain l stage own_place place e x r q fits acts so shows w begun h inside o = absurd cc
      kind_say g kinds.Comb l stage own_place place e x r q fits acts so shows w begun h inside o = absurd cc
      kind_say g (kinds.Timed n) l stage own_place place e x r q fits acts so shows w begun h inside o = offsets_now (Enable g) l stage own_place x r acts so w tt q fits shows begun h inside o

      pub islands_say : (h : ℕ) → h < length part.groups → IslandsSay d part cells rules own control p s v around look cycle (timed_now d part cells rules own control islands below kept p s v around look cycle)
          (static_now d part cells rules own control islands below kept p s v around look cycle) (timed_begun part cells s (port_in d part cells v around look)) (island_begun part cells s (port_in d part cells v around look)) h
      islands_say h inside (Placed Empty own_place) u l stage place e x r q fits acts shows w has o = absurd cc
      islands_say h inside (Placed (Enable g) own_place) u l stage place e x r q fits acts shows w has o = by (group_length part g) refl e has
        where
          by : (z : Option ℕ) → group_length part g ≡ z → Placed (lowered_enable part g z l) own_place ≡ Placed (Timed (length l.islands)) place
              → enable_holds P part AnyTest (AnyGroup P) (timed_begun part cells s (port_in d part cells v around look)) (island_begun part cells s (port_in d part cells v around look)) g z q
              → takes around R (look []) (ToWire h) o (isles_of G L x (lowered part (Placed (Enable g) own_place) l)) ≡ offset_told h o (timed_entries P part of_enable of_form g (group_length part g) q ++ [])
          by None f e2 k = absurd cc
          by (Some c) f e2 k =
              subst (λ z. takes around R (look []) (ToWire h) o (isles_of G L x (lowered part (Placed (Enable g) own_place) l)) ≡ offset_told h o (timed_entries P part of_enable of_form g z q ++ [])) (sym f)
              (kind_say g (group_at part g).kind l stage own_place place e x r q fits acts shows.0 shows.1 w k h inside o ∙ none_more h o (of_enable g q))
      islands_say h inside (Placed (Seq parts) own_place) u l stage place e x r q fits acts shows w has o = absurd cc
      islands_say h inside (Placed (Par arms) own_place) u l stage place e x r q fits acts shows w has o = absurd cc
      islands_say h inside (Placed (If test comb a b) own_place) u l stage place e x r q fits acts shows w has o = absurd cc
      islands_say h inside (Placed (While test comb a) own_place) u l stage place e x r q fits acts shows w has o = absurd cc
      islands_say h inside (Placed (Repeat count a) own_place) u l stage place e x r q fits acts shows w has o = absurd cc
      islands_say h inside (Placed (StaticSeq written parts) own_place) u l stage place e x r q fits acts shows w has o =
          offsets_now (StaticSeq written parts) l stage own_place x r acts shows.0 w (rules.timers.ifs _ u) q fits shows.1 has h inside o ∙ none_more h o (of_form (StaticSeq written parts) q)
      islands_say h inside (Placed (StaticPar written arms) own_place) u l stage place e x r q fits acts shows w has o =
          offsets_now (StaticPar written arms) l stage own_place x r acts shows.0 w (rules.timers.ifs _ u) q fits shows.1 has h inside o ∙ none_more h o (of_form (StaticPar written arms) q)
      islands_say h inside (Placed (StaticIf written test a b) own_place) u l stage place e x r q fits acts shows w has o =
          offsets_now (StaticIf written test a b) l stage own_place x r acts shows.0 w (rules.timers.ifs _ u) q fits shows.1 has h inside o ∙ none_more h o (of_form (StaticIf written test a b) q)
      islands_say h inside (Placed (StaticRepeat written count a) own_place) u l stage place e x r q fits acts shows w has o =
          offsets_now (StaticRepeat written count a) l stage own_place x r acts shows.0 w (rules.timers.ifs _ u) q fits shows.1 has h inside o ∙ none_more h o (of_form (StaticRepeat written count a) q)
      islands_say h inside (Placed (Timed k) own_place) u l stage place e x r q fits acts shows w has o = absurd (control.is_untimed k own_place u)

  -- WHAT ISLANDS GIVE
  pub islands_give : IslandsGive d part cells rules own control (Begun d part cells)
  islands_give = record {
    timed_saw = λ s v around look. timed_begun part cells s (port_in d part cells v around look);
    island_saw = λ s v around look form q. island_begun part cells s (port_in d part cells v around look) form q;
    has = λ p s v around look begun. begun;
    turn = λ p s v around look cycle. islands_turn p s v around look cycle;
  }
