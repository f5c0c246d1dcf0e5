-- With go, where the net shows a place, the goes of a node are those of the place, and its numbers come to those of the machine's step: with
-- what islands owe as a premise.
use Rattle.std.proofs.Common.{◌≡◌, ℕ, zero, suc, ◌+◌, ◌<◌, ◌≤◌, ◌⊎◌, inl, inr, ◌^◌, Bool, true, false, List, [], length, Option, Some, None, refl, sym, ap, ◌∙◌, arith}
use Rattle.std.proofs.lemmas.Bool.{cases_lt}
use Rattle.cx_text.specs.declared.places.Place.{Place}
use Rattle.cx_bits.specs.BitVector.{BitVector}
use Rattle.cx_meaning.specs.declared.kinds.GroupKind.{GroupKind}
use Rattle.cx_meaning.specs.declared.kinds.GroupKind.TheVariants as kinds
use Rattle.cx_meaning.specs.declared.ports.PortRef.{PortRef}
use Rattle.cx_meaning.specs.Designs.{PlainComponent, PlainDesign, PlainForm, Timed, Repeat, PlainStatement, Placed, PlainStatements, group_at}
use Rattle.cx_meaning.specs.Instances as instances
use Rattle.cx_meaning.specs.Instances.{Instance, Cells, part_of}
use Rattle.cx_meaning.specs.Cycles.{Fault}
use Rattle.cx_meaning.specs.Islands.{group_length, kind_length}
use Rattle.cx_meaning.specs.Calls.{called}
use Rattle.cx_lockstep.specs.Worlds.{Control, At, Done, Machine}
use Rattle.cx_lockstep.specs.Statements.{LeafMachines, machine_of}
use Rattle.cx_control.specs.Codings.{Coding, at_fine}
use Rattle.cx_control.specs.StatementCodings.{LeafCodings, statement_coding}
use Rattle.cx_control.specs.StatementCodingLaws.{IsRegion, AreCoded}
use Rattle.cx_control.specs.Spots.{Spot, Holds, Kept}
use Rattle.cx_control.specs.Leaves.{Coded, code_of, leaf_machines}
use Rattle.cx_control.specs.Controls.{coded_control, coded_below, called_coding, kind_coding, leaf_codings}
use Rattle.cx_control.specs.InstanceRules.{Stands}
use Rattle.cx_control.specs.ControlRules.{ControlRules}
use Rattle.cx_control.proofs.ControlLaws.{stands_at, leaves_coded, control_coded}
use Rattle.cx_net.specs.Nets.{OfGo}
use Rattle.cx_net.specs.NetMeaning.{NetState, NetLook, NetAround, truth_bit}
use Rattle.cx_static.specs.Islands.{PlainIsland}
use Rattle.cx_static.specs.Lowering.{Lowering, after, parts_after, lowered, lowered_component, unlowered}
use Rattle.cx_wiring.specs.Stands.{Stand}
use Rattle.cx_wiring.specs.Control.{whole_stand, drivers_of}
use Rattle.cx_wiring.specs.Wiring.{groups, first_of_control}
use Rattle.cx_wiring.specs.PartNets.{wired_in, timers_of}
use Rattle.cx_wiring.proofs.IslandCells.{IsBefore, itself, both_before, before_after, before_parts}
use Rattle.cx_wiring_cycles.specs.Standing.{IsIn}
use Rattle.cx_wiring_cycles.specs.Shown.{Going, number_of, going}
use Rattle.cx_wiring_cycles.specs.AtLeaves.{IslandsHold}
use Rattle.cx_wiring_cycles.specs.Turning.{Turns}
use Rattle.cx_wiring_cycles.specs.Wired.{IsWired}
use Rattle.cx_wiring_cycles.specs.IslandNumbers.{of_island}
use Rattle.cx_wiring_cycles.proofs.ComponentLaws as laws
use Rattle.cx_wiring_cycles.proofs.ComponentLaws.{PlainCycle}
use Rattle.cx_wiring_cycles.proofs.SizeLaws.{size_is, enable_one, island_one}
use Rattle.cx_wiring_cycles.proofs.StandsLaws.{turns}
use Rattle.cx_wiring_cycles.proofs.GoesLaws.{statement_goes}
use Rattle.cx_wiring_cycles.proofs.LeafHolds.{saw_both}
use Rattle.cx_wiring_cycles.proofs.BeyondNumbers.{island_short, enable_short, coding_short, number_ends}
use Rattle.cx_wiring_runs.proofs.NodeRules.{NodeRules}
use Rattle.cx_wiring_runs.specs.BlockNumbers.{component_numbers}
use Rattle.cx_wiring_runs.specs.Blocks.{block, after_edge}
use Rattle.cx_wiring_runs.proofs.OutputFlows.{fine_node}
use Rattle.cx_wiring_runs.proofs.BlockTells.{hole_now, port_now, node_cycle}
use Rattle.cx_wiring_runs.proofs.BlockIdles.{next, now_R}
use Rattle.cx_wiring_runs.proofs.NodeTimers.{node_away, node_known}
use Rattle.cx_wiring_runs.proofs.CallStands.{bit_is}
use Rattle.cx_wiring_runs.proofs.IslandRests.{island_rests}
use Rattle.cx_wiring_runs.proofs.NodeCells.{CellRules}
use Rattle.cx_wiring_runs.proofs.NodeEdges.{IsCycle, Agrees, GoesSo}

-- a group that is not static has no numbers beside its place
module _ (i : Instance) (children : ℕ → Coded) where
  called_alone : (g : ℕ) (o : Option ℕ) → Coding.extra (called_coding i children g o) ≡ 0
  called_alone g None = refl
  called_alone g (Some c) = refl

  kind_alone : (g : ℕ) (kind : GroupKind) → kind_length kind ≡ None → Coding.extra (kind_coding i children g kind) ≡ 0
  kind_alone g kinds.Plain is = called_alone g (called i g)
  kind_alone g kinds.Comb is = called_alone g (called i g)
  kind_alone g (kinds.Timed n) is = absurd cc

  pub plain_extra : (g : ℕ) → group_length (part_of i) g ≡ None → Coding.extra (LeafCodings.enable (leaf_codings i children) g) ≡ 0
  plain_extra g is = kind_alone g (group_at (part_of i) g).kind is

module _ (d : PlainDesign) (part : PlainComponent) (cells : Cells) (rules : NodeRules d (instances.Node part cells)) (own : CellRules (instances.Node part cells))
    (control : ControlRules (instances.Node part cells)) where
  abbrev P : LeafMachines Spot Holds Fault
  P = leaf_machines (instances.Node part cells) (coded_below cells)

  abbrev K : LeafCodings P
  K = leaf_codings (instances.Node part cells) (coded_below cells)

  abbrev G : ℕ
  G = groups (lowered_component part)

  abbrev I : List PlainIsland
  I = (lowered_component part).islands

  abbrev B : ℕ
  B = first_of_control (lowered_component part)

  -- the stages of the lowering of the component
  abbrev pub Low : Lowering → Type 0
  Low l = IsBefore l (after part part.control (unlowered part))

  pub low_back : (t : PlainStatement) (l : Lowering) → Low (after part t l) → Low l
  low_back t l b = both_before part l (after part t l) (after part part.control (unlowered part)) (before_after part t l) b

  pub low_parts : (ss : PlainStatements) (l : Lowering) → Low (parts_after part ss l) → Low l
  low_parts ss l b = both_before part l (parts_after part ss l) (after part part.control (unlowered part)) (before_parts part ss l) b

  pub root : Stands (instances.Node part cells) part.control
  root = stands_at (instances.Node part cells) part.control refl

  pub law : AreCoded P K (Stands (instances.Node part cells))
  law = leaves_coded part cells control

  region : IsRegion (Coded.machine (coded_control (instances.Node part cells))) (Coded.coding (coded_control (instances.Node part cells)))
  region = control_coded (instances.Node part cells) control

  rounds : (k : ℕ) (a : PlainStatement) (place : Place) → Stands (instances.Node part cells) (Placed (Repeat (suc k) a) place) → k < 2 ^ 32
  rounds k a place u = let less : suc k < 2 ^ 32 = own.rounds _ u (suc k) refl in omega arith

  -- WHAT ISLANDS END WITH: no number behind their last
  abbrev pub IslandsEnd : NetState → Type 0
  IslandsEnd v = (t : PlainStatement) (l : Lowering) → ((k : ℕ) (other : Place) → t ≡ Placed (Timed k) other → ⊥) → IsBefore (after part t l) (after part part.control (unlowered part)) → (place : Place) → lowered part t l ≡ Placed (Timed (length l.islands)) place → (first n : ℕ)
      → Coding.extra (statement_coding (leaf_machines (instances.Node part cells) (coded_below cells)) (leaf_codings (instances.Node part cells) (coded_below cells)) t) ≤ n → of_island part v first (length l.islands) n ≡ 0

  module _ (p : Machine.Place (Coded.machine (coded_control (instances.Node part cells)))) (s : Kept) (v : NetState) (around : NetAround) (look : NetLook) (cycle : IsCycle d of_island part cells rules own p s v around look) where
    abbrev R : ℕ → Option BitVector
    R = now_R d of_island part cells (fine_node d of_island part cells rules) v around look cycle.solves

    abbrev N : ℕ → ℕ
    N = next d of_island part cells (fine_node d of_island part cells rules) v around look cycle.solves

    abbrev H : ℕ → Bool
    H = hole_now d of_island part cells (fine_node d of_island part cells rules) v around look cycle.solves

    abbrev T : PortRef → Bool
    T = port_now d of_island part cells (fine_node d of_island part cells rules) v around look cycle.solves

    abbrev V2 : NetState
    V2 = after_edge (block (wired_in d) timers_of (component_numbers of_island) (instances.Node part cells)) around v look

    pub plain : PlainCycle part (fine_node d of_island part cells rules).islands_named around R (look []) (v.register []) N H T cycle.solves.go.0
    plain = node_cycle d of_island part cells (fine_node d of_island part cells rules) v around look cycle.solves

    on : cycle.solves.go.0 ≡ true
    on = bit_is around.go cycle.solves.go.0 true cycle.go.0 cycle.solves.go.1 cycle.go.1 cycle.go.2

    pub acts : IsIn around R (look []) OfGo 0 true (v.register [] 0)
    acts = record { acts_so = cycle.solves.go.1 ∙ ap (λ b. Some (truth_bit b)) on; width = 32; at_position = plain.registers_are.0 }

    so : v.register [] 0 ≡ Coding.number (Coded.coding (coded_control (instances.Node part cells))) p
    so = cycle.shows.own 0

    pub so_there : v.register [] 0 ≡ 0 + Coding.number (Coded.coding (coded_control (instances.Node part cells))) p
    so_there = let e : v.register [] 0 ≡ Coding.number (Coded.coding (coded_control (instances.Node part cells))) p = so in omega arith

    pub wired : IsWired G I around R (look []) B (v.register []) N H T (whole_stand (first_of_control (lowered_component part))) (lowered part part.control (unlowered part))
    wired =
        laws.wired part (fine_node d of_island part cells rules).islands_named around R (look []) (v.register []) N H T (fine_node d of_island part cells rules).control_named (fine_node d of_island part cells rules).assigns_named cycle.solves.go.0 plain
        (node_away d of_island part cells (fine_node d of_island part cells rules) v around look cycle.solves) (node_known d of_island part cells (fine_node d of_island part cells rules) v around look cycle.solves)

    -- WHAT ISLANDS OWE in this cycle
    module _ (of_enable : (g : ℕ) → Machine.Place (LeafMachines.enable (leaf_machines (instances.Node part cells) (coded_below cells)) g) → List Going)
        (of_form : (form : PlainForm) → Machine.Place (LeafMachines.island (leaf_machines (instances.Node part cells) (coded_below cells)) form) → List Going)
        (timed_saw : (g : ℕ) → Machine.Place (LeafMachines.enable (leaf_machines (instances.Node part cells) (coded_below cells)) g) → Type 0)
        (island_saw : (form : PlainForm) → Machine.Place (LeafMachines.island (leaf_machines (instances.Node part cells) (coded_below cells)) form) → Type 0) where
      pub record IslandsTurn : Type 0 where
        pub turn : (t : PlainStatement) → Stands (instances.Node part cells) t → (l : Lowering) → IsBefore (after part t l) (after part part.control (unlowered part)) → (place : Place) → lowered part t l ≡ Placed (Timed (length l.islands)) place
            → (x : Stand) (r : ℕ) (q : Machine.Place (machine_of (leaf_machines (instances.Node part cells) (coded_below cells)) t)) → Coding.IsFine (statement_coding (leaf_machines (instances.Node part cells) (coded_below cells)) (leaf_codings (instances.Node part cells) (coded_below cells)) t) q
            → IsIn around (now_R d of_island part cells (fine_node d of_island part cells rules) v around look cycle.solves) (look []) x.acts x.region true r
            → (r ≡ x.position + Coding.number (statement_coding (leaf_machines (instances.Node part cells) (coded_below cells)) (leaf_codings (instances.Node part cells) (coded_below cells)) t) q)
            × ((n : ℕ) → n < Coding.extra (statement_coding (leaf_machines (instances.Node part cells) (coded_below cells)) (leaf_codings (instances.Node part cells) (coded_below cells)) t)
            → number_of (leaf_machines (instances.Node part cells) (coded_below cells)) (leaf_codings (instances.Node part cells) (coded_below cells)) part (lowered_component part).islands (v.register []) (of_island part v) t l x.register n
            ≡ Coding.other (statement_coding (leaf_machines (instances.Node part cells) (coded_below cells)) (leaf_codings (instances.Node part cells) (coded_below cells)) t) q n)
            → IsWired (groups (lowered_component part)) (lowered_component part).islands around (now_R d of_island part cells (fine_node d of_island part cells rules) v around look cycle.solves) (look []) (first_of_control (lowered_component part)) (v.register [])
            (next d of_island part cells (fine_node d of_island part cells rules) v around look cycle.solves) (hole_now d of_island part cells (fine_node d of_island part cells rules) v around look cycle.solves)
            (port_now d of_island part cells (fine_node d of_island part cells rules) v around look cycle.solves) x (lowered part t l)
            → IslandsHold (leaf_machines (instances.Node part cells) (coded_below cells)) part timed_saw island_saw t q
            → Turns (groups (lowered_component part)) around (now_R d of_island part cells (fine_node d of_island part cells rules) v around look cycle.solves) (look [])
            (statement_coding (leaf_machines (instances.Node part cells) (coded_below cells)) (leaf_codings (instances.Node part cells) (coded_below cells)) t) x.wire x.region x.position r (drivers_of (groups (lowered_component part)) (lowered_component part).islands x (lowered part t l))
            (number_of (leaf_machines (instances.Node part cells) (coded_below cells)) (leaf_codings (instances.Node part cells) (coded_below cells)) part (lowered_component part).islands
            (next d of_island part cells (fine_node d of_island part cells rules) v around look cycle.solves) (of_island part (after_edge (block (wired_in d) timers_of (component_numbers of_island) (instances.Node part cells)) around v look)) t l x.register)
            (going (leaf_machines (instances.Node part cells) (coded_below cells)) (leaf_codings (instances.Node part cells) (coded_below cells)) part (lowered_component part).islands
            (hole_now d of_island part cells (fine_node d of_island part cells rules) v around look cycle.solves) of_enable of_form t q) (Machine.step (machine_of (leaf_machines (instances.Node part cells) (coded_below cells)) t) q s)

      module _ (islands : IslandsTurn) (has : IslandsHold (leaf_machines (instances.Node part cells) (coded_below cells)) part timed_saw island_saw part.control p) where
        -- THE GOES of the node
        pub goes_so : GoesSo d of_island part cells rules own p s v around look cycle.solves of_enable of_form
        goes_so g there =
            laws.goes_are part (fine_node d of_island part cells rules).islands_named around R (look []) (v.register []) N H T (fine_node d of_island part cells rules).control_named (fine_node d of_island part cells rules).assigns_named cycle.solves.go.0 plain g there
            ∙ statement_goes G I around R (look []) B (v.register []) N H T (node_away d of_island part cells (fine_node d of_island part cells rules) v around look cycle.solves) P K part (of_island part v) (Stands (instances.Node part cells)) law
            (enable_one (instances.Node part cells) (coded_below cells)) (island_one (instances.Node part cells) (coded_below cells)) of_enable of_form timed_saw island_saw Low low_back low_parts
            (λ t u l stage place is x r q f i shows w h. Turns.goes_so (islands.turn t u l stage place is x r q f i shows w h))
            part.control root (unlowered part) (itself part (after part part.control (unlowered part))) (whole_stand (first_of_control (lowered_component part))) (v.register [] 0) p cycle.fine acts
            (so_there, λ n less. cycle.shows.own (suc n)) wired has g (Some (truth_bit false))

        -- THE NUMBERS of the node
        module _ (agrees : Agrees d of_island part cells rules own p s v around look cycle.solves) (end_after : IslandsEnd V2) where
          turned : Turns G around R (look []) (statement_coding P K part.control) B 0 0 (v.register [] 0) (drivers_of G I (whole_stand (first_of_control (lowered_component part))) (lowered part part.control (unlowered part)))
              (number_of P K part I N (of_island part V2) part.control (unlowered part) 1) (going P K part I H of_enable of_form part.control p) (Machine.step (machine_of P part.control) p s)
          turned =
              turns G I around R (look []) B (v.register []) N H T (node_away d of_island part cells (fine_node d of_island part cells rules) v around look cycle.solves) P K part (of_island part v) (of_island part V2)
              (λ k x idle nexts n. island_rests d part cells (fine_node d of_island part cells rules) v around look cycle.solves k x idle nexts n)
              (Stands (instances.Node part cells)) law (enable_one (instances.Node part cells) (coded_below cells)) (island_one (instances.Node part cells) (coded_below cells)) (plain_extra (instances.Node part cells) (coded_below cells))
              s of_enable of_form rounds Low low_back low_parts timed_saw island_saw islands.turn part.control root (unlowered part) (itself part (after part part.control (unlowered part))) (whole_stand (first_of_control (lowered_component part))) (v.register [] 0) p cycle.fine acts
              (so_there, λ n less. cycle.shows.own (suc n)) wired (saw_both P part timed_saw island_saw K I s H T part.control p agrees has)

          place_next : N 0 ≡ code_of (coded_control (instances.Node part cells)) (Machine.step (machine_of P part.control) p s) 0
          place_next =
              laws.place_moves part (fine_node d of_island part cells rules).islands_named around R (look []) (v.register []) N H T (fine_node d of_island part cells rules).control_named (fine_node d of_island part cells rules).assigns_named
              cycle.solves.go.0 plain (node_away d of_island part cells (fine_node d of_island part cells rules) v around look cycle.solves) (node_known d of_island part cells (fine_node d of_island part cells rules) v around look cycle.solves)
              (statement_coding P K part.control) p (Machine.step (machine_of P part.control) p s) (number_of P K part I N (of_island part V2) part.control (unlowered part) 1) (going P K part I H of_enable of_form part.control p)
              (size_is P K part (enable_one (instances.Node part cells) (coded_below cells)) (island_one (instances.Node part cells) (coded_below cells)) part.control (unlowered part)) so (region.coded.below p) turned

          code_beyond : (k : Control (Machine.Place (machine_of P part.control))) → at_fine (Coding.IsFine (statement_coding P K part.control)) k → (m : ℕ) → Coding.extra (statement_coding P K part.control) ≤ m
              → code_of (coded_control (instances.Node part cells)) k (suc m) ≡ 0
          code_beyond (At q) f m over = coding_short P K (enable_short (instances.Node part cells) (coded_below cells)) (island_short (instances.Node part cells) (coded_below cells)) part.control q f m over
          code_beyond Done f m over = refl

          other_next : (m : ℕ) → (m < Coding.extra (statement_coding P K part.control)) ⊎ (Coding.extra (statement_coding P K part.control) ≤ m)
              → number_of P K part I N (of_island part V2) part.control (unlowered part) 1 m ≡ code_of (coded_control (instances.Node part cells)) (Machine.step (machine_of P part.control) p s) (suc m)
          other_next m (inl less) = turned.others m less
          other_next m (inr over) =
              number_ends P K part I N (of_island part V2) Low low_back low_parts end_after part.control (unlowered part) (itself part (after part part.control (unlowered part))) 1 m over
              ∙ sym (code_beyond (Machine.step (machine_of P part.control) p s) (region.coded.stays p s cycle.fine) m over)

          pub numbers_so : (n : ℕ) → component_numbers of_island (instances.Node part cells) (after_edge (block (wired_in d) timers_of (component_numbers of_island) (instances.Node part cells)) around v look) n
              ≡ code_of (coded_control (instances.Node part cells)) (Machine.step (Coded.machine (coded_control (instances.Node part cells))) p s) n
          numbers_so zero = place_next
          numbers_so (suc m) = other_next m (cases_lt m (Coding.extra (statement_coding P K part.control)))
