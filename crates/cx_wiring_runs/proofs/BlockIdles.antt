-- Without go, or at the end, the own numbers of a node move as an idle edge moves them, with what islands owe as a premise.
use Rattle.std.proofs.Common.{◌≡◌, ℕ, zero, suc, ◌+◌, ◌<◌, ◌≤◌, ◌⊎◌, inl, inr, ◌==◌, Bool, false, if◌then◌else◌, [], ◌∷◌, length, Option, Some, None, slice_get, refl, sym, ap, ◌∙◌, arith}
use Rattle.std.proofs.lemmas.List.{length-replicate}
use Rattle.cx_bits.specs.BitVector.{BitVector}
use Rattle.cx_meaning.specs.declared.kinds.GroupKind.{GroupKind}
use Rattle.cx_meaning.specs.declared.kinds.GroupKind.TheVariants as kinds
use Rattle.cx_meaning.specs.Designs.{PlainComponent, PlainDesign, PlainForm, Enable, group_at}
use Rattle.cx_meaning.specs.Instances as instances
use Rattle.cx_meaning.specs.Instances.{Instance, Cells, part_of}
use Rattle.cx_meaning.specs.Calls.{called}
use Rattle.cx_laws.specs.Samples.{form_ifs}
use Rattle.cx_control.specs.Codings.{Coding}
use Rattle.cx_control.specs.StatementCodings.{LeafCodings}
use Rattle.cx_control.specs.Leaves.{Coded, leaf_machines}
use Rattle.cx_control.specs.Controls.{coded_below, called_coding, kind_coding, leaf_codings}
use Rattle.cx_control.specs.Numbers.{OfSample, island_numbers, group_numbers, number_idle}
use Rattle.cx_net.specs.NetMeaning.{NetState, NetLook, NetAround, is_true, truth_bit}
use Rattle.cx_net.specs.NetEdges.{own_register}
use Rattle.cx_static.specs.Lowering.{lowered, lowered_component, unlowered}
use Rattle.cx_wiring.specs.Counts.{positions_of, sample_registers, registers_of}
use Rattle.cx_wiring.specs.Control.{whole_stand, drivers_of}
use Rattle.cx_wiring.specs.Wiring.{groups, first_of_control}
use Rattle.cx_wiring.specs.PartNets.{wired_in, timers_of, net_of_cells}
use Rattle.cx_wiring.proofs.TakingLemmas.{true_bit, idle_passes}
use Rattle.cx_wiring.proofs.IslandCells.{IsListed, listed}
use Rattle.cx_wiring.proofs.TimerRows.{EachTimer}
use Rattle.cx_wiring_cycles.specs.Standing.{Away}
use Rattle.cx_wiring_cycles.proofs.ComponentLaws as laws
use Rattle.cx_wiring_cycles.proofs.IdleNumbers.{IslandIdled, idled}
use Rattle.cx_wiring_cycles.proofs.TimerStates.{IsTimer}
use Rattle.cx_wiring_cycles.proofs.IslandIdles.{numbers_idle}
use Rattle.cx_wiring_cycles.specs.IslandNumbers as numbers
use Rattle.cx_wiring_runs.specs.BlockNumbers.{component_numbers}
use Rattle.cx_wiring_runs.specs.Blocks.{block, Solves, IsIdle, after_edge}
use Rattle.cx_wiring_runs.proofs.BlockTells.{IsFineNode, R, hole_now, port_now, node_cycle, end_is}
use Rattle.cx_wiring_runs.proofs.NodeTimers.{timer_is, timer_edge, node_away, node_known, go_takes}
use Rattle.cx_net.specs.Nets.{ToPort}
use Rattle.cx_prim.specs.CellStates.{Timer}
use Rattle.cx_prim.specs.PipeRows.{timer_idle}
use Rattle.cx_meaning.specs.declared.ports.PortRef.TheVariants as ports
use Rattle.cx_text.proofs.OptionLaws.{same_some}

-- the leaves of an instance have as many numbers as their codings
module _ (i : Instance) (children : ℕ → Coded) where
  called_count : (g : ℕ) (o : Option ℕ) → 0 ≡ Coding.extra (called_coding i children g o)
  called_count g None = refl
  called_count g (Some c) = refl

  island_count : (form : PlainForm) → length (island_numbers (part_of i) form) ≡ Coding.extra (LeafCodings.island (leaf_codings i children) form)
  island_count form = let two : suc (suc (form_ifs form)) ≡ 2 + form_ifs form = omega arith in ap (λ n. suc (suc n)) (length-replicate (form_ifs form) OfSample) ∙ two

  kind_count : (g : ℕ) (kind : GroupKind) → length (group_numbers (part_of i) g kind) ≡ Coding.extra (kind_coding i children g kind)
  kind_count g kinds.Plain = called_count g (called i g)
  kind_count g kinds.Comb = called_count g (called i g)
  kind_count g (kinds.Timed n) = island_count (Enable g)

  enable_count : (g : ℕ) → length (group_numbers (part_of i) g (group_at (part_of i) g).kind) ≡ Coding.extra (LeafCodings.enable (leaf_codings i children) g)
  enable_count g = kind_count g (group_at (part_of i) g).kind

-- the go of an instance that has one is 0 or 1
go_is : (o : Option BitVector) (b : Bool) → o ≡ Some (truth_bit b) → (x : BitVector) → o ≡ Some x → is_true x ≡ false → b ≡ false
go_is o b e x f off = sym (true_bit b) ∙ ap is_true (same_some (truth_bit b) x (sym e ∙ f)) ∙ off

module _ (d : PlainDesign) (of_island : PlainComponent → NetState → ℕ → ℕ → ℕ → ℕ) (part : PlainComponent) (cells : Cells) (fine : IsFineNode d of_island part cells) (v : NetState) (around : NetAround) (look : NetLook)
    (solves : Solves (block (wired_in d) timers_of (component_numbers of_island) (instances.Node part cells)) around v look) where
  abbrev pub next : ℕ → ℕ
  next = own_register (wired_in d part) (net_of_cells (wired_in d) timers_of (component_numbers of_island) cells (timers_of part)) around v look

  abbrev pub now_R : ℕ → Option BitVector
  now_R = R d of_island part cells fine v around look solves

  module _ (idle : IsIdle (block (wired_in d) timers_of (component_numbers of_island) (instances.Node part cells)) around v) where
    stopped : (solves.go.0 ≡ false) ⊎ (v.register [] 0 ≡ positions_of (lowered part part.control (unlowered part)))
    stopped = by_case idle
      where
        by_case : IsIdle (block (wired_in d) timers_of (component_numbers of_island) (instances.Node part cells)) around v → (solves.go.0 ≡ false) ⊎ (v.register [] 0 ≡ positions_of (lowered part part.control (unlowered part)))
        by_case (inl h) = inl (go_is around.go solves.go.0 solves.go.1 h.0 h.1 h.2)
        by_case (inr e) = inr (e ∙ end_is d of_island part cells)

    -- nothing of control acts
    pub control_away : Away around now_R (look []) (whole_stand (first_of_control (lowered_component part)))
        (drivers_of (groups (lowered_component part)) (lowered_component part).islands (whole_stand (first_of_control (lowered_component part))) (lowered part part.control (unlowered part)))
    control_away =
        laws.is_away part fine.islands_named around now_R (look []) (v.register []) next (hole_now d of_island part cells fine v around look solves) (port_now d of_island part cells fine v around look solves)
        fine.control_named fine.assigns_named solves.go.0 (node_cycle d of_island part cells fine v around look solves)
        (node_away d of_island part cells fine v around look solves) (node_known d of_island part cells fine v around look solves) stopped

    registers_stay : (m : ℕ) → 1 ≤ m → m < 1 + length (registers_of (lowered_component part).islands (lowered part part.control (unlowered part))) → next m ≡ v.register [] m
    registers_stay m low high =
        laws.registers_rest part fine.islands_named around now_R (look []) (v.register []) next (hole_now d of_island part cells fine v around look solves) (port_now d of_island part cells fine v around look solves)
        fine.control_named fine.assigns_named solves.go.0 (node_cycle d of_island part cells fine v around look solves)
        (node_away d of_island part cells fine v around look solves) (node_known d of_island part cells fine v around look solves) stopped m low (omega arith)

    -- so its timers come to rest
    pub timers_rest : EachTimer part (λ timer. (NetState.cell (after_edge (block (wired_in d) timers_of (component_numbers of_island) (instances.Node part cells)) around v look)) (timer.cell ∷ []) ≡ Timer 0 false)
    timers_rest k island is t timer at =
        timer_edge d of_island part cells fine v around look solves false k island is t timer at
        (go_takes d of_island part cells fine v around look solves k island is t timer at ∙ idle_passes around now_R (look []) (ToPort (ports.Cell timer.cell 0)) tt (Some (truth_bit false)) _ control_away.idle)
        ∙ ap timer_idle (IsTimer.is (timer_is d of_island part cells fine v around look solves k island is t timer at))

    -- THE OWN NUMBERS of a node, where those of its islands move as an idle edge moves them
    pub own_numbers_idle : ((k first : ℕ) → ((m : ℕ) → first ≤ m → m < first + length (sample_registers (slice_get (lowered_component part).islands k)) → next m ≡ v.register [] m)
        → IslandIdled (of_island part v first k) (of_island part (after_edge (block (wired_in d) timers_of (component_numbers of_island) (instances.Node part cells)) around v look) first k))
        → (n : ℕ) → component_numbers of_island (instances.Node part cells) (after_edge (block (wired_in d) timers_of (component_numbers of_island) (instances.Node part cells)) around v look) n
        ≡ number_idle (instances.Node part cells) n (component_numbers of_island (instances.Node part cells) v n)
    own_numbers_idle islands zero =
        laws.place_rests part fine.islands_named around now_R (look []) (v.register []) next (hole_now d of_island part cells fine v around look solves) (port_now d of_island part cells fine v around look solves)
        fine.control_named fine.assigns_named solves.go.0 (node_cycle d of_island part cells fine v around look solves)
        (node_away d of_island part cells fine v around look solves) (node_known d of_island part cells fine v around look solves) stopped
        ∙ ap (λ e. if v.register [] 0 == e then 0 else v.register [] 0) (sym (end_is d of_island part cells))
    own_numbers_idle islands (suc n) =
        idled (leaf_machines (instances.Node part cells) (coded_below cells)) (leaf_codings (instances.Node part cells) (coded_below cells)) part
        (enable_count (instances.Node part cells) (coded_below cells)) (island_count (instances.Node part cells) (coded_below cells)) (lowered_component part).islands (v.register []) next
        (of_island part v) (of_island part (after_edge (block (wired_in d) timers_of (component_numbers of_island) (instances.Node part cells)) around v look)) islands
        part.control (unlowered part) 1 registers_stay n

-- WITHOUT GO, or at the end, the own numbers of a node move as an idle edge moves them, whatever its registers and its timers hold
pub node_numbers_idle : (d : PlainDesign) (part : PlainComponent) (cells : Cells) (fine : IsFineNode d numbers.of_island part cells) (v : NetState) (around : NetAround) (look : NetLook)
    (solves : Solves (block (wired_in d) timers_of (component_numbers numbers.of_island) (instances.Node part cells)) around v look) → IsIdle (block (wired_in d) timers_of (component_numbers numbers.of_island) (instances.Node part cells)) around v
    → (n : ℕ) → component_numbers numbers.of_island (instances.Node part cells) (after_edge (block (wired_in d) timers_of (component_numbers numbers.of_island) (instances.Node part cells)) around v look) n
    ≡ number_idle (instances.Node part cells) n (component_numbers numbers.of_island (instances.Node part cells) v n)
node_numbers_idle d part cells fine v around look solves idle =
    own_numbers_idle d numbers.of_island part cells fine v around look solves idle
    (λ k first stay. numbers_idle (lowered_component part).part.cells (λ c. v.cell (c ∷ [])) (λ c. (NetState.cell (after_edge (block (wired_in d) timers_of (component_numbers numbers.of_island) (instances.Node part cells)) around v look)) (c ∷ []))
    (v.register []) (next d numbers.of_island part cells fine v around look solves) (slice_get (lowered_component part).islands k) first
    (λ island is. IsListed.some (listed part k island is)) (λ island is. timers_rest d numbers.of_island part cells fine v around look solves idle k island is)
    (λ island is m low high. stay m low (omega (arith, high, ap (λ o. length (sample_registers o)) is, length-replicate {A = ℕ} (length island.points) 1))))
