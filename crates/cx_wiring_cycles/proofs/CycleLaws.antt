-- Where the nodes of a component in its net have what their own rules give, its control has one cycle of its own drivers.
use Rattle.std.proofs.Common.{◌≡◌, ℕ, ◌+◌, ◌<◌, ◌≤◌, Bool, true, List, [], ◌∷◌, ◌++◌, length, Some, sym, ap, ◌∙◌, subst, arith}
use Rattle.std.proofs.lemmas.Bool.{lt-ltb}
use Rattle.cx_bits.specs.BitVector.{BitVector, zero_of}
use Rattle.cx_meaning.specs.declared.ports.PortRef.{PortRef}
use Rattle.cx_meaning.specs.Designs.{PlainComponent}
use Rattle.cx_meaning.specs.Active.{Owned}
use Rattle.cx_text.specs.Members.{In}
use Rattle.cx_net.specs.Nets.{ToRegister, ToWire, PlainNetDriver}
use Rattle.cx_net.specs.NetTree.{NetCells}
use Rattle.cx_net.specs.NetMeaning.{NetState, Node, AWire, NetLook, NetAround, truth_bit, drivers_to, registers_of, own_step, is_own_node}
use Rattle.cx_net.specs.NetEdges.{taken, value_in, guard_in, own_register}
use Rattle.cx_static.specs.Islands.{PlainLowereds}
use Rattle.cx_static.specs.Lowering.{lowered, lowered_component, unlowered}
use Rattle.cx_wiring.specs.Bounds.{AllDrive, IslandsName}
use Rattle.cx_wiring.specs.Trees.{tree_widths}
use Rattle.cx_wiring.specs.Control.{whole_stand, finishing, drivers_of}
use Rattle.cx_wiring.specs.Assignments.{driven_assigns, assigns_drivers}
use Rattle.cx_wiring.specs.Wiring.{groups, first_of_control, first_of_assigns, bits, plain_wires, plain_drivers, component_driven, target_width, net_component}
use Rattle.cx_wiring.proofs.TakingLemmas.{register_takes}
use Rattle.cx_wiring.proofs.NetTargets.{plain_wires_count}
use Rattle.cx_wiring.proofs.TimerRows.{EachTimer, IsTimerIn, IsOwnTarget}
use Rattle.cx_wiring.proofs.ComponentTakes.{IsPlain, register_takes_all}
use Rattle.cx_wiring_cycles.specs.Standing.{StatementBits}
use Rattle.cx_wiring_cycles.proofs.ConnectLaws.{Reads, read_before}
use Rattle.cx_wiring_cycles.proofs.IslandReads.{IsUntimed}
use Rattle.cx_wiring_cycles.proofs.IslandStands.{islands_take}
use Rattle.cx_wiring_cycles.proofs.ComponentLaws.{PlainCycle}
use Rattle.cx_wiring_cycles.proofs.NodeTakes.{all_wires, reads, wire_takes, hole_takes, done_takes, registers_are, timer_goes}

module _ (d : PlainLowereds) (part : PlainComponent) (named : IslandsName (groups (lowered_component part)) (lowered_component part).islands) (cells : NetCells) (around : NetAround) (s : NetState) (look : NetLook)
    (solves : (n : Node) → is_own_node (net_component d (lowered_component part)) cells n ≡ true
    → look [] n ≡ own_step (net_component d (lowered_component part)) cells around s (look []) (λ c. look (c ∷ [])) n)
    (has_value : (n : Node) → is_own_node (net_component d (lowered_component part)) cells n ≡ true → (x : BitVector) × (look [] n ≡ Some x))
    (plain : AllDrive (IsPlain (length (plain_wires (lowered_component part)))) (plain_drivers (lowered_component part))) where
  inner_known : (m : ℕ) → length (plain_wires (lowered_component part)) ≤ m → m < length (plain_wires (lowered_component part)) + length (tree_widths (target_width d (lowered_component part)) (component_driven (lowered_component part)))
      → (b : BitVector) × (look [] (AWire m) ≡ Some b)
  inner_known m low high = has_value (AWire m) (lt-ltb m (length (net_component d (lowered_component part)).wires) (subst (λ n. m < n) (sym (all_wires d part cells around s look solves plain)) high))

  -- the drivers of control, of its end, and of assignments
  abbrev CD : List PlainNetDriver
  CD = drivers_of (groups (lowered_component part)) (lowered_component part).islands (whole_stand (first_of_control (lowered_component part))) (lowered part part.control (unlowered part))

  abbrev FD : List PlainNetDriver
  FD = finishing (first_of_control (lowered_component part)) (lowered part part.control (unlowered part))

  abbrev AD : List PlainNetDriver
  AD = assigns_drivers (groups (lowered_component part)) (first_of_assigns (lowered_component part)) (driven_assigns (lowered_component part))

  -- ONE CYCLE of control
  pub plain_cycle : IsUntimed part.control → ((o : Owned) → In (driven_assigns (lowered_component part)) o → IsOwnTarget part o.assign.target)
      → EachTimer part (IsTimerIn part cells)
      → (hole : ℕ → Bool) (port : PortRef → Bool) (acting : Bool) → around.go ≡ Some (truth_bit acting)
      → StatementBits around (registers_of (net_component d (lowered_component part)) cells around s (look []) (λ c. look (c ∷ []))) (look []) hole port (lowered part part.control (unlowered part))
      → PlainCycle part named around (registers_of (net_component d (lowered_component part)) cells around s (look []) (λ c. look (c ∷ []))) (look []) (s.register []) (own_register (net_component d (lowered_component part)) cells around s look) hole port acting
  plain_cycle untimed own timers hole port acting go test_bits = record {
    acts = go;
    wires = wires_are;
    registers_are = registers_are d part cells around s look solves plain;
    nexts = λ m old new there same e.
        register_takes_all d (lowered_component part) around (registers_of (net_component d (lowered_component part)) cells around s (look []) (λ c. look (c ∷ []))) (look []) plain (reads d part cells around s look solves plain) m (s.register [] m) inner_known
        ∙ ap (λ v. taken (guard_in (net_component d (lowered_component part)) cells around s look) (value_in (net_component d (lowered_component part)) cells around s look) v (drivers_to (ToRegister m) (plain_drivers (lowered_component part)))) (sym same)
        ∙ register_takes around (registers_of (net_component d (lowered_component part)) cells around s (look []) (λ c. look (c ∷ []))) (look []) old (ToRegister m) new (plain_drivers (lowered_component part)) e;
    islands = islands_take part named around (registers_of (net_component d (lowered_component part)) cells around s (look []) (λ c. look (c ∷ []))) (look []) untimed
        (λ n less. let h : n < first_of_assigns (lowered_component part) = omega arith in
        read_before (groups (lowered_component part)) (lowered_component part).islands named around (registers_of (net_component d (lowered_component part)) cells around s (look []) (λ c. look (c ∷ []))) (look []) n CD FD
        (read_before (groups (lowered_component part)) (lowered_component part).islands named around (registers_of (net_component d (lowered_component part)) cells around s (look []) (λ c. look (c ∷ []))) (look []) n (CD ++ FD) AD (wires_are n h)))
        (timer_goes d part cells around s look solves plain own timers);
    goes = λ g there. hole_takes d part cells around s look solves plain (groups (lowered_component part) + g) (omega arith);
    done = done_takes d part cells around s look solves plain;
    bits = test_bits;
  }
    where
      wires_are : (n : ℕ) → n < first_of_assigns (lowered_component part)
          → Reads (groups (lowered_component part)) (lowered_component part).islands named around (registers_of (net_component d (lowered_component part)) cells around s (look []) (λ c. look (c ∷ []))) (look []) n (plain_drivers (lowered_component part))
      wires_are n less =
          let count : length (plain_wires (lowered_component part)) ≡ groups (lowered_component part) + bits (lowered_component part) = plain_wires_count (lowered_component part) in
          let there : n < length (plain_wires (lowered_component part)) = omega arith in
          record { behind_them = Some (zero_of (target_width d (lowered_component part) (ToWire n))); reads = wire_takes d part cells around s look solves plain n there }
