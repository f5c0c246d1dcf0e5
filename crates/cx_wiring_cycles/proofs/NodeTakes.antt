-- What each target of a component's net has where its nodes solve their rules, whether they have values or not: what its drivers give it.
use Rattle.std.proofs.Common.{◌≡◌, ℕ, suc, ◌+◌, ◌<◌, ◌≤◌, true, false, if◌then◌else◌, List, [], ◌∷◌, ◌++◌, length, Option, Some, None, option_map, option_and_then, unwrap_or, slice_get, refl, sym, ap, ◌∙◌, subst, arith, length-append}
use Rattle.std.proofs.lemmas.Bool.{lt-ltb, ne_eqb}
use Rattle.cx_bits.specs.BitVector.{BitVector, zero_of}
use Rattle.cx_meaning.specs.declared.ports.PortRef.TheVariants as ports
use Rattle.cx_meaning.specs.Designs.{PlainComponent}
use Rattle.cx_meaning.specs.Active.{Owned}
use Rattle.cx_text.specs.Members.{In}
use Rattle.cx_prim.specs.declared.ports.PortRow.{PortRow}
use Rattle.cx_prim.specs.Rows.{Row}
use Rattle.cx_net.specs.Nets.{ToPort, ToWire, ToHole, ToDone, PlainNetDriver, PlainNetTarget}
use Rattle.cx_net.specs.NetTree.{NetCells}
use Rattle.cx_net.specs.NetMeaning.{NetState, Node, APort, AWire, AHole, TheDone, NetLook, NetAround, truth_bit, drivers_to, registers_of, cell_node, own_step, is_own_node, is_port_of, chain as first_true, same_target}
use Rattle.cx_static.specs.Islands.{PlainLowereds}
use Rattle.cx_static.specs.Lowering.{lowered, lowered_component, unlowered}
use Rattle.cx_wiring.specs.Bounds.{AllDrive, IslandsName, StatementNames}
use Rattle.cx_wiring.specs.Trees.{tree_widths}
use Rattle.cx_wiring.specs.Control.{whole_stand, finishing, drivers_of, control_drivers}
use Rattle.cx_wiring.specs.Assignments.{driven_assigns, assigns_drivers, assigns_wires}
use Rattle.cx_wiring.specs.Wiring.{groups, first_of_control, first_of_assigns, bits, plain_wires, plain_drivers, component_registers, component_driven, port_width, target_width, net_component}
use Rattle.cx_wiring.specs.Takings.{takes, AreRegisters}
use Rattle.cx_wiring.proofs.TakingLemmas.{takes_append, others_pass}
use Rattle.cx_wiring.proofs.NetTargets.{plain_wires_count, bit_wire}
use Rattle.cx_wiring.proofs.TimerRows.{EachTimer, IsTimerIn, IsOwnTarget, assigns_skip, row_of_timer}
use Rattle.cx_wiring.proofs.BundleReads.{TakeTheirs}
use Rattle.cx_wiring.proofs.ComponentTakes.{IsPlain, target_takes}
use Rattle.cx_text.proofs.ListLaws.{behind, front, there_at}
use Rattle.cx_wiring.proofs.ControlTargets.{control_drives}
use Rattle.cx_wiring.proofs.DrivenLemmas.{IsProper}
use Rattle.cx_wiring_cycles.proofs.AssignLaws.{ReadsBit, no_port_wire}
use Rattle.cx_wiring.proofs.TreeLaws.{NoWireFrom}

-- THE NODES of a component
module _ (d : PlainLowereds) (part : PlainComponent) (cells : NetCells) (around : NetAround) (s : NetState) (look : NetLook)
    (solves : (n : Node) → is_own_node (net_component d (lowered_component part)) cells n ≡ true
    → look [] n ≡ own_step (net_component d (lowered_component part)) cells around s (look []) (λ c. look (c ∷ [])) n)
    (plain : AllDrive (IsPlain (length (plain_wires (lowered_component part)))) (plain_drivers (lowered_component part))) where
  abbrev R : ℕ → Option BitVector
  R = registers_of (net_component d (lowered_component part)) cells around s (look []) (λ c. look (c ∷ []))

  abbrev G : PlainNetTarget → BitVector → Option BitVector
  G t z = first_true around (registers_of (net_component d (lowered_component part)) cells around s (look []) (λ c. look (c ∷ []))) (look []) z (drivers_to t (net_component d (lowered_component part)).drivers)

  wire_has : (n w : ℕ) → slice_get (net_component d (lowered_component part)).wires n ≡ Some w → n < length (net_component d (lowered_component part)).wires → look [] (AWire n) ≡ G (ToWire n) (zero_of w)
  wire_has n w is less =
      solves (AWire n) (lt-ltb n (length (net_component d (lowered_component part)).wires) less)
      ∙ ap (λ o. option_and_then (λ w. G (ToWire n) (zero_of w)) o) is

  pub all_wires : length (net_component d (lowered_component part)).wires ≡ length (plain_wires (lowered_component part)) + length (tree_widths (target_width d (lowered_component part)) (component_driven (lowered_component part)))
  all_wires = length-append (plain_wires (lowered_component part)) (tree_widths (target_width d (lowered_component part)) (component_driven (lowered_component part)))

  widths_from : (ws : List ℕ) (n : ℕ) → ((i w : ℕ) → slice_get ws i ≡ Some w → i < length ws → look [] (AWire (n + i)) ≡ G (ToWire (n + i)) (zero_of w))
      → TakeTheirs around (registers_of (net_component d (lowered_component part)) cells around s (look []) (λ c. look (c ∷ []))) (look []) n ws (net_component d (lowered_component part)).drivers
  widths_from [] n h = tt
  widths_from (w ∷ ws) n h =
      let none : n + 0 ≡ n = omega arith in (
        subst (λ m. look [] (AWire m) ≡ G (ToWire m) (zero_of w)) none (h 0 w refl (omega arith)),
        widths_from ws (suc n) (λ i v e less. let more : n + suc i ≡ suc n + i = omega arith in subst (λ m. look [] (AWire m) ≡ G (ToWire m) (zero_of v)) more (h (suc i) v e (omega arith))),
      )

  pub reads : TakeTheirs around (registers_of (net_component d (lowered_component part)) cells around s (look []) (λ c. look (c ∷ []))) (look []) (length (plain_wires (lowered_component part)))
      (tree_widths (target_width d (lowered_component part)) (component_driven (lowered_component part))) (net_component d (lowered_component part)).drivers
  reads = widths_from (tree_widths (target_width d (lowered_component part)) (component_driven (lowered_component part))) (length (plain_wires (lowered_component part)))
      (λ i w e less. let all : length (net_component d (lowered_component part)).wires ≡ length (plain_wires (lowered_component part)) + length (tree_widths (target_width d (lowered_component part)) (component_driven (lowered_component part))) = all_wires in
      wire_has (length (plain_wires (lowered_component part)) + i) w
      (behind (plain_wires (lowered_component part)) (tree_widths (target_width d (lowered_component part)) (component_driven (lowered_component part))) (length (plain_wires (lowered_component part)) + i) i refl ∙ e) (omega arith))

  -- A TARGET that is no wire of a tree takes what the leaves of its tree give it
  pub takes_all : (t : PlainNetTarget) → IsProper t → NoWireFrom t (length (plain_wires (lowered_component part)))
      → G t (zero_of (target_width d (lowered_component part) t)) ≡ takes around R (look []) t (Some (zero_of (target_width d (lowered_component part) t))) (plain_drivers (lowered_component part))
  takes_all t proper free = target_takes d (lowered_component part) around R (look []) plain reads t proper free

  -- a wire that is none of a tree, a hole, the done
  pub wire_takes : (n : ℕ) → n < length (plain_wires (lowered_component part))
      → look [] (AWire n) ≡ takes around R (look []) (ToWire n) (Some (zero_of (target_width d (lowered_component part) (ToWire n)))) (plain_drivers (lowered_component part))
  wire_takes n there =
      let all : length (net_component d (lowered_component part)).wires ≡ length (plain_wires (lowered_component part)) + length (tree_widths (target_width d (lowered_component part)) (component_driven (lowered_component part))) = all_wires in
      let k = there_at (plain_wires (lowered_component part)) n there in
      wire_has n k.0 (front (plain_wires (lowered_component part)) _ n k.0 k.1) (omega arith)
      ∙ ap (λ w. G (ToWire n) (zero_of w)) (sym (ap (λ o. unwrap_or o 1) k.1))
      ∙ takes_all (ToWire n) tt (λ m from. ne_eqb m n (λ e. omega arith))

  pub hole_takes : (n : ℕ) → n < groups (lowered_component part) + groups (lowered_component part) → look [] (AHole n) ≡ takes around R (look []) (ToHole n) (Some (zero_of 1)) (plain_drivers (lowered_component part))
  hole_takes n there =
      let is = lt-ltb n (groups (lowered_component part) + groups (lowered_component part)) there in
      solves (AHole n) is ∙ ap (λ b. if b then G (ToHole n) (zero_of 1) else None) is ∙ takes_all (ToHole n) tt (λ m from. refl)

  pub done_takes : look [] TheDone ≡ takes around R (look []) ToDone (Some (zero_of 1)) (plain_drivers (lowered_component part))
  done_takes = solves TheDone refl ∙ takes_all ToDone tt (λ m from. refl)

  -- registers have the values of the state
  registers_from : (ws : List ℕ) (n : ℕ) → ((i w : ℕ) → slice_get ws i ≡ Some w → slice_get (component_registers (lowered_component part)) (n + i) ≡ Some w)
      → AreRegisters around (registers_of (net_component d (lowered_component part)) cells around s (look []) (λ c. look (c ∷ []))) (look []) (s.register []) n ws
  registers_from [] n h = tt
  registers_from (w ∷ ws) n h =
      let none : n + 0 ≡ n = omega arith in (
        ap (λ o. option_map (λ v. record { width = v; value = s.register [] n }) o) (ap (slice_get (component_registers (lowered_component part))) (sym none) ∙ h 0 w refl),
        registers_from ws (suc n) (λ i v e. let more : n + suc i ≡ suc n + i = omega arith in ap (slice_get (component_registers (lowered_component part))) (sym more) ∙ h (suc i) v e),
      )

  pub registers_are : AreRegisters around (registers_of (net_component d (lowered_component part)) cells around s (look []) (λ c. look (c ∷ []))) (look []) (s.register []) 0 (component_registers (lowered_component part))
  registers_are = registers_from (component_registers (lowered_component part)) 0 (λ i w e. let same : 0 + i ≡ i = omega arith in ap (slice_get (component_registers (lowered_component part))) same ∙ e)

  -- the drivers of control without its end, of its end, of both, and of assignments
  abbrev SD : List PlainNetDriver
  SD = drivers_of (groups (lowered_component part)) (lowered_component part).islands (whole_stand (first_of_control (lowered_component part))) (lowered part part.control (unlowered part))

  abbrev FD : List PlainNetDriver
  FD = finishing (first_of_control (lowered_component part)) (lowered part part.control (unlowered part))

  abbrev AD : List PlainNetDriver
  AD = assigns_drivers (groups (lowered_component part)) (first_of_assigns (lowered_component part)) (driven_assigns (lowered_component part))

  abbrev CD : List PlainNetDriver
  CD = control_drivers (groups (lowered_component part)) (lowered_component part).islands (first_of_control (lowered_component part)) (lowered part part.control (unlowered part))

  -- the goes of timers take what control gives them
  pub timer_goes : ((o : Owned) → In (driven_assigns (lowered_component part)) o → IsOwnTarget part o.assign.target) → EachTimer part (IsTimerIn part cells)
      → EachTimer part (λ timer. look [] (APort (ports.Cell timer.cell 0)) ≡ takes around (registers_of (net_component d (lowered_component part)) cells around s (look []) (λ c. look (c ∷ []))) (look [])
      (ToPort (ports.Cell timer.cell 0)) (Some (truth_bit false))
      (drivers_of (groups (lowered_component part)) (lowered_component part).islands (whole_stand (first_of_control (lowered_component part))) (lowered part part.control (unlowered part))))
  timer_goes own timers k island is t timer at =
      let row = timers k island is t timer at in
      let width : target_width d (lowered_component part) (ToPort (ports.Cell timer.cell 0)) ≡ 1 =
      ap (λ o. unwrap_or (port_width d (lowered_component part) o 0) 1) row.there ∙ ap (λ (r : Row). unwrap_or (option_map (λ (x : PortRow). x.width) (slice_get r.ports 0)) 1) (row_of_timer row.cycles row.some row.few) in
      solves (APort (ports.Cell timer.cell 0)) (ap (λ a. is_port_of a 0) row.in_net)
      ∙ ap (λ a. cell_node (net_component d (lowered_component part)) cells around s (look []) (λ c. look (c ∷ [])) timer.cell 0 a) row.in_net
      ∙ ap (λ w. first_true around R (look []) (zero_of w) (drivers_to (ToPort (ports.Cell timer.cell 0)) (net_component d (lowered_component part)).drivers)) (sym width)
      ∙ takes_all (ToPort (ports.Cell timer.cell 0)) tt (λ m from. refl)
      ∙ ap (λ w. takes around R (look []) (ToPort (ports.Cell timer.cell 0)) (Some (zero_of w)) (plain_drivers (lowered_component part))) width
      ∙ takes_append around R (look []) (ToPort (ports.Cell timer.cell 0)) (Some (zero_of 1)) (SD ++ FD) AD
      ∙ ap (λ z. takes around R (look []) (ToPort (ports.Cell timer.cell 0)) z (SD ++ FD)) (others_pass around R (look []) (ToPort (ports.Cell timer.cell 0)) (Some (zero_of 1)) AD (assigns_skip part own k island is t timer at))
      ∙ takes_append around R (look []) (ToPort (ports.Cell timer.cell 0)) (Some (zero_of 1)) SD FD

  -- the wires of assignments take what the drivers of assignments give them
  pub assign_reads : (named : IslandsName (groups (lowered_component part)) (lowered_component part).islands) → StatementNames (groups (lowered_component part)) (lowered part part.control (unlowered part))
      → (n : ℕ) → first_of_assigns (lowered_component part) ≤ n → n < first_of_assigns (lowered_component part) + assigns_wires (driven_assigns (lowered_component part))
      → ReadsBit (groups (lowered_component part)) (lowered_component part).islands named around R (look []) n AD
  assign_reads named names n low high =
      let width : target_width d (lowered_component part) (ToWire n) ≡ 1 = ap (λ o. unwrap_or o 1) (bit_wire (groups (lowered_component part)) (bits (lowered_component part)) n (omega arith) (omega arith)) in
      let count : length (plain_wires (lowered_component part)) ≡ groups (lowered_component part) + bits (lowered_component part) = plain_wires_count (lowered_component part) in
      let there : n < length (plain_wires (lowered_component part)) = omega arith in
      wire_takes n there
      ∙ ap (λ w. takes around R (look []) (ToWire n) (Some (zero_of w)) (plain_drivers (lowered_component part))) width
      ∙ takes_append around R (look []) (ToWire n) (Some (zero_of 1)) CD AD
      ∙ others_pass around R (look []) (ToWire n) (takes around R (look []) (ToWire n) (Some (zero_of 1)) AD) CD skip
    where
      skip : AllDrive (λ u. same_target u (ToWire n) ≡ false) CD
      skip =
          control_drives (λ u. same_target u (ToWire n) ≡ false) (no_port_wire n) (groups (lowered_component part)) (lowered_component part).islands (λ m less. ne_eqb m n (λ e. omega arith)) (λ g less. refl) named refl
          (first_of_control (lowered_component part)) (lowered part part.control (unlowered part)) names (record { wire_in = λ m l h. ne_eqb m n (λ e. omega arith); register_in = λ m l h. refl })
