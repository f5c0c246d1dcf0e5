-- In the net of a component a port of a cell, or an output, has what the first of its active assignments with a true guard gives it; so
-- has a hole, of the assignments of its group's done.
use Rattle.std.proofs.Common.{◌≡◌, ℕ, ◌+◌, ◌<◌, Bool, true, false, List, [], ◌∷◌, length, Option, Some, None, slice_get, refl, ap, ◌∙◌, arith}
use Rattle.cx_bits.specs.BitVector.{BitVector, zero_of}
use Rattle.cx_meaning.specs.declared.ports.PortRef.{PortRef}
use Rattle.cx_meaning.specs.declared.ports.PortRef.TheVariants as ports
use Rattle.cx_meaning.specs.Designs.{PlainComponent}
use Rattle.cx_meaning.specs.Active.{group, Owned, offset_of, same_port, source_order, drivers}
use Rattle.cx_text.specs.Members.{In}
use Rattle.cx_control.specs.Flows.{Values, first_on}
use Rattle.cx_net.specs.Nets.{ToPort, ToHole, PlainNetDriver}
use Rattle.cx_net.specs.NetTree.{NetCells}
use Rattle.cx_net.specs.NetMeaning.{NetState, Node, NetLook, NetAround, same_target, drivers_to, registers_of, own_step, is_own_node, chain as first_true}
use Rattle.cx_static.specs.Islands.{PlainIsland, PlainLowereds}
use Rattle.cx_static.specs.Lowering.{lowered, lowered_component, unlowered}
use Rattle.cx_wiring.specs.Control.{control_drivers}
use Rattle.cx_wiring.specs.Assignments.{target_of, is_driven, driven_assigns, assigns_drivers}
use Rattle.cx_wiring.specs.Bounds.{AllDrive, IslandsName, StatementNames, AssignsName}
use Rattle.cx_wiring.specs.Wiring.{groups, first_of_control, first_of_assigns, plain_wires, plain_drivers, target_width, net_component}
use Rattle.cx_wiring.proofs.TakingLemmas.{takes_append, others_pass}
use Rattle.cx_wiring.proofs.ControlTargets.{control_drives}
use Rattle.std.proofs.lemmas.Bool.{ne_eqb}
use Rattle.cx_wiring.proofs.DrivenLemmas.{IsProper}
use Rattle.cx_wiring.proofs.ComponentTakes.{IsPlain}
use Rattle.cx_wiring_cycles.specs.GuardPorts.{going_set, AssignsHold}
use Rattle.cx_wiring_cycles.proofs.ControlPorts.{OfTimers, control_free}
use Rattle.cx_wiring_cycles.proofs.HoleLaws.{HolesFit, hole_takes}
use Rattle.cx_wiring_cycles.proofs.AssignLaws.{acting_filter, port_takes}
use Rattle.cx_wiring_cycles.proofs.NodeTakes.{takes_all, assign_reads}
use Rattle.cx_net.proofs.NetsLemmas.{no_port_hole}

module _ (d : PlainLowereds) (part : PlainComponent) (named : IslandsName (groups (lowered_component part)) (lowered_component part).islands) (cells : NetCells) (around : NetAround) (s : NetState) (look : NetLook)
    (solves : (n : Node) → is_own_node (net_component d (lowered_component part)) cells n ≡ true
    → look [] n ≡ own_step (net_component d (lowered_component part)) cells around s (look []) (λ c. look (c ∷ [])) n)
    (has_value : (n : Node) → is_own_node (net_component d (lowered_component part)) cells n ≡ true → (x : BitVector) × (look [] n ≡ Some x))
    (plain : AllDrive (IsPlain (length (plain_wires (lowered_component part)))) (plain_drivers (lowered_component part)))
    (names : StatementNames (groups (lowered_component part)) (lowered part part.control (unlowered part))) (assigned : AssignsName (groups (lowered_component part)) (driven_assigns (lowered_component part))) where
  abbrev R : ℕ → Option BitVector
  R = registers_of (net_component d (lowered_component part)) cells around s (look []) (λ c. look (c ∷ []))

  abbrev CD : List PlainNetDriver
  CD = control_drivers (groups (lowered_component part)) (lowered_component part).islands (first_of_control (lowered_component part)) (lowered part part.control (unlowered part))

  abbrev AD : List PlainNetDriver
  AD = assigns_drivers (groups (lowered_component part)) (first_of_assigns (lowered_component part)) (driven_assigns (lowered_component part))

  -- where what assignments look at is known
  module _ (v : Values) (goes : ℕ → Bool) (at : ℕ → BitVector) (holds : AssignsHold around R (look []) (groups (lowered_component part)) goes at v (driven_assigns (lowered_component part))) where
    -- A PORT
    pub driven_port : ((a : Owned) → In (source_order part) a → is_driven (lowered_component part) a ≡ false → offset_of (going_set goes at) a.owner ≡ None)
        → (p : PortRef) → IsProper (ToPort p) → ((q : PortRef) → same_target (target_of q) (ToPort p) ≡ same_port q p)
        → ((k : ℕ) (island : PlainIsland) → slice_get (lowered_component part).islands k ≡ Some island → OfTimers (λ u. same_target u (ToPort p) ≡ false) island.timers)
        → first_true around R (look []) (zero_of (target_width d (lowered_component part) (ToPort p))) (drivers_to (ToPort p) (net_component d (lowered_component part)).drivers)
        ≡ Some (first_on v (zero_of (target_width d (lowered_component part) (ToPort p))) (drivers part (going_set goes at) p))
    driven_port left_out p proper same no_timer =
        takes_all d part cells around s look solves plain (ToPort p) proper (λ m from. refl)
        ∙ takes_append around R (look []) (ToPort p) _ CD AD
        ∙ others_pass around R (look []) (ToPort p) _ CD
        (control_free (λ u. same_target u (ToPort p) ≡ false) (λ n. refl) (λ n. refl) (λ n. refl) refl (groups (lowered_component part)) (lowered_component part).islands no_timer (first_of_control (lowered_component part)) (lowered part part.control (unlowered part)))
        ∙ port_takes (groups (lowered_component part)) (lowered_component part).islands named around R (look []) v goes at p same (zero_of (target_width d (lowered_component part) (ToPort p)))
        (driven_assigns (lowered_component part)) (first_of_assigns (lowered_component part)) (omega arith) assigned (assign_reads d part cells around s look solves plain named names) holds
        ∙ ap (λ list. Some (first_on v (zero_of (target_width d (lowered_component part) (ToPort p))) list)) (acting_filter (going_set goes at) p (is_driven (lowered_component part)) (source_order part) (λ a i t e. left_out a i e))

    -- A HOLE of a group's done
    pub driven_hole : (g : ℕ) → g < groups (lowered_component part) → HolesFit v at g (driven_assigns (lowered_component part))
        → ((a : Owned) → In (source_order part) a → same_port a.assign.target (ports.Done g) ≡ true → is_driven (lowered_component part) a ≡ false → ⊥)
        → first_true around R (look []) (zero_of 1) (drivers_to (ToHole g) (net_component d (lowered_component part)).drivers) ≡ Some (first_on v (zero_of 1) (drivers part (group g) (ports.Done g)))
    driven_hole g there fits all_driven =
        takes_all d part cells around s look solves plain (ToHole g) tt (λ m from. refl)
        ∙ takes_append around R (look []) (ToHole g) _ CD AD
        ∙ others_pass around R (look []) (ToHole g) _ CD
        (control_drives (λ u. same_target u (ToHole g) ≡ false) (no_port_hole g) (groups (lowered_component part)) (lowered_component part).islands (λ m less. refl) (λ h less. ne_eqb (groups (lowered_component part) + h) g (λ e. omega arith))
        named refl (first_of_control (lowered_component part)) (lowered part part.control (unlowered part)) names (record { wire_in = λ m l h. refl; register_in = λ m l h. refl }))
        ∙ hole_takes (groups (lowered_component part)) (lowered_component part).islands named around R (look []) v goes at g (zero_of 1)
        (driven_assigns (lowered_component part)) (first_of_assigns (lowered_component part)) (omega arith) assigned (assign_reads d part cells around s look solves plain named names) holds fits
        ∙ ap (λ list. Some (first_on v (zero_of 1) list)) (acting_filter (group g) (ports.Done g) (is_driven (lowered_component part)) (source_order part) (λ a i t e. absurd (all_driven a i t e)))
