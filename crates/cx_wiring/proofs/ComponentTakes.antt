-- In the net of a component, where each wire of a tree takes its drivers, each other target takes what the leaves of its tree give it.
use Rattle.std.proofs.Common.{◌≡◌, ℕ, ◌+◌, ◌<◌, ◌≤◌, Bool, true, false, if◌then◌else◌, List, [], ◌∷◌, ◌++◌, length, Option, Some, refl, sym, ap, ◌∙◌, subst, arith}
use Rattle.cx_bits.specs.BitVector.{BitVector, zero_of}
use Rattle.cx_net.specs.Nets.{PlainNetTarget, ToRegister, ToWire, PlainNetDriver}
use Rattle.cx_net.specs.NetMeaning.{Node, AWire, NetAround, same_target, drivers_to, net_expr, chain as first_true}
use Rattle.cx_net.specs.NetEdges.{taken}
use Rattle.cx_static.specs.Islands.{PlainLowered, PlainLowereds}
use Rattle.cx_wiring.specs.Bounds.{AllDrive}
use Rattle.cx_wiring.specs.Trees.{Driven, by_target, behind, pairs, tree_widths}
use Rattle.cx_wiring.specs.Wiring.{plain_wires, plain_drivers, component_driven, target_width, net_component}
use Rattle.cx_wiring.specs.Takings.{takes}
use Rattle.cx_wiring.proofs.TakingLemmas.{takes_to}
use Rattle.cx_wiring.proofs.OrderLaws.{by_target_keeps, driven_keeps}
use Rattle.cx_wiring.proofs.TreeTargets.{AllDriven, by_target_drive, all_driven}
use Rattle.cx_wiring.proofs.RankLemmas.{by_target_sorted}
use Rattle.cx_wiring.proofs.DrivenLemmas.{IsProper, NoneHas, AreEntries, driven_entries}
use Rattle.cx_wiring.proofs.BundleLaws.{KnownFrom, tree_keeps}
use Rattle.cx_wiring.proofs.BundleTargets.{to_append, append_none}
use Rattle.cx_wiring.proofs.TreeDrivers.{entries_long}
use Rattle.cx_wiring.proofs.TreeLaws.{all_dropped, all_kept, of_other, flat_dropped, flat, NoWireFrom, target_is, top, top_of, trees_stand, AllHold, tops_give}
use Rattle.cx_wiring.proofs.BundleReads.{NotWires, TakeTheirs, all_hold}

-- a target is proper, and no wire from one on
abbrev pub IsPlain : ℕ → PlainNetTarget → Type 0
IsPlain base t = IsProper t × ((m : ℕ) → base ≤ m → same_target t (ToWire m) ≡ false)

pub plain_both : (base : ℕ) (ds : List PlainNetDriver) → AllDrive (IsPlain base) ds → AllDrive IsProper ds
plain_both base [] h = tt
plain_both base (d ∷ ds) h = (h.0.0, plain_both base ds h.1)

pub not_wires : (base : ℕ) (ts : List Driven) → AllDriven (IsPlain base) ts → NotWires base ts
not_wires base [] h = tt
not_wires base (u ∷ us) h = (h.0.1, not_wires base us h.1)

module _ (d : PlainLowereds) (lowered : PlainLowered) (around : NetAround) (registers : ℕ → Option BitVector) (look : Node → Option BitVector)
    (plain : AllDrive (IsPlain (length (plain_wires lowered))) (plain_drivers lowered))
    (reads : TakeTheirs around registers look (length (plain_wires lowered)) (tree_widths (target_width d lowered) (component_driven lowered)) (net_component d lowered).drivers) where
  entries : AreEntries (component_driven lowered)
  entries = (driven_entries (by_target (plain_drivers lowered)) (by_target_drive IsProper (plain_drivers lowered) (plain_both (length (plain_wires lowered)) (plain_drivers lowered) plain)) (by_target_sorted (plain_drivers lowered))).0

  pub trees_all_hold : AllHold around registers look (λ t. zero_of (target_width d lowered t)) (length (plain_wires lowered)) (component_driven lowered)
  trees_all_hold =
      let low : length (plain_wires lowered) ≤ length (plain_wires lowered) = omega arith in
      all_hold around registers look (net_component d lowered).drivers (target_width d lowered) (length (plain_wires lowered)) (component_driven lowered) (length (plain_wires lowered)) low
      (not_wires (length (plain_wires lowered)) (component_driven lowered) (all_driven (IsPlain (length (plain_wires lowered))) (by_target (plain_drivers lowered)) (by_target_drive (IsPlain (length (plain_wires lowered))) (plain_drivers lowered) plain)))
      reads (λ m from. refl)

  -- the drivers by their targets are those of the component, in order
  flat_is : (t : PlainNetTarget) → drivers_to t (flat (component_driven lowered)) ≡ drivers_to t (plain_drivers lowered)
  flat_is t = ap (drivers_to t) (driven_keeps (by_target (plain_drivers lowered))) ∙ by_target_keeps t (plain_drivers lowered)

  -- A TARGET
  pub target_takes : (t : PlainNetTarget) → IsProper t → NoWireFrom t (length (plain_wires lowered))
      → first_true around registers look (zero_of (target_width d lowered t)) (drivers_to t (net_component d lowered).drivers) ≡ takes around registers look t (Some (zero_of (target_width d lowered t))) (plain_drivers lowered)
  target_takes t proper free =
      ap (first_true around registers look (zero_of (target_width d lowered t))) (trees_stand t (component_driven lowered) (length (plain_wires lowered)) proper entries free)
      ∙ tops_give around registers look (λ u. zero_of (target_width d lowered u)) t (component_driven lowered) (length (plain_wires lowered)) proper entries trees_all_hold
      ∙ ap (first_true around registers look (zero_of (target_width d lowered t))) (flat_is t)
      ∙ sym (takes_to around registers look t (zero_of (target_width d lowered t)) (plain_drivers lowered))

  -- A REGISTER, which keeps its value where no driver is on
  module _ (n kept : ℕ) (known : (m : ℕ) → length (plain_wires lowered) ≤ m → m < length (plain_wires lowered) + length (tree_widths (target_width d lowered) (component_driven lowered)) → (b : BitVector) × (look (AWire m) ≡ Some b)) where
    abbrev keeps : List PlainNetDriver → ℕ
    keeps = taken (λ e. net_expr around registers look e.guard) (λ e. net_expr around registers look e.source) kept

    tops_keep : (ts : List Driven) (wire : ℕ) → AreEntries ts → AllHold around registers look (λ t. zero_of (target_width d lowered t)) wire ts
        → KnownFrom around registers look wire (length (tree_widths (target_width d lowered) ts)) → keeps (top_of (ToRegister n) wire ts) ≡ keeps (drivers_to (ToRegister n) (flat ts))
    tops_keep [] wire es hold there = refl
    tops_keep (u ∷ us) wire es hold there =
        let count : length (tree_widths (target_width d lowered) (u ∷ us)) ≡ (pairs (length u.drivers) + pairs (length u.drivers)) + length (tree_widths (target_width d lowered) us) = entries_long (target_width d lowered) u us in
        choice (same_target u.target (ToRegister n)) refl
        (tops_keep us (behind wire (pairs (length u.drivers))) es.3 hold.1 (λ m low high. there m (omega arith) (omega arith)))
        (λ m low high. there m low (omega arith))
        ∙ ap keeps (sym (to_append (ToRegister n) u.drivers (flat us)))
      where
        choice : (b : Bool) → same_target u.target (ToRegister n) ≡ b
            → keeps (top_of (ToRegister n) (behind wire (pairs (length u.drivers))) us) ≡ keeps (drivers_to (ToRegister n) (flat us))
            → KnownFrom around registers look wire (pairs (length u.drivers) + pairs (length u.drivers))
            → keeps (if b then top wire u else top_of (ToRegister n) (behind wire (pairs (length u.drivers))) us) ≡ keeps (drivers_to (ToRegister n) u.drivers ++ drivers_to (ToRegister n) (flat us))
        choice true e ih own =
            let is : u.target ≡ ToRegister n = target_is u.target (ToRegister n) es.0 tt e in
            tree_keeps around registers look kept (zero_of (target_width d lowered u.target)) u.target (length u.drivers) wire u.drivers hold.0 own
            ∙ ap keeps
            (sym (append_none (drivers_to (ToRegister n) u.drivers) (drivers_to (ToRegister n) (flat us)) (flat_dropped (ToRegister n) us tt es.3 (subst (λ v. NoneHas v us) is es.2))
            ∙ all_kept (ToRegister n) u.drivers (subst (λ v. AllDrive (λ w. IsProper w × (same_target w v ≡ true)) u.drivers) is es.1)))
        choice false e ih own =
            ih ∙ ap (λ l. keeps (l ++ drivers_to (ToRegister n) (flat us))) (sym (all_dropped (ToRegister n) u.drivers (of_other (ToRegister n) u.target u.drivers tt es.0 e es.1)))

    -- comes to what the leaves of its tree give it
    pub register_takes_all : keeps (drivers_to (ToRegister n) (net_component d lowered).drivers) ≡ keeps (drivers_to (ToRegister n) (plain_drivers lowered))
    register_takes_all =
        ap keeps (trees_stand (ToRegister n) (component_driven lowered) (length (plain_wires lowered)) tt entries (λ m from. refl))
        ∙ tops_keep (component_driven lowered) (length (plain_wires lowered)) entries trees_all_hold known
        ∙ ap keeps (flat_is (ToRegister n))
