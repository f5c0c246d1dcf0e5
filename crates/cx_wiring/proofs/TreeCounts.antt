-- No target has more than 17 drivers in the net of a component: of a tree 16 at most stand at the target, and at each wire.
use Rattle.std.proofs.Common.{◌≡◌, ⊎_elim, ℕ, zero, suc, ◌+◌, ◌*◌, ◌<◌, ◌≤◌, Bool, true, false, if◌then◌else◌, List, [], ◌∷◌, ◌++◌, length, refl, ap, ◌∙◌, subst, arith}
use Rattle.std.specs.Prelude.{nat_lt}
use Rattle.std.proofs.lemmas.Bool.{cases_lt, ltb-true, ltb-false, ne_eqb}
use Rattle.std.proofs.lemmas.List.{length-map}
use Rattle.cx_meaning.specs.declared.ports.PortRef.TheVariants as ports
use Rattle.cx_net.specs.Nets.{PlainNetTarget, ToPort, ToRegister, ToWire, ToHole, ToDone, PlainNetDriver}
use Rattle.cx_net.specs.NetMeaning.{same_target, drivers_to}
use Rattle.cx_wiring.specs.Parts.{one, drive}
use Rattle.cx_wiring.specs.Trees.{Driven, together, with_first, bundles, bundle_count, moved, bundle_drivers, behind, heads, tree_within, tree, pairs, trees}
use Rattle.cx_wiring.specs.Bounds.{IsProper, AllDrive}
use Rattle.cx_wiring.proofs.PairCounts.{bundles_few}
use Rattle.cx_wiring.proofs.BundleLaws.{bundles_long, heads_long, above, top_within}
use Rattle.cx_wiring.proofs.BundleTargets.{of_first, of_second, bundles_dropped, first_on, first_value, later_wire, tree_dropped}
use Rattle.cx_wiring.proofs.BundleReads.{NotWires, trees_below}
use Rattle.cx_wiring.proofs.TreeLaws.{all_dropped, top, top_of, trees_stand}
use Rattle.cx_wiring.proofs.DrivenLemmas.{AreEntries}
use Rattle.cx_text.specs.Members.{Each}

-- BUNDLES of at most 16 drivers, the first of at most so many
abbrev AreShort : List (List PlainNetDriver) → Type 0
AreShort bs = Each (λ (b : List PlainNetDriver). length b ≤ 16) bs

abbrev FirstShort : ℕ → List (List PlainNetDriver) → Type 0
FirstShort room [] = Unit {0}
FirstShort room (b ∷ bs) = (length b ≤ room) × AreShort bs

one_longer : (room : ℕ) (d : PlainNetDriver) (bs : List (List PlainNetDriver)) → FirstShort room bs → FirstShort (suc room) (with_first d bs)
one_longer room d [] h = (omega arith, tt)
one_longer room d (b ∷ bs) h = (let k : length b ≤ room = h.0 in omega arith, h.1)

all_short : (bs : List (List PlainNetDriver)) → FirstShort 16 bs → AreShort bs
all_short [] h = tt
all_short (b ∷ bs) h = h

bundles_first_short : (room : ℕ) (ds : List PlainNetDriver) → FirstShort room (bundles room ds)
bundles_first_short zero [] = tt
bundles_first_short (suc room) [] = tt
bundles_first_short zero (d ∷ ds) = (omega arith, all_short (with_first d (bundles 15 ds)) (one_longer 15 d (bundles 15 ds) (bundles_first_short 15 ds)))
bundles_first_short (suc room) (d ∷ ds) = one_longer room d (bundles room ds) (bundles_first_short room ds)

bundles_short : (ds : List PlainNetDriver) → AreShort (bundles together ds)
bundles_short ds = all_short (bundles 16 ds) (bundles_first_short 16 ds)

-- A WIRE of a bundle
bundle_wire_few : (bs : List (List PlainNetDriver)) (n wire : ℕ) → AreShort bs → length (drivers_to (ToWire n) (bundle_drivers wire bs)) ≤ 16
bundle_wire_few [] n wire short = omega arith
bundle_wire_few (b ∷ bs) n wire short =
    ⊎_elim
    (λ below. let none : length (drivers_to (ToWire n) (bundle_drivers wire (b ∷ bs))) ≡ 0 = ap length (bundles_dropped (ToWire n) (b ∷ bs) wire (λ m low high. ne_eqb m n (λ e. omega arith))) in
    omega arith)
    (λ from. ⊎_elim
    (λ high. ⊎_elim
    (λ low. let is : wire ≡ n = omega arith in subst (λ m. length (drivers_to (ToWire m) (bundle_drivers wire (b ∷ bs))) ≤ 16) is on_few)
    (λ above. let is : suc wire ≡ n = omega arith in subst (λ m. length (drivers_to (ToWire m) (bundle_drivers wire (b ∷ bs))) ≤ 16) is value_few)
    (cases_lt n (suc wire)))
    (λ later. let same : length (drivers_to (ToWire n) (bundle_drivers wire (b ∷ bs))) ≡ length (drivers_to (ToWire n) (bundle_drivers (suc (suc wire)) bs)) = ap length (later_wire n wire b bs later) in
    let few : length (drivers_to (ToWire n) (bundle_drivers (suc (suc wire)) bs)) ≤ 16 = bundle_wire_few bs n (suc (suc wire)) short.1 in
    omega arith)
    (cases_lt n (suc (suc wire))))
    (cases_lt n wire)
  where
    on_few : length (drivers_to (ToWire wire) (bundle_drivers wire (b ∷ bs))) ≤ 16
    on_few =
        let own : length (drivers_to (ToWire wire) (bundle_drivers wire (b ∷ bs))) ≡ length b = ap length (first_on wire b bs) ∙ length-map b (λ d. drive (ToWire wire) d.guard one) in
        let few : length b ≤ 16 = short.0 in
        omega arith

    value_few : length (drivers_to (ToWire (suc wire)) (bundle_drivers wire (b ∷ bs))) ≤ 16
    value_few =
        let own : length (drivers_to (ToWire (suc wire)) (bundle_drivers wire (b ∷ bs))) ≡ length b = ap length (first_value wire b bs) ∙ length-map b (λ d. drive (ToWire (suc wire)) d.guard d.source) in
        let few : length b ≤ 16 = short.0 in
        omega arith

module _ (target : PlainNetTarget) where
  -- at the target, where there are levels for all drivers
  top_few : (levels wire : ℕ) (ds : List PlainNetDriver) → length ds ≤ levels + 16 → length (top_within target levels wire ds) ≤ 16
  top_few zero wire ds enough = let long : length (moved target ds) ≡ length ds = length-map ds (λ d. drive target d.guard d.source) in omega arith
  top_few (suc levels) wire ds enough = choice (nat_lt together (length ds)) refl (top_few levels (behind wire (length (bundles together ds))) (heads target wire (bundles together ds)))
    where
      choice : (b : Bool) → nat_lt together (length ds) ≡ b → (length (heads target wire (bundles together ds)) ≤ levels + 16 → length (top_within target levels (behind wire (length (bundles together ds))) (heads target wire (bundles together ds))) ≤ 16)
          → length (if b then top_within target levels (behind wire (length (bundles together ds))) (heads target wire (bundles together ds)) else moved target ds) ≤ 16
      choice true e above_few =
          let more : 16 < length ds = ltb-true 16 (length ds) e in
          let few : 16 * bundle_count (length ds) ≤ length ds + 15 = bundles_few (length ds) in
          let long : length (heads target wire (bundles together ds)) ≡ bundle_count (length ds) = heads_long target wire (bundles together ds) ∙ bundles_long ds in
          above_few (omega arith)
      choice false e above_few =
          let few : length ds ≤ 16 = ltb-false 16 (length ds) e in
          let long : length (moved target ds) ≡ length ds = length-map ds (λ d. drive target d.guard d.source) in
          omega arith

  -- at a wire
  tree_wire_few : (n : ℕ) → same_target target (ToWire n) ≡ false → (levels wire : ℕ) (ds : List PlainNetDriver) → length (drivers_to (ToWire n) (tree_within target levels wire ds)) ≤ 16
  tree_wire_few n other zero wire ds =
      let none : length (drivers_to (ToWire n) (moved target ds)) ≡ 0 = ap length (tree_dropped target (ToWire n) other zero wire ds (λ m low high. absurd (omega arith))) in
      omega arith
  tree_wire_few n other (suc levels) wire ds = choice (nat_lt together (length ds)) (tree_wire_few n other levels (behind wire (length (bundles together ds))) (heads target wire (bundles together ds)))
    where
      choice : (b : Bool) → length (drivers_to (ToWire n) (above target levels wire ds)) ≤ 16 → length (drivers_to (ToWire n) (if b then bundle_drivers wire (bundles together ds) ++ above target levels wire ds else moved target ds)) ≤ 16
      choice true above_few =
          ⊎_elim
          (λ less. let same : length (drivers_to (ToWire n) (bundle_drivers wire (bundles together ds) ++ above target levels wire ds)) ≡ length (drivers_to (ToWire n) (bundle_drivers wire (bundles together ds))) =
          ap length (of_first (ToWire n) (bundle_drivers wire (bundles together ds)) (above target levels wire ds) (tree_dropped target (ToWire n) other levels (behind wire (length (bundles together ds))) (heads target wire (bundles together ds)) (λ m low high. ne_eqb m n (λ e. omega arith)))) in
          let few : length (drivers_to (ToWire n) (bundle_drivers wire (bundles together ds))) ≤ 16 = bundle_wire_few (bundles together ds) n wire (bundles_short ds) in
          omega arith)
          (λ more. let same : length (drivers_to (ToWire n) (bundle_drivers wire (bundles together ds) ++ above target levels wire ds)) ≡ length (drivers_to (ToWire n) (above target levels wire ds)) =
          ap length (of_second (ToWire n) (bundle_drivers wire (bundles together ds)) (above target levels wire ds) (bundles_dropped (ToWire n) (bundles together ds) wire (λ m low high. ne_eqb m n (λ e. omega arith)))) in
          let few : length (drivers_to (ToWire n) (above target levels wire ds)) ≤ 16 = above_few in
          omega arith)
          (cases_lt n (behind wire (length (bundles together ds))))
      choice false above_few =
          let none : length (drivers_to (ToWire n) (moved target ds)) ≡ 0 = ap length (tree_dropped target (ToWire n) other zero wire ds (λ m low high. absurd (omega arith))) in
          omega arith

tops_few : (t : PlainNetTarget) (wire : ℕ) (ts : List Driven) → length (top_of t wire ts) ≤ 17
tops_few t wire [] = omega arith
tops_few t wire (u ∷ us) = choice (same_target u.target t) (tops_few t (behind wire (pairs (length u.drivers))) us)
  where
    choice : (b : Bool) → length (top_of t (behind wire (pairs (length u.drivers))) us) ≤ 17 → length (if b then top wire u else top_of t (behind wire (pairs (length u.drivers))) us) ≤ 17
    choice true later = let few : length (top wire u) ≤ 16 = top_few u.target (length u.drivers) wire u.drivers (omega arith) in omega arith
    choice false later = later

trees_wire_few : (ts : List Driven) (base n wire : ℕ) → base ≤ wire → wire ≤ n → NotWires base ts → length (drivers_to (ToWire n) (trees wire ts)) ≤ 17
trees_wire_few [] base n wire low from free = omega arith
trees_wire_few (u ∷ us) base n wire low from free =
    let there : base ≤ n = omega arith in
    let other : same_target u.target (ToWire n) ≡ false = free.0 n there in
    ⊎_elim
    (λ less. let same : length (drivers_to (ToWire n) (trees wire (u ∷ us))) ≡ length (drivers_to (ToWire n) (tree u.target wire u.drivers)) =
    ap length (of_first (ToWire n) (tree u.target wire u.drivers) (trees (behind wire (pairs (length u.drivers))) us) (trees_below us base (behind wire (pairs (length u.drivers))) n there less free.1)) in
    let own : length (drivers_to (ToWire n) (tree u.target wire u.drivers)) ≤ 16 = tree_wire_few u.target n other (length u.drivers) wire u.drivers in
    omega arith)
    (λ more. let same : length (drivers_to (ToWire n) (trees wire (u ∷ us))) ≡ length (drivers_to (ToWire n) (trees (behind wire (pairs (length u.drivers))) us)) =
    ap length (of_second (ToWire n) (tree u.target wire u.drivers) (trees (behind wire (pairs (length u.drivers))) us)
    (tree_dropped u.target (ToWire n) other (length u.drivers) wire u.drivers (λ m start end. ne_eqb m n (λ e. omega arith)))) in
    let next : base ≤ behind wire (pairs (length u.drivers)) = omega arith in
    let later : length (drivers_to (ToWire n) (trees (behind wire (pairs (length u.drivers))) us)) ≤ 17 = trees_wire_few us base n (behind wire (pairs (length u.drivers))) next more free.1 in
    omega arith)
    (cases_lt n (behind wire (pairs (length u.drivers))))

-- a target that may not be driven is none
improper_is_none : (t u : PlainNetTarget) → IsProper u → (IsProper t → ⊥) → same_target u t ≡ false
improper_is_none (ToPort (ports.Cell c p)) u proper bad = absurd (bad tt)
improper_is_none (ToPort (ports.Output n)) u proper bad = absurd (bad tt)
improper_is_none (ToRegister n) u proper bad = absurd (bad tt)
improper_is_none (ToWire n) u proper bad = absurd (bad tt)
improper_is_none (ToHole n) u proper bad = absurd (bad tt)
improper_is_none ToDone u proper bad = absurd (bad tt)
improper_is_none (ToPort (ports.Input i)) (ToPort (ports.Cell c p)) proper bad = refl
improper_is_none (ToPort (ports.Input i)) (ToPort (ports.Output m)) proper bad = refl
improper_is_none (ToPort (ports.Input i)) (ToPort (ports.Input m)) proper bad = absurd proper
improper_is_none (ToPort (ports.Input i)) (ToPort (ports.Done m)) proper bad = absurd proper
improper_is_none (ToPort (ports.Input i)) (ToPort (ports.Literal w v)) proper bad = absurd proper
improper_is_none (ToPort (ports.Input i)) (ToRegister m) proper bad = refl
improper_is_none (ToPort (ports.Input i)) (ToWire m) proper bad = refl
improper_is_none (ToPort (ports.Input i)) (ToHole m) proper bad = refl
improper_is_none (ToPort (ports.Input i)) ToDone proper bad = refl
improper_is_none (ToPort (ports.Done i)) (ToPort (ports.Cell c p)) proper bad = refl
improper_is_none (ToPort (ports.Done i)) (ToPort (ports.Output m)) proper bad = refl
improper_is_none (ToPort (ports.Done i)) (ToPort (ports.Input m)) proper bad = absurd proper
improper_is_none (ToPort (ports.Done i)) (ToPort (ports.Done m)) proper bad = absurd proper
improper_is_none (ToPort (ports.Done i)) (ToPort (ports.Literal w v)) proper bad = absurd proper
improper_is_none (ToPort (ports.Done i)) (ToRegister m) proper bad = refl
improper_is_none (ToPort (ports.Done i)) (ToWire m) proper bad = refl
improper_is_none (ToPort (ports.Done i)) (ToHole m) proper bad = refl
improper_is_none (ToPort (ports.Done i)) ToDone proper bad = refl
improper_is_none (ToPort (ports.Literal x y)) (ToPort (ports.Cell c p)) proper bad = refl
improper_is_none (ToPort (ports.Literal x y)) (ToPort (ports.Output m)) proper bad = refl
improper_is_none (ToPort (ports.Literal x y)) (ToPort (ports.Input m)) proper bad = absurd proper
improper_is_none (ToPort (ports.Literal x y)) (ToPort (ports.Done m)) proper bad = absurd proper
improper_is_none (ToPort (ports.Literal x y)) (ToPort (ports.Literal w v)) proper bad = absurd proper
improper_is_none (ToPort (ports.Literal x y)) (ToRegister m) proper bad = refl
improper_is_none (ToPort (ports.Literal x y)) (ToWire m) proper bad = refl
improper_is_none (ToPort (ports.Literal x y)) (ToHole m) proper bad = refl
improper_is_none (ToPort (ports.Literal x y)) ToDone proper bad = refl

dropped_all : (t : PlainNetTarget) (ds : List PlainNetDriver) → (IsProper t → ⊥) → AllDrive IsProper ds → AllDrive (λ u. same_target u t ≡ false) ds
dropped_all t [] bad proper = tt
dropped_all t (d ∷ ds) bad proper = (improper_is_none t d.target proper.0 bad, dropped_all t ds bad proper.1)

-- NO LONG CHAIN, where entries stand by their targets, none of which is a wire of a tree
pub trees_few : (ts : List Driven) (base : ℕ) → AreEntries ts → NotWires base ts → AllDrive IsProper (trees base ts) → (t : PlainNetTarget) → length (drivers_to t (trees base ts)) ≤ 17
trees_few ts base entries free proper (ToWire n) =
    ⊎_elim
    (λ less. let same : length (drivers_to (ToWire n) (trees base ts)) ≡ length (top_of (ToWire n) base ts) = ap length (trees_stand (ToWire n) ts base tt entries (λ m low. ne_eqb m n (λ e. omega arith))) in
    let few : length (top_of (ToWire n) base ts) ≤ 17 = tops_few (ToWire n) base ts in
    omega arith)
    (λ more. let low : base ≤ base = omega arith in trees_wire_few ts base n base low more free)
    (cases_lt n base)
trees_few ts base entries free proper (ToPort (ports.Cell c p)) =
    let same : length (drivers_to (ToPort (ports.Cell c p)) (trees base ts)) ≡ length (top_of (ToPort (ports.Cell c p)) base ts) = ap length (trees_stand (ToPort (ports.Cell c p)) ts base tt entries (λ m low. refl)) in
    let few : length (top_of (ToPort (ports.Cell c p)) base ts) ≤ 17 = tops_few (ToPort (ports.Cell c p)) base ts in
    omega arith
trees_few ts base entries free proper (ToPort (ports.Output n)) =
    let same : length (drivers_to (ToPort (ports.Output n)) (trees base ts)) ≡ length (top_of (ToPort (ports.Output n)) base ts) = ap length (trees_stand (ToPort (ports.Output n)) ts base tt entries (λ m low. refl)) in
    let few : length (top_of (ToPort (ports.Output n)) base ts) ≤ 17 = tops_few (ToPort (ports.Output n)) base ts in
    omega arith
trees_few ts base entries free proper (ToRegister n) =
    let same : length (drivers_to (ToRegister n) (trees base ts)) ≡ length (top_of (ToRegister n) base ts) = ap length (trees_stand (ToRegister n) ts base tt entries (λ m low. refl)) in
    let few : length (top_of (ToRegister n) base ts) ≤ 17 = tops_few (ToRegister n) base ts in
    omega arith
trees_few ts base entries free proper (ToHole n) =
    let same : length (drivers_to (ToHole n) (trees base ts)) ≡ length (top_of (ToHole n) base ts) = ap length (trees_stand (ToHole n) ts base tt entries (λ m low. refl)) in
    let few : length (top_of (ToHole n) base ts) ≤ 17 = tops_few (ToHole n) base ts in
    omega arith
trees_few ts base entries free proper ToDone =
    let same : length (drivers_to ToDone (trees base ts)) ≡ length (top_of ToDone base ts) = ap length (trees_stand ToDone ts base tt entries (λ m low. refl)) in
    let few : length (top_of ToDone base ts) ≤ 17 = tops_few ToDone base ts in
    omega arith
trees_few ts base entries free proper (ToPort (ports.Input i)) =
    let none : length (drivers_to (ToPort (ports.Input i)) (trees base ts)) ≡ 0 = ap length (all_dropped (ToPort (ports.Input i)) (trees base ts) (dropped_all (ToPort (ports.Input i)) (trees base ts) (λ x. x) proper)) in
    omega arith
trees_few ts base entries free proper (ToPort (ports.Done i)) =
    let none : length (drivers_to (ToPort (ports.Done i)) (trees base ts)) ≡ 0 = ap length (all_dropped (ToPort (ports.Done i)) (trees base ts) (dropped_all (ToPort (ports.Done i)) (trees base ts) (λ x. x) proper)) in
    omega arith
trees_few ts base entries free proper (ToPort (ports.Literal w v)) =
    let none : length (drivers_to (ToPort (ports.Literal w v)) (trees base ts)) ≡ 0 = ap length (all_dropped (ToPort (ports.Literal w v)) (trees base ts) (dropped_all (ToPort (ports.Literal w v)) (trees base ts) (λ x. x) proper)) in
    omega arith
