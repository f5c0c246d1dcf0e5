-- What each target of a component's net has where its nodes solve their rules, whether they have values or not: what its drivers give it.
-- A target whose drivers are fed has a value, and so have the wires of all trees where all drivers are fed.
use Rattle.std.proofs.Common.{◌≡◌, ℕ, zero, suc, ◌+◌, ◌<◌, ◌≤◌, ◌⊎◌, inl, inr, Bool, true, false, not, if◌then◌else◌, List, [], ◌∷◌, ◌++◌, length, flat_map, Option, Some, option_map, option_and_then, refl, sym, ap, subst, arith}
use Rattle.std.specs.Prelude.{nat_lt}
use Rattle.std.proofs.lemmas.Bool.{cases_lt}
use Rattle.cx_bits.specs.BitVector.{BitVector, zero_of}
use Rattle.cx_meaning.specs.Designs.{PlainComponent}
use Rattle.cx_net.specs.Nets.{PlainNetTarget, ToWire, PlainNetDriver}
use Rattle.cx_net.specs.NetTree.{NetCells}
use Rattle.cx_net.specs.NetMeaning.{NetState, Node, AWire, NetLook, NetAround, is_true, truth_bit, drivers_to, registers_of, own_step, is_own_node, chain as first_true}
use Rattle.cx_static.specs.Islands.{PlainLowereds}
use Rattle.cx_static.specs.Lowering.{lowered_component}
use Rattle.cx_wiring.specs.Parts.{one, drive}
use Rattle.cx_wiring.specs.Bounds.{AllDrive}
use Rattle.cx_wiring.specs.Trees.{Driven, goes_before, placed_among, by_target, together, bundles, bundle_count, switches, moved, behind, heads, pairs_within, pairs, tree_widths}
use Rattle.cx_wiring.specs.Wiring.{plain_wires, plain_drivers, component_registers, component_driven, target_width, net_component}
use Rattle.cx_wiring.specs.Takings.{value}
use Rattle.cx_wiring.proofs.OrderLaws.{driven_keeps}
use Rattle.cx_wiring.proofs.BundleLaws.{joined, joined_bundles, bundles_long, later_pairs, pairs_if, WhereTrue, BundlesHold, TreeHolds, KnownFrom}
use Rattle.cx_wiring.proofs.DrivenLemmas.{IsProper}
use Rattle.cx_wiring.proofs.TreeDrivers.{entries_long}
use Rattle.cx_wiring.proofs.TreeLaws.{NoWireFrom, AllHold}
use Rattle.cx_wiring.proofs.ComponentTakes.{IsPlain, trees_all_hold}
use Rattle.cx_wiring_runs.proofs.KnownLemmas.{Known, known_as, AllTo, AllOfThem, Fed, fed_takes, any_undriven}
use Rattle.cx_text.proofs.ListLaws.{there_at}
use Rattle.cx_wiring_cycles.proofs.NodeTakes.{all_wires, reads, takes_all}

-- what holds of all drivers holds of those in the order of targets, and of those of each target
module _ (P : PlainNetDriver → Type 0) where
  placed_all : (d : PlainNetDriver) (ds : List PlainNetDriver) → P d → AllOfThem P ds → AllOfThem P (placed_among d ds)
  placed_all d [] is h = (is, tt)
  placed_all d (e ∷ es) is h = choice (goes_before e d) (placed_all d es is h.1)
    where
      choice : (t : Bool) → AllOfThem P (placed_among d es) → AllOfThem P (if not t then d ∷ e ∷ es else e ∷ placed_among d es)
      choice true k = (h.0, k)
      choice false k = (is, h)

  by_target_all : (ds : List PlainNetDriver) → AllOfThem P ds → AllOfThem P (by_target ds)
  by_target_all [] h = tt
  by_target_all (d ∷ ds) h = placed_all d (by_target ds) h.0 (by_target_all ds h.1)

  all_split : (xs ys : List PlainNetDriver) → AllOfThem P (xs ++ ys) → AllOfThem P xs × AllOfThem P ys
  all_split [] ys h = (tt, h)
  all_split (d ∷ xs) ys h = let k = all_split xs ys h.1 in ((h.0, k.0), k.1)

  abbrev EachDriven : List Driven → Type 0
  EachDriven [] = Unit {0}
  EachDriven (u ∷ us) = AllOfThem P u.drivers × EachDriven us

  each_driven : (ts : List Driven) → AllOfThem P (flat_map (λ t. t.drivers) ts) → EachDriven ts
  each_driven [] h = tt
  each_driven (u ∷ us) h = let k = all_split u.drivers (flat_map (λ t. t.drivers) us) h in (k.0, each_driven us k.1)

module _ (around : NetAround) (registers : ℕ → Option BitVector) (look : Node → Option BitVector) where
  abbrev F : PlainNetDriver → Type 0
  F = Fed around registers look

  abbrev given_by : BitVector → List PlainNetDriver → Option BitVector
  given_by = first_true around registers look

  fed_first : (z : BitVector) (d : PlainNetDriver) (t : PlainNetTarget) (ds : List PlainNetDriver) → F d → Known (given_by z ds) → Known (given_by z (drive t d.guard d.source ∷ ds))
  fed_first z d t ds f k =
      known_as _ _ (ap (option_and_then (λ g. if is_true g then value around registers look d.source else given_by z ds)) (Fed.guard f).1)
      (choice (is_true (Fed.guard f).0) (λ e. Fed.source f ((Fed.guard f).0, (Fed.guard f).1, e)))
    where
      choice : (t : Bool) → (t ≡ true → Known (value around registers look d.source)) → Known (if t then value around registers look d.source else given_by z ds)
      choice true g = g refl
      choice false g = k

  -- the wires of bundles whose drivers are fed have values, and the bundles are fed as drivers
  switches_known : (wire : ℕ) (z : BitVector) (b : List PlainNetDriver) → AllOfThem F b → Known (given_by z (switches wire b))
  switches_known wire z [] fed = (z, refl)
  switches_known wire z (d ∷ b) fed =
      fed_first z (drive (ToWire wire) d.guard one) (ToWire wire) (switches wire b) (record { guard = Fed.guard fed.0; source = λ on. (truth_bit true, refl) }) (switches_known wire z b fed.1)

  moved_known : (t : PlainNetTarget) (z : BitVector) (b : List PlainNetDriver) → AllOfThem F b → Known (given_by z (moved t b))
  moved_known t z [] fed = (z, refl)
  moved_known t z (d ∷ b) fed = fed_first z d t (moved t b) fed.0 (moved_known t z b fed.1)

  heads_fed : (z : BitVector) (t : PlainNetTarget) (wire : ℕ) (bs : List (List PlainNetDriver)) → AllOfThem F (joined bs) → BundlesHold around registers look z wire bs → AllOfThem F (heads t wire bs)
  heads_fed z t wire [] fed hold = tt
  heads_fed z t wire (b ∷ bs) fed hold =
      let k = all_split F b (joined bs) fed in (
        record {
          guard = known_as _ _ hold.0 (switches_known wire (zero_of 1) b k.0);
          source = λ on. known_as _ _ hold.1 (moved_known (ToWire (suc wire)) z b k.0);
        },
        heads_fed z t (suc (suc wire)) bs k.1 hold.2,
      )

  bundles_known : (z : BitVector) (wire : ℕ) (bs : List (List PlainNetDriver)) → AllOfThem F (joined bs) → BundlesHold around registers look z wire bs → KnownFrom around registers look wire (length bs + length bs)
  bundles_known z wire [] fed hold m low high = absurd (omega arith)
  bundles_known z wire (b ∷ bs) fed hold m low high =
      let k = all_split F b (joined bs) fed in
      choice (cases_lt wire m) (cases_lt (suc wire) m) (known_as _ _ hold.0 (switches_known wire (zero_of 1) b k.0)) (known_as _ _ hold.1 (moved_known (ToWire (suc wire)) z b k.0))
      (λ l. bundles_known z (suc (suc wire)) bs k.1 hold.2 m l (omega arith))
    where
      choice : (wire < m) ⊎ (m ≤ wire) → (suc wire < m) ⊎ (m ≤ suc wire) → Known (look (AWire wire)) → Known (look (AWire (suc wire))) → (suc (suc wire) ≤ m → Known (look (AWire m))) → Known (look (AWire m))
      choice (inr l) other on value later = let e : wire ≡ m = omega arith in subst (λ n. Known (look (AWire n))) e on
      choice (inl l) (inr r) on value later = let e : suc wire ≡ m = omega arith in subst (λ n. Known (look (AWire n))) e value
      choice (inl l) (inl r) on value later = later (omega arith)

  -- A TREE whose drivers are fed has a value on each of its wires
  tree_known : (z : BitVector) (target : PlainNetTarget) (levels wire : ℕ) (ds : List PlainNetDriver) → AllOfThem F ds → TreeHolds around registers look z target levels wire ds
      → KnownFrom around registers look wire (pairs_within levels (length ds) + pairs_within levels (length ds))
  tree_known z target zero wire ds fed hold = λ m low high. absurd (omega arith)
  tree_known z target (suc levels) wire ds fed hold = choice (nat_lt together (length ds)) hold (tree_known z target levels (behind wire (length (bundles together ds))) (heads target wire (bundles together ds)))
    where
      choice : (b : Bool) → WhereTrue b (BundlesHold around registers look z wire (bundles together ds)
          × TreeHolds around registers look z target levels (behind wire (length (bundles together ds))) (heads target wire (bundles together ds)))
          → (AllOfThem F (heads target wire (bundles together ds)) → TreeHolds around registers look z target levels (behind wire (length (bundles together ds))) (heads target wire (bundles together ds))
          → KnownFrom around registers look (behind wire (length (bundles together ds))) (pairs_within levels (length (heads target wire (bundles together ds))) + pairs_within levels (length (heads target wire (bundles together ds)))))
          → KnownFrom around registers look wire (pairs_if b levels (length ds) + pairs_if b levels (length ds))
      choice true h above_known m low high =
          let long : length (bundles together ds) ≡ bundle_count (length ds) = bundles_long ds in
          let later : pairs_within levels (length (heads target wire (bundles together ds))) ≡ pairs_within levels (bundle_count (length ds)) = later_pairs target levels wire ds in
          let leaves : AllOfThem F (joined (bundles together ds)) = subst (AllOfThem F) (sym (joined_bundles together ds)) fed in
          side (cases_lt m (behind wire (length (bundles together ds))))
          (λ l. bundles_known z wire (bundles together ds) leaves h.0 m low l)
          (λ l. above_known (heads_fed z target wire (bundles together ds) leaves h.0) h.1 m l (omega arith))
        where
          side : (m < behind wire (length (bundles together ds))) ⊎ (behind wire (length (bundles together ds)) ≤ m) → (m < behind wire (length (bundles together ds)) → Known (look (AWire m)))
              → (behind wire (length (bundles together ds)) ≤ m → Known (look (AWire m))) → Known (look (AWire m))
          side (inl l) f g = f l
          side (inr l) f g = g l
      choice false h above_known m low high = absurd (omega arith)

  trees_known : (width : PlainNetTarget → ℕ) (ts : List Driven) (wire : ℕ) → EachDriven F ts → AllHold around registers look (λ t. zero_of (width t)) wire ts
      → KnownFrom around registers look wire (length (tree_widths width ts))
  trees_known width [] wire fed hold m low high = absurd (omega arith)
  trees_known width (u ∷ us) wire fed hold m low high =
      let count : length (tree_widths width (u ∷ us)) ≡ (pairs (length u.drivers) + pairs (length u.drivers)) + length (tree_widths width us) = entries_long width u us in
      choice (cases_lt m (behind wire (pairs (length u.drivers))))
      (λ l. tree_known (zero_of (width u.target)) u.target (length u.drivers) wire u.drivers fed.0 hold.0 m low l)
      (λ l. trees_known width us (behind wire (pairs (length u.drivers))) fed.1 hold.1 m l (omega arith))
    where
      choice : (m < behind wire (pairs (length u.drivers))) ⊎ (behind wire (pairs (length u.drivers)) ≤ m) → (m < behind wire (pairs (length u.drivers)) → Known (look (AWire m)))
          → (behind wire (pairs (length u.drivers)) ≤ m → Known (look (AWire m))) → Known (look (AWire m))
      choice (inl l) f g = f l
      choice (inr l) f g = g l

-- THE NODES of a component
module _ (d : PlainLowereds) (part : PlainComponent) (cells : NetCells) (around : NetAround) (s : NetState) (look : NetLook)
    (solves : (n : Node) → is_own_node (net_component d (lowered_component part)) cells n ≡ true
    → look [] n ≡ own_step (net_component d (lowered_component part)) cells around s (look []) (λ c. look (c ∷ [])) n)
    (plain : AllDrive (IsPlain (length (plain_wires (lowered_component part)))) (plain_drivers (lowered_component part))) where
  abbrev R : ℕ → Option BitVector
  R = registers_of (net_component d (lowered_component part)) cells around s (look []) (λ c. look (c ∷ []))

  abbrev G : PlainNetTarget → BitVector → Option BitVector
  G t z = first_true around (registers_of (net_component d (lowered_component part)) cells around s (look []) (λ c. look (c ∷ []))) (look []) z (drivers_to t (net_component d (lowered_component part)).drivers)

  -- A TARGET that is no wire of a tree has a value where its drivers are fed, whatever stands where none drives
  pub target_known : (t : PlainNetTarget) → IsProper t → NoWireFrom t (length (plain_wires (lowered_component part)))
      → AllTo (Fed around R (look [])) t (plain_drivers (lowered_component part)) → (z : BitVector) → Known (G t z)
  target_known t proper free fed z =
      any_undriven around R (look []) (zero_of (target_width d (lowered_component part) t)) z (drivers_to t (net_component d (lowered_component part)).drivers)
      (known_as _ _ (takes_all d part cells around s look solves plain t proper free) (fed_takes around R (look []) t (Some (zero_of (target_width d (lowered_component part) t))) (plain_drivers (lowered_component part)) fed (zero_of (target_width d (lowered_component part) t), refl)))

  -- registers that are there have values
  pub register_known : (n : ℕ) → n < length (component_registers (lowered_component part)) → Known (R n)
  register_known n less = let k = there_at (component_registers (lowered_component part)) n less in (_, ap (λ o. option_map (λ v. record { width = v; value = s.register [] n }) o) k.1)

  -- THE WIRES OF TREES have values where all drivers are fed
  pub inner_wires_known : AllOfThem (Fed around R (look [])) (plain_drivers (lowered_component part))
      → (m : ℕ) → length (plain_wires (lowered_component part)) ≤ m → m < length (net_component d (lowered_component part)).wires → Known (look [] (AWire m))
  inner_wires_known fed m low high =
      let all : length (net_component d (lowered_component part)).wires ≡ length (plain_wires (lowered_component part)) + length (tree_widths (target_width d (lowered_component part)) (component_driven (lowered_component part))) = all_wires d part cells around s look solves plain in
      trees_known around R (look []) (target_width d (lowered_component part)) (component_driven (lowered_component part)) (length (plain_wires (lowered_component part)))
      (each_driven (Fed around R (look [])) (component_driven (lowered_component part))
      (subst (AllOfThem (Fed around R (look []))) (sym (driven_keeps (by_target (plain_drivers (lowered_component part))))) (by_target_all (Fed around R (look [])) (plain_drivers (lowered_component part)) fed)))
      (trees_all_hold d (lowered_component part) around R (look []) plain (reads d part cells around s look solves plain)) m low (omega (arith, high, all))
