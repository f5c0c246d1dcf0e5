-- What the trees of a component cost: with their wires no more than the drivers do, each of which pays its guard once more and its share of
-- the bundles above it.
use Rattle.std.proofs.Common.{◌≡◌, ℕ, zero, suc, ◌+◌, ◌*◌, ◌<◌, ◌≤◌, Bool, true, false, not, if◌then◌else◌, List, [], ◌∷◌, ◌++◌, length, refl, ap, arith, length-append}
use Rattle.std.specs.Prelude.{nat_lt}
use Rattle.std.proofs.lemmas.Bool.{ltb-true}
use Rattle.cx_net.specs.Nets.{PlainNetTarget, ToWire, PlainNetDriver}
use Rattle.cx_wiring.specs.Trees.{is_same, goes_before, placed_among, by_target, Driven, with_driver, driven, together, bundles, bundle_count, switches, moved, bundle_drivers, behind, heads, tree_within, tree, pairs_within, pairs, trees, tree_widths}
use Rattle.cx_wiring.proofs.BundleLaws.{joined, joined_bundles, bundles_long, later_pairs}
use Rattle.cx_wiring.proofs.PairCounts.{bundles_few}
use Rattle.cx_wiring.proofs.TreeDrivers.{entries_long}
use Rattle.cx_emitted.proofs.NetBytes.{expr_cost, driver_cost, drivers_cost, drivers_cost-append}

-- a driver without what it pays for bundles
abbrev pub bare_cost : PlainNetDriver → ℕ
bare_cost d = expr_cost d.guard + expr_cost d.source

abbrev pub bare_costs : List PlainNetDriver → ℕ
bare_costs [] = 0
bare_costs (d ∷ ds) = bare_cost d + bare_costs ds

pub bare_costs-append : (xs ys : List PlainNetDriver) → bare_costs (xs ++ ys) ≡ bare_costs xs + bare_costs ys
bare_costs-append [] ys = omega arith
bare_costs-append (x ∷ xs) ys = let h : bare_costs (xs ++ ys) ≡ bare_costs xs + bare_costs ys = bare_costs-append xs ys in omega arith

-- MOVED, drivers cost what they did, and as switches no more than they pay
moved_cost : (t : PlainNetTarget) (ds : List PlainNetDriver) → bare_costs (moved t ds) ≡ bare_costs ds
moved_cost t [] = refl
moved_cost t (d ∷ ds) = let h : bare_costs (moved t ds) ≡ bare_costs ds = moved_cost t ds in omega arith

switches_cost : (wire : ℕ) (ds : List PlainNetDriver) → bare_costs (switches wire ds) + bare_costs ds + 39 * length ds ≡ drivers_cost ds
switches_cost wire [] = refl
switches_cost wire (d ∷ ds) = let h : bare_costs (switches wire ds) + bare_costs ds + 39 * length ds ≡ drivers_cost ds = switches_cost wire ds in omega arith

-- without bundles they cost no more than they pay
within : (ds : List PlainNetDriver) → bare_costs ds ≤ drivers_cost ds
within [] = omega arith
within (d ∷ ds) = let h : bare_costs ds ≤ drivers_cost ds = within ds in omega arith

-- BUNDLES, with 39 for each driver to spare
bundles_cost : (wire : ℕ) (bs : List (List PlainNetDriver)) → bare_costs (bundle_drivers wire bs) + 39 * length (joined bs) ≡ drivers_cost (joined bs)
bundles_cost wire [] = refl
bundles_cost wire (b ∷ bs) =
    let later : bare_costs (bundle_drivers (suc (suc wire)) bs) + 39 * length (joined bs) ≡ drivers_cost (joined bs) = bundles_cost (suc (suc wire)) bs in
    let first : bare_costs (switches wire b) + bare_costs b + 39 * length b ≡ drivers_cost b = switches_cost wire b in
    let second : bare_costs (moved (ToWire (suc wire)) b) ≡ bare_costs b = moved_cost (ToWire (suc wire)) b in
    let parts : bare_costs ((switches wire b ++ moved (ToWire (suc wire)) b) ++ bundle_drivers (suc (suc wire)) bs)
    ≡ bare_costs (switches wire b ++ moved (ToWire (suc wire)) b) + bare_costs (bundle_drivers (suc (suc wire)) bs) =
    bare_costs-append (switches wire b ++ moved (ToWire (suc wire)) b) (bundle_drivers (suc (suc wire)) bs) in
    let own : bare_costs (switches wire b ++ moved (ToWire (suc wire)) b) ≡ bare_costs (switches wire b) + bare_costs (moved (ToWire (suc wire)) b) =
    bare_costs-append (switches wire b) (moved (ToWire (suc wire)) b) in
    let all : drivers_cost (b ++ joined bs) ≡ drivers_cost b + drivers_cost (joined bs) = drivers_cost-append b (joined bs) in
    let long : length (b ++ joined bs) ≡ length b + length (joined bs) = length-append b (joined bs) in
    omega arith

module _ (t : PlainNetTarget) where
  heads_cost : (wire : ℕ) (bs : List (List PlainNetDriver)) → drivers_cost (heads t wire bs) ≡ 129 * length bs
  heads_cost wire [] = refl
  heads_cost wire (b ∷ bs) = let h : drivers_cost (heads t (suc (suc wire)) bs) ≡ 129 * length bs = heads_cost (suc (suc wire)) bs in omega arith

  -- A TREE, with 90 for each of its wires
  tree_cost : (levels wire : ℕ) (ds : List PlainNetDriver) → bare_costs (tree_within t levels wire ds) + 180 * pairs_within levels (length ds) ≤ drivers_cost ds
  tree_cost zero wire ds =
      let same : bare_costs (moved t ds) ≡ bare_costs ds = moved_cost t ds in
      let few : bare_costs ds ≤ drivers_cost ds = within ds in
      omega arith
  tree_cost (suc levels) wire ds = choice (nat_lt together (length ds)) refl (tree_cost levels (behind wire (length (bundles together ds))) (heads t wire (bundles together ds)))
    where
      choice : (b : Bool) → nat_lt together (length ds) ≡ b
          → bare_costs (tree_within t levels (behind wire (length (bundles together ds))) (heads t wire (bundles together ds))) + 180 * pairs_within levels (length (heads t wire (bundles together ds))) ≤ drivers_cost (heads t wire (bundles together ds))
          → bare_costs (if b then bundle_drivers wire (bundles together ds) ++ tree_within t levels (behind wire (length (bundles together ds))) (heads t wire (bundles together ds)) else moved t ds)
          + 180 * (if b then bundle_count (length ds) + pairs_within levels (bundle_count (length ds)) else 0) ≤ drivers_cost ds
      choice true e above =
          let bs = bundles together ds in
          let up = tree_within t levels (behind wire (length bs)) (heads t wire bs) in
          let more : 16 < length ds = ltb-true 16 (length ds) e in
          let few : 16 * bundle_count (length ds) ≤ length ds + 15 = bundles_few (length ds) in
          let count : length bs ≡ bundle_count (length ds) = bundles_long ds in
          let higher : pairs_within levels (length (heads t wire bs)) ≡ pairs_within levels (bundle_count (length ds)) = later_pairs t levels wire ds in
          let paid : drivers_cost (heads t wire bs) ≡ 129 * length bs = heads_cost wire bs in
          let own : bare_costs (bundle_drivers wire bs) + 39 * length (joined bs) ≡ drivers_cost (joined bs) = bundles_cost wire bs in
          let long : length (joined bs) ≡ length ds = ap length (joined_bundles together ds) in
          let cost : drivers_cost (joined bs) ≡ drivers_cost ds = ap drivers_cost (joined_bundles together ds) in
          let both : bare_costs (bundle_drivers wire bs ++ up) ≡ bare_costs (bundle_drivers wire bs) + bare_costs up = bare_costs-append (bundle_drivers wire bs) up in
          omega (arith, above, more, few, count, higher, paid, own, long, cost, both)
      choice false e above =
          let same : bare_costs (moved t ds) ≡ bare_costs ds = moved_cost t ds in
          let few : bare_costs ds ≤ drivers_cost ds = within ds in
          omega arith

abbrev all_costs : List Driven → ℕ
all_costs [] = 0
all_costs (t ∷ ts) = drivers_cost t.drivers + all_costs ts

trees_cost : (width : PlainNetTarget → ℕ) (wire : ℕ) (ts : List Driven) → bare_costs (trees wire ts) + 90 * length (tree_widths width ts) ≤ all_costs ts
trees_cost width wire [] = omega arith
trees_cost width wire (t ∷ ts) =
    let own : bare_costs (tree t.target wire t.drivers) + 180 * pairs (length t.drivers) ≤ drivers_cost t.drivers = tree_cost t.target (length t.drivers) wire t.drivers in
    let later : bare_costs (trees (behind wire (pairs (length t.drivers))) ts) + 90 * length (tree_widths width ts) ≤ all_costs ts = trees_cost width (behind wire (pairs (length t.drivers))) ts in
    let wires : length (tree_widths width (t ∷ ts)) ≡ (pairs (length t.drivers) + pairs (length t.drivers)) + length (tree_widths width ts) = entries_long width t ts in
    let both : bare_costs (tree t.target wire t.drivers ++ trees (behind wire (pairs (length t.drivers))) ts) ≡ bare_costs (tree t.target wire t.drivers) + bare_costs (trees (behind wire (pairs (length t.drivers))) ts) =
    bare_costs-append (tree t.target wire t.drivers) (trees (behind wire (pairs (length t.drivers))) ts) in
    omega (arith, own, later, wires, both)

-- THE ORDER of the drivers leaves what they cost
with_driver_cost : (d : PlainNetDriver) (ts : List Driven) → all_costs (with_driver d ts) ≡ driver_cost d + all_costs ts
with_driver_cost d [] = omega arith
with_driver_cost d (t ∷ ts) = choice (is_same d.target t.target)
  where
    choice : (same : Bool) → all_costs (if same then record { target = d.target; drivers = d ∷ t.drivers } ∷ ts else record { target = d.target; drivers = d ∷ [] } ∷ t ∷ ts) ≡ driver_cost d + all_costs (t ∷ ts)
    choice true = omega arith
    choice false = omega arith

driven_cost : (ds : List PlainNetDriver) → all_costs (driven ds) ≡ drivers_cost ds
driven_cost [] = refl
driven_cost (d ∷ ds) =
    let h : all_costs (driven ds) ≡ drivers_cost ds = driven_cost ds in
    let own : all_costs (with_driver d (driven ds)) ≡ driver_cost d + all_costs (driven ds) = with_driver_cost d (driven ds) in
    omega arith

placed_cost : (d : PlainNetDriver) (ds : List PlainNetDriver) → drivers_cost (placed_among d ds) ≡ driver_cost d + drivers_cost ds
placed_cost d [] = omega arith
placed_cost d (e ∷ es) = choice (goes_before e d) (placed_cost d es)
  where
    choice : (t : Bool) → drivers_cost (placed_among d es) ≡ driver_cost d + drivers_cost es → drivers_cost (if not t then d ∷ e ∷ es else e ∷ placed_among d es) ≡ driver_cost d + drivers_cost (e ∷ es)
    choice true h = omega arith
    choice false h = omega arith

by_target_cost : (ds : List PlainNetDriver) → drivers_cost (by_target ds) ≡ drivers_cost ds
by_target_cost [] = refl
by_target_cost (d ∷ ds) =
    let h : drivers_cost (by_target ds) ≡ drivers_cost ds = by_target_cost ds in
    let k : drivers_cost (placed_among d (by_target ds)) ≡ driver_cost d + drivers_cost (by_target ds) = placed_cost d (by_target ds) in
    omega arith

-- THE TREES of drivers, with their wires
pub all_trees_cost : (width : PlainNetTarget → ℕ) (wire : ℕ) (ds : List PlainNetDriver)
    → bare_costs (trees wire (driven (by_target ds))) + 90 * length (tree_widths width (driven (by_target ds))) ≤ drivers_cost ds
all_trees_cost width wire ds =
    let h : bare_costs (trees wire (driven (by_target ds))) + 90 * length (tree_widths width (driven (by_target ds))) ≤ all_costs (driven (by_target ds)) = trees_cost width wire (driven (by_target ds)) in
    let k : all_costs (driven (by_target ds)) ≡ drivers_cost (by_target ds) = driven_cost (by_target ds) in
    let l : drivers_cost (by_target ds) ≡ drivers_cost ds = by_target_cost ds in
    omega arith
