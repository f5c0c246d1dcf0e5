-- What is left of trees after each step.
use Rattle.std.proofs.Common.{◌≡◌, ℕ, zero, suc, ◌+◌, ◌*◌, ◌<◌, ◌≤◌, min, Bool, true, false, if◌then◌else◌, List, [], ◌∷◌, ◌++◌, length, refl, sym, ap, ap₂, ◌∙◌, subst, append_assoc, append-nil, add-zero, zero-add, arith, length-append}
use Rattle.std.proofs.Math.Nat.{suc-add}
use Rattle.std.proofs.lemmas.List.{length-map, map-append}
use Rattle.std.specs.Prelude.{nat_lt}
use Rattle.std.proofs.lemmas.Bool.{ltb-true, ltb-false}
use Rattle.cx_net.specs.declared.drivers.NetDriver.{NetDriver}
use Rattle.cx_net.specs.PlainNets.{plain_net_driver, plain_net_drivers}
use Rattle.cx_net.specs.Nets.{OfWire, PlainNetTarget, ToWire, ToDone, PlainNetDriver}
use Rattle.cx_wiring.specs.Parts.{drive}
use Rattle.cx_wiring.specs.Trees.{is_same, Driven, driven, together, with_first, bundles, bundle_count, switches, moved, bundle_drivers, behind, heads, tree_within, tree, pairs_within, pairs, trees, pair_widths, tree_widths}
use Rattle.cx_wiring.proofs.PairCounts.{bundles_few}
use Rattle.cx_wiring.proofs.BundleLaws.{bundles_long, heads_long}
use Rattle.cx_fsm.specs.Leaves.{first_drivers, later_groups, gathered}
use Rattle.cx_fsm.proofs.LeafLemmas.{with_driver_is, first_same, later_same, first_other, later_other}
use Rattle.cx_wiring.proofs.FitBundles.{same_is_target}

-- LEAVES. One more driver of a target goes to its leaves
pub one_more : (t : PlainNetTarget) (before : List PlainNetDriver) (d : PlainNetDriver) (ds : List PlainNetDriver) → d.target ≡ t
    → gathered t (before ++ d ∷ []) (driven ds) ≡ gathered t before (driven (d ∷ ds))
one_more t before d ds of = subst (λ u. gathered u (before ++ d ∷ []) (driven ds) ≡ gathered u before (driven (d ∷ ds))) of own
  where
    own : gathered d.target (before ++ d ∷ []) (driven ds) ≡ gathered d.target before (driven (d ∷ ds))
    own =
        ap₂ (λ l gs. record { target = d.target; drivers = l } ∷ gs)
        (append_assoc before (d ∷ []) (first_drivers d.target (driven ds)) ∙ ap (λ l. before ++ l) (sym (first_same d ds)))
        (sym (later_same d ds))

module _ (d : PlainNetDriver) (ds : List PlainNetDriver) where
  -- a driver begins new leaves of its target
  pub new_leaves : (t : PlainNetTarget) → d.target ≡ t → gathered t [] (driven (d ∷ ds)) ≡ driven (d ∷ ds)
  new_leaves t of = subst (λ u. gathered u [] (driven (d ∷ ds)) ≡ driven (d ∷ ds)) of own
    where
      own : gathered d.target [] (driven (d ∷ ds)) ≡ driven (d ∷ ds)
      own = ap₂ (λ l gs. record { target = d.target; drivers = l } ∷ gs) (first_same d ds) (later_same d ds) ∙ sym (with_driver_is d (driven ds))

  -- leaves of another target are whole
  pub whole_leaves : (t : PlainNetTarget) (before : List PlainNetDriver) → (t ≡ d.target → ⊥) → gathered t before (driven (d ∷ ds)) ≡ record { target = t; drivers = before } ∷ driven (d ∷ ds)
  whole_leaves t before other =
      ap₂ (λ l gs. record { target = t; drivers = l } ∷ gs)
      (ap (λ l. before ++ l) (first_other d ds t other) ∙ append-nil before)
      (later_other d ds t other)

  module _ (t u : PlainNetTarget) (before : List PlainNetDriver) (of : d.target ≡ u) (differs : u ≡ t → ⊥) where
    other : t ≡ d.target → ⊥
    other e = differs (sym (e ∙ of))

    pub begun_drivers : (next behind_it : ℕ) (made now : List PlainNetDriver) → now ≡ made ++ tree t next before → behind_it ≡ behind next (pairs (length before))
        → now ++ trees behind_it (gathered u [] (driven (d ∷ ds))) ≡ made ++ trees next (gathered t before (driven (d ∷ ds)))
    begun_drivers next behind_it made now e is =
        ap (λ gs. now ++ trees behind_it gs) (new_leaves u of)
        ∙ ap₂ (λ l n. l ++ trees n (driven (d ∷ ds))) e is
        ∙ append_assoc made (tree t next before) (trees (behind next (pairs (length before))) (driven (d ∷ ds)))
        ∙ ap (λ gs. made ++ trees next gs) (sym (whole_leaves t before other))

    pub begun_widths : (width : PlainNetTarget → ℕ) (made now : List ℕ) → now ≡ made ++ pair_widths (width t) (pairs (length before))
        → now ++ tree_widths width (gathered u [] (driven (d ∷ ds))) ≡ made ++ tree_widths width (gathered t before (driven (d ∷ ds)))
    begun_widths width made now e =
        ap (λ gs. now ++ tree_widths width gs) (new_leaves u of)
        ∙ ap (λ l. l ++ tree_widths width (driven (d ∷ ds))) e
        ∙ append_assoc made (pair_widths (width t) (pairs (length before))) (tree_widths width (driven (d ∷ ds)))
        ∙ ap (λ gs. made ++ tree_widths width gs) (sym (whole_leaves t before other))

-- before all drivers there are none of the done
pub first_leaves : (next : ℕ) (gs : List Driven) → trees next (gathered ToDone [] gs) ≡ trees next gs
first_leaves next [] = refl
first_leaves next (g ∷ gs) = choice (is_same ToDone g.target) refl
  where
    choice : (same : Bool) → is_same ToDone g.target ≡ same
        → trees next (record { target = ToDone; drivers = if same then g.drivers else [] } ∷ (if same then gs else g ∷ gs)) ≡ trees next (g ∷ gs)
    choice true e = ap (λ t. trees next (record { target = t; drivers = g.drivers } ∷ gs)) (same_is_target ToDone g.target e)
    choice false e = ap (λ n. trees n (g ∷ gs)) (add-zero next)

pub first_widths : (width : PlainNetTarget → ℕ) (gs : List Driven) → tree_widths width (gathered ToDone [] gs) ≡ tree_widths width gs
first_widths width [] = refl
first_widths width (g ∷ gs) = choice (is_same ToDone g.target) refl
  where
    choice : (same : Bool) → is_same ToDone g.target ≡ same
        → tree_widths width (record { target = ToDone; drivers = if same then g.drivers else [] } ∷ (if same then gs else g ∷ gs)) ≡ tree_widths width (g ∷ gs)
    choice true e = ap (λ t. tree_widths width (record { target = t; drivers = g.drivers } ∷ gs)) (same_is_target ToDone g.target e)
    choice false e = refl

-- behind all drivers there are no others
pub last_leaves : (t : PlainNetTarget) (next : ℕ) (before : List PlainNetDriver) → trees next (gathered t before (driven [])) ≡ tree t next before
last_leaves t next before = append-nil (tree t next (before ++ [])) ∙ ap (tree t next) (append-nil before)

pub last_widths : (width : PlainNetTarget → ℕ) (t : PlainNetTarget) (before : List PlainNetDriver) → tree_widths width (gathered t before (driven [])) ≡ pair_widths (width t) (pairs (length before))
last_widths width t before = append-nil (pair_widths (width t) (pairs (length (before ++ [])))) ∙ ap (λ l. pair_widths (width t) (pairs (length l))) (append-nil before)

-- BUNDLES. The first one has as many drivers as stand together, or all
bundle_full : (b : List PlainNetDriver) (d : PlainNetDriver) (rest : List PlainNetDriver) → bundles (length b) (b ++ d ∷ rest) ≡ b ∷ bundles together (d ∷ rest)
bundle_full [] d rest = refl
bundle_full (x ∷ b) d rest = ap (with_first x) (bundle_full b d rest)

bundle_last : (d : PlainNetDriver) (b : List PlainNetDriver) (room : ℕ) → length b < room → bundles room (d ∷ b) ≡ (d ∷ b) ∷ []
bundle_last d b zero few = absurd (omega arith)
bundle_last d [] (suc zero) few = refl
bundle_last d [] (suc (suc room)) few = refl
bundle_last d (e ∷ b) (suc room) few = ap (with_first d) (bundle_last e b room (omega arith))

pub bundle_first : (b rest : List PlainNetDriver) → length b ≡ min 16 (length (b ++ rest)) → 0 < length (b ++ rest) → bundles together (b ++ rest) ≡ b ∷ bundles together rest
bundle_first [] [] long some = absurd (omega arith)
bundle_first [] (d ∷ rest) long some = absurd (omega arith)
bundle_first (x ∷ b) [] long some =
    let all : length ((x ∷ b) ++ []) ≡ length (x ∷ b) + 0 = length-append (x ∷ b) [] in
    let few : length b < 16 = omega arith in
    ap (bundles together) (append-nil (x ∷ b)) ∙ bundle_last x b 16 few
bundle_first (x ∷ b) (d ∷ rest) long some =
    let all : length ((x ∷ b) ++ d ∷ rest) ≡ length (x ∷ b) + length (d ∷ rest) = length-append (x ∷ b) (d ∷ rest) in
    let full : 16 ≡ length (x ∷ b) = omega arith in
    ap (λ n. bundles n ((x ∷ b) ++ d ∷ rest)) full ∙ bundle_full (x ∷ b) d rest

pub chunk_first : (b all rest : List NetDriver) → all ≡ b ++ rest → length b ≡ min 16 (length all) → 0 < length all
    → bundles together (plain_net_drivers all) ≡ plain_net_drivers b ∷ bundles together (plain_net_drivers rest)
chunk_first b all rest parted long some =
    let same : plain_net_drivers all ≡ plain_net_drivers b ++ plain_net_drivers rest = ap plain_net_drivers parted ∙ map-append plain_net_driver b rest in
    let own : length (plain_net_drivers b) ≡ length b = length-map b plain_net_driver in
    let whole : length (plain_net_drivers b ++ plain_net_drivers rest) ≡ length all = ap length (sym same) ∙ length-map all plain_net_driver in
    ap (bundles together) same ∙ bundle_first (plain_net_drivers b) (plain_net_drivers rest) (own ∙ long ∙ ap (min 16) (sym whole)) (subst (λ n. 0 < n) (sym whole) some)

-- one more bundle
module _ (next : ℕ) (b : List PlainNetDriver) (bs : List (List PlainNetDriver)) where
  pub next_heads : (t : PlainNetTarget) (made whole : List PlainNetDriver) (head : PlainNetDriver) → head ≡ drive t (OfWire next) (OfWire (suc next))
      → made ++ heads t next (b ∷ bs) ≡ whole → (made ++ head ∷ []) ++ heads t (suc (suc next)) bs ≡ whole
  next_heads t made whole head is h = append_assoc made (head ∷ []) later ∙ ap (λ x. made ++ x ∷ later) is ∙ h
    where
      later : List PlainNetDriver
      later = heads t (suc (suc next)) bs

  pub next_drivers : (made now whole : List PlainNetDriver) → now ≡ made ++ (switches next b ++ moved (ToWire (suc next)) b)
      → made ++ bundle_drivers next (b ∷ bs) ≡ whole → now ++ bundle_drivers (suc (suc next)) bs ≡ whole
  next_drivers made now whole e h =
      let later : List PlainNetDriver = bundle_drivers (suc (suc next)) bs in
      ap (λ l. l ++ later) e
      ∙ append_assoc made (switches next b ++ moved (ToWire (suc next)) b) later
      ∙ h

  pub next_widths : (width : ℕ) (made now whole : List ℕ) → now ≡ made ++ 1 ∷ width ∷ [] → made ++ pair_widths width (length (b ∷ bs)) ≡ whole → now ++ pair_widths width (length bs) ≡ whole
  next_widths width made now whole e h = ap (λ l. l ++ pair_widths width (length bs)) e ∙ append_assoc made (1 ∷ width ∷ []) (pair_widths width (length bs)) ∙ h

  pub next_wire : (whole : ℕ) → behind next (length (b ∷ bs)) ≡ whole → behind (suc (suc next)) (length bs) ≡ whole
  next_wire whole h = omega arith

-- A TREE, level by level. There are enough levels for all drivers
pub fewer : (n : ℕ) → 16 < n → bundle_count n < n
fewer n more = let few : 16 * bundle_count n ≤ n + 15 = bundles_few n in omega arith

pairs_enough : (k j n : ℕ) → n ≤ k → n ≤ j → pairs_within k n ≡ pairs_within j n
pairs_enough zero zero n low high = refl
pairs_enough zero (suc j) n low high = choice (nat_lt together n) refl
  where
    choice : (b : Bool) → nat_lt together n ≡ b → 0 ≡ (if b then bundle_count n + pairs_within j (bundle_count n) else 0)
    choice true e = absurd (let more : 16 < n = ltb-true 16 n e in omega arith)
    choice false e = refl
pairs_enough (suc k) zero n low high = choice (nat_lt together n) refl
  where
    choice : (b : Bool) → nat_lt together n ≡ b → (if b then bundle_count n + pairs_within k (bundle_count n) else 0) ≡ 0
    choice true e = absurd (let more : 16 < n = ltb-true 16 n e in omega arith)
    choice false e = refl
pairs_enough (suc k) (suc j) n low high = choice (nat_lt together n) refl (pairs_enough k j (bundle_count n))
  where
    choice : (b : Bool) → nat_lt together n ≡ b → (bundle_count n ≤ k → bundle_count n ≤ j → pairs_within k (bundle_count n) ≡ pairs_within j (bundle_count n))
        → (if b then bundle_count n + pairs_within k (bundle_count n) else 0) ≡ (if b then bundle_count n + pairs_within j (bundle_count n) else 0)
    choice true e later = let less : bundle_count n < n = fewer n (ltb-true 16 n e) in ap (λ p. bundle_count n + p) (later (omega arith) (omega arith))
    choice false e later = refl

-- a level of bundles, and those above it
pub pairs_level : (n : ℕ) → 16 < n → pairs n ≡ bundle_count n + pairs (bundle_count n)
pairs_level zero more = absurd (omega arith)
pairs_level (suc n) more = choice (nat_lt together (suc n)) refl
  where
    choice : (b : Bool) → nat_lt together (suc n) ≡ b
        → (if b then bundle_count (suc n) + pairs_within n (bundle_count (suc n)) else 0) ≡ bundle_count (suc n) + pairs (bundle_count (suc n))
    choice true e =
        let less : bundle_count (suc n) < suc n = fewer (suc n) more in
        ap (λ p. bundle_count (suc n) + p) (pairs_enough n (bundle_count (suc n)) (bundle_count (suc n)) (omega arith) (omega arith))
    choice false e = absurd (let few : suc n ≤ 16 = ltb-false 16 (suc n) e in omega arith)

pub pairs_none : (n : ℕ) → n ≤ 16 → pairs n ≡ 0
pairs_none zero few = refl
pairs_none (suc n) few = choice (nat_lt together (suc n)) refl
  where
    choice : (b : Bool) → nat_lt together (suc n) ≡ b → (if b then bundle_count (suc n) + pairs_within n (bundle_count (suc n)) else 0) ≡ 0
    choice true e = absurd (let more : 16 < suc n = ltb-true 16 (suc n) e in omega arith)
    choice false e = refl

module _ (t : PlainNetTarget) where
  abbrev above : ℕ → ℕ → List PlainNetDriver → List PlainNetDriver
  above levels wire ds =
      bundle_drivers wire (bundles together ds)
      ++ tree_within t levels (behind wire (length (bundles together ds))) (heads t wire (bundles together ds))

  pub heads_count : (wire : ℕ) (ds : List PlainNetDriver) → length (heads t wire (bundles together ds)) ≡ bundle_count (length ds)
  heads_count wire ds = heads_long t wire (bundles together ds) ∙ bundles_long ds

  tree_enough : (k j wire : ℕ) (ds : List PlainNetDriver) → length ds ≤ k → length ds ≤ j → tree_within t k wire ds ≡ tree_within t j wire ds
  tree_enough zero zero wire ds low high = refl
  tree_enough zero (suc j) wire ds low high = choice (nat_lt together (length ds)) refl
    where
      choice : (b : Bool) → nat_lt together (length ds) ≡ b → moved t ds ≡ (if b then above j wire ds else moved t ds)
      choice true e = absurd (let more : 16 < length ds = ltb-true 16 (length ds) e in omega arith)
      choice false e = refl
  tree_enough (suc k) zero wire ds low high = choice (nat_lt together (length ds)) refl
    where
      choice : (b : Bool) → nat_lt together (length ds) ≡ b → (if b then above k wire ds else moved t ds) ≡ moved t ds
      choice true e = absurd (let more : 16 < length ds = ltb-true 16 (length ds) e in omega arith)
      choice false e = refl
  tree_enough (suc k) (suc j) wire ds low high =
      choice (nat_lt together (length ds)) refl (tree_enough k j (behind wire (length (bundles together ds))) (heads t wire (bundles together ds)))
    where
      choice : (b : Bool) → nat_lt together (length ds) ≡ b
          → (length (heads t wire (bundles together ds)) ≤ k → length (heads t wire (bundles together ds)) ≤ j
          → tree_within t k (behind wire (length (bundles together ds))) (heads t wire (bundles together ds)) ≡ tree_within t j (behind wire (length (bundles together ds))) (heads t wire (bundles together ds)))
          → (if b then above k wire ds else moved t ds) ≡ (if b then above j wire ds else moved t ds)
      choice true e later =
          let less : bundle_count (length ds) < length ds = fewer (length ds) (ltb-true 16 (length ds) e) in
          let count : length (heads t wire (bundles together ds)) ≡ bundle_count (length ds) = heads_count wire ds in
          ap (λ l. bundle_drivers wire (bundles together ds) ++ l) (later (omega arith) (omega arith))
      choice false e later = refl

  pub tree_level : (wire : ℕ) (ds : List PlainNetDriver) → 16 < length ds
      → tree t wire ds ≡ bundle_drivers wire (bundles together ds) ++ tree t (behind wire (length (bundles together ds))) (heads t wire (bundles together ds))
  tree_level wire [] more = absurd (omega arith)
  tree_level wire (d ∷ ds) more = choice (nat_lt together (suc (length ds))) refl
    where
      choice : (b : Bool) → nat_lt together (suc (length ds)) ≡ b
          → (if b then above (length ds) wire (d ∷ ds) else moved t (d ∷ ds))
          ≡ bundle_drivers wire (bundles together (d ∷ ds)) ++ tree t (behind wire (length (bundles together (d ∷ ds)))) (heads t wire (bundles together (d ∷ ds)))
      choice true e =
          let up = heads t wire (bundles together (d ∷ ds)) in
          let less : bundle_count (suc (length ds)) < suc (length ds) = fewer (suc (length ds)) more in
          let count : length up ≡ bundle_count (suc (length ds)) = heads_count wire (d ∷ ds) in
          ap (λ l. bundle_drivers wire (bundles together (d ∷ ds)) ++ l)
          (tree_enough (length ds) (length up) (behind wire (length (bundles together (d ∷ ds)))) up (omega arith) (omega arith))
      choice false e = absurd (let few : suc (length ds) ≤ 16 = ltb-false 16 (suc (length ds)) e in omega arith)

  pub tree_top : (wire : ℕ) (ds : List PlainNetDriver) → length ds ≤ 16 → tree t wire ds ≡ moved t ds
  tree_top wire [] few = refl
  tree_top wire (d ∷ ds) few = choice (nat_lt together (suc (length ds))) refl
    where
      choice : (b : Bool) → nat_lt together (suc (length ds)) ≡ b → (if b then above (length ds) wire (d ∷ ds) else moved t (d ∷ ds)) ≡ moved t (d ∷ ds)
      choice true e = absurd (let more : 16 < suc (length ds) = ltb-true 16 (suc (length ds)) e in omega arith)
      choice false e = refl

  -- one more level
  module _ (wire : ℕ) (ds up : List PlainNetDriver) (more : 16 < length ds) (is : up ≡ heads t wire (bundles together ds)) where
    pub level_drivers : (next : ℕ) (made now whole : List PlainNetDriver) → now ≡ made ++ bundle_drivers wire (bundles together ds) → next ≡ behind wire (length (bundles together ds))
        → made ++ tree t wire ds ≡ whole → now ++ tree t next up ≡ whole
    level_drivers next made now whole e n h =
        ap₂ (λ l k. l ++ tree t k up) e n
        ∙ ap (λ l. (made ++ bundle_drivers wire (bundles together ds)) ++ tree t (behind wire (length (bundles together ds))) l) is
        ∙ append_assoc made (bundle_drivers wire (bundles together ds)) _
        ∙ ap (λ l. made ++ l) (sym (tree_level wire ds more))
        ∙ h

    up_count : pairs (length up) ≡ pairs (bundle_count (length ds))
    up_count = ap (λ l. pairs (length l)) is ∙ ap pairs (heads_count wire ds)

    pub level_widths : (width : ℕ) (made now whole : List ℕ) → now ≡ made ++ pair_widths width (length (bundles together ds))
        → made ++ pair_widths width (pairs (length ds)) ≡ whole → now ++ pair_widths width (pairs (length up)) ≡ whole
    level_widths width made now whole e h =
        ap₂ (λ l n. l ++ pair_widths width n) e up_count
        ∙ append_assoc made (pair_widths width (length (bundles together ds))) (pair_widths width (pairs (bundle_count (length ds))))
        ∙ ap (λ n. made ++ (pair_widths width n ++ pair_widths width (pairs (bundle_count (length ds))))) (bundles_long ds)
        ∙ ap (λ l. made ++ l) (both_widths (bundle_count (length ds)) (pairs (bundle_count (length ds))))
        ∙ ap (λ n. made ++ pair_widths width n) (sym (pairs_level (length ds) more))
        ∙ h
      where
        both_widths : (a b : ℕ) → pair_widths width a ++ pair_widths width b ≡ pair_widths width (a + b)
        both_widths zero b = ap (pair_widths width) (sym (zero-add b))
        both_widths (suc a) b = ap (λ l. 1 ∷ width ∷ l) (both_widths a b) ∙ ap (pair_widths width) (sym (suc-add a b))

    pub level_wire : (next whole : ℕ) → next ≡ behind wire (length (bundles together ds)) → behind wire (pairs (length ds)) ≡ whole → behind next (pairs (length up)) ≡ whole
    level_wire next whole n h =
        let count : pairs (length up) ≡ pairs (bundle_count (length ds)) = up_count in
        let long : length (bundles together ds) ≡ bundle_count (length ds) = bundles_long ds in
        let level : pairs (length ds) ≡ bundle_count (length ds) + pairs (bundle_count (length ds)) = pairs_level (length ds) more in
        omega arith

    pub fewer_heads : length up < length ds
    fewer_heads =
        let count : length up ≡ bundle_count (length ds) = ap length is ∙ heads_count wire ds in
        let less : bundle_count (length ds) < length ds = fewer (length ds) more in
        omega arith

  -- the last level
  module _ (wire : ℕ) (ds : List PlainNetDriver) (few : length ds ≤ 16) where
    pub top_drivers : (made now whole : List PlainNetDriver) → now ≡ made ++ moved t ds → made ++ tree t wire ds ≡ whole → now ≡ whole
    top_drivers made now whole e h = e ∙ ap (λ l. made ++ l) (sym (tree_top wire ds few)) ∙ h

module _ (ds : List PlainNetDriver) (few : length ds ≤ 16) where
  pub top_widths : (width : ℕ) (made whole : List ℕ) → made ++ pair_widths width (pairs (length ds)) ≡ whole → made ≡ whole
  top_widths width made whole h = sym (append-nil made) ∙ ap (λ n. made ++ pair_widths width n) (sym (pairs_none (length ds) few)) ∙ h

  pub top_wire : (wire whole : ℕ) → behind wire (pairs (length ds)) ≡ whole → wire ≡ whole
  top_wire wire whole h = let none : pairs (length ds) ≡ 0 = pairs_none (length ds) few in omega arith
