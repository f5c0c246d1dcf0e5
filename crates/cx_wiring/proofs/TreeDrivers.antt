-- What holds of all drivers of a tree: those of its leaves, and of the wires of its bundles.
use Rattle.std.proofs.Common.{◌≡◌, ℕ, zero, suc, ◌+◌, Bool, true, false, if◌then◌else◌, List, [], ◌∷◌, ◌++◌, length, refl, sym, ap, ◌∙◌, subst, arith, length-append}
use Rattle.std.specs.Prelude.{nat_lt}
use Rattle.cx_net.specs.Nets.{OfWire, PlainNetTarget, ToWire, PlainNetDriver}
use Rattle.cx_wiring.specs.Parts.{one, drive}
use Rattle.cx_wiring.specs.Trees.{Driven, together, bundles, bundle_count, switches, moved, bundle_drivers, behind, heads, tree_within, pairs_within, pairs, pair_widths, tree_widths}
use Rattle.cx_wiring.proofs.BundleLaws.{joined, joined_bundles, bundles_long, later_pairs, pairs_if, above}
use Rattle.cx_text.specs.Members.{Each}
use Rattle.cx_text.proofs.MemberLaws.{each_append}

-- HOW MANY WIRES trees have
pub pairs_long : (width n : ℕ) → length (pair_widths width n) ≡ n + n
pairs_long width zero = refl
pairs_long width (suc n) = let h : length (pair_widths width n) ≡ n + n = pairs_long width n in omega arith

pub entries_long : (width : PlainNetTarget → ℕ) (u : Driven) (us : List Driven) → length (tree_widths width (u ∷ us)) ≡ (pairs (length u.drivers) + pairs (length u.drivers)) + length (tree_widths width us)
entries_long width u us =
    length-append (pair_widths (width u.target) (pairs (length u.drivers))) (tree_widths width us) ∙ ap (λ n. n + length (tree_widths width us)) (pairs_long (width u.target) (pairs (length u.drivers)))

pub are_apart : {A : Type 0} (P : A → Type 0) (xs ys : List A) → Each P (xs ++ ys) → Each P xs × Each P ys
are_apart P [] ys h = (tt, h)
are_apart P (x ∷ xs) ys h = let k = are_apart P xs ys h.1 in ((h.0, k.0), k.1)

-- so many pairs of wires from one on, of the first of which one condition holds, and of the second another one
module _ (On Value : ℕ → Type 0) where
  abbrev pub PairsFrom : ℕ → ℕ → Type 0
  PairsFrom wire zero = Unit {0}
  PairsFrom wire (suc n) = On wire × Value (suc wire) × PairsFrom (suc (suc wire)) n

  pairs_split : (n m wire : ℕ) → PairsFrom wire (n + m) → PairsFrom wire n × PairsFrom (behind wire n) m
  pairs_split zero m wire h =
      let e : wire ≡ wire + (0 + 0) = omega arith in
      let same : 0 + m ≡ m = omega arith in (tt, subst (λ k. PairsFrom k m) e (subst (PairsFrom wire) same h))
  pairs_split (suc n) m wire h =
      let same : suc n + m ≡ suc (n + m) = omega arith in
      let own : PairsFrom wire (suc (n + m)) = subst (PairsFrom wire) same h in
      let k = pairs_split n m (suc (suc wire)) own.2 in
      let e : suc (suc wire) + (n + n) ≡ wire + (suc n + suc n) = omega arith in ((own.0, own.1, k.0), subst (λ i. PairsFrom i m) e k.1)

-- a condition on the drivers that are bundled, and what follows for those of the tree
module _ (target : PlainNetTarget) (Leaf Made : PlainNetDriver → Type 0) (On Value : ℕ → Type 0)
    (switch : (n : ℕ) (d : PlainNetDriver) → On n → Leaf d → Made (drive (ToWire n) d.guard one))
    (give : (n : ℕ) (d : PlainNetDriver) → Value n → Leaf d → Made (drive (ToWire n) d.guard d.source))
    (head : (n : ℕ) → On n → Value (suc n) → Leaf (drive target (OfWire n) (OfWire (suc n))))
    (stand : (d : PlainNetDriver) → Leaf d → Made (drive target d.guard d.source)) where
  switches_are : (wire : ℕ) → On wire → (b : List PlainNetDriver) → Each Leaf b → Each Made (switches wire b)
  switches_are wire on [] h = tt
  switches_are wire on (d ∷ b) h = (switch wire d on h.0, switches_are wire on b h.1)

  given_are : (wire : ℕ) → Value wire → (b : List PlainNetDriver) → Each Leaf b → Each Made (moved (ToWire wire) b)
  given_are wire value [] h = tt
  given_are wire value (d ∷ b) h = (give wire d value h.0, given_are wire value b h.1)

  standing_are : (ds : List PlainNetDriver) → Each Leaf ds → Each Made (moved target ds)
  standing_are [] h = tt
  standing_are (d ∷ ds) h = (stand d h.0, standing_are ds h.1)

  bundles_are : (wire : ℕ) (bs : List (List PlainNetDriver)) → PairsFrom On Value wire (length bs) → Each Leaf (joined bs) → Each Made (bundle_drivers wire bs)
  bundles_are wire [] own h = tt
  bundles_are wire (b ∷ bs) own h =
      let k = are_apart Leaf b (joined bs) h in
      each_append Made (switches wire b ++ moved (ToWire (suc wire)) b) (bundle_drivers (suc (suc wire)) bs)
      (each_append Made (switches wire b) (moved (ToWire (suc wire)) b) (switches_are wire own.0 b k.0) (given_are (suc wire) own.1 b k.0)) (bundles_are (suc (suc wire)) bs own.2 k.1)

  heads_are : (wire : ℕ) (bs : List (List PlainNetDriver)) → PairsFrom On Value wire (length bs) → Each Leaf (heads target wire bs)
  heads_are wire [] own = tt
  heads_are wire (b ∷ bs) own = (head wire own.0 own.1, heads_are (suc (suc wire)) bs own.2)

  -- A TREE
  pub tree_are : (levels wire : ℕ) (ds : List PlainNetDriver) → PairsFrom On Value wire (pairs_within levels (length ds)) → Each Leaf ds → Each Made (tree_within target levels wire ds)
  tree_are zero wire ds own h = standing_are ds h
  tree_are (suc levels) wire ds own h = choice (nat_lt together (length ds)) own (tree_are levels (behind wire (length (bundles together ds))) (heads target wire (bundles together ds)))
    where
      choice : (b : Bool) → PairsFrom On Value wire (pairs_if b levels (length ds))
          → (PairsFrom On Value (behind wire (length (bundles together ds))) (pairs_within levels (length (heads target wire (bundles together ds)))) → Each Leaf (heads target wire (bundles together ds)) → Each Made (above target levels wire ds))
          → Each Made (if b then bundle_drivers wire (bundles together ds) ++ above target levels wire ds else moved target ds)
      choice true k above_are =
          let long : length (bundles together ds) ≡ bundle_count (length ds) = bundles_long ds in
          let more : pairs_within levels (length (heads target wire (bundles together ds))) ≡ pairs_within levels (bundle_count (length ds)) = later_pairs target levels wire ds in
          let parts = pairs_split On Value (bundle_count (length ds)) (pairs_within levels (bundle_count (length ds))) wire k in
          let here : PairsFrom On Value wire (length (bundles together ds)) = subst (PairsFrom On Value wire) (sym long) parts.0 in
          let upper : PairsFrom On Value (behind wire (length (bundles together ds))) (pairs_within levels (length (heads target wire (bundles together ds)))) =
          subst (PairsFrom On Value (behind wire (length (bundles together ds)))) (sym more) (subst (λ n. PairsFrom On Value (behind wire n) (pairs_within levels (bundle_count (length ds)))) (sym long) parts.1) in
          each_append Made (bundle_drivers wire (bundles together ds)) (above target levels wire ds) (bundles_are wire (bundles together ds) here (subst (Each Leaf) (sym (joined_bundles together ds)) h))
          (above_are upper (heads_are wire (bundles together ds) here))
      choice false k above_are = standing_are ds h
