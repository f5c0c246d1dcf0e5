-- The drivers of one target in a tree: those that stand at the target, and of each wire its own.
use Rattle.std.proofs.Common.{◌≡◌, ℕ, zero, suc, ◌+◌, ◌<◌, ◌≤◌, Bool, true, false, if◌then◌else◌, List, [], ◌∷◌, ◌++◌, length, refl, ap, ◌∙◌, append_assoc, arith}
use Rattle.std.specs.Prelude.{nat_lt}
use Rattle.std.proofs.lemmas.Bool.{eq-eqb, ne_eqb}
use Rattle.cx_net.specs.Nets.{PlainNetTarget, ToWire, PlainNetDriver}
use Rattle.cx_net.specs.NetMeaning.{same_target, drivers_to}
use Rattle.cx_wiring.specs.Parts.{one, drive}
use Rattle.cx_wiring.specs.Trees.{together, bundles, bundle_count, switches, moved, bundle_drivers, behind, heads, tree_within, pairs_within}
use Rattle.cx_wiring.proofs.BundleLaws.{bundles_long, later_pairs, pairs_if, top_within}

keep_head : (t : PlainNetTarget) (d : PlainNetDriver) (ds : List PlainNetDriver) → same_target d.target t ≡ true → drivers_to t (d ∷ ds) ≡ d ∷ drivers_to t ds
keep_head t d ds e = ap (λ b. if b then d ∷ drivers_to t ds else drivers_to t ds) e

drop_head : (t : PlainNetTarget) (d : PlainNetDriver) (ds : List PlainNetDriver) → same_target d.target t ≡ false → drivers_to t (d ∷ ds) ≡ drivers_to t ds
drop_head t d ds e = ap (λ b. if b then d ∷ drivers_to t ds else drivers_to t ds) e

pub to_append : (t : PlainNetTarget) (xs ys : List PlainNetDriver) → drivers_to t (xs ++ ys) ≡ drivers_to t xs ++ drivers_to t ys
to_append t [] ys = refl
to_append t (d ∷ ds) ys = choice (same_target d.target t) (to_append t ds ys)
  where
    choice : (b : Bool) → drivers_to t (ds ++ ys) ≡ drivers_to t ds ++ drivers_to t ys
        → (if b then d ∷ drivers_to t (ds ++ ys) else drivers_to t (ds ++ ys)) ≡ (if b then d ∷ drivers_to t ds else drivers_to t ds) ++ drivers_to t ys
    choice true e = ap (λ l. d ∷ l) e
    choice false e = e

pub append_none : {A : Type 0} (xs ys : List A) → ys ≡ [] → xs ++ ys ≡ xs
append_none [] ys e = e
append_none (x ∷ xs) ys e = ap (λ l. x ∷ l) (append_none xs ys e)

-- of two lists one has no driver of the target
pub of_first : (t : PlainNetTarget) (xs ys : List PlainNetDriver) → drivers_to t ys ≡ [] → drivers_to t (xs ++ ys) ≡ drivers_to t xs
of_first t xs ys e = to_append t xs ys ∙ append_none (drivers_to t xs) (drivers_to t ys) e

pub of_second : (t : PlainNetTarget) (xs ys : List PlainNetDriver) → drivers_to t xs ≡ [] → drivers_to t (xs ++ ys) ≡ drivers_to t ys
of_second t xs ys e = to_append t xs ys ∙ ap (λ l. l ++ drivers_to t ys) e

-- A BUNDLE
moved_kept : (t u : PlainNetTarget) (ds : List PlainNetDriver) → same_target u t ≡ true → drivers_to t (moved u ds) ≡ moved u ds
moved_kept t u [] same = refl
moved_kept t u (d ∷ ds) same = keep_head t (drive u d.guard d.source) (moved u ds) same ∙ ap (λ l. drive u d.guard d.source ∷ l) (moved_kept t u ds same)

moved_dropped : (t u : PlainNetTarget) (ds : List PlainNetDriver) → same_target u t ≡ false → drivers_to t (moved u ds) ≡ []
moved_dropped t u [] other = refl
moved_dropped t u (d ∷ ds) other = drop_head t (drive u d.guard d.source) (moved u ds) other ∙ moved_dropped t u ds other

switches_kept : (t : PlainNetTarget) (wire : ℕ) (ds : List PlainNetDriver) → same_target (ToWire wire) t ≡ true → drivers_to t (switches wire ds) ≡ switches wire ds
switches_kept t wire [] same = refl
switches_kept t wire (d ∷ ds) same = keep_head t (drive (ToWire wire) d.guard one) (switches wire ds) same ∙ ap (λ l. drive (ToWire wire) d.guard one ∷ l) (switches_kept t wire ds same)

switches_dropped : (t : PlainNetTarget) (wire : ℕ) (ds : List PlainNetDriver) → same_target (ToWire wire) t ≡ false → drivers_to t (switches wire ds) ≡ []
switches_dropped t wire [] other = refl
switches_dropped t wire (d ∷ ds) other = drop_head t (drive (ToWire wire) d.guard one) (switches wire ds) other ∙ switches_dropped t wire ds other

-- none of so many wires from one on is the target
abbrev pub NoWireIn : PlainNetTarget → ℕ → ℕ → Type 0
NoWireIn t wire count = (n : ℕ) → wire ≤ n → n < wire + count → same_target (ToWire n) t ≡ false

wire_same : (n : ℕ) → same_target (ToWire n) (ToWire n) ≡ true
wire_same n = eq-eqb n n refl

first_apart : (t : PlainNetTarget) (wire : ℕ) (b : List PlainNetDriver) (bs : List (List PlainNetDriver))
    → drivers_to t (bundle_drivers wire (b ∷ bs)) ≡ drivers_to t (switches wire b ++ (moved (ToWire (suc wire)) b ++ bundle_drivers (suc (suc wire)) bs))
first_apart t wire b bs = ap (drivers_to t) (append_assoc (switches wire b) (moved (ToWire (suc wire)) b) (bundle_drivers (suc (suc wire)) bs))

-- BUNDLES have no driver of a target that is none of their wires
pub bundles_dropped : (t : PlainNetTarget) (bs : List (List PlainNetDriver)) (wire : ℕ) → NoWireIn t wire (length bs + length bs) → drivers_to t (bundle_drivers wire bs) ≡ []
bundles_dropped t [] wire free = refl
bundles_dropped t (b ∷ bs) wire free =
    first_apart t wire b bs
    ∙ of_second t (switches wire b) (moved (ToWire (suc wire)) b ++ bundle_drivers (suc (suc wire)) bs) (switches_dropped t wire b (free wire (omega arith) (omega arith)))
    ∙ of_second t (moved (ToWire (suc wire)) b) (bundle_drivers (suc (suc wire)) bs) (moved_dropped t (ToWire (suc wire)) b (free (suc wire) (omega arith) (omega arith)))
    ∙ bundles_dropped t bs (suc (suc wire)) (λ n low high. free n (omega arith) (omega arith))

-- of the first bundle the wires have its drivers
pub first_on : (wire : ℕ) (b : List PlainNetDriver) (bs : List (List PlainNetDriver)) → drivers_to (ToWire wire) (bundle_drivers wire (b ∷ bs)) ≡ switches wire b
first_on wire b bs =
    first_apart (ToWire wire) wire b bs
    ∙ of_first (ToWire wire) (switches wire b) (moved (ToWire (suc wire)) b ++ bundle_drivers (suc (suc wire)) bs)
    (of_second (ToWire wire) (moved (ToWire (suc wire)) b) (bundle_drivers (suc (suc wire)) bs) (moved_dropped (ToWire wire) (ToWire (suc wire)) b (ne_eqb (suc wire) wire (λ e. omega arith)))
    ∙ bundles_dropped (ToWire wire) bs (suc (suc wire)) (λ n low high. ne_eqb n wire (λ e. omega arith)))
    ∙ switches_kept (ToWire wire) wire b (wire_same wire)

pub first_value : (wire : ℕ) (b : List PlainNetDriver) (bs : List (List PlainNetDriver)) → drivers_to (ToWire (suc wire)) (bundle_drivers wire (b ∷ bs)) ≡ moved (ToWire (suc wire)) b
first_value wire b bs =
    first_apart (ToWire (suc wire)) wire b bs
    ∙ of_second (ToWire (suc wire)) (switches wire b) (moved (ToWire (suc wire)) b ++ bundle_drivers (suc (suc wire)) bs) (switches_dropped (ToWire (suc wire)) wire b (ne_eqb wire (suc wire) (λ e. omega arith)))
    ∙ of_first (ToWire (suc wire)) (moved (ToWire (suc wire)) b) (bundle_drivers (suc (suc wire)) bs) (bundles_dropped (ToWire (suc wire)) bs (suc (suc wire)) (λ n low high. ne_eqb n (suc wire) (λ e. omega arith)))
    ∙ moved_kept (ToWire (suc wire)) (ToWire (suc wire)) b (wire_same (suc wire))

-- and those of the later ones have none of its drivers
pub later_wire : (n wire : ℕ) (b : List PlainNetDriver) (bs : List (List PlainNetDriver)) → suc (suc wire) ≤ n → drivers_to (ToWire n) (bundle_drivers wire (b ∷ bs)) ≡ drivers_to (ToWire n) (bundle_drivers (suc (suc wire)) bs)
later_wire n wire b bs low =
    first_apart (ToWire n) wire b bs
    ∙ of_second (ToWire n) (switches wire b) (moved (ToWire (suc wire)) b ++ bundle_drivers (suc (suc wire)) bs) (switches_dropped (ToWire n) wire b (ne_eqb wire n (λ e. omega arith)))
    ∙ of_second (ToWire n) (moved (ToWire (suc wire)) b) (bundle_drivers (suc (suc wire)) bs) (moved_dropped (ToWire n) (ToWire (suc wire)) b (ne_eqb (suc wire) n (λ e. omega arith)))

module _ (target : PlainNetTarget) where
  -- A TREE has no driver of a target that is neither its own nor a wire of it
  pub tree_dropped : (t : PlainNetTarget) → same_target target t ≡ false → (levels wire : ℕ) (ds : List PlainNetDriver)
      → NoWireIn t wire (pairs_within levels (length ds) + pairs_within levels (length ds)) → drivers_to t (tree_within target levels wire ds) ≡ []
  tree_dropped t other zero wire ds free = moved_dropped t target ds other
  tree_dropped t other (suc levels) wire ds free = choice (nat_lt together (length ds)) free (tree_dropped t other levels (behind wire (length (bundles together ds))) (heads target wire (bundles together ds)))
    where
      choice : (b : Bool) → NoWireIn t wire (pairs_if b levels (length ds) + pairs_if b levels (length ds))
          → (NoWireIn t (behind wire (length (bundles together ds))) (pairs_within levels (length (heads target wire (bundles together ds))) + pairs_within levels (length (heads target wire (bundles together ds)))) → drivers_to t (tree_within target levels (behind wire (length (bundles together ds))) (heads target wire (bundles together ds))) ≡ [])
          → drivers_to t (if b then bundle_drivers wire (bundles together ds) ++ tree_within target levels (behind wire (length (bundles together ds))) (heads target wire (bundles together ds)) else moved target ds) ≡ []
      choice true f above_dropped =
          let long : length (bundles together ds) ≡ bundle_count (length ds) = bundles_long ds in
          let later : pairs_within levels (length (heads target wire (bundles together ds))) ≡ pairs_within levels (bundle_count (length ds)) = later_pairs target levels wire ds in
          of_second t (bundle_drivers wire (bundles together ds)) (tree_within target levels (behind wire (length (bundles together ds))) (heads target wire (bundles together ds)))
          (bundles_dropped t (bundles together ds) wire (λ n low high. f n low (omega arith)))
          ∙ above_dropped (λ n low high. f n (omega arith) (omega arith))
      choice false f above_dropped = moved_dropped t target ds other

  -- at its own target stands its top
  pub tree_kept : (t : PlainNetTarget) → same_target target t ≡ true → (levels wire : ℕ) (ds : List PlainNetDriver)
      → NoWireIn t wire (pairs_within levels (length ds) + pairs_within levels (length ds)) → drivers_to t (tree_within target levels wire ds) ≡ top_within target levels wire ds
  tree_kept t same zero wire ds free = moved_kept t target ds same
  tree_kept t same (suc levels) wire ds free = choice (nat_lt together (length ds)) free (tree_kept t same levels (behind wire (length (bundles together ds))) (heads target wire (bundles together ds)))
    where
      choice : (b : Bool) → NoWireIn t wire (pairs_if b levels (length ds) + pairs_if b levels (length ds))
          → (NoWireIn t (behind wire (length (bundles together ds))) (pairs_within levels (length (heads target wire (bundles together ds))) + pairs_within levels (length (heads target wire (bundles together ds)))) → drivers_to t (tree_within target levels (behind wire (length (bundles together ds))) (heads target wire (bundles together ds))) ≡ top_within target levels (behind wire (length (bundles together ds))) (heads target wire (bundles together ds)))
          → drivers_to t (if b then bundle_drivers wire (bundles together ds) ++ tree_within target levels (behind wire (length (bundles together ds))) (heads target wire (bundles together ds)) else moved target ds)
          ≡ (if b then top_within target levels (behind wire (length (bundles together ds))) (heads target wire (bundles together ds)) else moved target ds)
      choice true f above_kept =
          let long : length (bundles together ds) ≡ bundle_count (length ds) = bundles_long ds in
          let later : pairs_within levels (length (heads target wire (bundles together ds))) ≡ pairs_within levels (bundle_count (length ds)) = later_pairs target levels wire ds in
          of_second t (bundle_drivers wire (bundles together ds)) (tree_within target levels (behind wire (length (bundles together ds))) (heads target wire (bundles together ds)))
          (bundles_dropped t (bundles together ds) wire (λ n low high. f n low (omega arith)))
          ∙ above_kept (λ n low high. f n (omega arith) (omega arith))
      choice false f above_kept = moved_kept t target ds same
