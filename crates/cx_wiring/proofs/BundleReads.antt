-- Where each wire of the trees takes its drivers, it has what its own drivers in its tree give it.
use Rattle.std.proofs.Common.{◌≡◌, ℕ, zero, suc, ◌+◌, ◌<◌, ◌≤◌, Bool, true, false, if◌then◌else◌, List, [], ◌∷◌, ◌++◌, length, Option, refl, sym, ap, ◌∙◌, subst, arith}
use Rattle.std.specs.Prelude.{nat_lt}
use Rattle.cx_bits.specs.BitVector.{BitVector, zero_of}
use Rattle.cx_net.specs.Nets.{PlainNetTarget, ToWire, PlainNetDriver}
use Rattle.cx_net.specs.NetMeaning.{Node, AWire, NetAround, same_target, drivers_to, chain as first_true}
use Rattle.cx_wiring.specs.Trees.{Driven, together, bundles, bundle_count, moved, bundle_drivers, behind, heads, tree_within, tree, pairs_within, pairs, trees, pair_widths, tree_widths}
use Rattle.std.proofs.lemmas.Bool.{ne_eqb}
use Rattle.cx_wiring.proofs.BundleLaws.{bundles_long, later_pairs, pairs_if, above, WhereTrue, BundlesHold, TreeHolds}
use Rattle.cx_wiring.proofs.BundleTargets.{of_first, of_second, bundles_dropped, first_on, first_value, later_wire, tree_dropped}
use Rattle.cx_wiring.proofs.TreeLaws.{AllHold}

-- no target is a wire from one on
abbrev pub NotWires : ℕ → List Driven → Type 0
NotWires base [] = Unit {0}
NotWires base (u ∷ us) = ((m : ℕ) → base ≤ m → same_target u.target (ToWire m) ≡ false) × NotWires base us

pub trees_below : (ts : List Driven) (base wire m : ℕ) → base ≤ m → m < wire → NotWires base ts → drivers_to (ToWire m) (trees wire ts) ≡ []
trees_below [] base wire m low less free = refl
trees_below (u ∷ us) base wire m low less free =
    of_second (ToWire m) (tree u.target wire u.drivers) (trees (behind wire (pairs (length u.drivers))) us)
    (tree_dropped u.target (ToWire m) (free.0 m low) (length u.drivers) wire u.drivers (λ n from to. ne_eqb n m (λ e. omega arith)))
    ∙ trees_below us base (behind wire (pairs (length u.drivers))) m low (omega arith) free.1

pairs_append : (width n m : ℕ) → pair_widths width (n + m) ≡ pair_widths width n ++ pair_widths width m
pairs_append width zero m = let e : 0 + m ≡ m = omega arith in ap (pair_widths width) e
pairs_append width (suc n) m = let e : suc n + m ≡ suc (n + m) = omega arith in ap (pair_widths width) e ∙ ap (λ ws. 1 ∷ width ∷ ws) (pairs_append width n m)

module _ (around : NetAround) (registers : ℕ → Option BitVector) (look : Node → Option BitVector) where
  -- wires from one on, of these widths, take their drivers in a list
  abbrev pub TakeTheirs : ℕ → List ℕ → List PlainNetDriver → Type 0
  TakeTheirs n [] ds = Unit {0}
  TakeTheirs n (w ∷ ws) ds = (look (AWire n) ≡ first_true around registers look (zero_of w) (drivers_to (ToWire n) ds)) × TakeTheirs (suc n) ws ds

  taken_both : (width n wire : ℕ) (ws : List ℕ) (ds : List PlainNetDriver) → TakeTheirs wire (pair_widths width n ++ ws) ds → TakeTheirs wire (pair_widths width n) ds × TakeTheirs (behind wire n) ws ds
  taken_both width zero wire ws ds h = let e : wire ≡ wire + (0 + 0) = omega arith in (tt, subst (λ k. TakeTheirs k ws ds) e h)
  taken_both width (suc n) wire ws ds h =
      let k = taken_both width n (suc (suc wire)) ws ds h.1.1 in
      let e : suc (suc wire) + (n + n) ≡ wire + (suc n + suc n) = omega arith in ((h.0, (h.1.0, k.0)), subst (λ i. TakeTheirs i ws ds) e k.1)

  taken_split : (width n m wire : ℕ) (ds : List PlainNetDriver) → TakeTheirs wire (pair_widths width (n + m)) ds → TakeTheirs wire (pair_widths width n) ds × TakeTheirs (behind wire n) (pair_widths width m) ds
  taken_split width n m wire ds h = taken_both width n wire (pair_widths width m) ds (subst (λ ws. TakeTheirs wire ws ds) (pairs_append width n m) h)

  -- a list has of so many wires from one on the drivers that another one has
  abbrev SameIn : List PlainNetDriver → List PlainNetDriver → ℕ → ℕ → Type 0
  SameIn all ds wire count = (m : ℕ) → wire ≤ m → m < wire + count → drivers_to (ToWire m) all ≡ drivers_to (ToWire m) ds

  module _ (all : List PlainNetDriver) where
    bundles_hold : (width : ℕ) (bs : List (List PlainNetDriver)) (wire : ℕ) → TakeTheirs wire (pair_widths width (length bs)) all → SameIn all (bundle_drivers wire bs) wire (length bs + length bs)
        → BundlesHold around registers look (zero_of width) wire bs
    bundles_hold width [] wire reads same = tt
    bundles_hold width (b ∷ bs) wire reads same = (
      reads.0 ∙ ap (first_true around registers look (zero_of 1)) (same wire (omega arith) (omega arith) ∙ first_on wire b bs),
      reads.1.0 ∙ ap (first_true around registers look (zero_of width)) (same (suc wire) (omega arith) (omega arith) ∙ first_value wire b bs),
      bundles_hold width bs (suc (suc wire)) reads.1.1 (λ m low high. same m (omega arith) (omega arith) ∙ later_wire m wire b bs low),
    )

    tree_holds : (target : PlainNetTarget) (width levels wire : ℕ) (ds : List PlainNetDriver) → ((n : ℕ) → wire ≤ n → same_target target (ToWire n) ≡ false)
        → TakeTheirs wire (pair_widths width (pairs_within levels (length ds))) all
        → SameIn all (tree_within target levels wire ds) wire (pairs_within levels (length ds) + pairs_within levels (length ds))
        → TreeHolds around registers look (zero_of width) target levels wire ds
    tree_holds target width zero wire ds apart reads same = tt
    tree_holds target width (suc levels) wire ds apart reads same = choice (nat_lt together (length ds)) reads same (tree_holds target width levels (behind wire (length (bundles together ds))) (heads target wire (bundles together ds)))
      where
        choice : (b : Bool) → TakeTheirs wire (pair_widths width (pairs_if b levels (length ds))) all → SameIn all (if b then bundle_drivers wire (bundles together ds) ++ above target levels wire ds else moved target ds) wire (pairs_if b levels (length ds) + pairs_if b levels (length ds))
            → (((n : ℕ) → behind wire (length (bundles together ds)) ≤ n → same_target target (ToWire n) ≡ false) → TakeTheirs (behind wire (length (bundles together ds))) (pair_widths width (pairs_within levels (length (heads target wire (bundles together ds))))) all
            → SameIn all (tree_within target levels (behind wire (length (bundles together ds))) (heads target wire (bundles together ds))) (behind wire (length (bundles together ds))) (pairs_within levels (length (heads target wire (bundles together ds))) + pairs_within levels (length (heads target wire (bundles together ds))))
            → TreeHolds around registers look (zero_of width) target levels (behind wire (length (bundles together ds))) (heads target wire (bundles together ds)))
            → WhereTrue b (BundlesHold around registers look (zero_of width) wire (bundles together ds)
            × TreeHolds around registers look (zero_of width) target levels (behind wire (length (bundles together ds))) (heads target wire (bundles together ds)))
        choice true r s above_holds =
            let long : length (bundles together ds) ≡ bundle_count (length ds) = bundles_long ds in
            let more : pairs_within levels (length (heads target wire (bundles together ds))) ≡ pairs_within levels (bundle_count (length ds)) = later_pairs target levels wire ds in
            let parts = taken_split width (bundle_count (length ds)) (pairs_within levels (bundle_count (length ds))) wire all r in (
              bundles_hold width (bundles together ds) wire (subst (λ n. TakeTheirs wire (pair_widths width n) all) (sym long) parts.0)
                  (λ m low high. s m low (omega arith)
                  ∙ of_first (ToWire m) (bundle_drivers wire (bundles together ds)) (above target levels wire ds) (tree_dropped target (ToWire m) (apart m low) levels (behind wire (length (bundles together ds))) (heads target wire (bundles together ds)) (λ n from to. ne_eqb n m (λ e. omega arith)))),
              above_holds (λ n low. apart n (omega arith))
                  (subst (λ n. TakeTheirs (behind wire (length (bundles together ds))) (pair_widths width n) all) (sym more) (subst (λ n. TakeTheirs (behind wire n) (pair_widths width (pairs_within levels (bundle_count (length ds)))) all) (sym long) parts.1))
                  (λ m low high. s m (omega arith) (omega arith)
                  ∙ of_second (ToWire m) (bundle_drivers wire (bundles together ds)) (above target levels wire ds) (bundles_dropped (ToWire m) (bundles together ds) wire (λ n from to. ne_eqb n m (λ e. omega arith)))),
            )
        choice false r s above_holds = tt

    module _ (width : PlainNetTarget → ℕ) (base : ℕ) where
      pub all_hold : (ts : List Driven) (wire : ℕ) → base ≤ wire → NotWires base ts → TakeTheirs wire (tree_widths width ts) all
          → ((m : ℕ) → wire ≤ m → drivers_to (ToWire m) all ≡ drivers_to (ToWire m) (trees wire ts)) → AllHold around registers look (λ t. zero_of (width t)) wire ts
      all_hold [] wire low free reads same = tt
      all_hold (u ∷ us) wire low free reads same =
          let k = taken_both (width u.target) (pairs (length u.drivers)) wire (tree_widths width us) all reads in (
            tree_holds u.target (width u.target) (length u.drivers) wire u.drivers (λ n from. free.0 n (omega arith)) k.0
                (λ m from to. same m from
                ∙ of_first (ToWire m) (tree u.target wire u.drivers) (trees (behind wire (pairs (length u.drivers))) us) (trees_below us base (behind wire (pairs (length u.drivers))) m (omega arith) to free.1)),
            all_hold us (behind wire (pairs (length u.drivers))) (omega arith) free.1 k.1
                (λ m from. same m (omega arith)
                ∙ of_second (ToWire m) (tree u.target wire u.drivers) (trees (behind wire (pairs (length u.drivers))) us)
                (tree_dropped u.target (ToWire m) (free.0 m (omega arith)) (length u.drivers) wire u.drivers (λ n low_n high_n. ne_eqb n m (λ e. omega arith)))),
          )
