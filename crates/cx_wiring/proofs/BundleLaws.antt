-- The law of bundles: where each wire of some bundles has what its drivers give it, the bundles give a target what their drivers gave it.
use Rattle.std.proofs.Common.{◌≡◌, ℕ, zero, suc, ◌+◌, ◌-◌, ◌<◌, ◌≤◌, Bool, true, false, if◌then◌else◌, List, [], ◌∷◌, ◌++◌, length, Option, Some, None, option_and_then, refl, sym, ap, ap₂, ◌∙◌, arith}
use Rattle.std.specs.Prelude.{nat_lt}
use Rattle.std.specs.Option.{option_map_or}
use Rattle.cx_bits.specs.BitVector.{BitVector, zero_of}
use Rattle.cx_net.specs.Nets.{PlainNetExpr, PlainNetTarget, ToWire, PlainNetDriver}
use Rattle.cx_net.specs.NetMeaning.{Node, AWire, NetAround, is_true, net_expr, chain as first_true}
use Rattle.cx_net.specs.NetEdges.{taken}
use Rattle.cx_wiring.specs.Parts.{one}
use Rattle.cx_wiring.specs.Trees.{together, with_first, bundles, begun, bundle_count, switches, moved, behind, heads, tree_within, pairs_within}

-- the drivers of some bundles
abbrev pub joined : List (List PlainNetDriver) → List PlainNetDriver
joined [] = []
joined (b ∷ bs) = b ++ joined bs

joined_first : (d : PlainNetDriver) (bs : List (List PlainNetDriver)) → joined (with_first d bs) ≡ d ∷ joined bs
joined_first d [] = refl
joined_first d (b ∷ bs) = refl

pub joined_bundles : (room : ℕ) (ds : List PlainNetDriver) → joined (bundles room ds) ≡ ds
joined_bundles zero [] = refl
joined_bundles (suc room) [] = refl
joined_bundles zero (d ∷ ds) = joined_first d (bundles (together - 1) ds) ∙ ap (λ l. d ∷ l) (joined_bundles (together - 1) ds)
joined_bundles (suc room) (d ∷ ds) = joined_first d (bundles room ds) ∙ ap (λ l. d ∷ l) (joined_bundles room ds)

-- HOW MANY bundles some drivers are
again_long : (d e : PlainNetDriver) (bs : List (List PlainNetDriver)) → length (with_first d (with_first e bs)) ≡ length (with_first e bs)
again_long d e [] = refl
again_long d e (b ∷ bs) = refl

first_long : (d : PlainNetDriver) (room : ℕ) (ds : List PlainNetDriver) → length (with_first d (bundles room ds)) ≡ suc (begun room (length ds))
first_long d zero [] = refl
first_long d (suc room) [] = refl
first_long d zero (e ∷ ds) = ap suc (first_long e (together - 1) ds)
first_long d (suc room) (e ∷ ds) = again_long d e (bundles room ds) ∙ first_long e room ds

pub bundles_long : (ds : List PlainNetDriver) → length (bundles together ds) ≡ bundle_count (length ds)
bundles_long [] = refl
bundles_long (d ∷ ds) = first_long d (together - 1) ds

-- how many pairs some drivers have, whether they are bundled or not, with so many levels above
abbrev pub pairs_if : Bool → ℕ → ℕ → ℕ
pairs_if b levels n = if b then bundle_count n + pairs_within levels (bundle_count n) else 0

module _ (target : PlainNetTarget) where
  -- the levels above the bundles of some drivers
  abbrev pub above : ℕ → ℕ → List PlainNetDriver → List PlainNetDriver
  above levels wire ds = tree_within target levels (behind wire (length (bundles together ds))) (heads target wire (bundles together ds))

  pub heads_long : (wire : ℕ) (bs : List (List PlainNetDriver)) → length (heads target wire bs) ≡ length bs
  heads_long wire [] = refl
  heads_long wire (b ∷ bs) = ap suc (heads_long (suc (suc wire)) bs)

  -- the pairs of all levels but the first
  pub later_pairs : (levels wire : ℕ) (ds : List PlainNetDriver) → pairs_within levels (length (heads target wire (bundles together ds))) ≡ pairs_within levels (bundle_count (length ds))
  later_pairs levels wire ds = ap (pairs_within levels) (heads_long wire (bundles together ds) ∙ bundles_long ds)

  -- those drivers of a tree that stand at the target itself
  abbrev pub top_within : ℕ → ℕ → List PlainNetDriver → List PlainNetDriver
  top_within zero wire ds = moved target ds
  top_within (suc levels) wire ds =
      if nat_lt together (length ds) then top_within levels (behind wire (length (bundles together ds))) (heads target wire (bundles together ds)) else moved target ds

abbrev pub WhereTrue : Bool → Type 0 → Type 0
WhereTrue true A = A
WhereTrue false A = Unit {0}

module _ (around : NetAround) (registers : ℕ → Option BitVector) (look : Node → Option BitVector) where
  abbrev pub taking : BitVector → List PlainNetDriver → Option BitVector
  taking = first_true around registers look

  abbrev pub expr_value : PlainNetExpr → Option BitVector
  expr_value = net_expr around registers look

  -- each wire of some bundles has what its drivers give it
  abbrev pub BundlesHold : BitVector → ℕ → List (List PlainNetDriver) → Type 0
  BundlesHold undriven wire [] = Unit {0}
  BundlesHold undriven wire (b ∷ bs) =
      (look (AWire wire) ≡ taking (zero_of 1) (switches wire b)) × (look (AWire (suc wire)) ≡ taking undriven (moved (ToWire (suc wire)) b)) × BundlesHold undriven (suc (suc wire)) bs

  abbrev pub TreeHolds : BitVector → PlainNetTarget → ℕ → ℕ → List PlainNetDriver → Type 0
  TreeHolds undriven target zero wire ds = Unit {0}
  TreeHolds undriven target (suc levels) wire ds = WhereTrue (nat_lt together (length ds))
      (BundlesHold undriven wire (bundles together ds) × TreeHolds undriven target levels (behind wire (length (bundles together ds))) (heads target wire (bundles together ds)))

  -- one more driver in a bundle, by what its guard and its source are, and what the others make of both wires, and of the target
  one_more : (guard source on value later whole : Option BitVector) → option_and_then (λ g. if is_true g then value else later) on ≡ whole
      → option_and_then (λ g. if is_true g then option_and_then (λ x. if is_true x then source else value) guard else later) (option_and_then (λ x. if is_true x then expr_value one else on) guard)
      ≡ option_and_then (λ x. if is_true x then source else whole) guard
  one_more None source on value later whole h = refl
  one_more (Some g) source on value later whole h = choice (is_true g)
    where
      choice : (t : Bool) → option_and_then (λ x. if is_true x then if t then source else value else later) (if t then expr_value one else on) ≡ (if t then source else whole)
      choice true = refl
      choice false = h

  bundle_takes : (undriven value : BitVector) (wire : ℕ) (at : PlainNetTarget) (b xs ys : List PlainNetDriver) → taking undriven xs ≡ taking undriven ys
      → option_and_then (λ g. if is_true g then taking value (moved at b) else taking undriven xs) (taking (zero_of 1) (switches wire b)) ≡ taking undriven (b ++ ys)
  bundle_takes undriven value wire at [] xs ys h = h
  bundle_takes undriven value wire at (d ∷ b) xs ys h =
      one_more (expr_value d.guard) (expr_value d.source) (taking (zero_of 1) (switches wire b)) (taking value (moved at b)) (taking undriven xs) (taking undriven (b ++ ys)) (bundle_takes undriven value wire at b xs ys h)

  -- BUNDLES give a target what their drivers gave it
  pub heads_take : (undriven value : BitVector) (target : PlainNetTarget) (wire : ℕ) (bs : List (List PlainNetDriver)) → BundlesHold value wire bs → taking undriven (heads target wire bs) ≡ taking undriven (joined bs)
  heads_take undriven value target wire [] hold = refl
  heads_take undriven value target wire (b ∷ bs) hold =
      ap₂ (λ on given. option_and_then (λ g. if is_true g then given else taking undriven (heads target (suc (suc wire)) bs)) on) hold.0 hold.1
      ∙ bundle_takes undriven value wire (ToWire (suc wire)) b (heads target (suc (suc wire)) bs) (joined bs) (heads_take undriven value target (suc (suc wire)) bs hold.2)

  pub moved_take : (undriven : BitVector) (target : PlainNetTarget) (ds : List PlainNetDriver) → taking undriven (moved target ds) ≡ taking undriven ds
  moved_take undriven target [] = refl
  moved_take undriven target (d ∷ ds) = ap (λ rest. option_and_then (λ g. if is_true g then expr_value d.source else rest) (expr_value d.guard)) (moved_take undriven target ds)

  -- A TREE gives its target what its drivers gave it
  pub tree_takes : (undriven value : BitVector) (target : PlainNetTarget) (levels wire : ℕ) (ds : List PlainNetDriver) → TreeHolds value target levels wire ds → taking undriven (top_within target levels wire ds) ≡ taking undriven ds
  tree_takes undriven value target zero wire ds hold = moved_take undriven target ds
  tree_takes undriven value target (suc levels) wire ds hold = choice (nat_lt together (length ds)) hold (tree_takes undriven value target levels (behind wire (length (bundles together ds))) (heads target wire (bundles together ds)))
    where
      choice : (b : Bool) → WhereTrue b (BundlesHold value wire (bundles together ds) × TreeHolds value target levels (behind wire (length (bundles together ds))) (heads target wire (bundles together ds)))
          → (TreeHolds value target levels (behind wire (length (bundles together ds))) (heads target wire (bundles together ds)) → taking undriven (top_within target levels (behind wire (length (bundles together ds))) (heads target wire (bundles together ds))) ≡ taking undriven (heads target wire (bundles together ds)))
          → taking undriven (if b then top_within target levels (behind wire (length (bundles together ds))) (heads target wire (bundles together ds)) else moved target ds) ≡ taking undriven ds
      choice true h later =
          later h.1
          ∙ heads_take undriven value target wire (bundles together ds) h.0 ∙ ap (taking undriven) (joined_bundles together ds)
      choice false h later = moved_take undriven target ds

  -- so many wires from one on have values
  abbrev pub KnownFrom : ℕ → ℕ → Type 0
  KnownFrom wire count = (m : ℕ) → wire ≤ m → m < wire + count → (b : BitVector) × (look (AWire m) ≡ Some b)

  -- A REGISTER, which keeps this value where no driver is on
  module _ (kept : ℕ) where
    abbrev pub keeps : List PlainNetDriver → ℕ
    keeps = taken (λ d. expr_value d.guard) (λ d. expr_value d.source) kept

    abbrev value_of : Option BitVector → ℕ
    value_of o = option_map_or (λ b. b.value) o kept

    one_kept : (guard source on value : Option BitVector) (later whole : ℕ) (c : BitVector) → (on ≡ Some c → (if option_map_or is_true on false then value_of value else later) ≡ whole)
        → option_and_then (λ x. if is_true x then expr_value one else on) guard ≡ Some c
        → (if option_map_or is_true (option_and_then (λ x. if is_true x then expr_value one else on) guard) false then value_of (option_and_then (λ x. if is_true x then source else value) guard) else later)
        ≡ (if option_map_or is_true guard false then value_of source else whole)
    one_kept None source on value later whole c ih known = absurd cc
    one_kept (Some g) source on value later whole c ih known = choice (is_true g) known
      where
        choice : (t : Bool) → (if t then expr_value one else on) ≡ Some c
            → (if option_map_or is_true (if t then expr_value one else on) false then value_of (if t then source else value) else later) ≡ (if t then value_of source else whole)
        choice true is = refl
        choice false is = ih is

    bundle_keeps : (value : BitVector) (wire : ℕ) (at : PlainNetTarget) (b xs ys : List PlainNetDriver) (c : BitVector) → keeps xs ≡ keeps ys → taking (zero_of 1) (switches wire b) ≡ Some c
        → (if option_map_or is_true (taking (zero_of 1) (switches wire b)) false then value_of (taking value (moved at b)) else keeps xs) ≡ keeps (b ++ ys)
    bundle_keeps value wire at [] xs ys c h known = h
    bundle_keeps value wire at (d ∷ b) xs ys c h known =
        one_kept (expr_value d.guard) (expr_value d.source) (taking (zero_of 1) (switches wire b)) (taking value (moved at b)) (keeps xs) (keeps (b ++ ys)) c (λ is. bundle_keeps value wire at b xs ys c h is) known

    heads_keep : (value : BitVector) (target : PlainNetTarget) (wire : ℕ) (bs : List (List PlainNetDriver)) → BundlesHold value wire bs → KnownFrom wire (length bs + length bs) → keeps (heads target wire bs) ≡ keeps (joined bs)
    heads_keep value target wire [] hold known = refl
    heads_keep value target wire (b ∷ bs) hold known =
        let first = known wire (omega arith) (omega arith) in
        ap₂ (λ on given. if option_map_or is_true on false then value_of given else keeps (heads target (suc (suc wire)) bs)) hold.0 hold.1
        ∙ bundle_keeps value wire (ToWire (suc wire)) b (heads target (suc (suc wire)) bs) (joined bs) first.0
        (heads_keep value target (suc (suc wire)) bs hold.2 (λ m low high. known m (omega arith) (omega arith))) (sym hold.0 ∙ first.1)

    moved_keep : (target : PlainNetTarget) (ds : List PlainNetDriver) → keeps (moved target ds) ≡ keeps ds
    moved_keep target [] = refl
    moved_keep target (d ∷ ds) = ap (λ rest. if option_map_or is_true (expr_value d.guard) false then value_of (expr_value d.source) else rest) (moved_keep target ds)

    -- takes what it would take of all its drivers, where the wires of its tree have values
    pub tree_keeps : (value : BitVector) (target : PlainNetTarget) (levels wire : ℕ) (ds : List PlainNetDriver) → TreeHolds value target levels wire ds
        → KnownFrom wire (pairs_within levels (length ds) + pairs_within levels (length ds)) → keeps (top_within target levels wire ds) ≡ keeps ds
    tree_keeps value target zero wire ds hold known = moved_keep target ds
    tree_keeps value target (suc levels) wire ds hold known = choice (nat_lt together (length ds)) hold known (tree_keeps value target levels (behind wire (length (bundles together ds))) (heads target wire (bundles together ds)))
      where
        choice : (b : Bool) → WhereTrue b (BundlesHold value wire (bundles together ds) × TreeHolds value target levels (behind wire (length (bundles together ds))) (heads target wire (bundles together ds)))
            → KnownFrom wire (pairs_if b levels (length ds) + pairs_if b levels (length ds))
            → (TreeHolds value target levels (behind wire (length (bundles together ds))) (heads target wire (bundles together ds))
            → KnownFrom (behind wire (length (bundles together ds))) (pairs_within levels (length (heads target wire (bundles together ds))) + pairs_within levels (length (heads target wire (bundles together ds))))
            → keeps (top_within target levels (behind wire (length (bundles together ds))) (heads target wire (bundles together ds))) ≡ keeps (heads target wire (bundles together ds)))
            → keeps (if b then top_within target levels (behind wire (length (bundles together ds))) (heads target wire (bundles together ds)) else moved target ds) ≡ keeps ds
        choice true h k above_keeps =
            let long : length (bundles together ds) ≡ bundle_count (length ds) = bundles_long ds in
            let later : pairs_within levels (length (heads target wire (bundles together ds))) ≡ pairs_within levels (bundle_count (length ds)) = later_pairs target levels wire ds in
            above_keeps h.1 (λ m low high. k m (omega arith) (omega arith))
            ∙ heads_keep value target wire (bundles together ds) h.0 (λ m low high. k m low (omega arith))
            ∙ ap keeps (joined_bundles together ds)
        choice false h k above_keeps = moved_keep target ds
