-- Trees fit where their drivers do: of the wires of each bundle one has one bit, and the other is as wide as the target.
use Rattle.std.proofs.Common.{◌≡◌, ℕ, zero, suc, ◌+◌, Bool, true, false, not, if◌then◌else◌, List, [], ◌∷◌, Some, length, slice_get, refl, ap, sym, subst}
use Rattle.std.proofs.lemmas.Bool.{eqb-true}
use Rattle.cx_rules.proofs.FoundLemmas.{same_is}
use Rattle.cx_net.specs.Nets.{PlainNetTarget, ToPort, ToRegister, ToWire, ToHole, ToDone, PlainNetDriver, PlainNetComponent, PlainNet}
use Rattle.cx_net.specs.NetFits.{HasWidth, target_width}
use Rattle.cx_wiring.specs.Trees.{is_same, goes_before, placed_among, by_target, Driven, with_driver, driven, behind, tree, pairs, trees, pair_widths, tree_widths}
use Rattle.cx_wiring.specs.Bounds.{IsProper, AllDrive}
use Rattle.cx_wiring.specs.Fitting.{HasFrom, Drives}
use Rattle.cx_wiring.proofs.FitLemmas.{from_first, from_later, from_left, from_right}
use Rattle.cx_wiring.proofs.FitGuards.{one_fits}
use Rattle.cx_wiring.proofs.TreeDrivers.{pairs_long, PairsFrom, tree_are}
use Rattle.cx_text.proofs.NumberLaws.{never}
use Rattle.cx_text.specs.Members.{Each}
use Rattle.cx_text.proofs.MemberLaws.{each_append}

-- targets that the test takes for one are one
pub same_is_target : (a b : PlainNetTarget) → is_same a b ≡ true → a ≡ b
same_is_target (ToPort p) (ToPort q) e = ap ToPort (same_is p q e)
same_is_target (ToPort p) (ToRegister m) e = never e
same_is_target (ToPort p) (ToWire m) e = never e
same_is_target (ToPort p) (ToHole m) e = never e
same_is_target (ToPort p) ToDone e = never e
same_is_target (ToRegister n) (ToPort q) e = never e
same_is_target (ToRegister n) (ToRegister m) e = ap ToRegister (eqb-true n m e)
same_is_target (ToRegister n) (ToWire m) e = never e
same_is_target (ToRegister n) (ToHole m) e = never e
same_is_target (ToRegister n) ToDone e = never e
same_is_target (ToWire n) (ToPort q) e = never e
same_is_target (ToWire n) (ToRegister m) e = never e
same_is_target (ToWire n) (ToWire m) e = ap ToWire (eqb-true n m e)
same_is_target (ToWire n) (ToHole m) e = never e
same_is_target (ToWire n) ToDone e = never e
same_is_target (ToHole n) (ToPort q) e = never e
same_is_target (ToHole n) (ToRegister m) e = never e
same_is_target (ToHole n) (ToWire m) e = never e
same_is_target (ToHole n) (ToHole m) e = ap ToHole (eqb-true n m e)
same_is_target (ToHole n) ToDone e = never e
same_is_target ToDone (ToPort q) e = never e
same_is_target ToDone (ToRegister m) e = never e
same_is_target ToDone (ToWire m) e = never e
same_is_target ToDone (ToHole m) e = never e
same_is_target ToDone ToDone e = refl

-- the order of targets keeps what holds of all drivers
module _ (P : PlainNetDriver → Type 0) where
  placed_are : (d : PlainNetDriver) (ds : List PlainNetDriver) → P d → Each P ds → Each P (placed_among d ds)
  placed_are d [] is h = (is, tt)
  placed_are d (e ∷ es) is h = choice (goes_before e d) (placed_are d es is h.1)
    where
      choice : (t : Bool) → Each P (placed_among d es) → Each P (if not t then d ∷ e ∷ es else e ∷ placed_among d es)
      choice true k = (h.0, k)
      choice false k = (is, h)

  pub by_target_are : (ds : List PlainNetDriver) → Each P ds → Each P (by_target ds)
  by_target_are [] h = tt
  by_target_are (d ∷ ds) h = placed_are d (by_target ds) h.0 (by_target_are ds h.1)

-- what holds of drivers that drive such targets
pub are_driving : (P Q : PlainNetDriver → Type 0) (R : PlainNetTarget → Type 0) → ((d : PlainNetDriver) → P d → R d.target → Q d) → (ds : List PlainNetDriver) → Each P ds → AllDrive R ds → Each Q ds
are_driving P Q R more [] h k = tt
are_driving P Q R more (d ∷ ds) h k = (more d h.0 k.0, are_driving P Q R more ds h.1 k.1)

module _ (net : PlainNet) (part : PlainNetComponent) where
  -- a driver of something of this width
  pub record Sourced (w : ℕ) (d : PlainNetDriver) : Type 0 where
    pub guard : HasWidth net part d.guard 1
    pub source : HasWidth net part d.source w

  abbrev IsWide : ℕ → PlainNetTarget → Type 0
  IsWide w t = target_width net part t ≡ Some w

  pairs_there : (w wire n : ℕ) → HasFrom part.wires wire (pair_widths w n) → PairsFrom (λ m. slice_get part.wires m ≡ Some 1) (λ m. slice_get part.wires m ≡ Some w) wire n
  pairs_there w wire zero own = tt
  pairs_there w wire (suc n) own =
      let later = from_later part.wires wire 1 (w ∷ pair_widths w n) own in (
        from_first part.wires wire 1 (w ∷ pair_widths w n) own,
        from_first part.wires (suc wire) w (pair_widths w n) later,
        pairs_there w (suc (suc wire)) n (from_later part.wires (suc wire) w (pair_widths w n) later),
      )

  tree_fits : (target : PlainNetTarget) (w wire : ℕ) (ds : List PlainNetDriver) → IsProper target → IsWide w target → HasFrom part.wires wire (pair_widths w (pairs (length ds))) → Each (Sourced w) ds
      → Each (Drives net part) (tree target wire ds)
  tree_fits target w wire ds proper wide own fits =
      tree_are target (Sourced w) (Drives net part) (λ m. slice_get part.wires m ≡ Some 1) (λ m. slice_get part.wires m ≡ Some w)
      (λ n d on leaf. record { proper = tt; guard = leaf.guard; width = 1; target = on; source = one_fits net part })
      (λ n d value leaf. record { proper = tt; guard = leaf.guard; width = w; target = value; source = leaf.source })
      (λ n on value. record { guard = on; source = value })
      (λ d leaf. record { proper = proper; guard = leaf.guard; width = w; target = wide; source = leaf.source })
      (length ds) wire ds (pairs_there w wire (pairs (length ds)) own) fits

  module _ (width : PlainNetTarget → ℕ) where
    -- a driver of what is as wide as it should be
    pub record Fits (d : PlainNetDriver) : Type 0 where
      pub proper : IsProper d.target
      pub target : IsWide (width d.target) d.target
      pub sourced : Sourced (width d.target) d

    record EntryFits (t : Driven) : Type 0 where
      proper : IsProper t.target
      target : IsWide (width t.target) t.target
      drivers : Each (Sourced (width t.target)) t.drivers

    with_driver_fits : (d : PlainNetDriver) (ts : List Driven) → Fits d → Each EntryFits ts → Each EntryFits (with_driver d ts)
    with_driver_fits d [] is h = (record { proper = is.proper; target = is.target; drivers = (is.sourced, tt) }, tt)
    with_driver_fits d (t ∷ ts) is h = choice (is_same d.target t.target) refl
      where
        choice : (same : Bool) → is_same d.target t.target ≡ same
            → Each EntryFits (if same then record { target = d.target; drivers = d ∷ t.drivers } ∷ ts else record { target = d.target; drivers = d ∷ [] } ∷ t ∷ ts)
        choice true e =
            (record { proper = is.proper; target = is.target; drivers = (is.sourced, subst (λ u. Each (Sourced (width u)) t.drivers) (sym (same_is_target d.target t.target e)) h.0.drivers) }, h.1)
        choice false e = (record { proper = is.proper; target = is.target; drivers = (is.sourced, tt) }, h)

    driven_fits : (ds : List PlainNetDriver) → Each Fits ds → Each EntryFits (driven ds)
    driven_fits [] h = tt
    driven_fits (d ∷ ds) h = with_driver_fits d (driven ds) h.0 (driven_fits ds h.1)

    entries_fit : (ts : List Driven) (wire : ℕ) → Each EntryFits ts → HasFrom part.wires wire (tree_widths width ts) → Each (Drives net part) (trees wire ts)
    entries_fit [] wire h own = tt
    entries_fit (t ∷ ts) wire h own =
        let mine = pair_widths (width t.target) (pairs (length t.drivers)) in
        each_append (Drives net part) (tree t.target wire t.drivers) (trees (behind wire (pairs (length t.drivers))) ts)
        (tree_fits t.target (width t.target) wire t.drivers h.0.proper h.0.target (from_left part.wires wire mine (tree_widths width ts) own) h.0.drivers)
        (entries_fit ts (behind wire (pairs (length t.drivers))) h.1
        (subst (λ n. HasFrom part.wires (wire + n) (tree_widths width ts)) (pairs_long (width t.target) (pairs (length t.drivers))) (from_right part.wires wire mine (tree_widths width ts) own)))

    -- ALL TREES
    pub trees_fit : (ds : List PlainNetDriver) (wire : ℕ) → Each Fits ds → HasFrom part.wires wire (tree_widths width (driven (by_target ds))) → Each (Drives net part) (trees wire (driven (by_target ds)))
    trees_fit ds wire h own = entries_fit (driven (by_target ds)) wire (driven_fits (by_target ds) (by_target_are Fits ds h)) own
