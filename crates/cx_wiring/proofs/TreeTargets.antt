-- What trees drive: what their drivers drove, and their wires.
use Rattle.std.proofs.Common.{◌≡◌, ℕ, zero, suc, ◌+◌, Bool, true, false, not, if◌then◌else◌, List, [], ◌∷◌, length, subst, arith}
use Rattle.cx_net.specs.Nets.{PlainNetTarget, ToWire, PlainNetDriver}
use Rattle.cx_wiring.specs.Trees.{is_same, goes_before, placed_among, by_target, Driven, with_driver, driven, behind, tree, pairs, trees, tree_widths}
use Rattle.cx_wiring.specs.Bounds.{AllDrive}
use Rattle.cx_wiring.proofs.RoomLemmas.{drive_both, Wires, first_wire, later_wires, first_wires, rest_wires}
use Rattle.cx_wiring.proofs.TreeDrivers.{entries_long, PairsFrom, tree_are}
use Rattle.cx_text.specs.Members.{Each}

module _ (P : PlainNetTarget → Type 0) where
  placed_drive : (d : PlainNetDriver) (ds : List PlainNetDriver) → P d.target → AllDrive P ds → AllDrive P (placed_among d ds)
  placed_drive d [] is h = (is, tt)
  placed_drive d (e ∷ es) is h = choice (goes_before e d) (placed_drive d es is h.1)
    where
      choice : (t : Bool) → AllDrive P (placed_among d es) → AllDrive P (if not t then d ∷ e ∷ es else e ∷ placed_among d es)
      choice true k = (h.0, k)
      choice false k = (is, h)

  pub by_target_drive : (ds : List PlainNetDriver) → AllDrive P ds → AllDrive P (by_target ds)
  by_target_drive [] h = tt
  by_target_drive (d ∷ ds) h = placed_drive d (by_target ds) h.0 (by_target_drive ds h.1)

  abbrev pub AllDriven : List Driven → Type 0
  AllDriven [] = Unit {0}
  AllDriven (t ∷ ts) = P t.target × AllDriven ts

  with_driver_driven : (d : PlainNetDriver) (ts : List Driven) → P d.target → AllDriven ts → AllDriven (with_driver d ts)
  with_driver_driven d [] is h = (is, tt)
  with_driver_driven d (t ∷ ts) is h = choice (is_same d.target t.target)
    where
      choice : (same : Bool) → AllDriven (if same then record { target = d.target; drivers = d ∷ t.drivers } ∷ ts else record { target = d.target; drivers = d ∷ [] } ∷ t ∷ ts)
      choice true = (is, h.1)
      choice false = (is, h)

  pub all_driven : (ds : List PlainNetDriver) → AllDrive P ds → AllDriven (driven ds)
  all_driven [] h = tt
  all_driven (d ∷ ds) h = with_driver_driven d (driven ds) h.0 (all_driven ds h.1)

  pairs_of_wires : (wire n : ℕ) → Wires P wire (n + n) → PairsFrom (λ m. P (ToWire m)) (λ m. P (ToWire m)) wire n
  pairs_of_wires wire zero own = tt
  pairs_of_wires wire (suc n) own =
      let e : suc n + suc n ≡ suc (suc (n + n)) = omega arith in
      let all : Wires P wire (suc (suc (n + n))) = subst (Wires P wire) e own in
      (first_wire P all, first_wire P (later_wires P all), pairs_of_wires (suc (suc wire)) n (later_wires P (later_wires P all)))

  drives_all : (ds : List PlainNetDriver) → Each (λ d. P d.target) ds → AllDrive P ds
  drives_all [] h = tt
  drives_all (d ∷ ds) h = (h.0, drives_all ds h.1)

  any_leaves : (ds : List PlainNetDriver) → Each (λ d. Unit {0}) ds
  any_leaves [] = tt
  any_leaves (d ∷ ds) = (tt, any_leaves ds)

  -- ALL TREES, whose bundles have these wires
  pub trees_drive : (width : PlainNetTarget → ℕ) (ts : List Driven) (wire : ℕ) → AllDriven ts → Wires P wire (length (tree_widths width ts)) → AllDrive P (trees wire ts)
  trees_drive width [] wire is own = tt
  trees_drive width (t ∷ ts) wire is own =
      let all : Wires P wire ((pairs (length t.drivers) + pairs (length t.drivers)) + length (tree_widths width ts)) = subst (Wires P wire) (entries_long width t ts) own in
      drive_both P (tree t.target wire t.drivers) (trees (behind wire (pairs (length t.drivers))) ts)
      (drives_all (tree t.target wire t.drivers)
      (tree_are t.target (λ d. Unit {0}) (λ d. P d.target) (λ m. P (ToWire m)) (λ m. P (ToWire m)) (λ n d on leaf. on) (λ n d value leaf. value) (λ n on value. tt) (λ d leaf. is.0) (length t.drivers) wire t.drivers
      (pairs_of_wires wire (pairs (length t.drivers)) (first_wires P (pairs (length t.drivers) + pairs (length t.drivers)) (length (tree_widths width ts)) all)) (any_leaves t.drivers)))
      (trees_drive width ts (behind wire (pairs (length t.drivers))) is.1 (rest_wires P (pairs (length t.drivers) + pairs (length t.drivers)) (length (tree_widths width ts)) all))
