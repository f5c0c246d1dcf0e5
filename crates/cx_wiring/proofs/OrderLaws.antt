-- The order of targets keeps the drivers of each target as they stood, and so does the list by targets.
use Rattle.std.proofs.Common.{◌≡◌, ℕ, Bool, true, false, not, if◌then◌else◌, List, [], ◌∷◌, ◌++◌, flat_map, refl, sym, ap, ◌∙◌, true≢false, Equal}
use Rattle.std.specs.Ordering.{is_lt, nat_cmp, ordering_then}
use Rattle.std.specs.Cmp.{nat_cmp_is}
use Rattle.cx_net.specs.Nets.{PlainNetTarget, PlainNetDriver}
use Rattle.cx_net.specs.NetMeaning.{same_target, drivers_to}
use Rattle.cx_wiring.specs.Trees.{is_same, Rank, rank_of, ranks_before, goes_before, placed_among, by_target, Driven, with_driver, driven}
use Rattle.cx_wiring.proofs.TargetRanks.{same_rank}

no_number_before : (n : ℕ) → nat_cmp n n ≡ Equal
no_number_before n = sym (nat_cmp_is n n Equal refl)

-- no rank comes before itself
no_rank_before : (r : Rank) → ranks_before r r ≡ false
no_rank_before r =
    ap (λ o. is_lt (ordering_then o (ordering_then (nat_cmp r.number r.number) (nat_cmp r.port r.port)))) (no_number_before r.kind)
    ∙ ap (λ o. is_lt (ordering_then o (nat_cmp r.port r.port))) (no_number_before r.number)
    ∙ ap is_lt (no_number_before r.port)

-- of two drivers of one target none goes before the other
none_before : (t : PlainNetTarget) (d e : PlainNetDriver) → same_target d.target t ≡ true → same_target e.target t ≡ true → goes_before e d ≡ false
none_before t d e h k =
    ap (λ r. ranks_before r (rank_of d.target)) (same_rank e.target t k ∙ sym (same_rank d.target t h)) ∙ no_rank_before (rank_of d.target)

module _ (t : PlainNetTarget) where
  swapped : (d e : PlainNetDriver) (rest : List PlainNetDriver) (a b : Bool) → (a ≡ true → b ≡ true → ⊥)
      → (if b then e ∷ (if a then d ∷ rest else rest) else if a then d ∷ rest else rest) ≡ (if a then d ∷ (if b then e ∷ rest else rest) else if b then e ∷ rest else rest)
  swapped d e rest true true h = absurd (h refl refl)
  swapped d e rest true false h = refl
  swapped d e rest false true h = refl
  swapped d e rest false false h = refl

  placed_keeps : (d : PlainNetDriver) (ds : List PlainNetDriver) → drivers_to t (placed_among d ds) ≡ drivers_to t (d ∷ ds)
  placed_keeps d [] = refl
  placed_keeps d (e ∷ es) = choice (goes_before e d) refl (placed_keeps d es)
    where
      choice : (u : Bool) → goes_before e d ≡ u → drivers_to t (placed_among d es) ≡ drivers_to t (d ∷ es)
          → drivers_to t (if not u then d ∷ e ∷ es else e ∷ placed_among d es) ≡ drivers_to t (d ∷ e ∷ es)
      choice false is ih = refl
      choice true is ih =
          ap (λ l. if same_target e.target t then e ∷ l else l) ih
          ∙ swapped d e (drivers_to t es) (same_target d.target t) (same_target e.target t) (λ h k. true≢false (sym is ∙ none_before t d e h k))

  pub by_target_keeps : (ds : List PlainNetDriver) → drivers_to t (by_target ds) ≡ drivers_to t ds
  by_target_keeps [] = refl
  by_target_keeps (d ∷ ds) = placed_keeps d (by_target ds) ∙ ap (λ l. if same_target d.target t then d ∷ l else l) (by_target_keeps ds)

-- the drivers by their targets are all drivers, in order
pub driven_keeps : (ds : List PlainNetDriver) → flat_map (λ t. t.drivers) (driven ds) ≡ ds
driven_keeps [] = refl
driven_keeps (d ∷ ds) = with_driver_keeps (driven ds) ∙ ap (λ l. d ∷ l) (driven_keeps ds)
  where
    with_driver_keeps : (ts : List Driven) → flat_map (λ t. t.drivers) (with_driver d ts) ≡ d ∷ flat_map (λ t. t.drivers) ts
    with_driver_keeps [] = refl
    with_driver_keeps (t ∷ ts) = choice (is_same d.target t.target)
      where
        choice : (same : Bool)
            → flat_map (λ t. t.drivers) (if same then record { target = d.target; drivers = d ∷ t.drivers } ∷ ts else record { target = d.target; drivers = d ∷ [] } ∷ t ∷ ts)
            ≡ d ∷ (t.drivers ++ flat_map (λ t. t.drivers) ts)
        choice true = refl
        choice false = refl
