-- The order of targets is what a stable sort by their ranks gives.
use Rattle.std.proofs.Common.{◌≡◌, ℕ, Bool, true, false, not, cond, List, [], ◌∷◌, map, refl, ap, ◌∙◌}
use Rattle.std.specs.Ordering.{is_lt, nat_cmp, ordering_then}
use Rattle.std.specs.Cmp.{then_total, on_total, nat_cmp_total}
use Rattle.std.proofs.lemmas.List.Sorted.{ranks_by}
use Rattle.std.specs.List.Sorted.{IsSortedBy, IsStableBy}
use Rattle.cx_net.specs.PlainNets.{plain_net_driver, plain_net_target}
use Rattle.cx_net.specs.declared.drivers.NetDriver.{NetDriver}
use Rattle.cx_wiring.specs.Trees.{placed_among, by_target}
use Rattle.cx_design_parts.proofs.Stable.{placed, in_order, one_stable}
use Rattle.cx_fsm.specs.Leaves.{plain_rank}

abbrev rank_before : ℕ × (ℕ × ℕ) → ℕ × (ℕ × ℕ) → Bool
rank_before a b = is_lt (ordering_then (nat_cmp a.0 b.0) (ordering_then (nat_cmp a.1.0 b.1.0) (nat_cmp a.1.1 b.1.1)))

abbrev pub rank_key : NetDriver → ℕ × (ℕ × ℕ)
rank_key d = plain_rank (plain_net_target d.target)

abbrev pub before : NetDriver → NetDriver → Bool
before a b = rank_before (rank_key a) (rank_key b)

placed_plain : (a : NetDriver) (bs : List NetDriver) → map plain_net_driver (placed before a bs) ≡ placed_among (plain_net_driver a) (map plain_net_driver bs)
placed_plain a [] = refl
placed_plain a (b ∷ bs) = choice (not (before b a)) (placed_plain a bs)
  where
    choice : (t : Bool) → map plain_net_driver (placed before a bs) ≡ placed_among (plain_net_driver a) (map plain_net_driver bs)
        → map plain_net_driver (cond t (a ∷ b ∷ bs) (b ∷ placed before a bs))
        ≡ cond t (plain_net_driver a ∷ map plain_net_driver (b ∷ bs)) (plain_net_driver b ∷ placed_among (plain_net_driver a) (map plain_net_driver bs))
    choice true ih = refl
    choice false ih = ap (λ l. plain_net_driver b ∷ l) ih

in_order_plain : (list : List NetDriver) → map plain_net_driver (in_order before list) ≡ by_target (map plain_net_driver list)
in_order_plain [] = refl
in_order_plain (a ∷ rest) = placed_plain a (in_order before rest) ∙ ap (placed_among (plain_net_driver a)) (in_order_plain rest)

pub sorted_is : (list sorted : List NetDriver) → IsSortedBy before sorted → IsStableBy before list sorted → map plain_net_driver sorted ≡ by_target (map plain_net_driver list)
sorted_is list sorted up stable =
    ap (map plain_net_driver)
    (one_stable before
    (ranks_by (then_total (on_total (λ (p : ℕ × (ℕ × ℕ)). p.0) nat_cmp_total) (then_total (on_total (λ (p : ℕ × (ℕ × ℕ)). p.1.0) nat_cmp_total) (on_total (λ (p : ℕ × (ℕ × ℕ)). p.1.1) nat_cmp_total))) rank_key)
    list sorted up stable)
    ∙ in_order_plain list
