-- Source order is what a stable sort by place gives.
use Rattle.std.proofs.Common.{◌≡◌, ◌<◌, ℕ, Bool, true, false, ◌&&◌, ◌||◌, not, cond, nat_lt, nat_le, nat_eq, List, [], ◌∷◌, map, refl, sym, ap, ◌∙◌, subst, arith, tests, true≢false}
use Rattle.std.specs.declared.cmp.Ordering.{Ordering}
use Rattle.std.specs.declared.cmp.Ordering.TheVariants.{Less, Equal, Greater}
use Rattle.std.specs.Ordering.{is_lt, nat_cmp, ordering_then, MatchOrdering}
use Rattle.std.specs.Cmp.{IsStrictWeakOrder, IsTotalOrder, then_total, on_total, nat_cmp_total, ranks}
use Rattle.std.proofs.lemmas.List.Sorted.{ranks_by}
use Rattle.std.specs.List.Sorted.{IsSortedBy, IsStableBy}
use Rattle.cx_text.specs.declared.places.Place.{Place}
use Rattle.cx_meaning.specs.Active.{Owned, no_later, placed_in, by_place}
use Rattle.cx_design_parts.specs.declared.ordering.OwnedAssign.{OwnedAssign}
use Rattle.cx_design_parts.specs.Plain.{plain_owned}
use Rattle.cx_design_parts.proofs.Stable.{placed, in_order, one_stable}

-- a stands before b in the text
abbrev pub stands_before : ℕ × ℕ → ℕ × ℕ → Bool
stands_before a b = is_lt (ordering_then (nat_cmp a.0 b.0) (nat_cmp a.1 b.1))

abbrev pub place_key : OwnedAssign → ℕ × ℕ
place_key a = (a.assign.now.place.line, a.assign.now.place.column)

abbrev pub before : OwnedAssign → OwnedAssign → Bool
before a b = stands_before (place_key a) (place_key b)

later : (a b : Place) → no_later a b ≡ not (stands_before (b.line, b.column) (a.line, a.column))
later a b = split (nat_cmp b.line a.line) (nat_cmp b.column a.column) (ranks b.line a.line) (ranks b.column a.column)
  where
    split : (l c : Ordering) → MatchOrdering l (b.line < a.line) (b.line ≡ a.line) (a.line < b.line) → MatchOrdering c (b.column < a.column) (b.column ≡ a.column) (a.column < b.column)
        → nat_lt a.line b.line || (nat_eq a.line b.line && nat_le a.column b.column) ≡ not (is_lt (ordering_then l c))
    split Less c p q = grind (arith, tests)
    split Equal Less p q = grind (arith, tests)
    split Equal Equal p q = grind (arith, tests)
    split Equal Greater p q = grind (arith, tests)
    split Greater c p q = grind (arith, tests)

placed_plain : (a : OwnedAssign) (bs : List OwnedAssign) → map plain_owned (placed before a bs) ≡ placed_in (plain_owned a) (map plain_owned bs)
placed_plain a [] = refl
placed_plain a (b ∷ bs) =
    choice (not (before b a)) (placed_plain a bs) ∙ ap (λ t. cond t (plain_owned a ∷ map plain_owned (b ∷ bs)) (plain_owned b ∷ placed_in (plain_owned a) (map plain_owned bs))) (sym (later a.assign.now.place b.assign.now.place))
  where
    choice : (t : Bool) → map plain_owned (placed before a bs) ≡ placed_in (plain_owned a) (map plain_owned bs)
        → map plain_owned (cond t (a ∷ b ∷ bs) (b ∷ placed before a bs)) ≡ cond t (plain_owned a ∷ map plain_owned (b ∷ bs)) (plain_owned b ∷ placed_in (plain_owned a) (map plain_owned bs))
    choice true ih = refl
    choice false ih = ap (λ l. plain_owned b ∷ l) ih

in_order_plain : (list : List OwnedAssign) → map plain_owned (in_order before list) ≡ by_place (map plain_owned list)
in_order_plain [] = refl
in_order_plain (a ∷ rest) = placed_plain a (in_order before rest) ∙ ap (placed_in (plain_owned a)) (in_order_plain rest)

pub sorted_is : (list sorted : List OwnedAssign) → IsSortedBy before sorted → IsStableBy before list sorted → map plain_owned sorted ≡ by_place (map plain_owned list)
sorted_is list sorted up stable =
    ap (map plain_owned) (one_stable before (ranks_by (then_total (on_total (λ (p : ℕ × ℕ). p.0) nat_cmp_total) (on_total (λ (p : ℕ × ℕ). p.1) nat_cmp_total)) place_key) list sorted up stable) ∙ in_order_plain list
