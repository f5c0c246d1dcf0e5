-- The first limit that a scan finds is the first break.
use Rattle.std.proofs.Common.{◌≡◌, ℕ, ◌<◌, nat_eq, nat_lt, Bool, true, false, ◌||◌, ◌&&◌, inl, inr, ◌⊎◌, List, [], ◌∷◌, ◌++◌, Option, Some, None, refl, sym, ap, ◌∙◌, subst, arith, if◌then◌else◌}
use Rattle.std.proofs.Common.{append_assoc}
use Rattle.std.proofs.lemmas.Bool.{ltb-true, lt-ltb, eq-eqb, eqb-true, false_from_ne_true}
use Rattle.std.proofs.lemmas.List.{append-nil}
use Rattle.cx_text.proofs.MemberLaws.{in_left, in_right}
use Rattle.cx_text.specs.declared.places.Place.{Place}
use Rattle.cx_text.specs.declared.rules.Rule.TheVariants as told_rules
use Rattle.cx_text.specs.Members.{In}
use Rattle.cx_rules.proofs.KeyOrder.{before_irreflexive, before_cases, before_less, before_equal, before_transitive}
use Rattle.cx_rules.specs.Accepted.{part_key, key_of, comes_before}
use Rattle.cx_rules.specs.Spots.{Spot}
use Rattle.cx_design_sizes.proofs.Places.{in_snoc}
use Rattle.cx_limits.specs.declared.found.Limited.{Limited}
use Rattle.cx_limits.specs.declared.found.FoundBreak.{FoundBreak}
use Rattle.cx_limits.specs.Scan.{stands_before, noted}
use Rattle.cx_text.proofs.OptionLaws.{none_is_some}

-- a thing that is looked at: its spot, its place, and the limit that it exceeds, if it exceeds one
pub record Test : Type 0 where
  pub spot : Spot
  pub place : Place
  pub limited : Option Limited

abbrev pub spot_key : Spot → List ℕ
spot_key spot = spot.component ∷ part_key spot.part

abbrev pub past_tests : Option FoundBreak → List Test → Option FoundBreak
past_tests best [] = best
past_tests best (t ∷ ts) = past_tests (noted best t.place t.limited) ts

-- each spot is not before those looked at earlier
abbrev pub IsAscending : List Test → Type 0
IsAscending [] = Unit {0}
IsAscending (t ∷ ts) = ((s : Test) → In ts s → comes_before (spot_key s.spot) (spot_key t.spot) ≡ false) × IsAscending ts

-- a break comes before another by its place, or by its spot
abbrev pub limit_key : Spot → Place → List ℕ
limit_key spot place = key_of told_rules.Limit spot place

by_place : (s t : Spot) (p q : Place) → stands_before p q ≡ true → comes_before (limit_key s p) (limit_key t q) ≡ true
by_place s t p q h = by (nat_lt p.line q.line) (nat_eq p.line q.line) refl refl h
  where
    by : (b c : Bool) → nat_lt p.line q.line ≡ b → nat_eq p.line q.line ≡ c → (b || (c && nat_lt p.column q.column)) ≡ true → comes_before (limit_key s p) (limit_key t q) ≡ true
    by true c e f g = before_less p.line q.line (p.column ∷ 29 ∷ spot_key s) (q.column ∷ 29 ∷ spot_key t) (ltb-true p.line q.line e)
    by false true e f g =
        subst (λ n. comes_before (p.line ∷ p.column ∷ 29 ∷ spot_key s) (n ∷ q.column ∷ 29 ∷ spot_key t) ≡ true) (eqb-true p.line q.line f)
        (before_equal p.line (p.column ∷ 29 ∷ spot_key s) (q.column ∷ 29 ∷ spot_key t) (before_less p.column q.column (29 ∷ spot_key s) (29 ∷ spot_key t) (ltb-true p.column q.column g)))
    by false false e f g = absurd (let k : false ≡ true = g in cc)

same_number : (n : ℕ) (xs ys : List ℕ) → (n < n) ⊎ ((n ≡ n) × (comes_before xs ys ≡ true)) → comes_before xs ys ≡ true
same_number n xs ys (inl lt) = absurd (omega arith)
same_number n xs ys (inr (e, h)) = h

by_either : (s t : Spot) (p q : Place) → comes_before (limit_key s p) (limit_key t q) ≡ true → (stands_before p q ≡ true) ⊎ (comes_before (spot_key s) (spot_key t) ≡ true)
by_either s t p q h = lines (before_cases p.line q.line (p.column ∷ 29 ∷ spot_key s) (q.column ∷ 29 ∷ spot_key t) h)
  where
    standing : (b c d : Bool) → (b ≡ true) ⊎ ((c ≡ true) × (d ≡ true)) → (b || (c && d)) ≡ true
    standing true c d e = refl
    standing false c d (inl e) = absurd (let k : false ≡ true = e in cc)
    standing false c d (inr (e, f)) = ap (λ x. x && d) e ∙ f

    columns : (p.line ≡ q.line) → (p.column < q.column) ⊎ ((p.column ≡ q.column) × (comes_before (29 ∷ spot_key s) (29 ∷ spot_key t) ≡ true)) → (stands_before p q ≡ true) ⊎ (comes_before (spot_key s) (spot_key t) ≡ true)
    columns e (inl lt) = inl (standing (nat_lt p.line q.line) (nat_eq p.line q.line) (nat_lt p.column q.column) (inr (eq-eqb p.line q.line e, lt-ltb p.column q.column lt)))
    columns e (inr (f, g)) = inr (same_number 29 (spot_key s) (spot_key t) (before_cases 29 29 (spot_key s) (spot_key t) g))

    lines : (p.line < q.line) ⊎ ((p.line ≡ q.line) × (comes_before (p.column ∷ 29 ∷ spot_key s) (q.column ∷ 29 ∷ spot_key t) ≡ true)) → (stands_before p q ≡ true) ⊎ (comes_before (spot_key s) (spot_key t) ≡ true)
    lines (inl lt) = inl (standing (nat_lt p.line q.line) (nat_eq p.line q.line) (nat_lt p.column q.column) (inl (lt-ltb p.line q.line lt)))
    lines (inr (e, g)) = columns e (before_cases p.column q.column (29 ∷ spot_key s) (29 ∷ spot_key t) g)

-- what a scan has found is the first of what it has looked at
pub record IsBestAt (seen : List Test) (f : FoundBreak) (t : Test) : Type 0 where
  pub stands : In seen t
  pub exceeds : t.limited ≡ Some f.limited
  pub place : t.place ≡ f.place
  pub first : (s : Test) (l : Limited) → In seen s → s.limited ≡ Some l → comes_before (limit_key s.spot s.place) (limit_key t.spot t.place) ≡ false

abbrev pub IsBest : List Test → Option FoundBreak → Type 0
IsBest seen None = (s : Test) → In seen s → s.limited ≡ None
IsBest seen (Some f) = (t : Test) × IsBestAt seen f t

-- one thing more
best_next : (seen : List Test) (x : Test) (best : Option FoundBreak) → ((s : Test) → In seen s → comes_before (spot_key x.spot) (spot_key s.spot) ≡ false)
    → IsBest seen best → IsBest (seen ++ x ∷ []) (noted best x.place x.limited)
best_next seen x best later is_best = by best x.limited refl is_best
  where
    last : In (seen ++ x ∷ []) x
    last = in_right seen (x ∷ []) x (inl refl)

    none_more : (s : Test) → x.limited ≡ None → ((s : Test) → In seen s → s.limited ≡ None) → In seen s ⊎ (x ≡ s) → s.limited ≡ None
    none_more s e h (inl i) = h s i
    none_more s e h (inr f) = ap (λ t. t.limited) (sym f) ∙ e

    alone : (s : Test) (l : Limited) → s.limited ≡ Some l → ((s : Test) → In seen s → s.limited ≡ None) → In seen s ⊎ (x ≡ s) → comes_before (limit_key s.spot s.place) (limit_key x.spot x.place) ≡ false
    alone s l e h (inl i) = absurd (none_is_some l (sym (h s i) ∙ e))
    alone s l e h (inr f) = subst (λ t. comes_before (limit_key t.spot t.place) (limit_key x.spot x.place) ≡ false) f (before_irreflexive (limit_key x.spot x.place))

    still : (f : FoundBreak) (t : Test) → IsBestAt seen f t → (s : Test) (l : Limited) → s.limited ≡ Some l
        → (x.limited ≡ Some l → comes_before (limit_key x.spot x.place) (limit_key t.spot t.place) ≡ false) → In seen s ⊎ (x ≡ s) → comes_before (limit_key s.spot s.place) (limit_key t.spot t.place) ≡ false
    still f t b s l e h (inl i) = b.first s l i e
    still f t b s l e h (inr same) = subst (λ u. comes_before (limit_key u.spot u.place) (limit_key t.spot t.place) ≡ false) same (h (ap (λ u. u.limited) same ∙ e))

    over_taken : (f : FoundBreak) (t : Test) → IsBestAt seen f t → stands_before x.place t.place ≡ true → (s : Test) (l : Limited) → s.limited ≡ Some l → In seen s ⊎ (x ≡ s) → comes_before (limit_key s.spot s.place) (limit_key x.spot x.place) ≡ false
    over_taken f t b st s l e (inr same) = subst (λ u. comes_before (limit_key u.spot u.place) (limit_key x.spot x.place) ≡ false) same (before_irreflexive (limit_key x.spot x.place))
    over_taken f t b st s l e (inl i) = false_from_ne_true (comes_before (limit_key s.spot s.place) (limit_key x.spot x.place)) (λ h.
        let k : comes_before (limit_key s.spot s.place) (limit_key t.spot t.place) ≡ true = before_transitive (limit_key s.spot s.place) (limit_key x.spot x.place) (limit_key t.spot t.place) h (by_place x.spot t.spot x.place t.place st) in
        let n : comes_before (limit_key s.spot s.place) (limit_key t.spot t.place) ≡ false = b.first s l i e in
        let g : false ≡ true = sym n ∙ k in cc)

    behind : (t : Test) → In seen t → stands_before x.place t.place ≡ false → comes_before (limit_key x.spot x.place) (limit_key t.spot t.place) ≡ false
    behind t i st = false_from_ne_true (comes_before (limit_key x.spot x.place) (limit_key t.spot t.place)) (λ h. either (by_either x.spot t.spot x.place t.place h))
      where
        either : (stands_before x.place t.place ≡ true) ⊎ (comes_before (spot_key x.spot) (spot_key t.spot) ≡ true) → ⊥
        either (inl e) = let g : false ≡ true = sym st ∙ e in cc
        either (inr e) = let g : false ≡ true = sym (later t i) ∙ e in cc

    nearest : (f : FoundBreak) (t : Test) (l : Limited) → IsBestAt seen f t → x.limited ≡ Some l → (b : Bool) → stands_before x.place f.place ≡ b
        → (u : Test) × IsBestAt (seen ++ x ∷ []) (if b then (record { place = x.place; limited = l }) else f) u
    nearest f t l b e true st = (
      x,
      record {
        stands = last;
        exceeds = e;
        place = refl;
        first = λ s m i g. over_taken f t b (subst (λ p. stands_before x.place p ≡ true) (sym b.place) st) s m g (in_snoc seen s x i);
      },
    )
    nearest f t l b e false st = (
      t,
      record {
        stands = in_left seen (x ∷ []) t b.stands;
        exceeds = b.exceeds;
        place = b.place;
        first = λ s m i g. still f t b s m g (λ k. behind t b.stands (subst (λ p. stands_before x.place p ≡ false) (sym b.place) st)) (in_snoc seen s x i);
      },
    )

    by : (best : Option FoundBreak) (o : Option Limited) → x.limited ≡ o → IsBest seen best → IsBest (seen ++ x ∷ []) (noted best x.place o)
    by None None e h = λ s i. none_more s e h (in_snoc seen s x i)
    by (Some f) None e (t, b) = (
      t,
      record {
        stands = in_left seen (x ∷ []) t b.stands;
        exceeds = b.exceeds;
        place = b.place;
        first = λ s m i g. still f t b s m g (λ k. absurd (none_is_some m (sym e ∙ k))) (in_snoc seen s x i);
      },
    )
    by None (Some l) e h = (
      x,
      record {
        stands = last;
        exceeds = e;
        place = refl;
        first = λ s m i g. alone s m g h (in_snoc seen s x i);
      },
    )
    by (Some f) (Some l) e (t, b) = nearest f t l b e (stands_before x.place f.place) refl

-- of all
best_past : (ts seen : List Test) (best : Option FoundBreak) → IsBest seen best → IsAscending ts → ((s t : Test) → In seen s → In ts t → comes_before (spot_key t.spot) (spot_key s.spot) ≡ false)
    → IsBest (seen ++ ts) (past_tests best ts)
best_past [] seen best is_best up later = subst (λ xs. IsBest xs best) (sym (append-nil seen)) is_best
best_past (t ∷ ts) seen best is_best (above, up) later =
    subst (λ xs. IsBest xs (past_tests (noted best t.place t.limited) ts)) (append_assoc seen (t ∷ []) ts)
    (best_past ts (seen ++ t ∷ []) (noted best t.place t.limited) (best_next seen t best (λ s i. later s t i (inl refl)) is_best) up
    (λ s u i j. one s u j (in_snoc seen s t i)))
  where
    one : (s u : Test) → In ts u → In seen s ⊎ (t ≡ s) → comes_before (spot_key u.spot) (spot_key s.spot) ≡ false
    one s u j (inl i) = later s u i (inr j)
    one s u j (inr e) = subst (λ v. comes_before (spot_key u.spot) (spot_key v.spot) ≡ false) e (above u j)

pub best_of : (ts : List Test) → IsAscending ts → IsBest ts (past_tests None ts)
best_of ts up = best_past ts [] None (λ s i. absurd i) up (λ s t i j. absurd i)
