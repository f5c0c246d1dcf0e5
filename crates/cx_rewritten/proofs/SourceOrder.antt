-- SOURCE ORDER where places rise: the assignments as they are written.
use Rattle.std.proofs.Common.{◌≡◌, Bool, true, false, List, [], ◌∷◌, ◌++◌, refl, ap, ◌∙◌, if◌then◌else◌, arith}
use Rattle.std.specs.List.{AllByRecursion}
use Rattle.std.proofs.lemmas.Bool.Decides.{nat_tests}
use Rattle.cx_text.specs.declared.places.Place.{Place}
use Rattle.cx_meaning.specs.Active.{Owned, no_later, placed_in, by_place}

-- of two places one is no later than the other
pub one_first : (p q : Place) → no_later q p ≡ false → no_later p q ≡ true
one_first p q h = grind (arith, nat_tests)

abbrev pub NoLaterThan : Owned → Owned → Type 0
NoLaterThan a b = no_later a.assign.place b.assign.place ≡ true

abbrev pub Behind : Owned → Owned → Type 0
Behind a b = no_later a.assign.place b.assign.place ≡ false

module _ (P : Owned → Type 0) where
  pub all_append : (xs ys : List Owned) → AllByRecursion P xs → AllByRecursion P ys → AllByRecursion P (xs ++ ys)
  all_append [] ys h k = k
  all_append (x ∷ xs) ys h k = (h.0, all_append xs ys h.1 k)

  all_placed : (a : Owned) (list : List Owned) → P a → AllByRecursion P list → AllByRecursion P (placed_in a list)
  all_placed a [] h k = (h, tt)
  all_placed a (b ∷ rest) h k = by (no_later a.assign.place b.assign.place) (all_placed a rest h k.1)
    where
      by : (t : Bool) → AllByRecursion P (placed_in a rest) → AllByRecursion P (if t then a ∷ b ∷ rest else b ∷ placed_in a rest)
      by true i = (h, k)
      by false i = (k.0, i)

  pub all_by_place : (list : List Owned) → AllByRecursion P list → AllByRecursion P (by_place list)
  all_by_place [] h = tt
  all_by_place (a ∷ rest) h = all_placed a (by_place rest) h.0 (all_by_place rest h.1)

-- it is put before what it is no later than, and behind what it stands behind
pub placed_first : (a : Owned) (list : List Owned) → AllByRecursion (NoLaterThan a) list → placed_in a list ≡ a ∷ list
placed_first a [] h = refl
placed_first a (b ∷ rest) h = ap (λ t. if t then a ∷ b ∷ rest else b ∷ placed_in a rest) h.0

placed_behind : (a : Owned) (xs ys : List Owned) → AllByRecursion (Behind a) xs → placed_in a (xs ++ ys) ≡ xs ++ placed_in a ys
placed_behind a [] ys h = refl
placed_behind a (b ∷ xs) ys h =
    ap (λ t. if t then a ∷ b ∷ (xs ++ ys) else b ∷ placed_in a (xs ++ ys)) h.0 ∙ ap (λ list. b ∷ list) (placed_behind a xs ys h.1)

-- a list each of which is no later than all behind it
abbrev pub Sorted : List Owned → Type 0
Sorted [] = Unit {0}
Sorted (a ∷ rest) = AllByRecursion (NoLaterThan a) rest × Sorted rest

-- each of the first is no later than each of the second, or stands behind each of the second
abbrev pub AllNoLater : List Owned → List Owned → Type 0
AllNoLater [] ys = Unit {0}
AllNoLater (x ∷ xs) ys = AllByRecursion (NoLaterThan x) ys × AllNoLater xs ys

abbrev pub AllBehind : List Owned → List Owned → Type 0
AllBehind [] ys = Unit {0}
AllBehind (x ∷ xs) ys = AllByRecursion (Behind x) ys × AllBehind xs ys

-- sorted ones that are no later than the others come first
pub first_placed : (xs ys : List Owned) → Sorted xs → AllNoLater xs ys → by_place (xs ++ ys) ≡ xs ++ by_place ys
first_placed [] ys s h = refl
first_placed (x ∷ xs) ys s h =
    ap (placed_in x) (first_placed xs ys s.1 h.1) ∙ placed_first x (xs ++ by_place ys) (all_append (NoLaterThan x) xs (by_place ys) s.0 (all_by_place (NoLaterThan x) ys h.0))

-- so do sorted ones that stand between, where what is before them stands behind them
pub between_placed : (us xs ys : List Owned) → Sorted xs → AllNoLater xs ys → AllBehind us xs → by_place (us ++ (xs ++ ys)) ≡ xs ++ by_place (us ++ ys)
between_placed [] xs ys s h b = first_placed xs ys s h
between_placed (u ∷ us) xs ys s h b = ap (placed_in u) (between_placed us xs ys s h b.1) ∙ placed_behind u xs (by_place (us ++ ys)) b.0

pub sorted_stays : (xs : List Owned) → Sorted xs → by_place xs ≡ xs
sorted_stays [] s = refl
sorted_stays (x ∷ xs) s = ap (placed_in x) (sorted_stays xs s.1) ∙ placed_first x xs s.0
