-- Of assignments by place, those with a property are those with the property, by place.
use Rattle.std.proofs.Common.{◌≡◌, Bool, true, false, List, [], ◌∷◌, refl, sym, ap, ◌∙◌, arith, tests}
use Rattle.std.specs.Prelude.{if◌then◌else◌}
use Rattle.cx_text.specs.declared.places.Place.{Place}
use Rattle.cx_meaning.specs.Active.{Owned, no_later, placed_in, by_place}

pub total : (a b : Place) → no_later a b ≡ false → no_later b a ≡ true
total a b e = grind (arith, tests)

pub transitive : (a b c : Place) → no_later a b ≡ true → no_later b c ≡ true → no_later a c ≡ true
transitive a b c e f = grind (arith, tests)

-- all stand no earlier than a
abbrev pub AllAfter : Owned → List Owned → Type 0
AllAfter a [] = Unit {0}
AllAfter a (b ∷ bs) = (no_later a.assign.place b.assign.place ≡ true) × AllAfter a bs

abbrev pub IsSorted : List Owned → Type 0
IsSorted [] = Unit {0}
IsSorted (b ∷ bs) = AllAfter b bs × IsSorted bs

pub all_later : (a b : Owned) (list : List Owned) → no_later a.assign.place b.assign.place ≡ true → AllAfter b list → AllAfter a list
all_later a b [] e h = tt
all_later a b (c ∷ list) e (f, h) = (transitive a.assign.place b.assign.place c.assign.place e f, all_later a b list e h)

pub placed_after : (b a : Owned) (list : List Owned) → no_later b.assign.place a.assign.place ≡ true → AllAfter b list → AllAfter b (placed_in a list)
placed_after b a [] e h = (e, tt)
placed_after b a (c ∷ list) e (f, h) = choice (no_later a.assign.place c.assign.place) (placed_after b a list e h)
  where
    choice : (t : Bool) → AllAfter b (placed_in a list) → AllAfter b (if t then a ∷ c ∷ list else c ∷ placed_in a list)
    choice true k = (e, (f, h))
    choice false k = (f, k)

pub placed_sorted : (a : Owned) (list : List Owned) → IsSorted list → IsSorted (placed_in a list)
placed_sorted a [] h = (tt, tt)
placed_sorted a (b ∷ list) (f, h) = choice (no_later a.assign.place b.assign.place) refl (placed_sorted a list h)
  where
    choice : (t : Bool) → no_later a.assign.place b.assign.place ≡ t → IsSorted (placed_in a list) → IsSorted (if t then a ∷ b ∷ list else b ∷ placed_in a list)
    choice true e k = ((e, all_later a b list e f), (f, h))
    choice false e k = (placed_after b a list (total a.assign.place b.assign.place e) f, k)

pub by_place_sorted : (list : List Owned) → IsSorted (by_place list)
by_place_sorted [] = tt
by_place_sorted (a ∷ list) = placed_sorted a (by_place list) (by_place_sorted list)

pub placed_front : (a : Owned) (list : List Owned) → AllAfter a list → placed_in a list ≡ a ∷ list
placed_front a [] h = refl
placed_front a (b ∷ list) (e, h) = ap (λ t. if t then a ∷ b ∷ list else b ∷ placed_in a list) e

module _ (P : Owned → Bool) where
  -- those with the property
  abbrev pub only : List Owned → List Owned
  only [] = []
  only (o ∷ os) = if P o then o ∷ only os else only os

  only_after : (a : Owned) (list : List Owned) → AllAfter a list → AllAfter a (only list)
  only_after a [] h = tt
  only_after a (b ∷ list) (e, h) = choice (P b) (only_after a list h)
    where
      choice : (t : Bool) → AllAfter a (only list) → AllAfter a (if t then b ∷ only list else only list)
      choice true k = (e, k)
      choice false k = k

  -- one without it is left out wherever it is placed
  only-placed_out : (a : Owned) (list : List Owned) → P a ≡ false → only (placed_in a list) ≡ only list
  only-placed_out a [] e = ap (λ t. if t then a ∷ [] else []) e
  only-placed_out a (b ∷ list) e = choice (no_later a.assign.place b.assign.place) (only-placed_out a list e)
    where
      choice : (t : Bool) → only (placed_in a list) ≡ only list → only (if t then a ∷ b ∷ list else b ∷ placed_in a list) ≡ only (b ∷ list)
      choice true k = ap (λ t. if t then a ∷ only (b ∷ list) else only (b ∷ list)) e
      choice false k = ap (λ m. if P b then b ∷ m else m) k

  -- one with it is placed among those with it
  only-placed_in : (a : Owned) (list : List Owned) → P a ≡ true → IsSorted list → only (placed_in a list) ≡ placed_in a (only list)
  only-placed_in a [] e h = ap (λ t. if t then a ∷ [] else []) e
  only-placed_in a (b ∷ list) e (f, h) = choice (no_later a.assign.place b.assign.place) refl (only-placed_in a list e h)
    where
      behind : (t : Bool) → no_later a.assign.place b.assign.place ≡ false → only (placed_in a list) ≡ placed_in a (only list)
          → (if t then b ∷ only (placed_in a list) else only (placed_in a list)) ≡ placed_in a (if t then b ∷ only list else only list)
      behind true n k = ap (λ m. b ∷ m) k ∙ sym (ap (λ t. if t then a ∷ b ∷ only list else b ∷ placed_in a (only list)) n)
      behind false n k = k

      choice : (t : Bool) → no_later a.assign.place b.assign.place ≡ t → only (placed_in a list) ≡ placed_in a (only list)
          → only (if t then a ∷ b ∷ list else b ∷ placed_in a list) ≡ placed_in a (only (b ∷ list))
      choice true n k =
          ap (λ t. if t then a ∷ only (b ∷ list) else only (b ∷ list)) e
          ∙ sym (placed_front a (only (b ∷ list)) (only_after a (b ∷ list) (n, all_later a b list n f)))
      choice false n k = behind (P b) n k

  pub only-by_place : (list : List Owned) → only (by_place list) ≡ by_place (only list)
  only-by_place [] = refl
  only-by_place (a ∷ list) = choice (P a) refl (only-by_place list)
    where
      choice : (t : Bool) → P a ≡ t → only (by_place list) ≡ by_place (only list) → only (placed_in a (by_place list)) ≡ by_place (if t then a ∷ only list else only list)
      choice true e k = only-placed_in a (by_place list) e (by_place_sorted list) ∙ ap (placed_in a) k
      choice false e k = only-placed_out a (by_place list) e ∙ k
