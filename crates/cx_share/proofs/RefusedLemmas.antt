-- Sets of cells that each of 64 kept ones refuses.
use Rattle.std.proofs.Common.{◌≡◌, ◌∙◌, ℕ, zero, suc, ◌+◌, ◌*◌, ◌<◌, ◌≤◌, Bool, true, false, List, [], ◌∷◌, ◌++◌, get_or, set, length, map, refl, sym, ap, arith, ⊎_elim}
use Rattle.std.proofs.lemmas.Bool.{cases_eq, cases_lt}
use Rattle.std.proofs.lemmas.List.{get_or_past, get_or-map, get_or-set_same, get_or-set_other, length-map, length-set, length-append, map-set, map-append}
use Rattle.cx_meaning.specs.Designs.{PlainComponent}
use Rattle.cx_meaning.specs.Instances.{Set}
use Rattle.cx_sharing.specs.Giving.{takes}
use Rattle.cx_share.specs.declared.giving.Kept.{Kept}
use Rattle.cx_share.specs.Marks.{Adds}
use Rattle.cx_share.specs.Givings.{AllNear, AreAsWide, AreRefused, IsWithin, near_of, nears, no_kept, plain_kept}
use Rattle.cx_share.proofs.GiveLemmas.{takes_none}
use Rattle.cx_text.proofs.BoolLaws.{or_left}

-- a list with one more
last_at : {A : Type 0} (xs : List A) (x d : A) → get_or (xs ++ x ∷ []) (length xs) d ≡ x
last_at [] x d = refl
last_at (y ∷ xs) x d = last_at xs x d

before_at : {A : Type 0} (xs : List A) (x : A) (k : ℕ) (d : A) → k < length xs → get_or (xs ++ x ∷ []) k d ≡ get_or xs k d
before_at [] x k d lt = absurd (omega arith)
before_at (y ∷ xs) x zero d lt = refl
before_at (y ∷ xs) x (suc k) d lt = before_at xs x k d (let h : suc k < suc (length xs) = lt in omega arith)

-- a mark is of a cell that is there
there_by : (marks : List Bool) (c : ℕ) → get_or marks c false ≡ true → c < length marks
there_by marks c e = ⊎_elim (λ lt. lt) (λ le. absurd (no (sym (get_or_past marks c false le) ∙ e))) (cases_lt c (length marks))
  where
    no : false ≡ true → ⊥
    no h = cc

pub within_adds : (old new : List Bool) (set : Set) → Adds old new set → IsWithin old new
within_adds old new set p c e = p.marks c (there_by old c e) ∙ or_left (get_or old c false) (set c) e

-- what stands near a kept one
pub near_got : (kept : List Kept) (k : ℕ) (one : Kept) → k < length kept → (get_or kept k one).near ≡ near_of kept k
near_got kept k one lt = sym (get_or-map (λ (x : Kept). x.near) kept k one [] lt)

-- more is near a kept one
pub refused_set : (kept : List Kept) (refused : List (List Bool)) (i : ℕ) (before new : Kept) → i < length kept → before ≡ get_or kept i before
    → IsWithin before.near new.near → AreRefused kept refused → AreRefused (set kept i new) refused
refused_set kept refused i before new lt at more r = record {
  few = let few = r.few in let same = length-set kept i new in omega (arith, few, same);
  each = λ b k less from to c e. ⊎_elim (λ h. one k h c (r.each b k less from to c e)) (λ h. other k h c (r.each b k less from to c e)) (cases_eq k i);
}
  where
    moved : nears (set kept i new) ≡ set (nears kept) i new.near
    moved = map-set (λ (x : Kept). x.near) kept i new

    inside : i < length (nears kept)
    inside = rw (length-map kept (λ (x : Kept). x.near)) lt

    one : (k : ℕ) → k ≡ i → (c : ℕ) → get_or (near_of kept k) c false ≡ true → get_or (near_of (set kept i new) k) c false ≡ true
    one k h c e =
        ap (λ list. get_or (get_or list k []) c false) moved ∙ ap (λ n. get_or (get_or (set (nears kept) i new.near) n []) c false) h
        ∙ ap (λ m. get_or m c false) (get_or-set_same (nears kept) i new.near [] inside)
        ∙ more c (ap (λ m. get_or m c false) (ap (λ (x : Kept). x.near) at ∙ near_got kept i before lt) ∙ ap (λ n. get_or (near_of kept n) c false) (sym h) ∙ e)

    other : (k : ℕ) → (k ≡ i → ⊥) → (c : ℕ) → get_or (near_of kept k) c false ≡ true → get_or (near_of (set kept i new) k) c false ≡ true
    other k h c e = ap (λ list. get_or (get_or list k []) c false) moved ∙ ap (λ m. get_or m c false) (get_or-set_other (nears kept) i k new.near [] h) ∙ e

-- one more is kept
pub refused_push : (kept : List Kept) (refused : List (List Bool)) (one : Kept) → AreRefused kept refused → AreRefused (kept ++ one ∷ []) refused
refused_push kept refused one r = record {
  few = let few = r.few in let long = length-append kept (one ∷ []) in omega (arith, few, long);
  each = λ b k less from to c e.
      let few = r.few in
      let inside : k < length (nears kept) = rw (length-map kept (λ (x : Kept). x.near)) (omega (arith, few, less, to)) in
      ap (λ list. get_or (get_or list k []) c false) (map-append (λ (x : Kept). x.near) kept (one ∷ []))
      ∙ ap (λ m. get_or m c false) (before_at (nears kept) one.near k [] inside) ∙ r.each b k less from to c e;
}

-- a kept one that refuses a cell does not take it
pub refused_takes : (part : PlainComponent) (cell : ℕ) (kept : List Kept) (k : ℕ) → k < length kept → AllNear part kept → cell < length part.cells
    → get_or (near_of kept k) cell false ≡ true → takes part cell (get_or (map plain_kept kept) k no_kept) ≡ false
refused_takes part cell [] k lt near inside e = absurd (omega arith)
refused_takes part cell (one ∷ kept) zero lt near inside e = sym (takes_none part cell one (get_or one.near cell false) near.0 inside refl e)
refused_takes part cell (one ∷ kept) (suc k) lt near inside e = refused_takes part cell kept k (let h : suc k < suc (length kept) = lt in omega arith) near.1 inside e

-- each kept one has marks for the cells of its component
wide_by : (part : PlainComponent) (kept : List Kept) (k : ℕ) → AllNear part kept → k < length (nears kept) → length (near_of kept k) ≡ length part.cells
wide_by part [] k near lt = absurd (omega arith)
wide_by part (one ∷ kept) zero near lt = near.0.count
wide_by part (one ∷ kept) (suc k) near lt = wide_by part kept k near.1 (let h : suc k < suc (length (nears kept)) = lt in omega arith)

pub near_wide : (part : PlainComponent) (kept : List Kept) → AllNear part kept → AreAsWide (nears kept)
near_wide part kept near j k less lt = wide_by part kept j near less ∙ sym (wide_by part kept k near lt)

-- none of a range is, and of one more
pub none_next : (P : ℕ → Bool) (from n : ℕ) → ((k : ℕ) → from ≤ k → k < n → P k ≡ false) → P n ≡ false → (k : ℕ) → from ≤ k → k < n + 1 → P k ≡ false
none_next P from n before last k low less = ⊎_elim (λ h. before k low h) (λ h. let same : k ≡ n = omega (arith, h, less) in ap P same ∙ last) (cases_lt k n)

-- none below a number is, nor of those behind it
pub none_on : (P : ℕ → Bool) (from to : ℕ) → ((k : ℕ) → k < from → P k ≡ false) → ((k : ℕ) → from ≤ k → k < to → P k ≡ false) → (k : ℕ) → k < to → P k ≡ false
none_on P from to before behind k less = ⊎_elim (λ h. before k h) (λ h. behind k h less) (cases_lt k from)
