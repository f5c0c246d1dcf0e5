-- What is appended, step by step.
use Rattle.std.proofs.Common.{◌≡◌, ℕ, ◌+◌, ◌<◌, List, [], ◌∷◌, ◌++◌, length, get_or, drop, map, ap, sym, ◌∙◌, subst, append_assoc, append-nil}
use Rattle.cx_text.proofs.ListLaws.{drop_item}
use Rattle.cx_velab.specs.Added.{Paired, Adds}

module _ {A B : Type 0} (R : A → B → Type 0) where
  paired_append : (xs us : List A) (ys vs : List B) → Paired R xs ys → Paired R us vs → Paired R (xs ++ us) (ys ++ vs)
  paired_append [] us [] vs h k = k
  paired_append (x ∷ xs) us (y ∷ ys) vs h k = (h.0, paired_append xs us ys vs h.1 k)
  paired_append [] us (y ∷ ys) vs h k = absurd h
  paired_append (x ∷ xs) us [] vs h k = absurd h

  -- nothing is added
  pub adds_none : (old : List A) → Adds R old old []
  adds_none old = ([], sym (append-nil old), tt)

  -- one element is added
  pub adds_one : (old new : List A) (x : A) (y : B) → new ≡ old ++ x ∷ [] → R x y → Adds R old new (y ∷ [])
  adds_one old new x y pushed is = (x ∷ [], pushed, (is, tt))

  -- elements are added twice
  pub adds_both : (old mid new : List A) (ys vs : List B) → Adds R old mid ys → Adds R mid new vs → Adds R old new (ys ++ vs)
  adds_both old mid new ys vs a b = (
    a.0 ++ b.0,
    b.1 ∙ ap (λ l. l ++ b.0) a.1 ∙ append_assoc old a.0 b.0,
    paired_append a.0 b.0 ys vs a.2 b.2,
  )

  -- the same, where what they are added for is known by another list
  pub adds_as : (old new : List A) (ys vs : List B) → ys ≡ vs → Adds R old new ys → Adds R old new vs
  adds_as old new ys vs e a = subst (λ l. Adds R old new l) e a

-- some were added so far, and the rest is left
module _ {A B : Type 0} (R : A → B → Type 0) where
  abbrev pub Done : List A → List A → List B → List B → Type 0
  Done old mid rest whole = (done : List B) × Adds R old mid done × (done ++ rest ≡ whole)

  pub done_more : (old mid new : List A) (ys all rest whole : List B) → Done old mid all whole → Adds R mid new ys → all ≡ ys ++ rest → Done old new rest whole
  done_more old mid new ys all rest whole d a e =
      (d.0 ++ ys, adds_both R old mid new d.0 ys d.1 a, append_assoc d.0 ys rest ∙ ap (λ l. d.0 ++ l) (sym e) ∙ d.2)

-- the elements from one on, by what they stand for
pub rest_at : {A B : Type 0} (f : A → B) (xs : List A) (i : ℕ) (x : A) → i < length xs → x ≡ get_or xs i x → map f (drop i xs) ≡ f x ∷ map f (drop (i + 1) xs)
rest_at f xs i x lt at = ap (map f) (drop_item xs i x at lt)
