-- Members of lists by their places, and lists that are written to.
use Rattle.std.proofs.Common.{◌≡◌, ℕ, zero, suc, ◌<◌, ◌≤◌, inl, inr, ◌⊎◌, ⊎_elim, List, [], ◌∷◌, ◌++◌, length, replicate, Some, refl, sym, ap, arith}
use Rattle.std.specs.List.{slice_get}
use Rattle.std.proofs.lemmas.Bool.{cases_lt}
use Rattle.cx_text.proofs.MemberLaws.{in_either}
use Rattle.cx_text.specs.Members.{In}
use Rattle.cx_rules.proofs.Finite.{Distinct, distinct_few}
use Rattle.cx_text.proofs.OptionLaws.{none_is_some}

pub slice_get-replicate : {A : Type 0} (n i : ℕ) (x y : A) → slice_get (replicate n x) i ≡ Some y → x ≡ y
slice_get-replicate zero i x y e = absurd (none_is_some y e)
slice_get-replicate (suc n) zero x y e = let f : Some x ≡ Some y = e in cc
slice_get-replicate (suc n) (suc i) x y e = slice_get-replicate n i x y e

-- of a list with one more at its end
pub in_snoc : {A : Type 0} (xs : List A) (x y : A) → In (xs ++ y ∷ []) x → In xs x ⊎ (y ≡ x)
in_snoc [] x y (inl e) = inr e
in_snoc [] x y (inr h) = absurd h
in_snoc (z ∷ xs) x y (inl e) = inl (inl e)
in_snoc (z ∷ xs) x y (inr h) = more (in_snoc xs x y h)
  where
    more : In xs x ⊎ (y ≡ x) → In (z ∷ xs) x ⊎ (y ≡ x)
    more (inl i) = inl (inr i)
    more (inr e) = inr e

pub snoc_place : {A : Type 0} (xs : List A) (y : A) (i : ℕ) (x : A) → slice_get (xs ++ y ∷ []) i ≡ Some x → (slice_get xs i ≡ Some x) ⊎ ((i ≡ length xs) × (y ≡ x))
snoc_place [] y zero x e = inr (refl, (let f : Some y ≡ Some x = e in cc))
snoc_place [] y (suc i) x e = absurd (none_is_some x e)
snoc_place (z ∷ xs) y zero x e = inl e
snoc_place (z ∷ xs) y (suc i) x e = more (snoc_place xs y i x e)
  where
    more : (slice_get xs i ≡ Some x) ⊎ ((i ≡ length xs) × (y ≡ x)) → (slice_get xs i ≡ Some x) ⊎ ((suc i ≡ suc (length xs)) × (y ≡ x))
    more (inl f) = inl f
    more (inr (a, b)) = inr (ap suc a, b)

pub distinct_snoc : {A : Type 0} (xs : List A) (x : A) → Distinct xs → (In xs x → ⊥) → Distinct (xs ++ x ∷ [])
distinct_snoc [] x d n = ((λ h. h), tt)
distinct_snoc (y ∷ xs) x (apart, d) n = (out, distinct_snoc xs x d (λ h. n (inr h)))
  where
    other : In xs y ⊎ (x ≡ y) → ⊥
    other (inl i) = apart i
    other (inr e) = n (inl (sym e))

    out : In (xs ++ x ∷ []) y → ⊥
    out h = other (in_snoc xs y x h)

pub distinct_append : {A : Type 0} (xs ys : List A) → Distinct xs → Distinct ys → ((x : A) → In xs x → In ys x → ⊥) → Distinct (xs ++ ys)
distinct_append [] ys dx dy n = dy
distinct_append (x ∷ xs) ys (apart, dx) dy n = (out, distinct_append xs ys dx dy (λ y i j. n y (inr i) j))
  where
    either : In xs x ⊎ In ys x → ⊥
    either (inl i) = apart i
    either (inr j) = n x (inl refl) j

    out : In (xs ++ ys) x → ⊥
    out h = either (in_either xs ys x h)

-- the numbers below one
abbrev below : ℕ → List ℕ
below zero = []
below (suc n) = n ∷ below n

below_count : (n : ℕ) → length (below n) ≡ n
below_count zero = refl
below_count (suc n) = ap suc (below_count n)

last_or_below : (n k : ℕ) → k < suc n → (k < n) ⊎ (n ≡ k)
last_or_below n k h = either (cases_lt k n)
  where
    either : (k < n) ⊎ (n ≤ k) → (k < n) ⊎ (n ≡ k)
    either (inl lt) = inl lt
    either (inr ge) = inr (omega arith)

in_below : (n k : ℕ) → k < n → In (below n) k
in_below zero k h = absurd (omega arith)
in_below (suc n) k h = ⊎_elim (λ (lt : k < n). inr (in_below n k lt)) (λ (e : n ≡ k). inl e) (last_or_below n k h)

-- numbers below n that are all different are at most n
pub few_below : (xs : List ℕ) (n : ℕ) → Distinct xs → ((k : ℕ) → In xs k → k < n) → length xs ≤ n
few_below xs n d h =
    let few : length xs ≤ length (below n) = distinct_few xs (below n) d (λ k i. in_below n k (h k i)) in
    let count : length (below n) ≡ n = below_count n in
    omega arith
