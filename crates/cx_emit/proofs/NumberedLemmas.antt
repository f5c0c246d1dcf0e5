-- What stands in lists that are made element by element.
use Rattle.std.proofs.Common.{◌≡◌, ◌⊎◌, inl, inr, ℕ, zero, suc, ◌+◌, List, [], ◌∷◌, ◌++◌, map, Some, option_map, slice_get, refl, ap, sym, ◌∙◌, subst, arith}
use Rattle.std.specs.List.{flat_map}
use Rattle.std.proofs.lemmas.Option.{slice_get-map}
use Rattle.cx_emit.specs.Numbered.{numbered_from, with_numbers, lists_from}
use Rattle.cx_text.proofs.OptionLaws.{map_some}

-- it stands somewhere in the list
abbrev pub In : {A : Type 0} → A → List A → Type 0
In x xs = (k : ℕ) × (slice_get xs k ≡ Some x)

pub in_left : {A : Type 0} (x : A) (xs ys : List A) → In x xs → In x (xs ++ ys)
in_left x [] ys (k, e) = absurd (cc)
in_left x (y ∷ xs) ys (zero, e) = (zero, e)
in_left x (y ∷ xs) ys (suc k, e) = let r = in_left x xs ys (k, e) in (suc r.0, r.1)

pub in_right : {A : Type 0} (x : A) (xs ys : List A) → In x ys → In x (xs ++ ys)
in_right x [] ys h = h
in_right x (y ∷ xs) ys h = let r = in_right x xs ys h in (suc r.0, r.1)

pub in_either : {A : Type 0} (x : A) (xs ys : List A) → In x (xs ++ ys) → In x xs ⊎ In x ys
in_either x [] ys h = inr h
in_either x (y ∷ xs) ys (zero, e) = inl (zero, e)
in_either x (y ∷ xs) ys (suc k, e) = go (in_either x xs ys (k, e)) where
  go : In x xs ⊎ In x ys → In x (y ∷ xs) ⊎ In x ys
  go (inl h) = inl (suc h.0, h.1)
  go (inr h) = inr h

pub numbered-at : {A B : Type 0} (f : ℕ → A → B) (b : ℕ) (xs : List A) (k : ℕ) → slice_get (numbered_from f b xs) k ≡ option_map (f (b + k)) (slice_get xs k)
numbered-at f b [] k = refl
numbered-at f b (x ∷ xs) zero = let same : b ≡ b + 0 = omega arith in ap (λ n. Some (f n x)) same
numbered-at f b (x ∷ xs) (suc k) = let same : suc b + k ≡ b + suc k = omega arith in numbered-at f (suc b) xs k ∙ ap (λ n. option_map (f n) (slice_get xs k)) same

-- an element with its number
pub numbered-get : {A B : Type 0} (f : ℕ → A → B) (xs : List A) (k : ℕ) → slice_get (with_numbers f xs) k ≡ option_map (f k) (slice_get xs k)
numbered-get f xs k = let same : 0 + k ≡ k = omega arith in numbered-at f 0 xs k ∙ ap (λ n. option_map (f n) (slice_get xs k)) same

pub in_numbered : {A B : Type 0} (f : ℕ → A → B) (xs : List A) (k : ℕ) (x : A) → slice_get xs k ≡ Some x → slice_get (with_numbers f xs) k ≡ Some (f k x)
in_numbered f xs k x e = numbered-get f xs k ∙ ap (option_map (f k)) e

-- what it is an element of
pub numbered_in : {A B : Type 0} (f : ℕ → A → B) (xs : List A) (k : ℕ) (y : B) → slice_get (with_numbers f xs) k ≡ Some y → (x : A) × (slice_get xs k ≡ Some x) × (f k x ≡ y)
numbered_in f xs k y e = map_some (f k) (slice_get xs k) y (sym (numbered-get f xs k) ∙ e)

in_lists_from : {A B : Type 0} (f : ℕ → A → List B) (b : ℕ) (xs : List A) (k : ℕ) (x : A) (y : B) → slice_get xs k ≡ Some x → In y (f (b + k) x) → In y (lists_from f b xs)
in_lists_from f b [] k x y e h = absurd (cc)
in_lists_from f b (z ∷ xs) zero x y e h =
    let same : b + 0 ≡ b = omega arith in
    let is : x ≡ z = cc in
    in_left y (f b z) (lists_from f (suc b) xs) (subst (λ n. In y (f n z)) same (subst (λ a. In y (f (b + 0) a)) is h))
in_lists_from f b (z ∷ xs) (suc k) x y e h =
    let same : b + suc k ≡ suc b + k = omega arith in
    in_right y (f b z) (lists_from f (suc b) xs) (in_lists_from f (suc b) xs k x y e (subst (λ n. In y (f n x)) same h))

-- what an element gives, and what the given is of
pub in_lists : {A B : Type 0} (f : ℕ → A → List B) (xs : List A) (k : ℕ) (x : A) (y : B) → slice_get xs k ≡ Some x → In y (f k x) → In y (lists_from f 0 xs)
in_lists f xs k x y e h = let same : k ≡ 0 + k = omega arith in in_lists_from f 0 xs k x y e (subst (λ n. In y (f n x)) same h)

lists_from_in : {A B : Type 0} (f : ℕ → A → List B) (b : ℕ) (xs : List A) (y : B) → In y (lists_from f b xs) → (k : ℕ) × (x : A) × (slice_get xs k ≡ Some x) × In y (f (b + k) x)
lists_from_in f b [] y h = absurd (let e = h.1 in cc)
lists_from_in f b (z ∷ xs) y h = go (in_either y (f b z) (lists_from f (suc b) xs) h) (lists_from_in f (suc b) xs y) where
  go : In y (f b z) ⊎ In y (lists_from f (suc b) xs) → (In y (lists_from f (suc b) xs) → (k : ℕ) × (x : _) × (slice_get xs k ≡ Some x) × In y (f (suc b + k) x))
      → (k : ℕ) × (x : _) × (slice_get (z ∷ xs) k ≡ Some x) × In y (f (b + k) x)
  go (inl here) later = let same : b ≡ b + 0 = omega arith in (zero, z, refl, subst (λ n. In y (f n z)) same here)
  go (inr there) later =
      let (k, x, e, i) = later there in
      let same : suc b + k ≡ b + suc k = omega arith in
      (suc k, x, e, subst (λ n. In y (f n x)) same i)

pub lists_in : {A B : Type 0} (f : ℕ → A → List B) (xs : List A) (y : B) → In y (lists_from f 0 xs) → (k : ℕ) × (x : A) × (slice_get xs k ≡ Some x) × In y (f k x)
lists_in f xs y h =
    let (k, x, e, i) = lists_from_in f 0 xs y h in
    let same : 0 + k ≡ k = omega arith in
    (k, x, e, subst (λ n. In y (f n x)) same i)

-- and where the number says nothing
pub in_mapped : {A B : Type 0} (f : A → B) (xs : List A) (k : ℕ) (x : A) → slice_get xs k ≡ Some x → slice_get (map f xs) k ≡ Some (f x)
in_mapped f xs k x e = slice_get-map f xs k ∙ ap (option_map f) e

pub in_flat : {A B : Type 0} (f : A → List B) (xs : List A) (k : ℕ) (x : A) (y : B) → slice_get xs k ≡ Some x → In y (f x) → In y (flat_map f xs)
in_flat f [] k x y e h = absurd (cc)
in_flat f (z ∷ xs) zero x y e h = let is : x ≡ z = cc in in_left y (f z) (flat_map f xs) (subst (λ a. In y (f a)) is h)
in_flat f (z ∷ xs) (suc k) x y e h = in_right y (f z) (flat_map f xs) (in_flat f xs k x y e h)

pub flat_in : {A B : Type 0} (f : A → List B) (xs : List A) (y : B) → In y (flat_map f xs) → (k : ℕ) × (x : A) × (slice_get xs k ≡ Some x) × In y (f x)
flat_in f [] y h = absurd (let e = h.1 in cc)
flat_in f (z ∷ xs) y h = go (in_either y (f z) (flat_map f xs) h) (flat_in f xs y) where
  go : In y (f z) ⊎ In y (flat_map f xs) → (In y (flat_map f xs) → (k : ℕ) × (x : _) × (slice_get xs k ≡ Some x) × In y (f x)) → (k : ℕ) × (x : _) × (slice_get (z ∷ xs) k ≡ Some x) × In y (f x)
  go (inl here) later = (zero, z, refl, here)
  go (inr there) later = let (k, x, e, i) = later there in (suc k, x, e, i)
