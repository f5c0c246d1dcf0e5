-- Facts of what stands in a list, and of what holds of each that does.
use Rattle.std.proofs.Common.{◌≡◌, ℕ, zero, suc, List, [], ◌∷◌, ◌++◌, Some, map, slice_get, ◌⊎◌, inl, inr, ⊎_elim, refl, sym, ap, subst}
use Rattle.std.specs.Prelude.{flat_map}
use Rattle.cx_text.specs.Members.{In, Each}
use Rattle.cx_text.proofs.ListLaws.{both_none}

pub in_left : {A : Type 0} (xs ys : List A) (x : A) → In xs x → In (xs ++ ys) x
in_left [] ys x i = absurd i
in_left (z ∷ xs) ys x (inl e) = inl e
in_left (z ∷ xs) ys x (inr i) = inr (in_left xs ys x i)

pub in_right : {A : Type 0} (xs ys : List A) (x : A) → In ys x → In (xs ++ ys) x
in_right [] ys x i = i
in_right (z ∷ xs) ys x i = inr (in_right xs ys x i)

pub in_either : {A : Type 0} (xs ys : List A) (x : A) → In (xs ++ ys) x → In xs x ⊎ In ys x
in_either [] ys x i = inr i
in_either (y ∷ xs) ys x (inl e) = inl (inl e)
in_either (y ∷ xs) ys x (inr i) = ⊎_elim (λ p. inl (inr p)) (λ q. inr q) (in_either xs ys x i)

pub of_joined : {A B : Type 0} (xs ys : List A) (x : A) → In (xs ++ ys) x → (In xs x → B) → (In ys x → B) → B
of_joined [] ys x i f g = g i
of_joined (z ∷ xs) ys x (inl e) f g = f (inl e)
of_joined (z ∷ xs) ys x (inr i) f g = of_joined xs ys x i (λ j. f (inr j)) g

pub in_at : {A : Type 0} (xs : List A) (n : ℕ) (x : A) → slice_get xs n ≡ Some x → In xs x
in_at [] n x e = absurd cc
in_at (y ∷ xs) zero x e = inl cc
in_at (y ∷ xs) (suc n) x e = inr (in_at xs n x e)

pub number_in : {A : Type 0} (xs : List A) (x : A) → In xs x → (i : ℕ) × (slice_get xs i ≡ Some x)
number_in [] x h = absurd h
number_in (y ∷ xs) x (inl e) = (zero, ap (λ z. Some z) e)
number_in (y ∷ xs) x (inr h) = let r : (i : ℕ) × (slice_get xs i ≡ Some x) = number_in xs x h in (suc r.0, r.1)

-- what stands among the images of a list
pub image_in : {A B : Type 0} (f : A → B) (list : List A) (y : B) → In (map f list) y → (x : A) × In list x × (f x ≡ y)
image_in f [] y i = absurd i
image_in f (x ∷ rest) y (inl e) = (x, inl refl, e)
image_in f (x ∷ rest) y (inr i) = let r = image_in f rest y i in (r.0, inr r.1, r.2)

pub in_image : {A B : Type 0} (f : A → B) (xs : List A) (x : A) → In xs x → In (map f xs) (f x)
in_image f [] x i = absurd i
in_image f (y ∷ ys) x (inl e) = inl (ap f e)
in_image f (y ∷ ys) x (inr i) = inr (in_image f ys x i)

-- what stands in one list of many
pub flat_in : {A B : Type 0} (each : A → List B) (xs : List A) (y : B) → In (flat_map each xs) y → (x : A) × In xs x × In (each x) y
flat_in each [] y i = absurd i
flat_in each (x ∷ xs) y i = ⊎_elim (λ j. (x, inl refl, j)) (λ j. let r = flat_in each xs y j in (r.0, inr r.1, r.2)) (in_either (each x) (flat_map each xs) y i)

pub in_flat : {A B : Type 0} (f : A → List B) (xs : List A) (x : A) (b : B) → In xs x → In (f x) b → In (flat_map f xs) b
in_flat f [] x b i j = absurd i
in_flat f (y ∷ xs) x b (inl e) j = in_left (f y) (flat_map f xs) b (subst (λ v. In (f v) b) (sym e) j)
in_flat f (y ∷ xs) x b (inr i) j = in_right (f y) (flat_map f xs) b (in_flat f xs x b i j)

pub flat_is_none : {A B : Type 0} (f : A → List B) (xs : List A) → ((x : A) → In xs x → f x ≡ []) → flat_map f xs ≡ []
flat_is_none f [] h = refl
flat_is_none f (x ∷ xs) h = both_none (f x) (flat_map f xs) (h x (inl refl)) (flat_is_none f xs (λ y i. h y (inr i)))

pub each_in : {A : Type 0} (P : A → Type 0) (xs : List A) (x : A) → Each P xs → In xs x → P x
each_in P [] x h i = absurd i
each_in P (y ∷ xs) x h (inl e) = subst P e h.0
each_in P (y ∷ xs) x h (inr i) = each_in P xs x h.1 i

pub each_append : {A : Type 0} (P : A → Type 0) (xs ys : List A) → Each P xs → Each P ys → Each P (xs ++ ys)
each_append P [] ys h k = k
each_append P (x ∷ xs) ys h k = (h.0, each_append P xs ys h.1 k)
