-- Elements of lists by their places.
use Rattle.std.proofs.Common.{◌≡◌, ℕ, zero, suc, ◌⊎◌, inl, inr, ⊎_elim, List, [], ◌∷◌, Some, All, map, slice_get, refl, ap, ◌∙◌, subst}
use Rattle.std.proofs.lemmas.Bool.{cases_eq}
use Rattle.std.proofs.lemmas.List.Elements.{All-nil, All-cons, All-get_or}
use Rattle.std.proofs.lemmas.Option.{same_Some, slice_get_within, get_or_from_slice_get}

-- two lists that two functions make the same
pub mapped_at : {A B C : Type 0} (f : A → C) (g : B → C) (xs : List A) (ys : List B) (k : ℕ) (y : B) → map f xs ≡ map g ys → slice_get ys k ≡ Some y
    → (x : A) × (slice_get xs k ≡ Some x) × (f x ≡ g y)
mapped_at f g xs [] k y same at = absurd (cc)
mapped_at f g [] (z ∷ ys) k y same at = absurd (cc)
mapped_at f g (x ∷ xs) (z ∷ ys) zero y same at =
    let first : f x ≡ g z = cc in
    let here : z ≡ y = same_Some z y at in
    (x, refl, first ∙ ap g here)
mapped_at f g (x ∷ xs) (z ∷ ys) (suc k) y same at =
    let rest : map f xs ≡ map g ys = cc in
    mapped_at f g xs ys k y rest at

pub all_at : {A : Type 0} (P : A → Type 0) (xs : List A) (k : ℕ) (x : A) → All P xs → slice_get xs k ≡ Some x → P x
all_at P xs k x all at = subst P (get_or_from_slice_get xs k x x at) (All-get_or P xs k x (slice_get_within xs k x at) all)

pub all_from_at : {A : Type 0} (P : A → Type 0) (xs : List A) → ((k : ℕ) (x : A) → slice_get xs k ≡ Some x → P x) → All P xs
all_from_at P [] each = All-nil P
all_from_at P (x ∷ xs) each = All-cons P x xs (each zero x refl) (all_from_at P xs (λ k y at. each (suc k) y at))

-- a number stands in a list, or at no place of it
pub found_or_not : (ns : List ℕ) (f : ℕ) → ((k : ℕ) × (slice_get ns k ≡ Some f)) ⊎ ((k : ℕ) → slice_get ns k ≡ Some f → ⊥)
found_or_not [] f = inr (λ k at. cc)
found_or_not (n ∷ ns) f = ⊎_elim
    (λ same. inl (zero, ap Some same))
    (λ other. ⊎_elim (λ later. inl (suc later.0, later.1)) (λ none. inr (nowhere other none)) (found_or_not ns f))
    (cases_eq n f)
  where
    nowhere : (n ≡ f → ⊥) → ((k : ℕ) → slice_get ns k ≡ Some f → ⊥) → (k : ℕ) → slice_get (n ∷ ns) k ≡ Some f → ⊥
    nowhere other none zero at = other (same_Some n f at)
    nowhere other none (suc k) at = none k at
