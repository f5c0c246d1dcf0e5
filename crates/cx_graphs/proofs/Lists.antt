-- Members and elements of lists, at their ends.
use Rattle.std.proofs.Common.{◌≡◌, ℕ, zero, suc, ◌<◌, List, [], ◌∷◌, ◌++◌, Some, length, slice_get, slice_set, ◌⊎◌, inl, inr, ⊎_elim, refl, sym, ap, ◌∙◌, arith}
use Rattle.cx_text.proofs.MemberLaws.{in_either, in_right}
use Rattle.cx_text.specs.Members.{In}

module _ {A : Type 0} where
  pub some_is : (x y : A) → Some x ≡ Some y → x ≡ y
  some_is x y e = cc

  pub in_last : (xs : List A) (y x : A) → In (xs ++ y ∷ []) x → In xs x ⊎ (y ≡ x)
  in_last xs y x i = ⊎_elim inl (λ j. ⊎_elim inr (λ k. absurd k) j) (in_either xs (y ∷ []) x i)

  pub the_last : (xs : List A) (y : A) → In (xs ++ y ∷ []) y
  the_last xs y = in_right xs (y ∷ []) y (inl refl)

  pub get_left : (xs ys : List A) (i : ℕ) (x : A) → slice_get xs i ≡ Some x → slice_get (xs ++ ys) i ≡ Some x
  get_left [] ys i x e = absurd (cc)
  get_left (z ∷ xs) ys zero x e = e
  get_left (z ∷ xs) ys (suc i) x e = get_left xs ys i x e

  pub get_last : (xs : List A) (y x : A) (i : ℕ) → slice_get (xs ++ y ∷ []) i ≡ Some x → (slice_get xs i ≡ Some x) ⊎ ((i ≡ length xs) × (y ≡ x))
  get_last [] y x zero e = inr (refl, some_is y x e)
  get_last [] y x (suc i) e = absurd (cc)
  get_last (z ∷ xs) y x zero e = inl e
  get_last (z ∷ xs) y x (suc i) e = ⊎_elim inl (λ b. inr (ap suc b.0, b.1)) (get_last xs y x i e)

  pub in_get : (xs : List A) (x : A) → In xs x → (i : ℕ) × (i < length xs) × (slice_get xs i ≡ Some x)
  in_get [] x i = absurd i
  in_get (z ∷ xs) x (inl e) = (0, omega arith, ap Some e)
  in_get (z ∷ xs) x (inr i) = let r = in_get xs x i in (suc r.0, omega (arith, r.1), r.2)

  pub set_here : (xs : List A) (i : ℕ) (x : A) → i < length xs → slice_get (slice_set xs i x) i ≡ Some x
  set_here [] i x h = absurd (omega (arith, h))
  set_here (z ∷ xs) zero x h = refl
  set_here (z ∷ xs) (suc i) x h = set_here xs i x (omega (arith, h))

  pub set_other : (xs : List A) (i n : ℕ) (x y : A) → (i ≡ n → ⊥) → slice_get xs n ≡ Some y → slice_get (slice_set xs i x) n ≡ Some y
  set_other [] i n x y d e = absurd (cc)
  set_other (z ∷ xs) zero zero x y d e = absurd (d refl)
  set_other (z ∷ xs) zero (suc n) x y d e = e
  set_other (z ∷ xs) (suc i) zero x y d e = e
  set_other (z ∷ xs) (suc i) (suc n) x y d e = set_other xs i n x y (λ f. d (ap suc f)) e

  -- what stands there stood there before, or was put there
  pub set_from : (xs : List A) (i n : ℕ) (x y : A) → slice_get (slice_set xs i x) n ≡ Some y → ((i ≡ n) × (x ≡ y)) ⊎ ((slice_get xs n ≡ Some y) × (i ≡ n → ⊥))
  set_from [] i n x y e = absurd (cc)
  set_from (z ∷ xs) zero zero x y e = inl (refl, some_is x y e)
  set_from (z ∷ xs) zero (suc n) x y e = inr (e, λ f. omega (arith, f))
  set_from (z ∷ xs) (suc i) zero x y e = inr (e, λ f. omega (arith, f))
  set_from (z ∷ xs) (suc i) (suc n) x y e = ⊎_elim (λ b. inl (ap suc b.0, b.1)) (λ b. inr (b.0, λ f. b.1 (omega (arith, f)))) (set_from xs i n x y e)

  -- two places with different elements are two
  pub places_differ : (xs : List A) (m n : ℕ) (x y : A) → (x ≡ y → ⊥) → slice_get xs m ≡ Some x → slice_get xs n ≡ Some y → m ≡ n → ⊥
  places_differ xs m n x y d e f same = d (some_is x y (sym e ∙ ap (λ k. slice_get xs k) same ∙ f))
