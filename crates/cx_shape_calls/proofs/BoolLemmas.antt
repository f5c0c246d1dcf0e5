-- Tests of lists and of numbers, and the elements that they tell of.
use Rattle.std.proofs.Common.{◌≡◌, ◌≢◌, ℕ, suc, Bool, true, false, ◌&&◌, ◌||◌, nat_eq, List, [], ◌∷◌, length, filter, cond, inl, inr, refl, sym, ap, ◌∙◌, subst, arith, tests, true≢false}
use Rattle.std.specs.List.{list_any}
use Rattle.cx_text.specs.Members.{In}
use Rattle.cx_text.proofs.BoolLaws.{or_right, or_left}

pub not_same : (x y : ℕ) → nat_eq x y ≡ false → x ≢ y
not_same x y h = grind (arith, tests)

pub other_than : (x y : ℕ) → x ≢ y → nat_eq x y ≡ false
other_than x y h = grind (arith, tests)

pub grouped : (a b c : Bool) → (a && b) && c ≡ a && (b && c)
grouped true b c = refl
grouped false b c = refl

module _ {A : Type 0} (test : A → Bool) where
  pub any_in : (xs : List A) → list_any test xs ≡ true → (x : A) × In xs x × (test x ≡ true)
  any_in [] h = absurd (true≢false (sym h))
  any_in (x ∷ xs) h = choice (test x) refl (λ e. any_in xs e) h
    where
      choice : (b : Bool) → test x ≡ b → (list_any test xs ≡ true → (y : A) × In xs y × (test y ≡ true)) → b || list_any test xs ≡ true → (y : A) × In (x ∷ xs) y × (test y ≡ true)
      choice true e f h = (x, inl refl, e)
      choice false e f h = let r = f h in (r.0, inr r.1, r.2)

  pub any_has : (xs : List A) (x : A) → In xs x → test x ≡ true → list_any test xs ≡ true
  any_has [] x i e = absurd i
  any_has (y ∷ xs) x (inl s) e = or_left (test y) (list_any test xs) (ap test s ∙ e)
  any_has (y ∷ xs) x (inr j) e = or_right (test y) (list_any test xs) (any_has xs x j e)

  pub in_filter : (xs : List A) (x : A) → In xs x → test x ≡ true → In (filter test xs) x
  in_filter [] x i e = absurd i
  in_filter (y ∷ xs) x (inl s) e = subst (λ b. In (cond b (y ∷ filter test xs) (filter test xs)) x) (sym (ap test s ∙ e)) (inl s)
  in_filter (y ∷ xs) x (inr j) e = choice (test y) (in_filter xs x j e)
    where
      choice : (b : Bool) → In (filter test xs) x → In (cond b (y ∷ filter test xs) (filter test xs)) x
      choice true i = inr i
      choice false i = i

more_than_one : (n : ℕ) → nat_eq (suc (suc n)) 1 ≡ false
more_than_one n = grind (arith, tests)

-- what fails at two or more, at a list that has this element
pub lone : {A : Type 0} (f : List A → Bool) → ((x y : A) (rest : List A) → f (x ∷ y ∷ rest) ≡ false) → (xs : List A) (a : A) → In xs a → f xs ≡ nat_eq (length xs) 1 && f (a ∷ [])
lone f h [] a i = absurd i
lone f h (x ∷ []) a (inl s) = ap (λ v. f (v ∷ [])) s
lone f h (x ∷ []) a (inr j) = absurd j
lone f h (x ∷ y ∷ rest) a i = h x y rest ∙ ap (λ b. b && f (a ∷ [])) (sym (more_than_one (length rest)))
