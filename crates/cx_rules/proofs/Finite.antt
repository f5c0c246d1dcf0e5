-- Lists whose members are all different are no longer than a list that holds their members.
use Rattle.std.proofs.Common.{◌≡◌, suc, ◌≤◌, inl, inr, List, [], ◌∷◌, length, refl, sym, ap, ◌∙◌, subst, arith}
use Rattle.cx_text.specs.Members.{In}

abbrev pub Distinct : {A : Type 0} → List A → Type 0
Distinct [] = Unit {0}
Distinct (v ∷ vs) = (In vs v → ⊥) × Distinct vs

without : {A : Type 0} (xs : List A) (v : A) → In xs v → List A
without [] v i = []
without (x ∷ xs) v (inl e) = xs
without (x ∷ xs) v (inr i) = x ∷ without xs v i

without_length : {A : Type 0} (xs : List A) (v : A) (i : In xs v) → suc (length (without xs v i)) ≡ length xs
unfolding without
without_length [] v i = absurd i
without_length (x ∷ xs) v (inl e) = refl
without_length (x ∷ xs) v (inr i) = ap suc (without_length xs v i)

without_in : {A : Type 0} (xs : List A) (v : A) (i : In xs v) (w : A) → In xs w → (w ≡ v → ⊥) → In (without xs v i) w
unfolding without
without_in [] v i w j n = absurd i
without_in (x ∷ xs) v (inl e) w (inl f) n = absurd (n (sym f ∙ e))
without_in (x ∷ xs) v (inl e) w (inr j) n = j
without_in (x ∷ xs) v (inr i) w (inl f) n = inl f
without_in (x ∷ xs) v (inr i) w (inr j) n = inr (without_in xs v i w j n)

pub distinct_few : {A : Type 0} (vs xs : List A) → Distinct vs → ((v : A) → In vs v → In xs v) → length vs ≤ length xs
distinct_few [] xs d h = omega arith
distinct_few (v ∷ vs) xs (apart, d) h =
    let i = h v (inl refl) in
    let rest : length vs ≤ length (without xs v i) = distinct_few vs (without xs v i) d (λ w j. without_in xs v i w (h w (inr j)) (λ e. apart (subst (λ x. In vs x) e j))) in
    let count : suc (length (without xs v i)) ≡ length xs = without_length xs v i in
    omega arith
