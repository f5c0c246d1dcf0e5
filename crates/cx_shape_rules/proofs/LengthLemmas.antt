-- Lengths that stop, and measures by number.
use Rattle.std.proofs.Common.{◌≡◌, ◌+◌, ◌-◌, ◌*◌, ◌^◌, ◌<◌, ◌≤◌, ℕ, zero, suc, min, List, [], ◌∷◌, ◌++◌, Option, length, map, get_or, ⊎_elim, sym, ap, ◌∙◌, subst, arith, append_assoc}
use Rattle.cx_meaning.specs.Designs.{PlainComponent, PlainStatement, Placed, StaticRepeat, form_of}
use Rattle.cx_rules.specs.Items.{Context, InStatic}
use Rattle.cx_rules.specs.Invokes.{form_lasts}
use Rattle.cx_shape_rules.specs.declared.measures.Measure.{Measure}
use Rattle.cx_shape_rules.specs.Measures.{measure_in}
use Rattle.std.proofs.Math.ListN.{set}
use Rattle.std.proofs.Math.Seq.{set-append_seam}
use Rattle.std.proofs.Math.Nat.{suc-mul}
use Rattle.std.proofs.lemmas.Bool.{cases_lt}
use Rattle.std.proofs.lemmas.List.{get_or-map, length-map, map-append}

grown : (n l k : ℕ) → k ≤ l → k ≤ suc n * l
grown n l k h = let e : suc n * l ≡ n * l + l = suc-mul n l in omega arith

product_capped : (n l k : ℕ) → min (n * min l k) k ≡ min (n * l) k
product_capped zero l k = omega arith
product_capped (suc n) l k = ⊎_elim small large (cases_lt l k)
  where
    small : l < k → min (suc n * min l k) k ≡ min (suc n * l) k
    small h = let e : min l k ≡ l = omega arith in ap (λ x. min (suc n * x) k) e

    large : k ≤ l → min (suc n * min l k) k ≡ min (suc n * l) k
    large h =
        let e : min l k ≡ k = omega arith in
        let a : k ≤ suc n * k = grown n k k (omega arith) in
        let b : k ≤ suc n * l = grown n l k h in
        let f : min (suc n * k) k ≡ min (suc n * l) k = omega arith in
        ap (λ x. min (suc n * x) k) e ∙ f

-- a length that stops, so many times
pub capped_product : (n l : ℕ) → min (n * min l (2 ^ 128 - 1)) (2 ^ 128 - 1) ≡ min (n * l) (2 ^ 128 - 1)
capped_product n l = product_capped n l (2 ^ 128 - 1)

-- what is written at the place that was kept for it
pub placed : {A : Type 0} (old pushed after rest : List A) (x y : A) (n : ℕ) → pushed ≡ old ++ x ∷ [] → after ≡ pushed ++ rest → n ≡ length old
    → set after n y ≡ old ++ y ∷ rest
placed old pushed after rest x y n e f g =
    ap (λ l. set l n y) (f ∙ ap (λ l. l ++ rest) e ∙ append_assoc old (x ∷ []) rest)
    ∙ ap (λ m. set (old ++ x ∷ rest) m y) g
    ∙ set-append_seam old x rest y

-- of two lists by the same numbers
pub at_both : {X A M : Type 0} (view : X → A) (f : A → M) (xs : List X) (ms : List M) (n : ℕ) (x : X) (m : M) → ms ≡ map f (map view xs) → n < length xs
    → x ≡ get_or xs n x → m ≡ get_or ms n m → m ≡ f (view x)
at_both view f xs ms n x m e h at mine =
    let there : n < length (map view xs) = subst (λ l. n < l) (sym (length-map xs view)) h in
    mine
    ∙ ap (λ l. get_or l n m) e
    ∙ get_or-map f (map view xs) n (view x) m there
    ∙ ap f (get_or-map view xs n x (view x) h ∙ ap view (sym at))

-- two statements' measures are added
pub two_more : {A B : Type 0} (f : A → B) (old mid new : List B) (xs ys : List A) → mid ≡ old ++ map f xs → new ≡ mid ++ map f ys → new ≡ old ++ map f (xs ++ ys)
two_more f old mid new xs ys e g =
    g ∙ ap (λ l. l ++ map f ys) e ∙ append_assoc old (map f xs) (map f ys) ∙ ap (λ l. old ++ l) (sym (map-append f xs ys))

-- the measure of a repeat is that of its body, so many times
pub repeated : (part : PlainComponent) (context : Context) (length : Option ℕ) (count cycles : ℕ) (body : PlainStatement) (m : Measure)
    → m ≡ measure_in part InStatic (form_of body) → cycles ≡ min (count * m.cycles) (2 ^ 128 - 1)
    → record { has_length = m.has_length; cycles = cycles } ≡ measure_in part context (StaticRepeat length count body)
repeated part context length count cycles (Placed form place) m e f =
    let inner = measure_in part InStatic form in
    let same : cycles ≡ (measure_in part context (StaticRepeat length count (Placed form place))).cycles =
    f ∙ ap (λ x. min (count * x.cycles) (2 ^ 128 - 1)) e ∙ capped_product count (form_lasts part form) in
    ap (λ x. record { has_length = x.has_length; cycles = cycles }) e ∙ ap (λ n. record { has_length = inner.has_length; cycles = n }) same
