-- Lists of breaks: what stands in them, and their first.
use Rattle.std.proofs.Common.{◌≡◌, ◌+◌, ◌-◌, ◌<◌, ◌≤◌, ℕ, zero, suc, List, [], ◌∷◌, ◌++◌, Option, Some, None, map, drop, slice_get, flat_map, ◌⊎◌, inl, inr, ⊎_elim, refl, sym, ap, ◌∙◌, subst, arith, add-one}
use Rattle.cx_text.specs.declared.places.Place.{Place}
use Rattle.cx_text.specs.declared.rules.Rule.{Rule}
use Rattle.cx_text.proofs.MemberLaws.{in_either, in_left, in_right}
use Rattle.cx_text.specs.Members.{In}
use Rattle.cx_text.proofs.OptionLaws.{same_some}
use Rattle.cx_rules.specs.Spots.{Spot}
use Rattle.cx_design_parts.specs.Breaks.{Broken, earlier, first_of}
use Rattle.cx_design_parts.specs.Numbered.{numbered, counted}

pub first_append : (best : Option Broken) (xs ys : List Broken) → first_of best (xs ++ ys) ≡ first_of (first_of best xs) ys
first_append best [] ys = refl
first_append best (x ∷ xs) ys = first_append (earlier best x) xs ys

-- a break by its parts
abbrev pub broken : Rule → Spot → Place → List ℕ → Broken
broken rule spot place name = record { rule = rule; spot = spot; place = place; name = name }

module _ {A : Type 0} (f : ℕ → A → List Broken) where
  pub in_numbered : (n : ℕ) (xs : List A) (m : ℕ) (x : A) (b : Broken) → slice_get xs m ≡ Some x → In (f (n + m) x) b → In (numbered f n xs) b
  in_numbered n [] m x b e i = absurd (cc)
  in_numbered n (y ∷ xs) zero x b e i =
      let same : y ≡ x = same_some y x e in
      let at : n + 0 ≡ n = omega arith in
      in_left (f n y) (numbered f (suc n) xs) b (subst (λ v. In (f n v) b) (sym same) (subst (λ v. In (f v x) b) at i))
  in_numbered n (y ∷ xs) (suc m) x b e i =
      let at : n + suc m ≡ suc n + m = omega arith in
      in_right (f n y) (numbered f (suc n) xs) b (in_numbered (suc n) xs m x b e (subst (λ v. In (f v x) b) at i))

  pub numbered_in : (n : ℕ) (xs : List A) (b : Broken) → In (numbered f n xs) b → (m : ℕ) × (x : A) × (slice_get xs m ≡ Some x) × In (f (n + m) x) b
  numbered_in n [] b i = absurd i
  numbered_in n (y ∷ xs) b i =
      let here : n ≡ n + 0 = omega arith in
      ⊎_elim
      (λ p. (0, y, refl, subst (λ v. In (f v y) b) here p))
      (λ q. let rest = numbered_in (suc n) xs b q in let at : suc n + rest.0 ≡ n + suc rest.0 = omega arith in (suc rest.0, rest.1, rest.2, subst (λ v. In (f v rest.1) b) at rest.3))
      (in_either (f n y) (numbered f (suc n) xs) b i)

-- one more of numbered parts is looked at
pub next_number : {X A : Type 0} (view : X → A) (f : ℕ → A → List Broken) (n : ℕ) (xs : List X) (x : X) (best next rest : Option Broken)
    → drop n xs ≡ x ∷ drop (n + 1) xs → next ≡ first_of best (f n (view x)) → first_of best (numbered f n (map view (drop n xs))) ≡ rest
    → first_of next (numbered f (n + 1) (map view (drop (n + 1) xs))) ≡ rest
next_number view f n xs x best next rest at step so_far =
    let more = map view (drop (n + 1) xs) in
    ap (λ m. first_of next (numbered f m more)) (add-one n)
    ∙ ap (λ b. first_of b (numbered f (suc n) more)) step
    ∙ sym (first_append best (f n (view x)) (numbered f (suc n) more))
    ∙ ap (λ l. first_of best (numbered f n (map view l))) (sym at)
    ∙ so_far

-- BREAKS OF NUMBERS
module _ (f : ℕ → List Broken) where
  in_counted : (n left m : ℕ) (b : Broken) → m < left → In (f (n + m)) b → In (counted f n left) b
  in_counted n zero m b few h = absurd (omega (arith, few))
  in_counted n (suc left) zero b few h = let same : n + 0 ≡ n = omega arith in in_left (f n) (counted f (suc n) left) b (subst (λ v. In (f v) b) same h)
  in_counted n (suc left) (suc m) b few h =
      let same : n + suc m ≡ suc n + m = omega arith in
      in_right (f n) (counted f (suc n) left) b (in_counted (suc n) left m b (omega (arith, few)) (subst (λ v. In (f v) b) same h))

  -- those of all numbers below a count
  pub in_all : (count n : ℕ) (b : Broken) → n < count → In (f n) b → In (counted f 0 count) b
  in_all count n b within h = let same : n ≡ 0 + n = omega arith in in_counted 0 count n b within (subst (λ v. In (f v) b) same h)

  counted_hold : (H : Broken → Type 0) (count n left : ℕ) (b : Broken) → ((m : ℕ) → m < count → In (f m) b → H b) → n + left ≤ count → In (counted f n left) b → H b
  counted_hold H count n zero b holds few h = absurd h
  counted_hold H count n (suc left) b holds few h =
      ⊎_elim (holds n (omega (arith, few))) (counted_hold H count (suc n) left b holds (omega (arith, few))) (in_either (f n) (counted f (suc n) left) b h)

  pub all_hold : (H : Broken → Type 0) (count : ℕ) (b : Broken) → ((m : ℕ) → m < count → In (f m) b → H b) → In (counted f 0 count) b → H b
  all_hold H count b holds h = counted_hold H count 0 count b holds (omega arith) h

  -- one more number is looked at
  pub next_counted : (n count : ℕ) (best next rest : Option Broken) → n < count → next ≡ first_of best (f n) → first_of best (counted f n (count - n)) ≡ rest
      → first_of next (counted f (n + 1) (count - (n + 1))) ≡ rest
  next_counted n count best next rest few step so_far =
      let left = count - (n + 1) in
      let more = counted f (suc n) left in
      let at : count - n ≡ suc left = omega (arith, few) in
      ap (λ m. first_of next (counted f m left)) (add-one n)
      ∙ ap (λ b. first_of b more) step
      ∙ sym (first_append best (f n) more)
      ∙ ap (λ m. first_of best (counted f n m)) (sym at)
      ∙ so_far
