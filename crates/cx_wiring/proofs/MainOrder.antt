-- In the net of a design main comes last: each other component is lower, and none stands twice.
use Rattle.std.proofs.Common.{◌≡◌, ◌⊎◌, inl, inr, ⊎_elim, ℕ, zero, suc, ◌<◌, ◌≤◌, Bool, true, false, cond, if◌then◌else◌, List, [], ◌∷◌, ◌++◌, length, nat_eq, refl, ap, sym, ◌∙◌, subst, arith}
use Rattle.std.specs.Prelude.{filter, flat_map}
use Rattle.std.proofs.lemmas.Bool.Decides.{eqb_tells}
use Rattle.cx_text.proofs.MemberLaws.{of_joined}
use Rattle.cx_meaning.specs.Designs.{PlainDesign}
use Rattle.cx_text.specs.Members.{In}
use Rattle.cx_rules.specs.Wellformed.{IsDesign}
use Rattle.cx_rules.proofs.Finite.{Distinct}
use Rattle.cx_static.specs.Islands.{PlainLowereds}
use Rattle.cx_static.specs.Lowering.{lowered_of}
use Rattle.cx_wiring.specs.Reached.{numbers_from, has_number, place_in, below, reached_from, count, height, reached, order}
use Rattle.cx_wiring.specs.Wiring.{net_of}
use Rattle.cx_wiring.proofs.MainLaws.{Tells, order_main}
use Rattle.cx_wiring.proofs.NumberLemmas.{number_in, in_number}
use Rattle.cx_wiring.proofs.WayLemmas.{count_is, there, net_long}
use Rattle.cx_wiring.proofs.DesignNames.{in_filter}
use Rattle.cx_wiring.proofs.OrderHeights.{in_flat_map, NoneLower, AreOf, Ascends, level, level_of, none_in, levels_none, order_ascends, cell_below, closed, lower, from_main}

-- DISTINCT numbers
from_least : (a n x : ℕ) → In (numbers_from a n) x → a ≤ x
from_least a zero x i = absurd i
from_least a (suc n) x (inl e) = omega (arith, e)
from_least a (suc n) x (inr i) = let h : suc a ≤ x = from_least (suc a) n x i in omega arith

distinct_from : (a n : ℕ) → Distinct (numbers_from a n)
distinct_from a zero = tt
distinct_from a (suc n) = (λ i. absurd (let h : suc a ≤ a = from_least (suc a) n a i in omega arith), distinct_from (suc a) n)

distinct_filter : (p : ℕ → Bool) (xs : List ℕ) → Distinct xs → Distinct (filter p xs)
distinct_filter p [] apart = tt
distinct_filter p (x ∷ xs) apart = one (p x) (distinct_filter p xs apart.1)
  where
    one : (b : Bool) → Distinct (filter p xs) → Distinct (cond b (x ∷ filter p xs) (filter p xs))
    one true later = (λ i. apart.0 (in_filter p xs x i), later)
    one false later = later

distinct_both : (xs ys : List ℕ) → Distinct xs → Distinct ys → ((x : ℕ) → In xs x → In ys x → ⊥) → Distinct (xs ++ ys)
distinct_both [] ys first second apart = second
distinct_both (x ∷ xs) ys first second apart =
    (λ i. of_joined xs ys x i first.0 (λ j. apart x (inl refl) j), distinct_both xs ys first.1 second (λ y i j. apart y (inr i) j))

module _ (d : PlainLowereds) where
  of_height : (h : ℕ) (xs : List ℕ) (x : ℕ) → AreOf d h xs → In xs x → height d x ≡ h
  of_height h [] x are i = absurd i
  of_height h (y ∷ xs) x are (inl e) = ap (height d) (sym e) ∙ are.0
  of_height h (y ∷ xs) x are (inr i) = of_height h xs x are.1 i

  distinct_levels : (a n : ℕ) (ns : List ℕ) → Distinct ns → Distinct (flat_map (λ h. level d h ns) (numbers_from a n))
  distinct_levels a zero ns apart = tt
  distinct_levels a (suc n) ns apart =
      distinct_both (level d a ns) (flat_map (λ h. level d h ns) (numbers_from (suc a) n)) (distinct_filter (λ k. nat_eq (height d k) a) ns apart) (distinct_levels (suc a) n ns apart)
      (λ x i j. let low : height d x ≡ a = of_height a (level d a ns) x (level_of d a ns) i in
      let high : suc a ≤ height d x = none_in d (suc a) (flat_map (λ h. level d h ns) (numbers_from (suc a) n)) x (levels_none d (suc a) n ns) j in
      omega arith)

  pub distinct_order : Distinct (order d)
  distinct_order = distinct_levels 0 (suc (count d)) (reached d) (distinct_filter (λ k. has_number k (reached_from d (count d) d.main)) (numbers_from 0 (count d)) (distinct_from 0 (count d)))

  nothing_behind : (m : ℕ) (rest : List ℕ) → NoneLower d (height d m) rest → (In rest m → ⊥) → ((k : ℕ) → In rest k → (k ≡ m) ⊎ (height d k < height d m)) → length rest ≡ 0
  nothing_behind m [] none apart lower = refl
  nothing_behind m (r ∷ rest) none apart lower =
      absurd (⊎_elim (λ e. apart (inl e)) (λ less. let high : height d m ≤ height d r = none.0 in omega arith) (lower r (inl refl)))

  -- what is higher than all others comes last
  highest_last : (m : ℕ) (ns : List ℕ) → Ascends d ns → Distinct ns → has_number m ns ≡ true → ((k : ℕ) → In ns k → (k ≡ m) ⊎ (height d k < height d m)) → suc (place_in m ns) ≡ length ns
  highest_last m [] asc apart here lower = absurd (never here)
    where
      never : false ≡ true → ⊥
      never e = cc
  highest_last m (n ∷ rest) asc apart here lower = by (eqb_tells m n) (number_in m (n ∷ rest) here) (λ again. highest_last m rest asc.1 apart.1 again (λ k i. lower k (inr i)))
    where
      at_first : m ≡ n → length rest ≡ 0
      at_first e = nothing_behind m rest (subst (λ x. NoneLower d (height d x) rest) (sym e) asc.0) (λ i. apart.0 (subst (In rest) e i)) (λ k i. lower k (inr i))

      by : Tells m n → In (n ∷ rest) m → (has_number m rest ≡ true → suc (place_in m rest) ≡ length rest) → suc (place_in m (n ∷ rest)) ≡ suc (length rest)
      by (inl e) i later = ap (λ b. suc (if b then 0 else (if has_number m rest then suc (place_in m rest) else 0))) e.0 ∙ ap suc (sym (at_first e.1))
      by (inr e) (inl f) later = absurd (e.1 (sym f))
      by (inr e) (inr i) later =
          let again = in_number m rest i in
          ap (λ b. suc (if b then 0 else (if has_number m rest then suc (place_in m rest) else 0))) e.0 ∙ ap (λ b. suc (if b then suc (place_in m rest) else 0)) again ∙ ap suc (later again)

module _ (d : PlainDesign) (rules : IsDesign d) where
  abbrev low : PlainLowereds
  low = lowered_of d

  -- what a component leads to is itself or lower
  lower_from : (n m x : ℕ) → has_number m (order low) ≡ true → In (reached_from low n m) x → (x ≡ m) ⊎ (height low x < height low m)
  lower_from zero m x here (inl e) = inl (sym e)
  lower_from zero m x here (inr none) = absurd none
  lower_from (suc n) m x here (inl e) = inl (sym e)
  lower_from (suc n) m x here (inr i) =
      let r = in_flat_map (reached_from low n) (below low m) x i in
      let own = cell_below d rules m r.0 (there d rules m here) r.1 in
      let less : height low r.0 < height low m = lower d rules m here own.cell r.0 own.stands own.is in
      inr (⊎_elim (λ e. subst (λ y. height low y < height low m) (sym e) less) (λ l. omega arith) (lower_from n r.0 x (closed d rules m here own.cell r.0 own.stands own.is) r.2))

  -- MAIN COMES LAST
  pub main_last : suc (place_in d.main (order low)) ≡ length (net_of low).components
  main_last =
      let here : has_number d.main (order low) ≡ true = order_main low (subst (λ n. d.main < n) (sym (count_is d rules)) rules.main_there) in
      highest_last low d.main (order low) (order_ascends low) (distinct_order low) here
      (λ k i. lower_from (count low) d.main k here (number_in k (reached_from low (count low) d.main) (from_main d rules k (in_number k (order low) i))))
      ∙ sym (net_long d rules)
