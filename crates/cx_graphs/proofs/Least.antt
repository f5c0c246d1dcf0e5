-- The least node that several own.
use Rattle.std.proofs.Common.{◌≡◌, ℕ, ◌<◌, ◌≤◌, nat_lt, Bool, true, false, cond, List, [], ◌∷◌, ◌++◌, Option, Some, None, ◌⊎◌, inl, inr, ⊎_elim, refl, sym, ◌∙◌, subst, arith, tests}
use Rattle.cx_text.specs.Members.{In}
use Rattle.cx_graphs.specs.declared.owners.Owners.{Owners}
use Rattle.cx_graphs.specs.declared.owners.Owners.TheVariants.{Nobody, Only, Several}
use Rattle.cx_graphs.specs.Owners.{owners_at, IsSeveral, IsLeast, or_lesser, if_several, lesser}
use Rattle.cx_graphs.proofs.Marks.{in_left, in_right, in_either}

module _ (owners : List Owners) (among : List ℕ) (node : ℕ) where
  abbrev more : List ℕ
  more = among ++ node ∷ []

  abbrev choice : Bool → ℕ → Option ℕ
  choice b m = cond b (Some m) (Some node)

  last_here : In more node
  last_here = in_right among (node ∷ []) node (inl refl)

  either : (n : ℕ) → In more n → In among n ⊎ (node ≡ n)
  either n i = ⊎_elim (λ l. inl l) (λ r. ⊎_elim (λ e. inr e) (λ j. absurd j) r) (in_either among (node ∷ []) n i)

  -- the node is none of those that several own
  not_one : (least : Option ℕ) → (IsSeveral owners node → ⊥) → IsLeast owners among least → IsLeast owners more least
  not_one None h l = λ n i s. ⊎_elim (λ j. l n j s) (λ e. h (subst (IsSeveral owners) (sym e) s)) (either n i)
  not_one (Some m) h l = (in_left among (node ∷ []) m l.0, l.1, λ n i s. ⊎_elim (λ j. l.2 n j s) (λ e. absurd (h (subst (IsSeveral owners) (sym e) s))) (either n i))

  -- it is one of them
  is_one : (least : Option ℕ) → IsSeveral owners node → IsLeast owners among least → IsLeast owners more (or_lesser least node)
  is_one None h l = (last_here, h, λ n i s. ⊎_elim (λ j. absurd (l n j s)) (λ e. omega (arith, e)) (either n i))
  is_one (Some m) h l = by_test (nat_lt m node) refl
    where
      by_test : (b : Bool) → nat_lt m node ≡ b → IsLeast owners more (choice b m)
      by_test true e = (in_left among (node ∷ []) m l.0, l.1, λ n i s. ⊎_elim (λ j. l.2 n j s) (λ x. let lt : m < node = grind (arith, tests) in omega (arith, x, lt)) (either n i))
      by_test false e = (last_here, h, λ n i s. ⊎_elim (λ j. let le : node ≤ m = grind (arith, tests) in let few = l.2 n j s in omega (arith, le, few)) (λ x. omega (arith, x)) (either n i))

  by_owners : (o : Owners) (least : Option ℕ) → owners_at owners node ≡ o → IsLeast owners among least → IsLeast owners more (if_several o (or_lesser least node) least)
  by_owners Nobody least e l = not_one least (λ s. absurd (differ (sym e ∙ s))) l
    where
      differ : Nobody ≡ Several → ⊥
      differ x = cc
  by_owners (Only k) least e l = not_one least (λ s. absurd (differ (sym e ∙ s))) l
    where
      differ : Only k ≡ Several → ⊥
      differ x = cc
  by_owners Several least e l = is_one least e l

  -- one more node is looked at
  pub least_more : (least : Option ℕ) → IsLeast owners among least → IsLeast owners more (lesser owners least node)
  least_more least l = by_owners (owners_at owners node) least refl l
