-- What acts among the assignments of a flat component: lists of them behind each other, those that drive other ports, copies for an invoke.
use Rattle.std.proofs.Common.{◌≡◌, ℕ, suc, ◌+◌, ◌<◌, inl, inr, Bool, true, false, List, [], ◌∷◌, ◌++◌, length, map, Option, Some, None, refl, sym, ap, ◌∙◌, subst, arith}
use Rattle.std.proofs.lemmas.List.{map-append, append_assoc}
use Rattle.cx_meaning.specs.declared.ports.PortRef.{PortRef}
use Rattle.cx_meaning.specs.Designs.{PlainAssign, PlainGroup}
use Rattle.cx_meaning.specs.Active.{Active, owned, owned_by_groups, same_port, acting}
use Rattle.cx_text.specs.Members.{In}
use Rattle.cx_rewrites.specs.Moving.{moved_assign, moved_group, moved_acting}
use Rattle.cx_rules.specs.Counts.{is_one_of, group_if}
use Rattle.cx_flattening.specs.Copies.{copied_group, count_if, enabled_below, enabled_groups}
use Rattle.cx_flattening.specs.Targets.{AllUsed}
use Rattle.cx_flattening.proofs.Sorting.{acting_both}
use Rattle.cx_flattening.proofs.CopiedAssigns.{acting_copied, acting_none, acting_elsewhere}

pub owned-both : (o : Option ℕ) (xs ys : List PlainAssign) → owned o (xs ++ ys) ≡ owned o xs ++ owned o ys
owned-both o [] ys = refl
owned-both o (a ∷ xs) ys = ap (λ l. record { owner = o; assign = a } ∷ l) (owned-both o xs ys)

-- groups behind others have the numbers behind
pub groups-both : (n : ℕ) (xs ys : List PlainGroup) → owned_by_groups n (xs ++ ys) ≡ owned_by_groups n xs ++ owned_by_groups (n + length xs) ys
groups-both n [] ys = ap (λ k. owned_by_groups k ys) (plus n)
  where
    plus : (a : ℕ) → a ≡ a + 0
    plus a = omega arith
groups-both n (x ∷ xs) ys =
    ap (λ l. owned (Some n) x.assigns ++ l) (groups-both (suc n) xs ys ∙ ap (λ k. owned_by_groups (suc n) xs ++ owned_by_groups k ys) (plus n (length xs)))
    ∙ sym (append_assoc (owned (Some n) x.assigns) (owned_by_groups (suc n) xs) (owned_by_groups (n + suc (length xs)) ys))
  where
    plus : (a b : ℕ) → suc a + b ≡ a + suc b
    plus a b = omega arith

module _ (act : Active) (q : PortRef) where
  pub always-two : (xs ys : List PlainAssign) → acting act q (owned None (xs ++ ys)) ≡ acting act q (owned None xs) ++ acting act q (owned None ys)
  always-two xs ys = ap (acting act q) (owned-both None xs ys) ∙ acting_both act q (owned None xs) (owned None ys)

  pub groups-two : (n : ℕ) (xs ys : List PlainGroup) → acting act q (owned_by_groups n (xs ++ ys)) ≡ acting act q (owned_by_groups n xs) ++ acting act q (owned_by_groups (n + length xs) ys)
  groups-two n xs ys = ap (acting act q) (groups-both n xs ys) ∙ acting_both act q (owned_by_groups n xs) (owned_by_groups (n + length xs) ys)

  -- groups that drive other ports
  pub groups_elsewhere : (n : ℕ) (xs : List PlainGroup) → ((x : PlainGroup) (a : PlainAssign) → In xs x → In x.assigns a → same_port a.target q ≡ false) → acting act q (owned_by_groups n xs) ≡ []
  groups_elsewhere n [] apart = refl
  groups_elsewhere n (x ∷ xs) apart =
      acting_both act q (owned (Some n) x.assigns) (owned_by_groups (suc n) xs)
      ∙ ap (λ l. l ++ acting act q (owned_by_groups (suc n) xs)) (acting_elsewhere act q (Some n) x.assigns (λ a i. apart x a (inl refl) i))
      ∙ groups_elsewhere (suc n) xs (λ y a j i. apart y a (inr j) i)

-- groups whose ports are moved, at the offsets that they have
module _ (f : PortRef → PortRef) (act more : Active) (p q : PortRef) where
  pub groups_moved : (n : ℕ) (xs : List PlainGroup) → ((m : ℕ) → m < length xs → more.offset (n + m) ≡ act.offset (n + m))
      → ((x : PlainGroup) (a : PlainAssign) → In xs x → In x.assigns a → same_port (f a.target) q ≡ same_port a.target p)
      → acting more q (owned_by_groups n (map (moved_group f) xs)) ≡ map (moved_acting f) (acting act p (owned_by_groups n xs))
  groups_moved n [] same apart = refl
  groups_moved n (x ∷ xs) same apart =
      acting_both more q (owned (Some n) (map (moved_assign f) x.assigns)) (owned_by_groups (suc n) (map (moved_group f) xs))
      ∙ ap (λ l. l ++ acting more q (owned_by_groups (suc n) (map (moved_group f) xs))) (acting_copied f act more p q (Some n) (Some n) here x.assigns (λ a i. apart x a (inl refl) i))
      ∙ ap (λ l. map (moved_acting f) (acting act p (owned (Some n) x.assigns)) ++ l)
      (groups_moved (suc n) xs (λ m less. subst (λ k. more.offset k ≡ act.offset k) (plus n m) (same (suc m) (omega (arith, less)))) (λ y a j i. apart y a (inr j) i))
      ∙ sym (map-append (moved_acting f) (acting act p (owned (Some n) x.assigns)) (acting act p (owned_by_groups (suc n) xs)))
      ∙ ap (map (moved_acting f)) (sym (acting_both act p (owned (Some n) x.assigns) (owned_by_groups (suc n) xs)))
    where
      plus : (a b : ℕ) → a + suc b ≡ suc a + b
      plus a b = omega arith

      zero_plus : (a : ℕ) → a + 0 ≡ a
      zero_plus a = omega arith

      here : more.offset n ≡ act.offset n
      here = subst (λ k. more.offset k ≡ act.offset k) (zero_plus n) (same 0 (omega arith))

-- COPIES of the groups that are used, from group g of the child on: the copy of a group has the number first + how many are used below it
module _ (f : PortRef → PortRef) (used : List ℕ) (first : ℕ) (more : Active) where
  abbrev pub copies_from : ℕ → List PlainGroup → List PlainGroup
  copies_from g xs = map (copied_group f) (enabled_groups used g xs)

  counted : (g : ℕ) → is_one_of g used ≡ true → suc (first + enabled_below used g) ≡ first + enabled_below used (suc g)
  counted g e = plus first (enabled_below used g) ∙ ap (λ b. first + count_if b (enabled_below used g)) (sym e)
    where
      plus : (a b : ℕ) → suc (a + b) ≡ a + suc b
      plus a b = omega arith

  uncounted : (g : ℕ) → is_one_of g used ≡ false → first + enabled_below used g ≡ first + enabled_below used (suc g)
  uncounted g e = ap (λ b. first + count_if b (enabled_below used g)) (sym e)

  -- they act as the groups do
  pub copies_act : (inner : Active) (p q : PortRef) (g : ℕ) (xs : List PlainGroup)
      → ((h : ℕ) → is_one_of h used ≡ true → more.offset (first + enabled_below used h) ≡ inner.offset h) → ((h : ℕ) → is_one_of h used ≡ false → inner.offset h ≡ None)
      → AllUsed (λ a. same_port (f a.target) q ≡ same_port a.target p) used g xs
      → acting more q (owned_by_groups (first + enabled_below used g) (copies_from g xs)) ≡ map (moved_acting f) (acting inner p (owned_by_groups g xs))
  copies_act inner p q g [] same unused apart = refl
  copies_act inner p q g (x ∷ xs) same unused apart = choice (is_one_of g used) refl (copies_act inner p q (suc g) xs same unused apart.1)
    where
      choice : (b : Bool) → is_one_of g used ≡ b
          → acting more q (owned_by_groups (first + enabled_below used (suc g)) (copies_from (suc g) xs)) ≡ map (moved_acting f) (acting inner p (owned_by_groups (suc g) xs))
          → acting more q (owned_by_groups (first + enabled_below used g) (map (copied_group f) (group_if b x (enabled_groups used (suc g) xs)))) ≡ map (moved_acting f) (acting inner p (owned_by_groups g (x ∷ xs)))
      choice true e ih =
          acting_both more q (owned (Some (first + enabled_below used g)) (map (moved_assign f) x.assigns)) (owned_by_groups (suc (first + enabled_below used g)) (copies_from (suc g) xs))
          ∙ ap (λ l. l ++ acting more q (owned_by_groups (suc (first + enabled_below used g)) (copies_from (suc g) xs)))
          (acting_copied f inner more p q (Some g) (Some (first + enabled_below used g)) (same g e) x.assigns (λ a i. apart.0 e a i))
          ∙ ap (λ l. map (moved_acting f) (acting inner p (owned (Some g) x.assigns)) ++ l) (ap (λ k. acting more q (owned_by_groups k (copies_from (suc g) xs))) (counted g e) ∙ ih)
          ∙ sym (map-append (moved_acting f) (acting inner p (owned (Some g) x.assigns)) (acting inner p (owned_by_groups (suc g) xs)))
          ∙ ap (map (moved_acting f)) (sym (acting_both inner p (owned (Some g) x.assigns) (owned_by_groups (suc g) xs)))
      choice false e ih =
          ap (λ k. acting more q (owned_by_groups k (copies_from (suc g) xs))) (uncounted g e) ∙ ih
          ∙ ap (λ l. map (moved_acting f) (l ++ acting inner p (owned_by_groups (suc g) xs))) (sym (acting_none inner p (Some g) x.assigns (unused g e)))
          ∙ ap (map (moved_acting f)) (sym (acting_both inner p (owned (Some g) x.assigns) (owned_by_groups (suc g) xs)))

  -- they are still
  pub copies_still : (q : PortRef) (g : ℕ) (xs : List PlainGroup) → ((h : ℕ) → is_one_of h used ≡ true → more.offset (first + enabled_below used h) ≡ None)
      → acting more q (owned_by_groups (first + enabled_below used g) (copies_from g xs)) ≡ []
  copies_still q g [] still = refl
  copies_still q g (x ∷ xs) still = choice (is_one_of g used) refl (copies_still q (suc g) xs still)
    where
      choice : (b : Bool) → is_one_of g used ≡ b → acting more q (owned_by_groups (first + enabled_below used (suc g)) (copies_from (suc g) xs)) ≡ []
          → acting more q (owned_by_groups (first + enabled_below used g) (map (copied_group f) (group_if b x (enabled_groups used (suc g) xs)))) ≡ []
      choice true e ih =
          acting_both more q (owned (Some (first + enabled_below used g)) (map (moved_assign f) x.assigns)) (owned_by_groups (suc (first + enabled_below used g)) (copies_from (suc g) xs))
          ∙ ap (λ l. l ++ acting more q (owned_by_groups (suc (first + enabled_below used g)) (copies_from (suc g) xs))) (acting_none more q (Some (first + enabled_below used g)) (map (moved_assign f) x.assigns) (still g e))
          ∙ ap (λ k. acting more q (owned_by_groups k (copies_from (suc g) xs))) (counted g e) ∙ ih
      choice false e ih = ap (λ k. acting more q (owned_by_groups k (copies_from (suc g) xs))) (uncounted g e) ∙ ih
