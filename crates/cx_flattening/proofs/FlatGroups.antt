-- The groups of a flat component by their numbers: the caller's own, and the copies, each as long as the group that it copies.
use Rattle.std.proofs.Common.{◌≡◌, ℕ, zero, suc, ◌+◌, ◌<◌, ◌≤◌, inl, inr, Bool, true, false, ◌||◌, List, [], ◌∷◌, length, map, get_or, Some, nat_eq, refl, sym, ap, ◌∙◌, subst, arith}
use Rattle.std.proofs.lemmas.List.{get_or_append_left, get_or-append-add, get_or-map, length-map}
use Rattle.std.specs.Prelude.{flat_map, take}
use Rattle.std.proofs.lemmas.Bool.{eq-eqb, eqb-true}
use Rattle.std.proofs.lemmas.List.Concat.{get_or-flat_map}
use Rattle.cx_meaning.specs.Designs.{PlainGroup, PlainInvoke, PlainComponent, group_at, no_group}
use Rattle.cx_meaning.specs.Control.{groups_of}
use Rattle.cx_meaning.specs.Islands.{kind_length, group_length}
use Rattle.cx_text.specs.Members.{In}
use Rattle.cx_rewrites.specs.Moving.{moved_group}
use Rattle.cx_flattening.specs.Events.{no_invoke, the_invoke}
use Rattle.cx_rules.specs.Counts.{is_one_of, group_if}
use Rattle.cx_flattening.specs.Copies.{copied_group, count_if, enabled_below, enabled_groups}
use Rattle.cx_flattening.specs.Flattened.{Kids, kid_at, own_port, invoke_port, copies_if, copies, flat_groups, flat_component, copy_of}

-- a number among others
pub in_one_of : (g : ℕ) (list : List ℕ) → In list g → is_one_of g list ≡ true
in_one_of g [] i = absurd i
in_one_of g (x ∷ xs) (inl e) = ap (λ b. b || is_one_of g xs) (eq-eqb g x (sym e))
in_one_of g (x ∷ xs) (inr i) = choice (nat_eq g x) (in_one_of g xs i)
  where
    choice : (b : Bool) → is_one_of g xs ≡ true → (b || is_one_of g xs) ≡ true
    choice true e = refl
    choice false e = e

pub one_of_in : (g : ℕ) (list : List ℕ) → is_one_of g list ≡ true → In list g
one_of_in g [] e = absurd (cc)
one_of_in g (x ∷ xs) e = choice (nat_eq g x) refl e (one_of_in g xs)
  where
    choice : (b : Bool) → nat_eq g x ≡ b → (b || is_one_of g xs) ≡ true → (is_one_of g xs ≡ true → In xs g) → In (x ∷ xs) g
    choice true f h later = inl (sym (eqb-true g x f))
    choice false f h later = inr (later h)

-- how many are enabled below grows
pub enabled_grows : (used : List ℕ) (g n : ℕ) → enabled_below used g ≤ enabled_below used (g + n)
enabled_grows used g zero = subst (λ k. enabled_below used g ≤ enabled_below used k) (plus g) (omega arith)
  where
    plus : (a : ℕ) → a ≡ a + 0
    plus a = omega arith
enabled_grows used g (suc n) = subst (λ k. enabled_below used g ≤ enabled_below used k) (plus g n) (choice (is_one_of (g + n) used) (enabled_grows used g n))
  where
    plus : (a b : ℕ) → suc (a + b) ≡ a + suc b
    plus a b = omega arith

    choice : (b : Bool) → enabled_below used g ≤ enabled_below used (g + n) → enabled_below used g ≤ count_if b (enabled_below used (g + n))
    choice true ih = omega (arith, ih)
    choice false ih = ih

-- the copy of a group among those that are enabled
pub enabled_get : (used : List ℕ) (g : ℕ) (xs : List PlainGroup) (n m : ℕ) → is_one_of (g + n) used ≡ true → n < length xs → enabled_below used g + m ≡ enabled_below used (g + n)
    → (m < length (enabled_groups used g xs)) × (get_or (enabled_groups used g xs) m no_group ≡ get_or xs n no_group)
enabled_get used g [] n m is less e = absurd (omega (arith, less))
enabled_get used g (x ∷ xs) zero m is less e = choice (is_one_of g used) (ap (λ k. is_one_of k used) (plus g) ∙ is) none
  where
    plus : (a : ℕ) → a ≡ a + 0
    plus a = omega arith

    none : m ≡ 0
    none = let same : enabled_below used (g + 0) ≡ enabled_below used g = ap (enabled_below used) (sym (plus g)) in omega (arith, e, same)

    choice : (b : Bool) → b ≡ true → m ≡ 0 → (m < length (group_if b x (enabled_groups used (suc g) xs))) × (get_or (group_if b x (enabled_groups used (suc g) xs)) m no_group ≡ x)
    choice true f z = subst (λ k. (k < length (x ∷ enabled_groups used (suc g) xs)) × (get_or (x ∷ enabled_groups used (suc g) xs) k no_group ≡ x)) (sym z) (omega arith, refl)
    choice false f z = absurd (cc)
enabled_get used g (x ∷ xs) (suc n) m is less e = choice (is_one_of g used) refl (λ k f. enabled_get used (suc g) xs n k (ap (λ h. is_one_of h used) (sym (plus g n)) ∙ is) (omega (arith, less)) f)
  where
    plus : (a b : ℕ) → a + suc b ≡ suc a + b
    plus a b = omega arith

    all : enabled_below used g + m ≡ enabled_below used (suc g + n)
    all = e ∙ ap (enabled_below used) (plus g n)

    choice : (b : Bool) → is_one_of g used ≡ b
        → ((k : ℕ) → enabled_below used (suc g) + k ≡ enabled_below used (suc g + n) → (k < length (enabled_groups used (suc g) xs)) × (get_or (enabled_groups used (suc g) xs) k no_group ≡ get_or xs n no_group))
        → (m < length (group_if b x (enabled_groups used (suc g) xs))) × (get_or (group_if b x (enabled_groups used (suc g) xs)) m no_group ≡ get_or xs n no_group)
    choice false f later = later m (ap (λ b. count_if b (enabled_below used g) + m) f ∙ all)
    choice true f later = positive m all
      where
        here : enabled_below used (suc g) ≡ suc (enabled_below used g)
        here = ap (λ b. count_if b (enabled_below used g)) f

        positive : (k : ℕ) → enabled_below used g + k ≡ enabled_below used (suc g + n) → (k < length (x ∷ enabled_groups used (suc g) xs)) × (get_or (x ∷ enabled_groups used (suc g) xs) k no_group ≡ get_or xs n no_group)
        positive zero h = absurd (let grows = enabled_grows used (suc g) n in let one = here in omega (arith, grows, one, h))
        positive (suc k) h = let r = later k (let one = here in omega (arith, one, h)) in let inside = r.0 in (omega (arith, inside), r.1)

module _ (kids : Kids) (part : PlainComponent) where
  pub copies_flat : (v : PlainInvoke) (kid : PlainComponent) → kid_at kids v.cell ≡ Some kid → copies kids part v ≡ map (copied_group (invoke_port kids part kid v)) (enabled_groups (groups_of kid.control) 0 kid.groups)
  copies_flat v kid e = ap (λ o. copies_if kids part o v) e

  pub own-length : (g : ℕ) → g < length part.groups → group_length (flat_component kids part) g ≡ group_length part g
  own-length g less =
      ap (λ x. kind_length x.kind)
      (get_or_append_left (map (moved_group (own_port kids part)) part.groups) (flat_map (copies kids part) part.invokes) no_group g (let same = length-map part.groups (moved_group (own_port kids part)) in omega (arith, less, same))
      ∙ get_or-map (moved_group (own_port kids part)) part.groups g no_group no_group less)

  -- the group of a copy
  pub copy-is : (j g : ℕ) (kid : PlainComponent) → j < length part.invokes → kid_at kids (the_invoke part j).cell ≡ Some kid → is_one_of g (groups_of kid.control) ≡ true → g < length kid.groups
      → group_at (flat_component kids part) (copy_of kids part kid j g) ≡ copied_group (invoke_port kids part kid (the_invoke part j)) (group_at kid g)
  copy-is j g kid less its used there =
      let move = invoke_port kids part kid (the_invoke part j) in
      let some = copies_flat (the_invoke part j) kid its in
      let r = enabled_get (groups_of kid.control) 0 kid.groups g (enabled_below (groups_of kid.control) g) (ap (λ k. is_one_of k (groups_of kid.control)) (zero_plus g) ∙ used) there (zero_sum (enabled_below (groups_of kid.control) g) ∙ ap (enabled_below (groups_of kid.control)) (sym (zero_plus g))) in
      ap (λ k. get_or (flat_groups kids part) k no_group) (place (length part.groups) (length (flat_map (copies kids part) (take j part.invokes))) (enabled_below (groups_of kid.control) g) (sym (length-map part.groups (moved_group (own_port kids part)))))
      ∙ get_or-append-add (map (moved_group (own_port kids part)) part.groups) (flat_map (copies kids part) part.invokes) (length (flat_map (copies kids part) (take j part.invokes)) + enabled_below (groups_of kid.control) g) no_group
      ∙ get_or-flat_map (copies kids part) part.invokes j (enabled_below (groups_of kid.control) g) no_invoke no_group less
      (let same : length (copies kids part (the_invoke part j)) ≡ length (enabled_groups (groups_of kid.control) 0 kid.groups) = ap length some ∙ length-map (enabled_groups (groups_of kid.control) 0 kid.groups) (copied_group move) in let inside = r.0 in omega (arith, same, inside))
      ∙ ap (λ l. get_or l (enabled_below (groups_of kid.control) g) no_group) some
      ∙ get_or-map (copied_group move) (enabled_groups (groups_of kid.control) 0 kid.groups) (enabled_below (groups_of kid.control) g) no_group no_group r.0
      ∙ ap (copied_group move) r.1
    where
      zero_plus : (a : ℕ) → 0 + a ≡ a
      zero_plus a = omega arith

      zero_sum : (a : ℕ) → 0 + a ≡ a
      zero_sum a = omega arith

      place : (a b c : ℕ) → {d : ℕ} → a ≡ d → a + b + c ≡ d + (b + c)
      place a b c {d} e = omega (arith, e)

  pub copy-length : (j g : ℕ) (kid : PlainComponent) → j < length part.invokes → kid_at kids (the_invoke part j).cell ≡ Some kid → is_one_of g (groups_of kid.control) ≡ true → g < length kid.groups
      → group_length (flat_component kids part) (copy_of kids part kid j g) ≡ group_length kid g
  copy-length j g kid less its used there = ap (λ (x : PlainGroup). kind_length x.kind) (copy-is j g kid less its used there)
