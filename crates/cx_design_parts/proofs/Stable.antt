-- A stable sort has one answer: the list that is made by placing each element before those that are no earlier.
use Rattle.std.proofs.Common.{◌≡◌, ◌<◌, ◌≤◌, ◌+◌, ℕ, zero, suc, Bool, true, false, ◌&&◌, not, cond, List, [], ◌∷◌, length, get_or, refl, sym, ap, ◌∙◌, subst, arith, true≢false}
use Rattle.std.specs.List.{filter}
use Rattle.std.specs.List.Sorted.{IsSortedBy, IsStableBy, ties}
use Rattle.std.specs.Cmp.{IsStrictWeakOrder}
use Rattle.std.proofs.lemmas.List.Sorted.{sorted_far}
use Rattle.cx_text.proofs.BoolLaws.{from_not, and_left, and_no, false_if, cases_of}

module _ {X : Type 0} (lt : X → X → Bool) where
  abbrev pub placed : X → List X → List X
  placed a [] = a ∷ []
  placed a (b ∷ bs) = cond (not (lt b a)) (a ∷ b ∷ bs) (b ∷ placed a bs)

  abbrev pub in_order : List X → List X
  in_order [] = []
  in_order (a ∷ rest) = placed a (in_order rest)

  abbrev Above : X → List X → Type 0
  Above x [] = Unit {0}
  Above x (y ∷ ys) = (lt y x ≡ false) × Above x ys

  abbrev Up : List X → Type 0
  Up [] = Unit {0}
  Up (x ∷ xs) = Above x xs × Up xs

  above_of : (x : X) (xs : List X) → ((k : ℕ) → k < length xs → lt (get_or xs k x) x ≡ false) → Above x xs
  above_of x [] h = tt
  above_of x (y ∷ ys) h = (h 0 (omega arith), above_of x ys (λ k p. h (suc k) (omega arith)))

  up_of : (xs : List X) → ((i j : ℕ) (d : X) → i ≤ j → j < length xs → lt (get_or xs j d) (get_or xs i d) ≡ false) → Up xs
  up_of [] h = tt
  up_of (x ∷ xs) h = (above_of x xs (λ k p. h 0 (suc k) x (omega arith) (omega arith)), up_of xs (λ i j d p q. h (suc i) (suc j) d (omega arith) (omega arith)))

  kept_both : (p : X → Bool) (a b : X) (u v : Bool) (kept : List X) → (u ≡ true → v ≡ false)
      → cond v (b ∷ cond u (a ∷ kept) kept) (cond u (a ∷ kept) kept) ≡ cond u (a ∷ cond v (b ∷ kept) kept) (cond v (b ∷ kept) kept)
  kept_both p a b true true kept h = absurd (true≢false (h refl))
  kept_both p a b true false kept h = refl
  kept_both p a b false v kept h = refl

  -- what is placed is kept before what was there
  filter_placed : (p : X → Bool) (a : X) (bs : List X) → ((b : X) → lt b a ≡ true → p a ≡ true → p b ≡ false) → filter p (placed a bs) ≡ filter p (a ∷ bs)
  filter_placed p a [] h = refl
  filter_placed p a (b ∷ bs) h = choice (lt b a) refl (filter_placed p a bs h)
    where
      choice : (t : Bool) → lt b a ≡ t → filter p (placed a bs) ≡ filter p (a ∷ bs) → filter p (cond (not t) (a ∷ b ∷ bs) (b ∷ placed a bs)) ≡ filter p (a ∷ b ∷ bs)
      choice false e ih = refl
      choice true e ih = ap (λ l. cond (p b) (b ∷ l) l) ih ∙ kept_both p a b (p a) (p b) (filter p bs) (h b e)

  module _ (o : IsStrictWeakOrder lt) where
    no_less_itself : (x : X) → lt x x ≡ false
    no_less_itself x = false_if (lt x x) (o.one_way x x)

    ties_itself : (x : X) → ties lt x x ≡ true
    ties_itself x = ap (λ b. not b && not b) (no_less_itself x)

    above_chain : (x y : X) (ys : List X) → lt y x ≡ false → Above y ys → Above x ys
    above_chain x y [] e h = tt
    above_chain x y (z ∷ zs) e h = (o.chain z y x h.0 e, above_chain x y zs e h.1)

    above_placed : (x a : X) (bs : List X) → lt a x ≡ false → Above x bs → Above x (placed a bs)
    above_placed x a [] e h = (e, tt)
    above_placed x a (b ∷ bs) e h = choice (lt b a) (above_placed x a bs e h.1)
      where
        choice : (t : Bool) → Above x (placed a bs) → Above x (cond (not t) (a ∷ b ∷ bs) (b ∷ placed a bs))
        choice false ih = (e, h)
        choice true ih = (h.0, ih)

    up_placed : (a : X) (bs : List X) → Up bs → Up (placed a bs)
    up_placed a [] h = (tt, tt)
    up_placed a (b ∷ bs) h = choice (lt b a) refl (up_placed a bs h.1)
      where
        choice : (t : Bool) → lt b a ≡ t → Up (placed a bs) → Up (cond (not t) (a ∷ b ∷ bs) (b ∷ placed a bs))
        choice false e ih = ((e, above_chain a b bs e h.0), h)
        choice true e ih = (above_placed b a bs (o.one_way b a e) h.0, ih)

    up_in_order : (xs : List X) → Up (in_order xs)
    up_in_order [] = tt
    up_in_order (x ∷ xs) = up_placed x (in_order xs) (up_in_order xs)

    -- what is less than one that ties ties no more
    no_tie : (x a b : X) → lt b a ≡ true → ties lt x a ≡ true → ties lt x b ≡ false
    no_tie x a b e h =
        let after : lt x a ≡ false = from_not (lt x a) (and_left (not (lt x a)) (not (lt a x)) h) in
        cases_of (lt b x) (ties lt x b ≡ false)
        (λ t. and_no (not (lt x b)) (not (lt b x)) (ap not t))
        (λ f. absurd (true≢false (sym e ∙ o.chain b x a f after)))

    kept_in_order : (x : X) (xs : List X) → filter (ties lt x) (in_order xs) ≡ filter (ties lt x) xs
    kept_in_order x [] = refl
    kept_in_order x (a ∷ xs) =
        filter_placed (ties lt x) a (in_order xs) (λ b e h. no_tie x a b e h)
        ∙ ap (λ l. cond (ties lt x a) (a ∷ l) l) (kept_in_order x xs)

    abbrev head_or : X → List X → X
    head_or d [] = d
    head_or d (x ∷ xs) = x

    abbrev rest_of : List X → List X
    rest_of [] = []
    rest_of (x ∷ xs) = xs

    -- the first that is kept of what is above z is above z
    first_kept : (p : X → Bool) (z y : X) (l r : List X) → Above z l → filter p l ≡ y ∷ r → lt y z ≡ false
    first_kept p z y [] r h e = absurd (true≢false (ap (λ l. is_some l) (sym e)))
      where
        is_some : List X → Bool
        is_some [] = false
        is_some (x ∷ xs) = true
    first_kept p z y (a ∷ l) r h e = choice (p a) (first_kept p z y l r h.1) e
      where
        choice : (t : Bool) → (filter p l ≡ y ∷ r → lt y z ≡ false) → cond t (a ∷ filter p l) (filter p l) ≡ y ∷ r → lt y z ≡ false
        choice true ih e = subst (λ v. lt v z ≡ false) (ap (head_or a) e) h.0
        choice false ih e = ih e

    tail_kept : (p : X → Bool) (y z : X) (ys zs : List X) → y ≡ z → filter p (y ∷ ys) ≡ filter p (z ∷ zs) → filter p ys ≡ filter p zs
    tail_kept p y z ys zs same e = choice (p z) (ap (λ v. cond (p v) (v ∷ filter p ys) (filter p ys)) (sym same) ∙ e)
      where
        choice : (t : Bool) → cond t (z ∷ filter p ys) (filter p ys) ≡ cond t (z ∷ filter p zs) (filter p zs) → filter p ys ≡ filter p zs
        choice true e = ap rest_of e
        choice false e = e

    -- a list in order is determined by the elements that tie with each element
    one_list : (ys zs : List X) → Up ys → Up zs → ((x : X) → filter (ties lt x) ys ≡ filter (ties lt x) zs) → ys ≡ zs
    one_list [] [] a b h = refl
    one_list [] (z ∷ zs) a b h = absurd (true≢false (sym (ap some_of (h z ∙ ap (λ t. cond t (z ∷ filter (ties lt z) zs) (filter (ties lt z) zs)) (ties_itself z)))))
      where
        some_of : List X → Bool
        some_of [] = false
        some_of (x ∷ xs) = true
    one_list (y ∷ ys) [] a b h = absurd (true≢false (ap some_of (sym (ap (λ t. cond t (y ∷ filter (ties lt y) ys) (filter (ties lt y) ys)) (ties_itself y)) ∙ h y)))
      where
        some_of : List X → Bool
        some_of [] = false
        some_of (x ∷ xs) = true
    one_list (y ∷ ys) (z ∷ zs) a b h =
        let from_y : filter (ties lt y) (y ∷ ys) ≡ y ∷ filter (ties lt y) ys = ap (λ t. cond t (y ∷ filter (ties lt y) ys) (filter (ties lt y) ys)) (ties_itself y) in
        let from_z : filter (ties lt z) (z ∷ zs) ≡ z ∷ filter (ties lt z) zs = ap (λ t. cond t (z ∷ filter (ties lt z) zs) (filter (ties lt z) zs)) (ties_itself z) in
        let y_after : lt y z ≡ false = first_kept (ties lt y) z y (z ∷ zs) (filter (ties lt y) ys) (no_less_itself z, b.0) (sym (h y) ∙ from_y) in
        let z_after : lt z y ≡ false = first_kept (ties lt z) y z (y ∷ ys) (filter (ties lt z) zs) (no_less_itself y, a.0) (h z ∙ from_z) in
        let tie : ties lt y z ≡ true = ap (λ s. not s && not (lt z y)) y_after ∙ ap not z_after in
        let same : y ≡ z = ap (head_or y) (sym from_y ∙ h y ∙ ap (λ t. cond t (z ∷ filter (ties lt y) zs) (filter (ties lt y) zs)) tie) in
        ap (λ v. v ∷ ys) same ∙ ap (λ l. z ∷ l) (one_list ys zs a.1 b.1 (λ x. tail_kept (ties lt x) y z ys zs same (h x)))

    -- a list that a stable sort gives
    pub one_stable : (xs ys : List X) → IsSortedBy lt ys → IsStableBy lt xs ys → ys ≡ in_order xs
    one_stable xs ys sorted stable =
        one_list ys (in_order xs) (up_of ys (sorted_far lt o ys sorted)) (up_in_order xs) (λ x. stable x ∙ sym (kept_in_order x xs))
