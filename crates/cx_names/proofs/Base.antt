-- What stands in lists, lists of breaks that are empty, and names that are apart.
use Rattle.std.proofs.Common.{◌≡◌, ◌+◌, ◌<◌, arith, ℕ, zero, suc, Bool, true, false, ◌||◌, cond, List, [], ◌∷◌, ◌++◌, Option, Some, None, length, map, flat_map, slice_get, ◌⊎◌, inl, inr, ⊎_elim, refl, sym, ap, ◌∙◌, subst, true≢false}
use Rattle.cx_text.proofs.MemberLaws.{in_at}
use Rattle.cx_text.specs.declared.places.Place.{Place}
use Rattle.cx_text.specs.declared.rules.Rule.{Rule}
use Rattle.cx_text.specs.declared.diagnostics.Diagnostic.{Diagnostic}
use Rattle.cx_text.specs.Members.{In}
use Rattle.cx_rules.specs.Accepted.{comes_before}
use Rattle.cx_numbering.specs.Names.{same_name, is_among}
use Rattle.cx_numbering.specs.NameRules.{tell_if, Named, duplicates, first_break, earlier, key_of}
use Rattle.cx_numbering.proofs.NamesLemmas.{is_among-cons, same_name-refl}

module _ {A : Type 0} where
  pub append_none : (xs ys : List A) → xs ++ ys ≡ [] → (xs ≡ []) × (ys ≡ [])
  append_none [] ys h = (refl, h)
  append_none (x ∷ xs) ys h = absurd cc

module _ {A B : Type 0} where
  pub flat_none : (f : A → List B) (xs : List A) → flat_map f xs ≡ [] → (x : A) → In xs x → f x ≡ []
  flat_none f [] h x i = absurd i
  flat_none f (y ∷ xs) h x (inl e) = ap f (sym e) ∙ (append_none (f y) (flat_map f xs) h).0
  flat_none f (y ∷ xs) h x (inr i) = flat_none f xs (append_none (f y) (flat_map f xs) h).1 x i

pub map_map : {A B C : Type 0} (f : A → B) (g : B → C) (xs : List A) → map g (map f xs) ≡ map (λ x. g (f x)) xs
map_map f g [] = refl
map_map f g (x ∷ xs) = ap (λ ys. g (f x) ∷ ys) (map_map f g xs)

pub map_append : {A B : Type 0} (f : A → B) (xs ys : List A) → map f (xs ++ ys) ≡ map f xs ++ map f ys
map_append f [] ys = refl
map_append f (x ∷ xs) ys = ap (λ zs. f x ∷ zs) (map_append f xs ys)

-- BREAKS that are none
pub tell_none : (b : Bool) (r : Rule) (p : Place) (n : List ℕ) → tell_if b r p n ≡ [] → b ≡ false
tell_none true r p n h = absurd cc
tell_none false r p n h = refl

pub first_none : (ds : List Diagnostic) → first_break ds ≡ None → ds ≡ []
first_none [] h = refl
first_none (d ∷ ds) h = absurd (told (first_break ds) h)
  where
    chosen : (e : Diagnostic) (b : Bool) → cond b (Some e) (Some d) ≡ None → ⊥
    chosen e true h = absurd cc
    chosen e false h = absurd cc

    told : (o : Option Diagnostic) → earlier d o ≡ None → ⊥
    told None h = absurd cc
    told (Some e) h = chosen e (comes_before (key_of e) (key_of d)) h

-- NAMES
pub among_in : (n : List ℕ) (xs : List (List ℕ)) → In xs n → is_among n xs ≡ true
among_in n [] i = absurd i
among_in n (x ∷ xs) (inl e) = is_among-cons n x xs ∙ ap (λ b. b || is_among n xs) (ap (λ y. same_name y n) e ∙ same_name-refl n)
among_in n (x ∷ xs) (inr i) = is_among-cons n x xs ∙ or_true (same_name x n) (is_among n xs) (among_in n xs i)
  where
    or_true : (a b : Bool) → b ≡ true → (a || b) ≡ true
    or_true true b h = refl
    or_true false b h = h

-- no two names of a list are the same
abbrev pub Distinct : List (List ℕ) → Type 0
Distinct [] = Unit {0}
Distinct (x ∷ xs) = (In xs x → ⊥) × Distinct xs

pub distinct_from : (before : List (List ℕ)) (xs : List Named) → duplicates before xs ≡ [] → ((n : List ℕ) → In before n → In (map (λ x. x.name) xs) n → ⊥) × Distinct (map (λ x. x.name) xs)
distinct_from before [] h = ((λ n i j. absurd j), tt)
distinct_from before (x ∷ xs) h =
    let parts = append_none _ (duplicates (x.name ∷ before) xs) h in
    let rest = distinct_from (x.name ∷ before) xs parts.1 in
    let new : is_among x.name before ≡ false = tell_none _ _ _ _ parts.0 in
    ((λ n i j. ⊎_elim (λ e. true≢false (sym (among_in n before i) ∙ ap (λ m. is_among m before) (sym e) ∙ new)) (λ k. rest.0 n (inr i) k) j), ((λ j. rest.0 x.name (inl refl) j), rest.1))

pub apart : (names : List (List ℕ)) → Distinct names → (m n : ℕ) (name : List ℕ) → slice_get names m ≡ Some name → slice_get names n ≡ Some name → m ≡ n
apart [] d m n name p q = absurd cc
apart (x ∷ xs) d zero zero name p q = refl
apart (x ∷ xs) d zero (suc n) name p q = let same : name ≡ x = cc in absurd (d.0 (subst (λ y. In xs y) same (in_at xs n name q)))
apart (x ∷ xs) d (suc m) zero name p q = let same : name ≡ x = cc in absurd (d.0 (subst (λ y. In xs y) same (in_at xs m name p)))
apart (x ∷ xs) d (suc m) (suc n) name p q = ap suc (apart xs d.1 m n name p q)

module _ {A : Type 0} where
  pub some_at : (xs : List A) (n : ℕ) → n < length xs → (x : A) × (slice_get xs n ≡ Some x)
  some_at [] n few = absurd (omega (arith, few))
  some_at (x ∷ xs) zero few = (x, refl)
  some_at (x ∷ xs) (suc n) few = some_at xs n (omega (arith, few))

  pub front_at : (xs ys : List A) (n : ℕ) (x : A) → slice_get xs n ≡ Some x → slice_get (xs ++ ys) n ≡ Some x
  front_at [] ys n x h = absurd cc
  front_at (y ∷ xs) ys zero x h = h
  front_at (y ∷ xs) ys (suc n) x h = front_at xs ys n x h

  pub back_at : (xs ys : List A) (m : ℕ) (y : A) → slice_get ys m ≡ Some y → slice_get (xs ++ ys) (length xs + m) ≡ Some y
  back_at [] ys m y h = subst (λ n. slice_get ys n ≡ Some y) (none m) h
    where
      none : (m : ℕ) → m ≡ 0 + m
      none m = omega arith
  back_at (x ∷ xs) ys m y h = subst (λ n. slice_get (x ∷ (xs ++ ys)) n ≡ Some y) (next (length xs) m) (back_at xs ys m y h)
    where
      next : (a m : ℕ) → suc (a + m) ≡ suc a + m
      next a m = omega arith

  -- an entry of two lists is one of the first or one of the second
  pub at_either : (xs ys : List A) (n : ℕ) (x : A) → slice_get (xs ++ ys) n ≡ Some x → (slice_get xs n ≡ Some x) ⊎ ((m : ℕ) × (n ≡ length xs + m) × (slice_get ys m ≡ Some x))
  at_either [] ys n x h = inr (n, none n, h)
    where
      none : (m : ℕ) → m ≡ 0 + m
      none m = omega arith
  at_either (y ∷ xs) ys zero x h = inl h
  at_either (y ∷ xs) ys (suc n) x h = ⊎_elim (λ l. inl l) (λ r. inr (r.0, next n (length xs) r.0 r.1, r.2)) (at_either xs ys n x h)
    where
      next : (n a m : ℕ) → n ≡ a + m → suc n ≡ suc a + m
      next n a m e = omega (arith, e)
