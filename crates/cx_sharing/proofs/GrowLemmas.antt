-- What is kept stays kept, with more that is given to it; and one of a kind that is not given meets what each earlier one keeps.
use Rattle.std.proofs.Common.{◌≡◌, ℕ, zero, suc, ◌+◌, ◌-◌, ◌<◌, ◌≤◌, inl, inr, ◌⊎◌, ⊎_elim, Bool, true, false, ◌||◌, ◌&&◌, List, [], ◌∷◌, length, refl, sym, ap, ◌∙◌, subst, arith}
use Rattle.std.specs.Prelude.{not, nat_eq, if◌then◌else◌}
use Rattle.std.specs.List.{list_all}
use Rattle.std.proofs.lemmas.Bool.{both_ways, eqb-true, eq-eqb, or_cases, or_right}
use Rattle.cx_meaning.specs.Designs.{PlainComponent}
use Rattle.cx_text.specs.Members.{In}
use Rattle.cx_sharing.specs.Uses.{kind_in, is_candidate}
use Rattle.cx_sharing.specs.Meeting.{meet}
use Rattle.cx_sharing.specs.Giving.{Kept, same_kind, takes, give, kept_after, kept_of, is_in, keeper_in, keeper}
use Rattle.cx_sharing.proofs.KeptLemmas.{grown, Disjoint, kept_sound}

-- an entry of a list that is the entry k, with more that is given to it
pub record Later (ks : List Kept) (k : Kept) : Type 0 where
  pub entry : Kept
  pub stands : In ks entry
  pub cell : entry.cell ≡ k.cell
  pub given : (x : ℕ) → is_in x k.given ≡ true → is_in x entry.given ≡ true

itself_later : (ks : List Kept) (k : Kept) → In ks k → Later ks k
itself_later ks k i = record { entry = k; stands = i; cell = refl; given = λ x g. g }

one_more : {ks : List Kept} {k : Kept} (l : Kept) → Later ks k → Later (l ∷ ks) k
one_more l r = record { entry = r.entry; stands = inr r.stands; cell = r.cell; given = r.given }

then_later : {ks : List Kept} {k : Kept} (l : Kept) → l.cell ≡ k.cell → ((x : ℕ) → is_in x k.given ≡ true → is_in x l.given ≡ true) → Later ks l → Later ks k
then_later l same more r = record { entry = r.entry; stands = r.stands; cell = r.cell ∙ same; given = λ x g. r.given x (more x g) }

-- an entry to which a cell is given
pub record Gives (ks : List Kept) (n : ℕ) : Type 0 where
  pub entry : Kept
  pub stands : In ks entry
  pub given : is_in n entry.given ≡ true

module _ (part : PlainComponent) where
  given_now : (n : ℕ) (k : Kept) → is_in n (grown n k).given ≡ true
  given_now n k = ap (λ b. b || is_in n k.given) (eq-eqb n n refl)

  give_later : (n : ℕ) (ks : List Kept) (k : Kept) → In ks k → Later (give part n ks) k
  give_later n [] k i = absurd i
  give_later n (l ∷ ks) k i = by (takes part n l) i (give_later n ks k)
    where
      by : (b : Bool) → In (l ∷ ks) k → (In ks k → Later (give part n ks) k) → Later (if b then grown n l ∷ ks else l ∷ give part n ks) k
      by true (inl e) later = subst (Later (grown n l ∷ ks)) e (record { entry = grown n l; stands = inl refl; cell = refl; given = λ x g. or_right (nat_eq n x) (is_in x l.given) g })
      by true (inr j) later = itself_later (grown n l ∷ ks) k (inr j)
      by false (inl e) later = itself_later (l ∷ give part n ks) k (inl e)
      by false (inr j) later = one_more l (later j)

  kept_later : (n : ℕ) (k : Kept) → In (kept_after part n) k → Later (kept_after part (suc n)) k
  kept_later n k i = by (is_candidate part n)
    where
      by : (b : Bool) → Later (if b then give part n (kept_after part n) else kept_after part n) k
      by true = give_later n (kept_after part n) k i
      by false = itself_later (kept_after part n) k i

  kept_more : (n more : ℕ) (k : Kept) → In (kept_after part n) k → Later (kept_after part (more + n)) k
  kept_more n zero k i = let none : n ≡ 0 + n = omega arith in subst (λ m. Later (kept_after part m) k) none (itself_later (kept_after part n) k i)
  kept_more n (suc more) k i =
      let r = kept_more n more k i in
      let next : suc (more + n) ≡ suc more + n = omega arith in
      subst (λ m. Later (kept_after part m) k) next (then_later r.entry r.cell r.given (kept_later (more + n) r.entry r.stands))

  pub kept_by : (n m : ℕ) (k : Kept) → n ≤ m → In (kept_after part n) k → Later (kept_after part m) k
  kept_by n m k le i = let whole : (m - n) + n ≡ m = omega (arith, le) in subst (λ x. Later (kept_after part x) k) whole (kept_more n (m - n) k i)

  -- giving puts a cell into a new entry, or gives it to one; and gives it, if one takes it
  give_puts : (n : ℕ) (ks : List Kept) → ((k : Kept) × In (give part n ks) k × (k.cell ≡ n)) ⊎ Gives (give part n ks) n
  give_puts n [] = inl (record { cell = n; given = [] }, inl refl, refl)
  give_puts n (l ∷ ks) = by (takes part n l) (give_puts n ks)
    where
      by : (b : Bool) → ((k : Kept) × In (give part n ks) k × (k.cell ≡ n)) ⊎ Gives (give part n ks) n
          → ((k : Kept) × In (if b then grown n l ∷ ks else l ∷ give part n ks) k × (k.cell ≡ n)) ⊎ Gives (if b then grown n l ∷ ks else l ∷ give part n ks) n
      by true h = inr (record { entry = grown n l; stands = inl refl; given = given_now n l })
      by false (inl r) = inl (r.0, inr r.1, r.2)
      by false (inr r) = inr (record { entry = r.entry; stands = inr r.stands; given = r.given })

  give_taken : (n : ℕ) (ks : List Kept) (k : Kept) → In ks k → takes part n k ≡ true → Gives (give part n ks) n
  give_taken n [] k i t = absurd i
  give_taken n (l ∷ ks) k i t = by (takes part n l) refl i (λ j. give_taken n ks k j t)
    where
      by : (b : Bool) → takes part n l ≡ b → In (l ∷ ks) k → (In ks k → Gives (give part n ks) n) → Gives (if b then grown n l ∷ ks else l ∷ give part n ks) n
      by true f j later = record { entry = grown n l; stands = inl refl; given = given_now n l }
      by false f (inl same) later = absurd (both_ways (takes part n l) f (ap (takes part n) same ∙ t))
      by false f (inr j) later = let r = later j in record { entry = r.entry; stands = inr r.stands; given = r.given }

  -- who is given is kept by the cell of the entry
  keeps_given : (ks : List Kept) → Disjoint part ks → (k : Kept) (x : ℕ) → In ks k → is_in x k.given ≡ true → keeper_in ks x ≡ k.cell
  keeps_given [] d k x i g = absurd i
  keeps_given (l ∷ ks) (first, rest) k x i g = by (is_in x l.given) refl i (λ j. keeps_given ks rest k x j g)
    where
      by : (b : Bool) → is_in x l.given ≡ b → In (l ∷ ks) k → (In ks k → keeper_in ks x ≡ k.cell) → (if b then l.cell else keeper_in ks x) ≡ k.cell
      by true f (inl same) later = ap (λ (z : Kept). z.cell) same
      by true f (inr j) later = absurd (first x k (inr f) j (inr g))
      by false f (inl same) later = absurd (both_ways (is_in x l.given) f (ap (λ (z : Kept). is_in x z.given) same ∙ g))
      by false f (inr j) later = later j

  module _ (n : ℕ) (within : n < length part.cells) (candidate : is_candidate part n ≡ true) (own : keeper part n ≡ n) where
    after_is : kept_after part (suc n) ≡ give part n (kept_after part n)
    after_is = ap (λ b. if b then give part n (kept_after part n) else kept_after part n) candidate

    -- a candidate that keeps itself is given to none
    not_given : Gives (give part n (kept_after part n)) n → ⊥
    not_given r =
        let le : suc n ≤ length part.cells = omega (arith, within) in
        let last = kept_by (suc n) (length part.cells) r.entry le (subst (λ ks. In ks r.entry) (sym after_is) r.stands) in
        let sound = kept_sound part (length part.cells) in
        let given = last.given n r.given in
        let same : last.entry.cell ≡ n = sym (keeps_given (kept_of part) sound.disjoint last.entry n last.stands given) ∙ own in
        both_ways (is_in last.entry.cell last.entry.given) (sound.fine last.entry last.stands).itself (ap (λ x. is_in x last.entry.given) same ∙ given)

    -- so it has an entry of its own, and no entry before took it
    pub own_entry : (k : Kept) × In (kept_after part (suc n)) k × (k.cell ≡ n)
    own_entry = ⊎_elim (λ r. (r.0, subst (λ ks. In ks r.0) (sym after_is) r.1, r.2)) (λ r. absurd (not_given r)) (give_puts n (kept_after part n))

    pub not_taken : (k : Kept) → In (kept_after part n) k → takes part n k ≡ false
    not_taken k i = by (takes part n k) refl
      where
        by : (b : Bool) → takes part n k ≡ b → b ≡ false
        by true t = absurd (not_given (give_taken n (kept_after part n) k i t))
        by false t = refl

  not_all : (test : ℕ → Bool) (list : List ℕ) → list_all (λ x. not (test x)) list ≡ false → (m : ℕ) × (is_in m list ≡ true) × (test m ≡ true)
  not_all test [] e = absurd (cc)
  not_all test (x ∷ xs) e = by (test x) refl e (not_all test xs)
    where
      by : (b : Bool) → test x ≡ b → (not b && list_all (λ y. not (test y)) xs) ≡ false → (list_all (λ y. not (test y)) xs ≡ false → (m : ℕ) × (is_in m xs ≡ true) × (test m ≡ true))
          → (m : ℕ) × (is_in m (x ∷ xs) ≡ true) × (test m ≡ true)
      by true on f later = (x, ap (λ c. c || is_in x xs) (eq-eqb x x refl), on)
      by false off f later = let r = later f in (r.0, or_right (nat_eq x r.0) (is_in r.0 xs) r.1, r.2)

  -- who is in an entry, when so many cells have been gone through, is kept by its cell
  member_keeps : (x n m : ℕ) (k : Kept) → n ≤ length part.cells → In (kept_after part n) k → k.cell ≡ x → keeper part x ≡ x → is_in m (k.cell ∷ k.given) ≡ true → keeper part m ≡ x
  member_keeps x n m k le i cell own e = ⊎_elim itself given (or_cases (nat_eq k.cell m) (is_in m k.given) e)
    where
      itself : nat_eq k.cell m ≡ true → keeper part m ≡ x
      itself same = ap (keeper part) (sym (eqb-true k.cell m same) ∙ cell) ∙ own

      given : is_in m k.given ≡ true → keeper part m ≡ x
      given g =
          let last : Later (kept_of part) k = kept_by n (length part.cells) k le i in
          keeps_given (kept_of part) (kept_sound part (length part.cells)).disjoint last.entry m last.stands (last.given m g) ∙ last.cell ∙ cell

  -- TWO OF ONE KIND THAT STAY: the later one meets a cell that the earlier one keeps
  pub stays_meet : (x y : ℕ) → x < y → y < length part.cells → is_candidate part x ≡ true → is_candidate part y ≡ true → keeper part x ≡ x → keeper part y ≡ y
      → same_kind (kind_in part.cells x) (kind_in part.cells y) ≡ true → (m : ℕ) × (keeper part m ≡ x) × (meet part m y ≡ true)
  stays_meet x y lt within cx cy kx ky same =
      let below : x < length part.cells = omega (arith, lt, within) in
      let entry = own_entry x below cx kx in
      let le : suc x ≤ y = omega (arith, lt) in
      of_entry (kept_by (suc x) y entry.0 le entry.1) entry.2
    where
      second : (a b : Bool) → a ≡ true → (a && b) ≡ false → b ≡ false
      second true b on e = e
      second false b on e = absurd (cc)

      of_entry : {k : Kept} → Later (kept_after part y) k → k.cell ≡ x → (m : ℕ) × (keeper part m ≡ x) × (meet part m y ≡ true)
      of_entry now is =
          let cell : now.entry.cell ≡ x = now.cell ∙ is in
          let kinds : same_kind (kind_in part.cells now.entry.cell) (kind_in part.cells y) ≡ true = ap (λ z. same_kind (kind_in part.cells z) (kind_in part.cells y)) cell ∙ same in
          let le : y ≤ length part.cells = omega (arith, within) in
          let some = not_all (λ z. meet part z y) (now.entry.cell ∷ now.entry.given)
          (second (same_kind (kind_in part.cells now.entry.cell) (kind_in part.cells y)) (list_all (λ z. not (meet part z y)) (now.entry.cell ∷ now.entry.given)) kinds (not_taken y within cy ky now.entry now.stands)) in
          (some.0, member_keeps x y some.0 now.entry le now.stands cell kx some.1, some.2)
