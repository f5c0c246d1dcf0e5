-- Two cells with one keeper are candidates that do not meet.
use Rattle.std.proofs.Common.{◌≡◌, ℕ, zero, suc, ◌<◌, ◌≤◌, ◌+◌, ◌-◌, inl, inr, ◌⊎◌, ⊎_elim, Bool, true, false, ◌||◌, ◌&&◌, List, [], ◌∷◌, refl, sym, ap, ◌∙◌, subst, arith}
use Rattle.std.specs.Prelude.{not, nat_eq, length, if◌then◌else◌}
use Rattle.std.specs.List.{list_all}
use Rattle.std.proofs.lemmas.Bool.{eqb-true, eq-eqb, both_ways, cases_lt, or_cases}
use Rattle.cx_meaning.specs.Designs.{PlainComponent}
use Rattle.cx_text.specs.Members.{In}
use Rattle.cx_sharing.specs.Uses.{kind_in, is_candidate}
use Rattle.cx_sharing.specs.Meeting.{meet}
use Rattle.cx_sharing.specs.Giving.{Kept, same_kind, takes, give, kept_after, kept_of, is_in, keeper_in, keeper, stays, staying, new_cell}

-- a cell of an entry: the kept one, or a given one
abbrev pub Member : Kept → ℕ → Type 0
Member k x = (k.cell ≡ x) ⊎ (is_in x k.given ≡ true)

abbrev pub grown : ℕ → Kept → Kept
grown c k = record { cell = k.cell; given = c ∷ k.given }

grown_member : (c : ℕ) (k : Kept) (x : ℕ) → Member (grown c k) x → (x ≡ c) ⊎ Member k x
grown_member c k x (inl e) = inr (inl e)
grown_member c k x (inr e) = ⊎_elim (λ h. inl (sym (eqb-true c x h))) (λ h. inr (inr h)) (or_cases (nat_eq c x) (is_in x k.given) e)

all_but : (test : ℕ → Bool) (list : List ℕ) (x : ℕ) → list_all (λ y. not (test y)) list ≡ true → is_in x list ≡ true → test x ≡ false
all_but test [] x e i = absurd (cc)
all_but test (y ∷ ys) x e i = by (test y) refl e (or_cases (nat_eq y x) (is_in x ys) i) (all_but test ys x)
  where
    by : (b : Bool) → test y ≡ b → (not b && list_all (λ z. not (test z)) ys) ≡ true → (nat_eq y x ≡ true) ⊎ (is_in x ys ≡ true) → (list_all (λ z. not (test z)) ys ≡ true → is_in x ys ≡ true → test x ≡ false) → test x ≡ false
    by true f e h later = absurd (cc)
    by false f e (inl same) later = ap test (sym (eqb-true y x same)) ∙ f
    by false f e (inr j) later = later e j

module _ (part : PlainComponent) where
  -- the cells of an entry are candidates among the first so many cells, and do not meet
  pub record IsFine (n : ℕ) (k : Kept) : Type 0 where
    pub below : (x : ℕ) → Member k x → x < n
    pub candidates : (x : ℕ) → Member k x → is_candidate part x ≡ true
    pub apart : (x y : ℕ) → Member k x → Member k y → x < y → meet part x y ≡ false
    pub itself : is_in k.cell k.given ≡ false

  kept_fine : (n : ℕ) (k : Kept) → IsFine n k → IsFine (suc n) k
  kept_fine n k h = record { below = λ x i. let lt = h.below x i in omega (arith, lt); candidates = h.candidates; apart = h.apart; itself = h.itself }

  new_fine : (n : ℕ) → is_candidate part n ≡ true → IsFine (suc n) (record { cell = n; given = [] })
  new_fine n c = record {
    below = λ x i. let e = one x i in omega (arith, e);
    candidates = λ x i. ap (is_candidate part) (sym (one x i)) ∙ c;
    apart = λ x y i j lt. let e = one x i in let f = one y j in absurd (omega (arith, lt, e, f));
    itself = refl;
  }
    where
      one : (x : ℕ) → Member (record { cell = n; given = [] }) x → n ≡ x
      one x (inl e) = e
      one x (inr e) = absurd (cc)

  takes_apart : (n : ℕ) (k : Kept) (x : ℕ) → takes part n k ≡ true → Member k x → meet part x n ≡ false
  takes_apart n k x e (inl same) = ap (λ z. meet part z n) (sym same) ∙ by (same_kind (kind_in part.cells k.cell) (kind_in part.cells n)) (meet part k.cell n) (list_all (λ z. not (meet part z n)) k.given) e
    where
      by : (a b c : Bool) → (a && (not b && c)) ≡ true → b ≡ false
      by true true c e = absurd (cc)
      by true false c e = refl
      by false b c e = absurd (cc)
  takes_apart n k x e (inr given) = all_but (λ z. meet part z n) k.given x (by (same_kind (kind_in part.cells k.cell) (kind_in part.cells n)) (not (meet part k.cell n)) (list_all (λ z. not (meet part z n)) k.given) e) given
    where
      by : (a b c : Bool) → (a && (b && c)) ≡ true → c ≡ true
      by true true c e = e
      by true false c e = absurd (cc)
      by false b c e = absurd (cc)

  grown_fine : (n : ℕ) (k : Kept) → is_candidate part n ≡ true → takes part n k ≡ true → IsFine n k → IsFine (suc n) (grown n k)
  grown_fine n k c t h = record {
    below = λ x i. ⊎_elim (λ e. omega (arith, e)) (λ j. let lt = h.below x j in omega (arith, lt)) (grown_member n k x i);
    candidates = λ x i. ⊎_elim (λ e. ap (is_candidate part) e ∙ c) (λ j. h.candidates x j) (grown_member n k x i);
    apart = λ x y i j lt. by x y lt (grown_member n k x i) (grown_member n k y j);
    itself = other (nat_eq n k.cell) refl;
  }
    where
      other : (b : Bool) → nat_eq n k.cell ≡ b → (nat_eq n k.cell || is_in k.cell k.given) ≡ false
      other true e = let lt = h.below k.cell (inl refl) in let same = eqb-true n k.cell e in absurd (omega (arith, lt, same))
      other false e = ap (λ b. b || is_in k.cell k.given) e ∙ h.itself

      by : (x y : ℕ) → x < y → (x ≡ n) ⊎ Member k x → (y ≡ n) ⊎ Member k y → meet part x y ≡ false
      by x y lt (inl e) (inl f) = absurd (omega (arith, lt, e, f))
      by x y lt (inl e) (inr j) = let less = h.below y j in absurd (omega (arith, lt, e, less))
      by x y lt (inr i) (inl f) = ap (meet part x) f ∙ takes_apart n k x t i
      by x y lt (inr i) (inr j) = h.apart x y i j lt

  abbrev pub AllFine : ℕ → List Kept → Type 0
  AllFine n ks = (k : Kept) → In ks k → IsFine n k

  -- no cell is in two entries
  abbrev pub Disjoint : List Kept → Type 0
  Disjoint [] = Unit {0}
  Disjoint (k ∷ ks) = ((x : ℕ) (l : Kept) → Member k x → In ks l → Member l x → ⊥) × Disjoint ks

  give_fine : (n : ℕ) → is_candidate part n ≡ true → (ks : List Kept) → AllFine n ks → AllFine (suc n) (give part n ks)
  give_fine n c [] h k (inl e) = subst (IsFine (suc n)) e (new_fine n c)
  give_fine n c [] h k (inr i) = absurd i
  give_fine n c (l ∷ ks) h k i = by (takes part n l) refl i (give_fine n c ks (λ m j. h m (inr j)) k)
    where
      by : (b : Bool) → takes part n l ≡ b → In (if b then grown n l ∷ ks else l ∷ give part n ks) k → (In (give part n ks) k → IsFine (suc n) k) → IsFine (suc n) k
      by true t (inl e) later = subst (IsFine (suc n)) e (grown_fine n l c t (h l (inl refl)))
      by true t (inr j) later = kept_fine n k (h k (inr j))
      by false t (inl e) later = subst (IsFine (suc n)) e (kept_fine n l (h l (inl refl)))
      by false t (inr j) later = later j

  -- a member of an entry after giving is the given cell, or was a member of an entry
  record WasMember (ks : List Kept) (x : ℕ) : Type 0 where
    entry : Kept
    stands : In ks entry
    member : Member entry x

  give_member : (n : ℕ) (ks : List Kept) (k : Kept) (x : ℕ) → In (give part n ks) k → Member k x → (x ≡ n) ⊎ WasMember ks x
  give_member n [] k x (inl e) m = inl (one (subst (λ z. Member z x) (sym e) m))
    where
      one : Member (record { cell = n; given = [] }) x → x ≡ n
      one (inl e) = sym e
      one (inr e) = absurd (cc)
  give_member n [] k x (inr i) m = absurd i
  give_member n (l ∷ ks) k x i m = by (takes part n l) i (give_member n ks k x)
    where
      by : (b : Bool) → In (if b then grown n l ∷ ks else l ∷ give part n ks) k → (In (give part n ks) k → Member k x → (x ≡ n) ⊎ WasMember ks x) → (x ≡ n) ⊎ WasMember (l ∷ ks) x
      by true (inl e) later = ⊎_elim (λ h. inl h) (λ h. inr (record { entry = l; stands = inl refl; member = h })) (grown_member n l x (subst (λ z. Member z x) (sym e) m))
      by true (inr j) later = inr (record { entry = k; stands = inr j; member = m })
      by false (inl e) later = inr (record { entry = l; stands = inl refl; member = subst (λ z. Member z x) (sym e) m })
      by false (inr j) later = ⊎_elim (λ h. inl h) (λ r. inr (record { entry = r.entry; stands = inr r.stands; member = r.member })) (later j m)

  give_disjoint : (n : ℕ) (ks : List Kept) → AllFine n ks → Disjoint ks → Disjoint (give part n ks)
  give_disjoint n [] h d = ((λ x l i j m. j), tt)
  give_disjoint n (k ∷ ks) h (first, rest) = by (takes part n k) (give_disjoint n ks (λ l j. h l (inr j)) rest)
    where
      gone : (x : ℕ) (l : Kept) → In (k ∷ ks) l → Member l x → x ≡ n → ⊥
      gone x l j m e = let lt = (h l j).below x m in omega (arith, lt, e)

      by : (b : Bool) → Disjoint (give part n ks) → Disjoint (if b then grown n k ∷ ks else k ∷ give part n ks)
      by true d = ((λ x l i j m. ⊎_elim (λ e. gone x l (inr j) m e) (λ i2. first x l i2 j m) (grown_member n k x i)), rest)
      by false d = ((λ x l i j m. ⊎_elim (λ e. gone x k (inl refl) i e) (λ r. first x r.entry i r.stands r.member) (give_member n ks l x j m)), d)

  pub record AreSound (n : ℕ) (ks : List Kept) : Type 0 where
    pub fine : AllFine n ks
    pub disjoint : Disjoint ks

  pub kept_sound : (n : ℕ) → AreSound n (kept_after part n)
  kept_sound zero = record { fine = λ k i. absurd i; disjoint = tt }
  kept_sound (suc n) = by (is_candidate part n) refl (kept_sound n)
    where
      by : (b : Bool) → is_candidate part n ≡ b → AreSound n (kept_after part n) → AreSound (suc n) (if b then give part n (kept_after part n) else kept_after part n)
      by true c h = record { fine = give_fine n c (kept_after part n) h.fine; disjoint = give_disjoint n (kept_after part n) h.fine h.disjoint }
      by false c h = record { fine = λ k i. kept_fine n k (h.fine k i); disjoint = h.disjoint }

  -- one entry, by one of its members
  pub same_entry : (ks : List Kept) (k l : Kept) (x : ℕ) → Disjoint ks → In ks k → In ks l → Member k x → Member l x → k ≡ l
  same_entry [] k l x d i j m o = absurd i
  same_entry (z ∷ zs) k l x (first, rest) (inl e) (inl f) m o = sym e ∙ f
  same_entry (z ∷ zs) k l x (first, rest) (inl e) (inr j) m o = absurd (first x l (subst (λ y. Member y x) (sym e) m) j o)
  same_entry (z ∷ zs) k l x (first, rest) (inr i) (inl f) m o = absurd (first x k (subst (λ y. Member y x) (sym f) o) i m)
  same_entry (z ∷ zs) k l x (first, rest) (inr i) (inr j) m o = same_entry zs k l x rest i j m o

  -- who keeps a cell
  pub record IsGiven (ks : List Kept) (x : ℕ) : Type 0 where
    pub entry : Kept
    pub stands : In ks entry
    pub given : is_in x entry.given ≡ true
    pub keeps : keeper_in ks x ≡ entry.cell

  pub found : (ks : List Kept) (x : ℕ) → IsGiven ks x ⊎ (keeper_in ks x ≡ x)
  found [] x = inr refl
  found (k ∷ ks) x = by (is_in x k.given) refl (found ks x)
    where
      by : (b : Bool) → is_in x k.given ≡ b → IsGiven ks x ⊎ (keeper_in ks x ≡ x) → IsGiven (k ∷ ks) x ⊎ (keeper_in (k ∷ ks) x ≡ x)
      by true e later = inl (record { entry = k; stands = inl refl; given = e; keeps = ap (λ b. if b then k.cell else keeper_in ks x) e })
      by false e (inl r) = inl (record { entry = r.entry; stands = inr r.stands; given = r.given; keeps = ap (λ b. if b then k.cell else keeper_in ks x) e ∙ r.keeps })
      by false e (inr r) = inr (ap (λ b. if b then k.cell else keeper_in ks x) e ∙ r)

  record Together (n : ℕ) (ks : List Kept) (x y : ℕ) : Type 0 where
    pub entry : Kept
    pub stands : In ks entry
    one : Member entry x
    other : Member entry y

  together : (n : ℕ) (ks : List Kept) (x y : ℕ) → AreSound n ks → keeper_in ks x ≡ keeper_in ks y → x < y → Together n ks x y
  together n ks x y h e lt = by (found ks x) (found ks y)
    where
      by : IsGiven ks x ⊎ (keeper_in ks x ≡ x) → IsGiven ks y ⊎ (keeper_in ks y ≡ y) → Together n ks x y
      by (inl r) (inl q) =
          let same : r.entry ≡ q.entry = same_entry ks r.entry q.entry r.entry.cell h.disjoint r.stands q.stands (inl refl) (inl (sym q.keeps ∙ sym e ∙ r.keeps)) in
          record { entry = r.entry; stands = r.stands; one = inr r.given; other = subst (λ z. Member z y) (sym same) (inr q.given) }
      by (inl r) (inr q) = record { entry = r.entry; stands = r.stands; one = inr r.given; other = inl (sym r.keeps ∙ e ∙ q) }
      by (inr p) (inl q) = record { entry = q.entry; stands = q.stands; one = inl (sym q.keeps ∙ sym e ∙ p); other = inr q.given }
      by (inr p) (inr q) = let same : x ≡ y = sym p ∙ e ∙ q in absurd (omega (arith, lt, same))

  -- THE LAW
  pub keepers_apart : (x y : ℕ) → x < y → keeper part x ≡ keeper part y → (is_candidate part x ≡ true) × (is_candidate part y ≡ true) × (meet part x y ≡ false)
  keepers_apart x y lt e =
      let sound = kept_sound (length part.cells) in
      let r = together (length part.cells) (kept_of part) x y sound e lt in
      let fine = sound.fine r.entry r.stands in
      (fine.candidates x r.one, fine.candidates y r.other, fine.apart x y r.one r.other lt)

  -- a keeper keeps itself
  keeps_itself : (n : ℕ) (ks : List Kept) (k : Kept) → AreSound n ks → In ks k → keeper_in ks k.cell ≡ k.cell
  keeps_itself n ks k h i = by (found ks k.cell)
    where
      by : IsGiven ks k.cell ⊎ (keeper_in ks k.cell ≡ k.cell) → keeper_in ks k.cell ≡ k.cell
      by (inl r) =
          let same : r.entry ≡ k = same_entry ks r.entry k k.cell h.disjoint r.stands i (inr r.given) (inl refl) in
          absurd (both_ways (is_in k.cell k.given) (h.fine k i).itself (subst (λ z. is_in k.cell z.given ≡ true) same r.given))
      by (inr e) = e

  keeper_twice : (n : ℕ) (ks : List Kept) (x : ℕ) → AreSound n ks → keeper_in ks (keeper_in ks x) ≡ keeper_in ks x
  keeper_twice n ks x h = by (found ks x)
    where
      by : IsGiven ks x ⊎ (keeper_in ks x ≡ x) → keeper_in ks (keeper_in ks x) ≡ keeper_in ks x
      by (inl r) = ap (keeper_in ks) r.keeps ∙ keeps_itself n ks r.entry h r.stands ∙ sym r.keeps
      by (inr e) = ap (keeper_in ks) e

  pub keeper_stays : (x : ℕ) → stays part (keeper part x) ≡ true
  keeper_stays x = eq-eqb (keeper part (keeper part x)) (keeper part x) (keeper_twice (length part.cells) (kept_of part) x (kept_sound (length part.cells)))

-- THE NEW NUMBERS of cells that stay are different
pub staying_more : (set : ℕ → Bool) (c more : ℕ) → staying set c ≤ staying set (more + c)
staying_more set c zero = let none : c ≡ zero + c = omega arith in subst (λ n. staying set c ≤ staying set n) none (omega arith)
staying_more set c (suc more) =
    let next : suc (more + c) ≡ suc more + c = omega arith in
    subst (λ n. staying set c ≤ staying set n) next (by (set (more + c)) (staying_more set c more))
  where
    by : (b : Bool) → staying set c ≤ staying set (more + c) → staying set c ≤ (if b then suc (staying set (more + c)) else staying set (more + c))
    by true le = omega (arith, le)
    by false le = le

pub staying_grows : (set : ℕ → Bool) (c d : ℕ) → set c ≡ true → c < d → staying set c < staying set d
staying_grows set c d on lt =
    let more : (d - suc c) + suc c ≡ d = omega (arith, lt) in
    let here : staying set (suc c) ≡ suc (staying set c) = ap (λ b. if b then suc (staying set c) else staying set c) on in
    let le : staying set (suc c) ≤ staying set d = subst (λ n. staying set (suc c) ≤ staying set n) more (staying_more set (suc c) (d - suc c)) in
    omega (arith, here, le)

staying_one : (set : ℕ → Bool) (c d : ℕ) → set c ≡ true → set d ≡ true → staying set c ≡ staying set d → c ≡ d
staying_one set c d a b e = by (cases_lt c d) (cases_lt d c)
  where
    by : (c < d) ⊎ (d ≤ c) → (d < c) ⊎ (c ≤ d) → c ≡ d
    by (inl lt) k = let more = staying_grows set c d a lt in absurd (omega (arith, more, e))
    by (inr le) (inl lt) = let more = staying_grows set d c b lt in absurd (omega (arith, more, e))
    by (inr le) (inr ge) = omega (arith, le, ge)

-- two cells of one new number are one, or candidates that do not meet
abbrev pub AreApart : PlainComponent → (ℕ → ℕ) → Type 0
AreApart part cell = (x y : ℕ) → cell x ≡ cell y → (x ≡ y) ⊎ ((is_candidate part x ≡ true) × (is_candidate part y ≡ true) × ((meet part x y ≡ false) ⊎ (meet part y x ≡ false)))

-- TWO CELLS OF ONE NEW NUMBER are one, or candidates that do not meet
pub new_apart : (part : PlainComponent) → AreApart part (new_cell part)
new_apart part x y e = by (cases_lt x y) (cases_lt y x)
  where
    same : keeper part x ≡ keeper part y
    same = staying_one (stays part) (keeper part x) (keeper part y) (keeper_stays part x) (keeper_stays part y) e

    by : (x < y) ⊎ (y ≤ x) → (y < x) ⊎ (x ≤ y) → (x ≡ y) ⊎ ((is_candidate part x ≡ true) × (is_candidate part y ≡ true) × ((meet part x y ≡ false) ⊎ (meet part y x ≡ false)))
    by (inl lt) k = let r = keepers_apart part x y lt same in inr (r.0, r.1, inl r.2)
    by (inr le) (inl lt) = let r = keepers_apart part y x lt (sym same) in inr (r.1, r.0, inr r.2)
    by (inr le) (inr ge) = inl (omega (arith, le, ge))
