-- What is given stands behind the cell that it is given to, and is of its kind.
use Rattle.std.proofs.Common.{◌≡◌, ℕ, zero, suc, ◌<◌, ◌≤◌, inl, inr, ◌⊎◌, ⊎_elim, Bool, true, false, ◌&&◌, List, [], ◌∷◌, refl, sym, ap, ◌∙◌, subst, arith}
use Rattle.std.specs.Prelude.{not, nat_eq, length, if◌then◌else◌}
use Rattle.std.specs.List.{list_all}
use Rattle.std.proofs.lemmas.Bool.{eqb-true, or_cases}
use Rattle.cx_meaning.specs.Designs.{PlainComponent}
use Rattle.cx_text.specs.Members.{In}
use Rattle.cx_sharing.specs.Uses.{kind_in, is_candidate}
use Rattle.cx_sharing.specs.Meeting.{meet}
use Rattle.cx_sharing.specs.Giving.{Kept, same_kind, takes, give, kept_after, kept_of, is_in, keeper}
use Rattle.cx_sharing.proofs.KindLemmas.{same_kind-is}
use Rattle.cx_sharing.proofs.KeptLemmas.{grown, AllFine, kept_sound, IsGiven, found}

module _ (part : PlainComponent) where
  -- those that were given to a kept cell
  pub record IsBehind (k : Kept) (x : ℕ) : Type 0 where
    pub later : k.cell < x
    pub kind : kind_in part.cells k.cell ≡ kind_in part.cells x

  abbrev AreBehind : List Kept → Type 0
  AreBehind ks = (k : Kept) (x : ℕ) → In ks k → is_in x k.given ≡ true → IsBehind k x

  taken_kind : (n : ℕ) (k : Kept) → takes part n k ≡ true → kind_in part.cells k.cell ≡ kind_in part.cells n
  taken_kind n k e = same_kind-is (kind_in part.cells k.cell) (kind_in part.cells n) (first (same_kind (kind_in part.cells k.cell) (kind_in part.cells n)) (list_all (λ x. not (meet part x n)) (k.cell ∷ k.given)) e)
    where
      first : (a b : Bool) → (a && b) ≡ true → a ≡ true
      first true b e = refl
      first false b e = absurd (cc)

  give_behind : (n : ℕ) (ks : List Kept) → AllFine part n ks → AreBehind ks → AreBehind (give part n ks)
  give_behind n [] fine h k x (inl e) given = absurd (let none : is_in x [] ≡ true = subst (λ z. is_in x z.given ≡ true) (sym e) given in cc)
  give_behind n [] fine h k x (inr i) given = absurd i
  give_behind n (l ∷ ks) fine h k x i given = by (takes part n l) refl i (give_behind n ks (λ m j. fine m (inr j)) (λ m y j. h m y (inr j)) k x)
    where
      grows : takes part n l ≡ true → is_in x (grown n l).given ≡ true → IsBehind (grown n l) x
      grows t g = ⊎_elim
          (λ same. let is : n ≡ x = eqb-true n x same in let less : l.cell < n = (fine l (inl refl)).below l.cell (inl refl) in record { later = omega (arith, is, less); kind = taken_kind n l t ∙ ap (kind_in part.cells) is })
          (λ old. let r = h l x (inl refl) old in record { later = r.later; kind = r.kind })
          (or_cases (nat_eq n x) (is_in x l.given) g)

      by : (b : Bool) → takes part n l ≡ b → In (if b then grown n l ∷ ks else l ∷ give part n ks) k → (In (give part n ks) k → is_in x k.given ≡ true → IsBehind k x) → IsBehind k x
      by true t (inl e) next = subst (λ z. IsBehind z x) e (grows t (subst (λ z. is_in x z.given ≡ true) (sym e) given))
      by true t (inr j) next = h k x (inr j) given
      by false t (inl e) next = h k x (inl e) given
      by false t (inr j) next = next j given

  kept_behind : (n : ℕ) → AreBehind (kept_after part n)
  kept_behind zero = λ k x i given. absurd i
  kept_behind (suc n) = by (is_candidate part n) (kept_behind n)
    where
      by : (b : Bool) → AreBehind (kept_after part n) → AreBehind (if b then give part n (kept_after part n) else kept_after part n)
      by true h = give_behind n (kept_after part n) (kept_sound part n).fine h
      by false h = h

  -- who is given is a candidate behind its keeper and of its kind
  pub record WasGiven (c : ℕ) : Type 0 where
    pub candidate : is_candidate part c ≡ true
    pub keeps : is_candidate part (keeper part c) ≡ true
    pub within : c < length part.cells
    pub behind : keeper part c < c
    pub kind : kind_in part.cells (keeper part c) ≡ kind_in part.cells c

  pub given_or_kept : (c : ℕ) → WasGiven c ⊎ (keeper part c ≡ c)
  given_or_kept c = ⊎_elim (λ r. inl (of_entry r)) (λ e. inr e) (found part (kept_of part) c)
    where
      of_entry : IsGiven part (kept_of part) c → WasGiven c
      of_entry r =
          let fine = (kept_sound part (length part.cells)).fine r.entry r.stands in
          let behind = kept_behind (length part.cells) r.entry c r.stands r.given in
          let less : r.entry.cell < c = behind.later in
          let is : keeper part c ≡ r.entry.cell = r.keeps in
          record {
            candidate = fine.candidates c (inr r.given);
            keeps = ap (is_candidate part) is ∙ fine.candidates r.entry.cell (inl refl);
            within = fine.below c (inr r.given);
            behind = omega (arith, is, less);
            kind = ap (kind_in part.cells) is ∙ behind.kind;
          }

  -- what is no candidate stays
  pub other_kept : (c : ℕ) → is_candidate part c ≡ false → keeper part c ≡ c
  other_kept c none = ⊎_elim (λ r. absurd (let both : false ≡ true = sym none ∙ r.candidate in cc)) (λ e. e) (given_or_kept c)

  pub keeper_kind : (c : ℕ) → kind_in part.cells (keeper part c) ≡ kind_in part.cells c
  keeper_kind c = ⊎_elim (λ r. r.kind) (λ e. ap (kind_in part.cells) e) (given_or_kept c)

  pub keeper_within : (c : ℕ) → c < length part.cells → keeper part c < length part.cells
  keeper_within c lt = ⊎_elim (λ r. let less = r.behind in omega (arith, less, lt)) (λ e. omega (arith, e, lt)) (given_or_kept c)

  pub keeper_past : (c : ℕ) → length part.cells ≤ c → keeper part c ≡ c
  keeper_past c le = ⊎_elim (λ r. let less = r.within in absurd (omega (arith, less, le))) (λ e. e) (given_or_kept c)
