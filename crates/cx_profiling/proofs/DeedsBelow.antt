-- WHAT IS DONE BELOW A CELL is done by a static child that stands there: what is known of deeds of an instance is known of those below a cell.
use Rattle.std.proofs.Common.{◌≡◌, ℕ, zero, suc, ◌+◌, ◌<◌, inl, inr, Bool, true, false, nat_eq, if◌then◌else◌, List, [], ◌∷◌, length, Some, refl, sym, ap, ◌∙◌, subst, arith}
use Rattle.std.proofs.lemmas.Bool.{eqb-true, ne_eqb}
use Rattle.cx_meaning.specs.Designs.{PlainDesign}
use Rattle.cx_meaning.specs.Instances.{Instance, Cells, no_cells, a_primitive, an_instance, OfInstance, cell_at, cells_of, part_of}
use Rattle.cx_meaning.specs.Active.{offset_in, entries}
use Rattle.cx_meaning.proofs.InstancesLemmas.{instance_is, row_instance, nothing_instance}
use Rattle.cx_flattening.specs.Deeds.{Deed, Acts, Fed, deed_if, own_entries, deeds_below}
use Rattle.cx_flattening.specs.Seeing.{NoCircle, NoneBelow}
use Rattle.cx_flattening.specs.Whole.{is_static}
use Rattle.cx_profiling.proofs.AcyclicLemmas.{ActsWithin}
use Rattle.cx_profiling.proofs.GrownDeeds.{IsKnownDeed, AllDeedsKnown}
use Rattle.cx_profiling.proofs.GrownEvents.{StandsAt, SpotIn, ActIn, FedIn}

module _ (d : PlainDesign) where
  abbrev pub DeedsIn : Instance → List Deed → Type 0
  DeedsIn i ds = AllDeedsKnown (SpotIn d i) (ActIn d i) (FedIn d i) ds

  abbrev DeedIn : Instance → Deed → Type 0
  DeedIn i x = IsKnownDeed (SpotIn d i) (ActIn d i) (FedIn d i) x

  module _ (i : Instance) (c : ℕ) where
    one_below : (b : Bool) (y : Deed) (rest : List Deed) (child : Instance) → (b ≡ true → DeedIn child y) → DeedsIn child rest → DeedsIn child (deed_if b y rest)
    one_below true y rest child h all x (inl e) = subst (DeedIn child) e (h refl)
    one_below true y rest child h all x (inr j) = all x j
    one_below false y rest child h all x j = all x j

    same_child : (x : ℕ) (next child : Instance) → x ≡ c → cell_at (cells_of i) x ≡ OfInstance next → cell_at (cells_of i) c ≡ OfInstance child → next ≡ child
    same_child x next child e at here = instance_is next child (sym at ∙ ap (cell_at (cells_of i)) e ∙ here)

    -- below a cell
    pub deeds_in_child : (child : Instance) → cell_at (cells_of i) c ≡ OfInstance child → (ds : List Deed) → DeedsIn i ds → DeedsIn child (deeds_below c ds)
    deeds_in_child child here [] all x j = absurd j
    deeds_in_child child here (Acts [] e ∷ rest) all x j = deeds_in_child child here rest (λ y k. all y (inr k)) x j
    deeds_in_child child here (Acts (y ∷ at) e ∷ rest) all x j =
        one_below (nat_eq y c) (Acts at e) (deeds_below c rest) child
        (λ f.
        let r = all (Acts (y ∷ at) e) (inl refl) in
        (r.0, subst (λ z. StandsAt z at r.0) (same_child y r.1.0 child (eqb-true y c f) r.1.1 here) r.1.3, r.2))
        (deeds_in_child child here rest (λ z k. all z (inr k))) x j
    deeds_in_child child here (Fed [] e inputs ∷ rest) all x j = deeds_in_child child here rest (λ y k. all y (inr k)) x j
    deeds_in_child child here (Fed (y ∷ at) e inputs ∷ rest) all x j =
        one_below (nat_eq y c) (Fed at e inputs) (deeds_below c rest) child
        (λ f.
        let r = all (Fed (y ∷ at) e inputs) (inl refl) in
        (r.0, subst (λ z. StandsAt z at r.0) (same_child y r.1.0 child (eqb-true y c f) r.1.1 here) r.1.3, r.2))
        (deeds_in_child child here rest (λ z k. all z (inr k))) x j

    -- nothing is done where no static child stands
    module _ (none : (child : Instance) → cell_at (cells_of i) c ≡ OfInstance child → is_static child ≡ true → ⊥) where
      left_out : (b : Bool) (y : Deed) (rest : List Deed) → (b ≡ true → ⊥) → rest ≡ [] → deed_if b y rest ≡ []
      left_out true y rest h e = absurd (h refl)
      left_out false y rest h e = e

      pub nothing_below : (ds : List Deed) → DeedsIn i ds → deeds_below c ds ≡ []
      nothing_below [] all = refl
      nothing_below (Acts [] e ∷ rest) all = nothing_below rest (λ y k. all y (inr k))
      nothing_below (Acts (y ∷ at) e ∷ rest) all =
          left_out (nat_eq y c) (Acts at e) (deeds_below c rest)
          (λ f.
          let r = all (Acts (y ∷ at) e) (inl refl) in
          none r.1.0 (ap (cell_at (cells_of i)) (sym (eqb-true y c f)) ∙ r.1.1) r.1.2)
          (nothing_below rest (λ z k. all z (inr k)))
      nothing_below (Fed [] e inputs ∷ rest) all = nothing_below rest (λ y k. all y (inr k))
      nothing_below (Fed (y ∷ at) e inputs ∷ rest) all =
          left_out (nat_eq y c) (Fed at e inputs) (deeds_below c rest)
          (λ f.
          let r = all (Fed (y ∷ at) e inputs) (inl refl) in
          none r.1.0 (ap (cell_at (cells_of i)) (sym (eqb-true y c f)) ∙ r.1.1) r.1.2)
          (nothing_below rest (λ z k. all z (inr k)))

  -- the groups of the instance that act are there
  pub own_within : (i : Instance) (ds : List Deed) → DeedsIn i ds → ActsWithin (part_of i) (entries (own_entries ds))
  own_within i [] all g past = refl
  own_within i (Acts [] e ∷ rest) all g past =
      ap (λ b. if b then Some e.offset else offset_in (own_entries rest) g)
      (ne_eqb e.group g (λ same. let r = all (Acts [] e) (inl refl) in let few : e.group < length (part_of i).groups = subst (λ x. e.group < length (part_of x).groups) (sym r.1) r.2 in omega (arith, few, past, same)))
      ∙ own_within i rest (λ y k. all y (inr k)) g past
  own_within i (Acts (c ∷ at) e ∷ rest) all g past = own_within i rest (λ y k. all y (inr k)) g past
  own_within i (Fed at c inputs ∷ rest) all g past = own_within i rest (λ y k. all y (inr k)) g past

-- nothing leads in a circle in a static child
pub none_at : (cells : Cells) (from c : ℕ) (ds : List Deed) → NoneBelow cells from ds → (child : Instance) → cell_at cells c ≡ OfInstance child → is_static child ≡ true
    → NoCircle child (entries (own_entries (deeds_below (from + c) ds))) (deeds_below (from + c) ds)
none_at no_cells from c ds h child e static = absurd (nothing_instance child e)
none_at (a_primitive row rest) from zero ds h child e static = absurd (row_instance row child e)
none_at (a_primitive row rest) from (suc c) ds h child e static =
    let same : suc from + c ≡ from + suc c = omega arith in
    subst (λ n. NoCircle child (entries (own_entries (deeds_below n ds))) (deeds_below n ds)) same (none_at rest (suc from) c ds h child e static)
none_at (an_instance other rest) from zero ds h child e static =
    let same : from ≡ from + 0 = omega arith in
    subst (λ n. NoCircle child (entries (own_entries (deeds_below n ds))) (deeds_below n ds)) same
    (subst (λ x. NoCircle x (entries (own_entries (deeds_below from ds))) (deeds_below from ds)) (instance_is other child e) (h.0 (subst (λ x. is_static x ≡ true) (sym (instance_is other child e)) static)))
none_at (an_instance other rest) from (suc c) ds h child e static =
    let same : suc from + c ≡ from + suc c = omega arith in
    subst (λ n. NoCircle child (entries (own_entries (deeds_below n ds))) (deeds_below n ds)) same (none_at rest (suc from) c ds h.1 child e static)
