-- NO CIRCLE in a flat component, under its continuous assignments alone or with one of its groups: a copy acts as what a static child does.
use Rattle.std.proofs.Common.{◌≡◌, ℕ, zero, suc, ◌+◌, ◌-◌, ◌<◌, ◌≤◌, ◌⊎◌, inl, inr, ⊎_elim, Bool, true, false, List, [], ◌∷◌, ◌++◌, length, map, get_or, nat_eq, refl, sym, ap, ◌∙◌, subst, arith}
use Rattle.std.specs.Prelude.{flat_map, take}
use Rattle.std.proofs.lemmas.Bool.{cases_eq, cases_lt}
use Rattle.std.proofs.lemmas.List.{append-nil, length-append, length-map}
use Rattle.cx_meaning.specs.Designs.{PlainGroup, PlainInvoke, PlainComponent}
use Rattle.cx_meaning.specs.Instances.{Instance, Node, Cells, no_cells, a_primitive, an_instance, OfInstance, cell_at}
use Rattle.cx_meaning.specs.Active.{nothing, group, Entry, entries}
use Rattle.cx_meaning.specs.Control.{groups_of}
use Rattle.cx_text.specs.Members.{In}
use Rattle.cx_rules.specs.Counts.{is_one_of, group_if}
use Rattle.cx_rules.specs.Circles.{IsAcyclic, AreAcyclic, AcyclicBelow}
use Rattle.cx_rewrites.specs.Moving.{moved_group}
use Rattle.cx_flattening.specs.Events.{no_invoke, the_invoke}
use Rattle.cx_flattening.specs.Deeds.{Deed, Acts, Fed, own_entries, deeds_below}
use Rattle.cx_flattening.specs.Whole.{is_static}
use Rattle.cx_flattening.specs.Copies.{count_if, enabled_below, enabled_groups}
use Rattle.cx_flattening.specs.Flattened.{Kids, flat_kids, flat_part, copies, copy_of, own_port}
use Rattle.cx_flattening.specs.Acting.{IsUsed}
use Rattle.cx_flattening.specs.Embedded.{IsFlattened}
use Rattle.cx_flattening.specs.Fair.{AllFair}
use Rattle.cx_flattening.specs.Controlled.{IsControlled, AllControlled, AllControlledBelow}
use Rattle.cx_flattening.specs.FedOnce.{one_more, count_fed, FedOnce, FedOnceBelow}
use Rattle.cx_flattening.specs.Seeing.{NoCircle, NoneBelow}
use Rattle.cx_flattening.proofs.LevelSights.{kid-static}
use Rattle.cx_flattening.proofs.FlatGroups.{copies_flat}
use Rattle.cx_flattening.proofs.FlatDeeds.{lower, Pairs, none_done, own_group, an_invoke}
use Rattle.cx_flattening.proofs.FlatActs.{own-below, count-below, below-there, below-elsewhere, acts_of}
use Rattle.cx_flattening.proofs.FlatDeeper.{still_circle, still_entries}
use Rattle.cx_flattening.proofs.StillActs.{still_tops}
use Rattle.cx_flattening.proofs.DeedsOnce.{none_once}
use Rattle.cx_flattening.proofs.FlatSafe.{flat_acyclic}
use Rattle.cx_flattening.proofs.Ruled.{IsRuled, AllRuled, AllRuledBelow}

-- WHICH COPY stands at a number. The enabled groups in order
abbrev pub EnabledAt : List ℕ → ℕ → List PlainGroup → ℕ → Type 0
EnabledAt used g xs m = (n : ℕ) × (n < length xs) × (is_one_of (g + n) used ≡ true) × (enabled_below used g + m ≡ enabled_below used (g + n))

pub enabled_back : (used : List ℕ) (g : ℕ) (xs : List PlainGroup) (m : ℕ) → m < length (enabled_groups used g xs) → EnabledAt used g xs m
enabled_back used g [] m less = absurd (omega (arith, less))
enabled_back used g (x ∷ xs) m less = by (is_one_of g used) refl m less (λ k l. enabled_back used (suc g) xs k l)
  where
    next : (a b : ℕ) → suc a + b ≡ a + suc b
    next a b = omega arith

    plus_zero : (a : ℕ) → a ≡ a + 0
    plus_zero a = omega arith

    on : (k l : ℕ) → enabled_below used g + l ≡ enabled_below used (suc g) + k → EnabledAt used (suc g) xs k → EnabledAt used g (x ∷ xs) l
    on k l same r =
        (suc r.0, (let h = r.1 in omega (arith, h)), subst (λ a. is_one_of a used ≡ true) (next g r.0) r.2, same ∙ r.3 ∙ ap (enabled_below used) (next g r.0))

    by : (b : Bool) → is_one_of g used ≡ b → (l : ℕ) → l < length (group_if b x (enabled_groups used (suc g) xs)) → ((k : ℕ) → k < length (enabled_groups used (suc g) xs) → EnabledAt used (suc g) xs k) → EnabledAt used g (x ∷ xs) l
    by true is zero there later = (0, omega arith, subst (λ a. is_one_of a used ≡ true) (plus_zero g) is, sym (plus_zero (enabled_below used g)) ∙ ap (enabled_below used) (plus_zero g))
    by true is (suc k) there later = on k (suc k) (let one : enabled_below used (suc g) ≡ suc (enabled_below used g) = ap (λ c. count_if c (enabled_below used g)) is in omega (arith, one)) (later k (omega (arith, there)))
    by false is l there later = on l l (let one : enabled_below used (suc g) ≡ enabled_below used g = ap (λ c. count_if c (enabled_below used g)) is in omega (arith, one)) (later l there)

module _ (kids : Kids) (part : PlainComponent) where
  abbrev pub InvokeAt : List PlainInvoke → ℕ → Type 0
  InvokeAt vs m = (j : ℕ) × (n : ℕ) × (j < length vs) × (n < length (copies kids part (get_or vs j no_invoke))) × (length (flat_map (copies kids part) (take j vs)) + n ≡ m)

  pub invoke_back : (vs : List PlainInvoke) (m : ℕ) → m < length (flat_map (copies kids part) vs) → InvokeAt vs m
  invoke_back [] m less = absurd (omega (arith, less))
  invoke_back (v ∷ vs) m less =
      ⊎_elim
      (λ (l : m < length (copies kids part v)). (0, m, omega arith, l, omega arith))
      (λ (l : length (copies kids part v) ≤ m).
      let all = length-append (copies kids part v) (flat_map (copies kids part) vs) in
      let r = invoke_back vs (m - length (copies kids part v)) (omega (arith, less, l, all)) in (
        suc r.0,
        r.1,
        (let h = r.2 in omega (arith, h)),
        r.3,
        let e = r.4 in let one = length-append (copies kids part v) (flat_map (copies kids part) (take r.0 vs)) in omega (arith, e, l, one),
      ))
      (cases_lt m (length (copies kids part v)))

-- one group
abbrev only : ℕ → Entry
only g = record { group = g; offset = 0 }

-- WHAT IS DONE in the tree where one flat group acts
record Single (i : Instance) (g : ℕ) : Type 0 where
  deeds : List Deed
  pairs : Pairs i deeds (only g ∷ [])
  once : FedOnce i deeds
  circle : NoCircle i (entries (own_entries deeds)) deeds

once_own : (cells : Cells) (c : ℕ) (e : Entry) → FedOnceBelow cells c (Acts [] e ∷ [])
once_own no_cells c e = tt
once_own (a_primitive row rest) c e = once_own rest (suc c) e
once_own (an_instance child rest) c e = (λ static. none_once child, once_own rest (suc c) e)

circle_own : (cells : Cells) (c : ℕ) (e : Entry) → AcyclicBelow cells → NoneBelow cells c (Acts [] e ∷ [])
circle_own no_cells c e calm = tt
circle_own (a_primitive row rest) c e calm = circle_own rest (suc c) e calm
circle_own (an_instance child rest) c e calm = (λ static. still_entries child calm.0, circle_own rest (suc c) e calm.1)

own_single : (part : PlainComponent) (cells : Cells) → IsRuled part (Node part cells) → AcyclicBelow cells → (g : ℕ) → g < length part.groups → Single (Node part cells) g
own_single part cells ruled calm g less = record {
  deeds = Acts [] (only g) ∷ [];
  pairs = own_group (only g) less none_done;
  once = (λ c. omega arith, once_own cells 0 (only g));
  circle = (ruled.group_circle g less, calm, circle_own cells 0 (only g) calm);
}

module _ (part : PlainComponent) (cells : Cells) (calm : AreAcyclic (Node part cells)) (j h : ℕ) (child : Instance) (there : j < length part.invokes) (at : cell_at cells (the_invoke part j).cell ≡ OfInstance child)
    (static : is_static child ≡ true) (used : IsUsed (flat_part child) h) (inner : Single child h) where
  abbrev c : ℕ
  c = (the_invoke part j).cell

  abbrev below : List Deed
  below = map (lower (c ∷ [])) inner.deeds ++ []

  abbrev done : List Deed
  done = Fed [] c (the_invoke part j).inputs ∷ below

  -- below a cell
  done_below : (n : ℕ) → (deeds_below n done ≡ []) ⊎ ((c ≡ n) × (deeds_below n done ≡ inner.deeds))
  done_below n =
      ⊎_elim
      (λ same. inr (same, ap (λ k. deeds_below k below) (sym same) ∙ below-there c inner.deeds [] ∙ append-nil inner.deeds))
      (λ apart. inl (below-elsewhere c n apart inner.deeds []))
      (cases_eq c n)

  child_same : (n : ℕ) (other : Instance) → c ≡ n → cell_at cells n ≡ OfInstance other → child ≡ other
  child_same n other same is = let both : OfInstance child ≡ OfInstance other = sym at ∙ ap (cell_at cells) same ∙ is in cc

  plus : (a b : ℕ) → a + suc b ≡ suc a + b
  plus a b = omega arith

  plus_zero : (a : ℕ) → a + 0 ≡ a
  plus_zero a = omega arith

  fed_once : (d : ℕ) → count_fed d done ≤ 1
  fed_once d = by (nat_eq c d) (count-below c d inner.deeds [])
    where
      by : (b : Bool) → count_fed d below ≡ 0 → one_more b (count_fed d below) ≤ 1
      by true e = omega (arith, e)
      by false e = omega (arith, e)

  once_copy : (rest : Cells) (k : ℕ) → ((n : ℕ) → cell_at rest n ≡ cell_at cells (k + n)) → FedOnceBelow rest k done
  once_copy no_cells k tail = tt
  once_copy (a_primitive row rest) k tail = once_copy rest (suc k) (λ n. tail (suc n) ∙ ap (cell_at cells) (plus k n))
  once_copy (an_instance other rest) k tail = (
    λ is.
        ⊎_elim
        (λ e. subst (FedOnce other) (sym e) (none_once other))
        (λ r. subst (FedOnce other) (sym r.1) (subst (λ x. FedOnce x inner.deeds) (child_same k other r.0 (sym (ap (cell_at cells) (plus_zero k)) ∙ sym (tail 0))) inner.once))
        (done_below k),
    once_copy rest (suc k) (λ n. tail (suc n) ∙ ap (cell_at cells) (plus k n)),
  )

  circle_copy : (rest : Cells) (k : ℕ) → AcyclicBelow rest → ((n : ℕ) → cell_at rest n ≡ cell_at cells (k + n)) → NoneBelow rest k done
  circle_copy no_cells k calm_rest tail = tt
  circle_copy (a_primitive row rest) k calm_rest tail = circle_copy rest (suc k) calm_rest (λ n. tail (suc n) ∙ ap (cell_at cells) (plus k n))
  circle_copy (an_instance other rest) k calm_rest tail = (
    λ is.
        ⊎_elim
        (λ e. subst (λ l. NoCircle other (entries (own_entries l)) l) (sym e) (still_entries other calm_rest.0))
        (λ r. subst (λ l. NoCircle other (entries (own_entries l)) l) (sym r.1)
        (subst (λ x. NoCircle x (entries (own_entries inner.deeds)) inner.deeds) (child_same k other r.0 (sym (ap (cell_at cells) (plus_zero k)) ∙ sym (tail 0))) inner.circle))
        (done_below k),
    circle_copy rest (suc k) calm_rest.1 (λ n. tail (suc n) ∙ ap (cell_at cells) (plus k n)),
  )

  copy_single : Single (Node part cells) (copy_of (flat_kids cells) part (flat_part child) j h)
  copy_single = record {
    deeds = done;
    pairs = an_invoke j child there at static inner.pairs among none_done;
    once = (fed_once, once_copy cells 0 (λ n. ap (cell_at cells) (zero_plus n)));
    circle = (subst (λ l. IsAcyclic (Node part cells) (entries l)) (sym (own-below c inner.deeds [])) (still_entries (Node part cells) calm).0, calm.1, circle_copy cells 0 calm.1 (λ n. ap (cell_at cells) (zero_plus n)));
  }
    where
      zero_plus : (a : ℕ) → a ≡ 0 + a
      zero_plus a = omega arith

      among : (e : Entry) → In (only h ∷ []) e → IsUsed (flat_part child) e.group
      among e (inl same) = subst (λ (x : Entry). IsUsed (flat_part child) x.group) same used
      among e (inr i) = absurd i

-- EACH GROUP of a flat component
abbrev Singles : Instance → Type 0
Singles i = (g : ℕ) → g < length (flat_part i).groups → Single i g

node_singles : (part : PlainComponent) (cells : Cells) → IsRuled part (Node part cells) → IsControlled (Node part cells) → AreAcyclic (Node part cells)
    → ((c : ℕ) (child : Instance) → cell_at cells c ≡ OfInstance child → Singles child) → Singles (Node part cells)
node_singles part cells ruled controlled calm below g less =
    ⊎_elim (own_single part cells ruled calm.1 g) of_copy (cases_lt g (length part.groups))
  where
    kids : Kids
    kids = flat_kids cells

    of_copy : length part.groups ≤ g → Single (Node part cells) g
    of_copy past =
        let all = length-append (map (moved_group (own_port kids part)) part.groups) (flat_map (copies kids part) part.invokes) in
        let own = length-map part.groups (moved_group (own_port kids part)) in
        let r = invoke_back kids part part.invokes (g - length part.groups) (omega (arith, less, past, all, own)) in
        let v = controlled.invokes r.0 r.2 in
        let kid = kid-static cells (the_invoke part r.0).cell v.child v.stands v.static in
        let size : length (copies kids part (the_invoke part r.0)) ≡ length (enabled_groups (groups_of (flat_part v.child).control) 0 (flat_part v.child).groups) = ap length (copies_flat kids part (the_invoke part r.0) (flat_part v.child) kid) ∙ length-map (enabled_groups (groups_of (flat_part v.child).control) 0 (flat_part v.child).groups) _ in
        let inside = r.3 in
        let x = enabled_back (groups_of (flat_part v.child).control) 0 (flat_part v.child).groups r.1 (omega (arith, inside, size)) in
        subst (Single (Node part cells)) (let e = r.4 in let f = x.3 in let z : 0 + x.0 ≡ x.0 = omega arith in let k : enabled_below (groups_of (flat_part v.child).control) (0 + x.0) ≡ enabled_below (groups_of (flat_part v.child).control) x.0 = ap (enabled_below (groups_of (flat_part v.child).control)) z in omega (arith, e, f, k, past))
        (copy_single part cells calm r.0 x.0 v.child r.2 v.stands v.static (subst (λ a. is_one_of a (groups_of (flat_part v.child).control) ≡ true) (zero_plus x.0) x.2) (below (the_invoke part r.0).cell v.child v.stands x.0 x.1))
      where
        zero_plus : (a : ℕ) → 0 + a ≡ a
        zero_plus a = omega arith

mutual
  singles : (i : Instance) → AllRuled i → AllControlled i → AreAcyclic i → Singles i
  singles (Node part cells) ruled controlled calm = node_singles part cells ruled.0 controlled.0 calm (λ c child at. singles_below cells ruled.1 controlled.1 calm.1 c child at)

  singles_below : (cells : Cells) → AllRuledBelow cells → AllControlledBelow cells → AcyclicBelow cells → (c : ℕ) (child : Instance) → cell_at cells c ≡ OfInstance child → Singles child
  singles_below no_cells ruled controlled calm c child at = absurd (cc)
  singles_below (a_primitive row rest) ruled controlled calm zero child at = absurd (cc)
  singles_below (a_primitive row rest) ruled controlled calm (suc c) child at = singles_below rest ruled controlled calm c child at
  singles_below (an_instance other rest) ruled controlled calm zero child at = let same : other ≡ child = cc in subst Singles same (singles other ruled.0 controlled.0 calm.0)
  singles_below (an_instance other rest) ruled controlled calm (suc c) child at = singles_below rest ruled.1 controlled.1 calm.1 c child at

-- UNDER THE CONTINUOUS ASSIGNMENTS, and with one group
pub flat_calm : (i flat : Instance) → IsFlattened i flat → AllFair i → AreAcyclic i → IsAcyclic flat nothing
flat_calm i flat flattened fair calm = flat_acyclic i flat flattened fair nothing nothing [] (still_tops i) (still_circle i calm)

pub flat_group_calm : (i flat : Instance) → IsFlattened i flat → AllFair i → AllRuled i → AllControlled i → AreAcyclic i → (g : ℕ) → g < length (flat_part i).groups → IsAcyclic flat (group g)
flat_group_calm i flat flattened fair ruled controlled calm g less =
    let s = singles i ruled controlled calm g less in
    flat_acyclic i flat flattened fair (entries (own_entries s.deeds)) (entries (only g ∷ [])) s.deeds (acts_of i fair s.deeds (only g ∷ []) s.pairs s.once) s.circle
