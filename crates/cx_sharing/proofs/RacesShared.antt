-- A RACE of the shared design is one of the design: what two arms drive and read stands for cells of which each arm uses one, and such cells meet.
use Rattle.std.proofs.Common.{◌≡◌, ℕ, zero, suc, inl, inr, ⊎_elim, true, false, ◌||◌, List, [], ◌∷◌, map, Option, Some, None, slice_get, refl, sym, ap, ap₂, ◌∙◌, subst}
use Rattle.std.specs.List.{list_any}
use Rattle.std.proofs.lemmas.Bool.{both_ways, eqb-true, eq-eqb, or_cases, or_right}
use Rattle.cx_text.proofs.MemberLaws.{image_in, in_at, flat_in}
use Rattle.cx_text.specs.declared.places.Place.{Place}
use Rattle.cx_meaning.specs.declared.ports.PortRef.{PortRef}
use Rattle.cx_meaning.specs.declared.ports.PortRef.TheVariants as ports
use Rattle.cx_meaning.specs.declared.ports.PlacedPort.{PlacedPort}
use Rattle.cx_meaning.specs.Designs.{PlainAssign, PlainInvoke, PlainComponent, group_at, PlainForm, PlainStatement}
use Rattle.cx_meaning.specs.Instances.{Instance, part_of}
use Rattle.cx_meaning.specs.Control.{targets_cell, assigns_drive, groups_drive, groups_of, drives}
use Rattle.cx_text.specs.Members.{In}
use Rattle.cx_meaning.proofs.InstancesLemmas.{just_same}
use Rattle.cx_rules.specs.Items.{Visited, statements_in, option_list, tests_of}
use Rattle.cx_rules.specs.Footprints.{AssignNames}
use Rattle.cx_rules.specs.Invokes.{invoke_at, invokes_of, capture_of, captures_of, is_cell_of, invokes_cell, drives_all, ReadsAll, driven, named, captured, fed, tested, through}
use Rattle.cx_rules.specs.RaceRule.{Arms, arms_of, enabled_in, IsShared, IsEnabledTwice, BreaksRace}
use Rattle.cx_rules.proofs.ForeignLemmas.{assigns_drive_in}
use Rattle.cx_rewrites.specs.Moving.{moved_port, moved_assign, moved_form, moved_statement}
use Rattle.cx_rewrites.proofs.ReflectLemmas.{names_back}
use Rattle.cx_sharing.specs.Uses.{assign_uses, assigns_use, group_uses, uses, is_candidate}
use Rattle.cx_sharing.specs.Meeting.{arms_meet, form_meets, meet}
use Rattle.cx_sharing.specs.Giving.{new_cell}
use Rattle.cx_sharing.proofs.KeptLemmas.{new_apart}
use Rattle.cx_sharing.proofs.UsedLemmas.{any_of, target_used, named_used, no_candidate, statement_meets}
use Rattle.cx_sharing.proofs.MeetLemmas.{arms_meet-true, in_form}
use Rattle.cx_rewrites.proofs.MovedLists as lists
use Rattle.cx_rewrites.proofs.MovedLists.{moved_visited}
use Rattle.cx_rewrites.proofs.MovedInvokes.{invokes_of-moved}
use Rattle.cx_rewrites.proofs.PlaceRules.{ByStatement}
use Rattle.cx_sharing.proofs.SharedParts.{captures_of-shared, Shares, new_port, invoke_back, own_assigns, own_always}
use Rattle.cx_sharing.proofs.InvokesShared.{NoneInvoked}
use Rattle.cx_sharing.proofs.RestsShared.{stands_for, driver_in, always_apart}
use Rattle.cx_meaning.proofs.ControlLaws.{groups_drive_in, driver}
use Rattle.cx_text.proofs.ListLaws.{at_map}

-- WHAT A STATEMENT DRIVES AND READS OF CANDIDATES it uses
drives_used : (list : List PlainAssign) (c : ℕ) → assigns_drive list c ≡ true → assigns_use list c ≡ true
drives_used list c e = let r = driver_in list c e in any_of (λ a. assign_uses a c) list r.0 r.1 (target_used r.0 c r.2.0 r.2.1)

-- what captures, of the static invokes of some numbers
capture_there : (part : PlainComponent) (ks : List ℕ) (g : ℕ) → In (captures_of part ks) g → (k : ℕ) × (w : PlainInvoke) × In ks k × (invoke_at part k ≡ Some w) × (w.captures ≡ Some g)
capture_there part ks g i = let r = flat_in (λ k. capture_of (invoke_at part k)) ks g i in by r.0 r.1 (invoke_at part r.0) refl r.2
  where
    is_it : (o : Option ℕ) → In (option_list o) g → o ≡ Some g
    is_it None j = absurd j
    is_it (Some h) (inl e) = ap Some e
    is_it (Some h) (inr j) = absurd j

    by : (k : ℕ) → In ks k → (o : Option PlainInvoke) → invoke_at part k ≡ o → In (capture_of o) g → (n : ℕ) × (w : PlainInvoke) × In ks n × (invoke_at part n ≡ Some w) × (w.captures ≡ Some g)
    by k j None e h = absurd h
    by k j (Some w) e h = (k, w, j, e, is_it w.captures h)

-- the invoke that runs a cell
runner : (part : PlainComponent) (ks : List ℕ) (c : ℕ) → invokes_cell part ks c ≡ true → (k : ℕ) × (w : PlainInvoke) × In ks k × (invoke_at part k ≡ Some w) × (w.cell ≡ c)
runner part [] c e = absurd (cc)
runner part (k ∷ ks) c e =
    ⊎_elim (λ h. by (invoke_at part k) refl h) (λ h. let r = runner part ks c h in (r.0, r.1, inr r.2, r.3, r.4)) (or_cases (is_cell_of (invoke_at part k) c) (invokes_cell part ks c) e)
  where
    by : (o : Option PlainInvoke) → invoke_at part k ≡ o → is_cell_of o c ≡ true → (n : ℕ) × (w : PlainInvoke) × In (k ∷ ks) n × (invoke_at part n ≡ Some w) × (w.cell ≡ c)
    by None at h = absurd (cc)
    by (Some w) at h = (k, w, inl refl, at, eqb-true w.cell c h)

runs_it : (part : PlainComponent) (ks : List ℕ) (k : ℕ) (w : PlainInvoke) → In ks k → invoke_at part k ≡ Some w → invokes_cell part ks w.cell ≡ true
runs_it part [] k w i at = absurd i
runs_it part (n ∷ ks) k w (inl same) at =
    ap (λ b. b || invokes_cell part ks w.cell) (ap (λ m. is_cell_of (invoke_at part m) w.cell) same ∙ ap (λ o. is_cell_of o w.cell) at ∙ eq-eqb w.cell w.cell refl)
runs_it part (n ∷ ks) k w (inr i) at = or_right (is_cell_of (invoke_at part n) w.cell) (invokes_cell part ks w.cell) (runs_it part ks k w i at)

module _ (part : PlainComponent) (none : NoneInvoked part) (s : PlainStatement) (c : ℕ) (is : is_candidate part c ≡ true) where
  by_group : (g : ℕ) → In (groups_of s) g → group_uses part g c ≡ true → uses part s c ≡ true
  by_group g i e = ap (λ b. b || list_any (λ (p : PlacedPort). targets_cell p.port c) (tests_of s)) (any_of (λ h. group_uses part h c) (groups_of s) g i e)

  -- what static invokes name is none
  other : {A : Type 0} → is_candidate part c ≡ false → A
  other off = absurd (both_ways (is_candidate part c) off is)

  captured_other : {A : Type 0} (g : ℕ) → In (captures_of part (invokes_of s)) g → group_uses part g c ≡ true → A
  captured_other g i e = let r = capture_there part (invokes_of s) g i in other (none.captures r.1 (in_at part.invokes r.0 r.1 r.3) g c r.4 e)

  pub driven_used : drives_all part s c ≡ true → uses part s c ≡ true
  driven_used e = ⊎_elim grouped (λ h. ⊎_elim invoked captures (or_cases (invokes_cell part (invokes_of s) c) (groups_drive part (captures_of part (invokes_of s)) c) h))
      (or_cases (drives part s c) (invokes_cell part (invokes_of s) c || groups_drive part (captures_of part (invokes_of s)) c) e)
    where
      grouped : drives part s c ≡ true → uses part s c ≡ true
      grouped h = let r = driver part (groups_of s) c h in by_group r.0 r.1 (drives_used (group_at part r.0).assigns c r.2)

      invoked : invokes_cell part (invokes_of s) c ≡ true → uses part s c ≡ true
      invoked h = let r = runner part (invokes_of s) c h in other (ap (is_candidate part) (sym r.4) ∙ none.cells r.1 (in_at part.invokes r.0 r.1 r.3))

      captures : groups_drive part (captures_of part (invokes_of s)) c ≡ true → uses part s c ≡ true
      captures h = let r = driver part (captures_of part (invokes_of s)) c h in captured_other r.0 r.1 (drives_used (group_at part r.0).assigns c r.2)

  pub read_used : ReadsAll part s c → uses part s c ≡ true
  read_used (driven e) = driven_used e
  read_used (named p g a i j names) = by_group g i (any_of (λ x. assign_uses x c) (group_at part g).assigns a j (named_used a c p names))
  read_used (captured p g a i j names) = captured_other g i (any_of (λ x. assign_uses x c) (group_at part g).assigns a j (named_used a c p names))
  read_used (fed p a f names) = other (none.inputs f.invoke (in_at part.invokes f.number f.invoke f.is) a f.input c p names)
  read_used (tested p test i e) =
      or_right (list_any (λ g. group_uses part g c) (groups_of s)) (list_any (λ (q : PlacedPort). targets_cell q.port c) (tests_of s))
      (any_of (λ (q : PlacedPort). targets_cell q.port c) (tests_of s) test i (ap (λ q. targets_cell q c) e ∙ just_same c))
  read_used (through d p q a reads i target names) = other (no_candidate part c (any_of (λ x. assign_uses x c) part.always a i (named_used a c q names)))

-- TWO ARMS that use one each
module _ (part : PlainComponent) (x y : ℕ) where
  pub arms_meet_there : (v : Visited) → In (statements_in part) v → arms_meet part (arms_of v.form) x y ≡ true → meet part x y ≡ true
  arms_meet_there v i e = statement_meets part x y (any_of (λ (w : Visited). form_meets part w.form x y) (statements_in part) v i (in_form part v.form x y e))

module _ (i j : Instance) (shares : Shares i j) where
  abbrev number : ℕ → ℕ
  number = new_cell (part_of i)

  abbrev move : PortRef → PortRef
  move = new_port shares

  -- WHAT A STATEMENT OF THE SHARED DESIGN drives and reads stands for what the statement drives and reads
  module _ (s : PlainStatement) where
    abbrev invoked_there : List ℕ
    invoked_there = invokes_of (moved_statement move s)

    invoked_is : invoked_there ≡ invokes_of s
    invoked_is = invokes_of-moved move s

    captures_are : captures_of (part_of j) invoked_there ≡ captures_of (part_of i) (invokes_of s)
    captures_are = ap₂ captures_of shares.part invoked_is ∙ captures_of-shared (part_of i) (invokes_of s)

    -- what groups drive
    groups_back : (gs : List ℕ) (e : ℕ) → groups_drive (part_of j) gs e ≡ true → (c : ℕ) × (number c ≡ e) × (groups_drive (part_of i) gs c ≡ true)
    groups_back gs e d =
        let r = driver (part_of j) gs e d in
        let a = driver_in (group_at (part_of j) r.0).assigns e r.2 in
        let x = image_in (moved_assign move) (group_at (part_of i) r.0).assigns a.0 (subst (λ list. In list a.0) (own_assigns shares r.0) a.1) in
        let t = stands_for number x.0.target e a.2.0 (ap (λ (z : PlainAssign). z.target) x.2 ∙ a.2.1) in
        (t.own, t.number, groups_drive_in (part_of i) gs r.0 t.own r.1 (assigns_drive_in (group_at (part_of i) r.0).assigns x.0 t.own a.2.0 x.1 t.is))

    abbrev DrivenBack : ℕ → Type 0
    DrivenBack e = (c : ℕ) × (number c ≡ e) × (drives_all (part_of i) s c ≡ true)

    drives_back : (e : ℕ) → drives_all (part_of j) (moved_statement move s) e ≡ true → DrivenBack e
    drives_back e d =
        ⊎_elim grouped (λ h. ⊎_elim invoked captures (or_cases (invokes_cell (part_of j) invoked_there e) (groups_drive (part_of j) (captures_of (part_of j) invoked_there) e) h))
        (or_cases (drives (part_of j) (moved_statement move s) e) (invokes_cell (part_of j) invoked_there e || groups_drive (part_of j) (captures_of (part_of j) invoked_there) e) d)
      where
        grouped : drives (part_of j) (moved_statement move s) e ≡ true → DrivenBack e
        grouped h =
            let r = groups_back (groups_of s) e (subst (λ gs. groups_drive (part_of j) gs e ≡ true) (lists.groups_of-moved move s) h) in
            (r.0, r.1, ap (λ b. b || (invokes_cell (part_of i) (invokes_of s) r.0 || groups_drive (part_of i) (captures_of (part_of i) (invokes_of s)) r.0)) r.2)

        invoked : invokes_cell (part_of j) invoked_there e ≡ true → DrivenBack e
        invoked h =
            let r = runner (part_of j) invoked_there e h in
            let x = invoke_back shares r.0 r.1 r.3 in
            let runs : invokes_cell (part_of i) (invokes_of s) x.0.cell ≡ true = runs_it (part_of i) (invokes_of s) r.0 x.0 (subst (λ ks. In ks r.0) invoked_is r.2) x.1 in (
              x.0.cell,
              ap (λ (w : PlainInvoke). w.cell) x.2 ∙ r.4,
              or_right (drives (part_of i) s x.0.cell) (invokes_cell (part_of i) (invokes_of s) x.0.cell || groups_drive (part_of i) (captures_of (part_of i) (invokes_of s)) x.0.cell)
                  (ap (λ b. b || groups_drive (part_of i) (captures_of (part_of i) (invokes_of s)) x.0.cell) runs),
            )

        captures : groups_drive (part_of j) (captures_of (part_of j) invoked_there) e ≡ true → DrivenBack e
        captures h =
            let r = groups_back (captures_of (part_of i) (invokes_of s)) e (subst (λ gs. groups_drive (part_of j) gs e ≡ true) captures_are h) in (
              r.0,
              r.1,
              or_right (drives (part_of i) s r.0) (invokes_cell (part_of i) (invokes_of s) r.0 || groups_drive (part_of i) (captures_of (part_of i) (invokes_of s)) r.0)
                  (or_right (invokes_cell (part_of i) (invokes_of s) r.0) (groups_drive (part_of i) (captures_of (part_of i) (invokes_of s)) r.0) r.2),
            )

    abbrev ReadBack : ℕ → Type 0
    ReadBack e = (c : ℕ) × (number c ≡ e) × ReadsAll (part_of i) s c

    -- what an assignment of a group names
    abbrev NamedBack : ℕ → ℕ → ℕ → Type 0
    NamedBack g e p = (c : ℕ) × (number c ≡ e) × (b : PlainAssign) × In (group_at (part_of i) g).assigns b × AssignNames b (ports.Cell c p)

    named_back : (g e p : ℕ) (a : PlainAssign) → In (group_at (part_of j) g).assigns a → AssignNames a (ports.Cell e p) → NamedBack g e p
    named_back g e p a l names =
        let x = image_in (moved_assign move) (group_at (part_of i) g).assigns a (subst (λ list. In list a) (own_assigns shares g) l) in
        let y = names_back move x.0 (ports.Cell e p) (subst (λ (z : PlainAssign). AssignNames z (ports.Cell e p)) (sym x.2) names) in
        let t = stands_for number y.0 e p y.1 in
        (t.own, t.number, x.0, x.1, subst (AssignNames x.0) t.is y.2)

    reads_back : (e : ℕ) → ReadsAll (part_of j) (moved_statement move s) e → ReadBack e
    reads_back e (driven d) = let r = drives_back e d in (r.0, r.1, driven r.2)
    reads_back e (named p g a k l names) = let r = named_back g e p a l names in (r.0, r.1, named p g r.2 (subst (λ gs. In gs g) (lists.groups_of-moved move s) k) r.3 r.4)
    reads_back e (captured p g a k l names) = let r = named_back g e p a l names in (r.0, r.1, captured p g r.2 (subst (λ gs. In gs g) captures_are k) r.3 r.4)
    reads_back e (fed p a f names) =
        let v = invoke_back shares f.number f.invoke f.is in
        let x = image_in (moved_assign move) v.0.inputs a (subst (λ (w : PlainInvoke). In w.inputs a) (sym v.2) f.input) in
        let y = names_back move x.0 (ports.Cell e p) (subst (λ (z : PlainAssign). AssignNames z (ports.Cell e p)) (sym x.2) names) in
        let t = stands_for number y.0 e p y.1 in (
          t.own,
          t.number,
          fed {c = t.own} p x.0 (record { number = f.number; stands = subst (λ ks. In ks f.number) invoked_is f.stands; invoke = v.0; is = v.1; input = x.1 }) (subst (AssignNames x.0) t.is y.2),
        )
    reads_back e (tested p test k is) =
        let x = image_in (moved_port move) (tests_of s) test (subst (λ list. In list test) (lists.tests_of-moved move s) k) in
        let t = stands_for number x.0.port e p (ap (λ (z : PlacedPort). z.port) x.2 ∙ is) in
        (t.own, t.number, tested p x.0 x.1 t.is)
    reads_back e (through c p q a reads k target names) =
        let r = reads_back c reads in
        let x = image_in (moved_assign move) (part_of i).always a (subst (λ list. In list a) (own_always shares) k) in
        let t = stands_for number x.0.target c p (ap (λ (z : PlainAssign). z.target) x.2 ∙ target) in
        let y = names_back move x.0 (ports.Cell e q) (subst (λ (z : PlainAssign). AssignNames z (ports.Cell e q)) (sym x.2) names) in
        let u = stands_for number y.0 e q y.1 in
        let same : t.own ≡ r.0 = always_apart i j shares r.0 t.own p x.0 x.1 t.is (t.number ∙ sym r.1) in
        (u.own, u.number, through r.0 p q x.0 r.2 x.1 (t.is ∙ ap (λ n. ports.Cell n p) same) (subst (AssignNames x.0) u.is y.2))

  -- ARMS
  map_at : {A B : Type 0} (f : A → B) (list : List A) (n : ℕ) (x : A) → slice_get list n ≡ Some x → slice_get (map f list) n ≡ Some (f x)
  map_at f [] n x e = absurd (cc)
  map_at f (z ∷ zs) zero x e = let same : z ≡ x = cc in ap (λ y. Some (f y)) same
  map_at f (z ∷ zs) (suc n) x e = map_at f zs n x e

  record ArmsBack (form : PlainForm) (two : Arms (arms_of (moved_form move form))) : Type 0 where
    old : Arms (arms_of form)
    first : moved_statement move old.first ≡ two.first
    second : moved_statement move old.second ≡ two.second

  arms_back : (form : PlainForm) (two : Arms (arms_of (moved_form move form))) → ArmsBack form two
  arms_back form two =
      let f = at_map (moved_statement move) (arms_of form) two.one two.first (ap (λ list. slice_get list two.one) (sym (lists.arms_of-moved move form)) ∙ two.first_stands) in
      let s = at_map (moved_statement move) (arms_of form) two.other two.second (ap (λ list. slice_get list two.other) (sym (lists.arms_of-moved move form)) ∙ two.second_stands) in
      record {
        old = record { one = two.one; other = two.other; differ = two.differ; first = f.0; second = s.0; first_stands = f.1; second_stands = s.1 };
        first = f.2;
        second = s.2;
      }

  abbrev arms_there : (form : PlainForm) (two : Arms (arms_of form)) → Arms (arms_of (moved_form move form))
  arms_there form two = record {
    one = two.one;
    other = two.other;
    differ = two.differ;
    first = moved_statement move two.first;
    second = moved_statement move two.second;
    first_stands = ap (λ list. slice_get list two.one) (lists.arms_of-moved move form) ∙ map_at (moved_statement move) (arms_of form) two.one two.first two.first_stands;
    second_stands = ap (λ list. slice_get list two.other) (lists.arms_of-moved move form) ∙ map_at (moved_statement move) (arms_of form) two.other two.second two.second_stands;
  }

  module _ (none : NoneInvoked (part_of i)) (v : Visited) (there : In (statements_in (part_of i)) v) (unshared : (c : ℕ) → IsShared (part_of i) (arms_of v.form) c → ⊥) where
    shared_back : (e : ℕ) → IsShared (part_of j) (arms_of (moved_form move v.form)) e → ⊥
    shared_back e (two, drives_it, reads_it) =
        let a = arms_back v.form two in
        let d = drives_back a.old.first e (subst (λ s. drives_all (part_of j) s e ≡ true) (sym a.first) drives_it) in
        let r = reads_back a.old.second e (subst (λ s. ReadsAll (part_of j) s e) (sym a.second) reads_it) in
        ⊎_elim (λ same. unshared r.0 (a.old, subst (λ c. drives_all (part_of i) a.old.first c ≡ true) same d.2, r.2))
        (λ h.
        let u = driven_used (part_of i) none a.old.first d.0 h.0 d.2 in
        let w = read_used (part_of i) none a.old.second r.0 h.1 r.2 in
        ⊎_elim
        (λ off. both_ways (meet (part_of i) d.0 r.0) off (arms_meet_there (part_of i) d.0 r.0 v there (arms_meet-true (part_of i) (arms_of v.form) a.old.one a.old.other a.old.first a.old.second d.0 r.0 a.old.differ a.old.first_stands a.old.second_stands u w)))
        (λ off. both_ways (meet (part_of i) r.0 d.0) off (arms_meet_there (part_of i) r.0 d.0 v there (arms_meet-true (part_of i) (arms_of v.form) a.old.other a.old.one a.old.second a.old.first r.0 d.0 (λ e. a.old.differ (sym e)) a.old.second_stands a.old.first_stands w u)))
        h.2)
        (new_apart (part_of i) d.0 r.0 (d.1 ∙ sym r.1))

    twice_back : (g : ℕ) → IsEnabledTwice (arms_of (moved_form move v.form)) g → IsEnabledTwice (arms_of v.form) g
    twice_back g (two, a, b) =
        let r = arms_back v.form two in
        (r.old, subst (λ gs. In gs g) (ap enabled_in (sym r.first) ∙ lists.enabled_in-moved move r.old.first) a, subst (λ gs. In gs g) (ap enabled_in (sym r.second) ∙ lists.enabled_in-moved move r.old.second) b)

    twice_there : (g : ℕ) → IsEnabledTwice (arms_of v.form) g → IsEnabledTwice (arms_of (moved_form move v.form)) g
    twice_there g (two, a, b) = (arms_there v.form two, subst (λ gs. In gs g) (sym (lists.enabled_in-moved move two.first)) a, subst (λ gs. In gs g) (sym (lists.enabled_in-moved move two.second)) b)

    pub race_back : (place : Place) (name : List ℕ) → BreaksRace j (moved_visited move v) place name → ByStatement BreaksRace i v
    race_back place name (inl (c, shared, least, told)) = absurd (shared_back c shared)
    race_back place name (inr (none, (g, twice, least, told))) = (_, _, inr (unshared, (g, twice_back g twice, (λ h lt other. least h lt (twice_there h other)), (refl, refl))))
