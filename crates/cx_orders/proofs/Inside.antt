-- Instances of accepted designs, statements inside others, and arms apart.
use Rattle.std.proofs.Common.{◌≡◌, ℕ, suc, ◌<◌, inl, inr, ◌⊎◌, Bool, true, false, ◌||◌, List, [], ◌∷◌, ◌++◌, Some, length, refl, ap, ◌∙◌, subst, arith}
use Rattle.std.specs.Prelude.{flat_map, slice_get}
use Rattle.cx_text.proofs.MemberLaws.{in_left, in_right, of_joined}
use Rattle.cx_text.specs.Members.{In}
use Rattle.cx_meaning.specs.declared.ports.PlacedPort.{PlacedPort}
use Rattle.cx_meaning.specs.declared.ports.PortRef.{PortRef}
use Rattle.cx_meaning.specs.Designs.{PlainComponent, PlainForm, PlainStatement, Placed, PlainStatements, no_place}
use Rattle.cx_meaning.specs.Instances.{Instance, part_of}
use Rattle.cx_meaning.specs.Active.{group, entries, same_port}
use Rattle.cx_meaning.specs.Sights.{Held}
use Rattle.cx_meaning.specs.Control.{groups_in, groups_of, groups_in_all, group_drives, groups_drive, drives}
use Rattle.cx_meaning.specs.Islands.{History, form_flat, active_in}
use Rattle.cx_rules.specs.Items.{Dynamic, Visited, visit, visit_parts, visit_all, statements_in, test_in, option_list, tests_of}
use Rattle.cx_rules.specs.Circles.{IsAcyclic, AreAcyclic}
use Rattle.cx_rules.specs.Footprints.{Reads}
use Rattle.cx_rules.specs.Footprints as footprints
use Rattle.cx_rules.specs.RaceRule.{arms_of, IsShared}
use Rattle.cx_rules.proofs.FoundLemmas.{same_is}
use Rattle.cx_frames.specs.Arms.{all_drive}
use Rattle.cx_frames.proofs.CircleFrames.{group_acyclic}
use Rattle.cx_frames.proofs.IslandFrames.{AllFine, form_fine}
use Rattle.cx_frames.proofs.LeafFrames.{IsGood}
use Rattle.cx_frames.proofs.RuleLemmas.{IsKept}
use Rattle.cx_frames.proofs.RunLemmas.{drives_group}
use Rattle.cx_frames.proofs.SightFrames.{InFrame, in_frame, IsThrough}
use Rattle.cx_laws.proofs.VisitLemmas.{visited, as_visited}
use Rattle.cx_orders.specs.Leaves.{is_among, is_tested}
use Rattle.cx_rules.proofs.ItemsLemmas.{tests_flat, option_in}
use Rattle.cx_text.proofs.NumberLaws.{suc_zero, zero_suc}
use Rattle.cx_rules.proofs.CirclesLemmas.{cells_below}
use Rattle.cx_rules.proofs.InvokesLemmas.{drives_more, reads_more}

-- an instance of an accepted design
pub record IsSound (i : Instance) : Type 0 where
  pub kept : IsKept i
  pub circles : AreAcyclic i
  pub groups : (g : ℕ) → g < length (part_of i).groups → IsAcyclic i (group g)
  pub islands : (v : Visited) (h : History) (t : ℕ) → In (statements_in (part_of i)) v → IsAcyclic i (entries (active_in h t (form_flat (part_of i) v.form 0 [])))
  pub apart : (v : Visited) → In (statements_in (part_of i)) v → (c : ℕ) → IsShared (part_of i) (arms_of v.form) c → ⊥

abbrev pub Stands : Instance → PlainStatement → Type 0
Stands i st = In (statements_in (part_of i)) (as_visited st)

pub inner_stands : (i : Instance) (st : PlainStatement) → Stands i st → (w : Visited) → In (visit Dynamic st) w → In (statements_in (part_of i)) w
inner_stands i (Placed form place) stands w j = visited Dynamic (part_of i).control (record { context = Dynamic; form = form; place = place }) w stands j

-- groups and statements that are those of another statement
pub record Inside (st : PlainStatement) (gs : List ℕ) (vs : List Visited) : Type 0 where
  pub groups : (g : ℕ) → In gs g → In (groups_of st) g
  pub forms : (v : Visited) → In vs v → In (visit Dynamic st) v

abbrev pub InsideOne : PlainStatement → PlainStatement → Type 0
InsideOne st a = Inside st (groups_of a) (visit Dynamic a)

abbrev pub InsideAll : PlainStatement → PlainStatements → Type 0
InsideAll st ss = Inside st (groups_in_all ss) (visit_all Dynamic ss)

pub inside_self : (st : PlainStatement) → InsideOne st st
inside_self st = record { groups = λ g j. j; forms = λ v j. j }

module _ (st : PlainStatement) (gs hs : List ℕ) (vs ws : List Visited) (h : Inside st (gs ++ hs) (vs ++ ws)) where
  pub inside_left : Inside st gs vs
  inside_left = record { groups = λ g j. h.groups g (in_left gs hs g j); forms = λ v j. h.forms v (in_left vs ws v j) }

  pub inside_right : Inside st hs ws
  inside_right = record { groups = λ g j. h.groups g (in_right gs hs g j); forms = λ v j. h.forms v (in_right vs ws v j) }

flat_inside : (st : PlainStatement) (vs : List Visited) (p : PlacedPort) → ((v : Visited) → In vs v → In (visit Dynamic st) v) → In (flat_map (λ v. option_list (test_in v.form)) vs) p → In (tests_of st) p
flat_inside st [] p h j = absurd j
flat_inside st (v ∷ vs) p h j =
    of_joined (option_list (test_in v.form)) (flat_map (λ x. option_list (test_in x.form)) vs) p j
    (λ k. tests_flat (visit Dynamic st) v p (h v (inl refl)) (option_in (test_in v.form) p k))
    (λ k. flat_inside st vs p (λ w l. h w (inr l)) k)

pub flat_from : (vs : List Visited) (p : PlacedPort) → In (flat_map (λ v. option_list (test_in v.form)) vs) p → (v : Visited) × In vs v × (test_in v.form ≡ Some p)
flat_from [] p j = absurd j
flat_from (v ∷ vs) p j =
    of_joined (option_list (test_in v.form)) (flat_map (λ x. option_list (test_in x.form)) vs) p j
    (λ k. (v, inl refl, option_in (test_in v.form) p k))
    (λ k. let r = flat_from vs p k in (r.0, inr r.1, r.2))

pub among_is : (list : List PlacedPort) (port : PortRef) → is_among list port ≡ true → (p : PlacedPort) × In list p × (p.port ≡ port)
among_is [] port e = absurd (cc)
among_is (p ∷ rest) port e = go (same_port p.port port) refl e (among_is rest port)
  where
    go : (b : Bool) → same_port p.port port ≡ b → (b || is_among rest port) ≡ true → (is_among rest port ≡ true → (q : PlacedPort) × In rest q × (q.port ≡ port)) → (q : PlacedPort) × In (p ∷ rest) q × (q.port ≡ port)
    go true same f later = (p, inl refl, same_is p.port port same)
    go false differ f later = let r = later f in (r.0, inr r.1, r.2)

-- what a statement inside drives and reads
pub drives_inside : (part : PlainComponent) (st : PlainStatement) (gs : List ℕ) (c : ℕ) → ((g : ℕ) → In gs g → In (groups_of st) g) → groups_drive part gs c ≡ true → drives part st c ≡ true
drives_inside part st [] c h e = absurd (cc)
drives_inside part st (g ∷ gs) c h e = go (group_drives part g c) refl e (drives_inside part st gs c (λ k j. h k (inr j)))
  where
    go : (b : Bool) → group_drives part g c ≡ b → (b || groups_drive part gs c) ≡ true → (groups_drive part gs c ≡ true → drives part st c ≡ true) → drives part st c ≡ true
    go true here e later = drives_group part st g c (h g (inl refl)) here
    go false here e later = later e

pub reads_inside : (part : PlainComponent) (st a : PlainStatement) → InsideOne st a → (c : ℕ) → Reads part a c → Reads part st c
reads_inside part st a h c (footprints.driven e) = footprints.driven (drives_inside part st (groups_of a) c h.groups e)
reads_inside part st a h c (footprints.named p g x j k n) = footprints.named p g x (h.groups g j) k n
reads_inside part st a h c (footprints.tested p test j is) = footprints.tested p test (flat_inside st (visit Dynamic a) test h.forms j) is
reads_inside part st a h c (footprints.through d p q x r j t n) = footprints.through d p q x (reads_inside part st a h d r) j t n

-- a form of a statement
abbrev pub FormIn : PlainStatement → PlainForm → Type 0
FormIn st form = (w : Visited) × In (visit Dynamic st) w × (w.form ≡ form)

module _ (i : Instance) (held : Held) (sound : IsSound i) (st : PlainStatement) where
  pub through_reads : IsThrough (part_of i) (Reads (part_of i) st)
  through_reads c p e q a r j t n = footprints.through c p q a r j t n

  -- a group of it drives and names nothing that it does not read
  abbrev pub Good : ℕ → Type 0
  Good = IsGood i held (Reads (part_of i) st) sound.kept through_reads (cells_below i sound.circles)

  pub good : (g : ℕ) → In (groups_of st) g → Good g
  good g j = record {
    within = record { drives = λ c e. footprints.driven (drives_group (part_of i) st g c j e); names = λ a c p k n. footprints.named p g a j k n };
    acyclic = group_acyclic i sound.circles sound.groups g;
  }

  module _ (stands : Stands i st) where
    -- a test of it is in its frame
    pub test_inside : (form : PlainForm) (p : PlacedPort) → FormIn st form → test_in form ≡ Some p → InFrame (Reads (part_of i) st) p.port
    test_inside form p (w, j, e) f =
        let test : test_in w.form ≡ Some p = ap test_in e ∙ f in
        in_frame (Reads (part_of i) st) p.port (λ c n is. footprints.tested n p (tests_flat (visit Dynamic st) w p j test) is) (λ n is. sound.kept.tests w p n (inner_stands i st stands w j) test is)

    -- an island of it
    pub island_fine : (form : PlainForm) → FormIn st form → Inside st (groups_in form) (visit_parts Dynamic form) → AllFine Good (InFrame (Reads (part_of i) st)) (form_flat (part_of i) form 0 [])
    island_fine form here inside =
        form_fine Good (InFrame (Reads (part_of i) st)) (FormIn st) test_inside (part_of i) Dynamic form 0 [] here
        (record { groups = λ g j. good g (inside.groups g j); forms = λ v j. (v, inside.forms v j, refl) }) tt

    -- what an island of it tests
    pub tests_inside : (form : PlainForm) → FormIn st form → Inside st (groups_in form) (visit_parts Dynamic form) → (port : PortRef) → is_tested form port ≡ true → InFrame (Reads (part_of i) st) port
    tests_inside form (w, j, e) inside port f =
        let found = among_is (tests_of (Placed form no_place)) port f in
        let stood = flat_from (visit Dynamic (Placed form no_place)) found.0 found.1 in
        subst (InFrame (Reads (part_of i) st)) found.2 (test_inside stood.0.form found.0 (of_visit stood.0 stood.1) stood.2)
      where
        of_visit : (v : Visited) → In (visit Dynamic (Placed form no_place)) v → FormIn st v.form
        of_visit v (inl same) = (w, j, e ∙ ap (λ x. x.form) same)
        of_visit v (inr k) = (v, inside.forms v k, refl)

    pub island_acyclic : (form : PlainForm) → FormIn st form → (h : History) (t : ℕ) → IsAcyclic i (entries (active_in h t (form_flat (part_of i) form 0 [])))
    island_acyclic form (w, j, e) h t =
        subst (λ f. IsAcyclic i (entries (active_in h t (form_flat (part_of i) f 0 [])))) e (sound.islands w h t (inner_stands i st stands w j))

-- arms one of which drives nothing that another reads
abbrev pub AnyReads : PlainComponent → List PlainStatement → ℕ → Type 0
AnyReads part [] c = ⊥
AnyReads part (s ∷ ss) c = Reads part s c ⊎ AnyReads part ss c

pub record Apart (part : PlainComponent) (s : PlainStatement) (ss : List PlainStatement) : Type 0 where
  pub one : (c : ℕ) → drives part s c ≡ true → AnyReads part ss c → ⊥
  pub other : (c : ℕ) → all_drive part ss c ≡ true → Reads part s c → ⊥

reading : (part : PlainComponent) (ss : List PlainStatement) (c : ℕ) → AnyReads part ss c → (n : ℕ) × (s : PlainStatement) × (slice_get ss n ≡ Some s) × Reads part s c
reading part [] c r = absurd r
reading part (s ∷ ss) c (inl r) = (0, s, refl, r)
reading part (s ∷ ss) c (inr r) = let found = reading part ss c r in (suc found.0, found.1, found.2, found.3)

driving : (part : PlainComponent) (ss : List PlainStatement) (c : ℕ) → all_drive part ss c ≡ true → (n : ℕ) × (s : PlainStatement) × (slice_get ss n ≡ Some s) × (drives part s c ≡ true)
driving part [] c e = absurd (cc)
driving part (s ∷ ss) c e = go (drives part s c) refl e (driving part ss c)
  where
    go : (b : Bool) → drives part s c ≡ b → (b || all_drive part ss c) ≡ true → (all_drive part ss c ≡ true → (n : ℕ) × (s : PlainStatement) × (slice_get ss n ≡ Some s) × (drives part s c ≡ true))
        → (n : ℕ) × (x : PlainStatement) × (slice_get (s ∷ ss) n ≡ Some x) × (drives part x c ≡ true)
    go true here e later = (0, s, refl, here)
    go false here e later = let found = later e in (suc found.0, found.1, found.2, found.3)

pub apart_first : (part : PlainComponent) (s : PlainStatement) (ss : List PlainStatement) → ((c : ℕ) → IsShared part (s ∷ ss) c → ⊥) → Apart part s ss
apart_first part s ss none = record {
  one = λ c e r. let found = reading part ss c r in
      none c (record { one = 0; other = suc found.0; differ = zero_suc found.0; first = s; second = found.1; first_stands = refl; second_stands = found.2 }, drives_more part s c e, reads_more part found.1 c found.3);
  other = λ c e r. let found = driving part ss c e in
      none c (record { one = suc found.0; other = 0; differ = suc_zero found.0; first = found.1; second = s; first_stands = found.2; second_stands = refl }, drives_more part found.1 c found.3, reads_more part s c r);
}

pub apart_rest : (part : PlainComponent) (s : PlainStatement) (ss : List PlainStatement) → ((c : ℕ) → IsShared part (s ∷ ss) c → ⊥) → (c : ℕ) → IsShared part ss c → ⊥
apart_rest part s ss none c (two, e, r) =
    none c (record { one = suc two.one; other = suc two.other; differ = λ same. two.differ (let f : two.one ≡ two.other = omega arith in f); first = two.first; second = two.second; first_stands = two.first_stands; second_stands = two.second_stands }, e, r)
