-- NO RACES in a flat component: none of its arms reads what another drives or enables what another enables, where that is so in the tree.
use Rattle.std.proofs.Common.{◌≡◌, ℕ, zero, suc, ◌<◌, ⊎_elim, true, List, [], length, get_or, Option, Some, None, sym, ap, ◌∙◌, subst, arith}
use Rattle.std.specs.Prelude.{slice_get}
use Rattle.cx_text.specs.declared.places.Place.{Place}
use Rattle.cx_text.specs.declared.rules.Rule.{Rule}
use Rattle.cx_text.specs.declared.rules.Rule.TheVariants as rules
use Rattle.cx_meaning.specs.declared.ports.PlacedPort.{PlacedPort}
use Rattle.cx_meaning.specs.Designs.{PlainGroup, PlainComponent, PlainDesign, component_at, no_group, PlainForm, Timed, PlainStatement}
use Rattle.cx_meaning.specs.Instances.{Instance, Node, Cells, no_cells, a_primitive, an_instance, OfInstance, part_of, cell_at}
use Rattle.cx_meaning.specs.Control.{groups_of, assigns_drive, groups_drive, drives}
use Rattle.cx_text.specs.Members.{In}
use Rattle.cx_meaning.proofs.ControlLaws.{groups_drive_in, driver}
use Rattle.cx_meaning.proofs.DesignsLemmas.{same_part}
use Rattle.cx_rules.specs.Accepted.{IsAccepted, stage_of, Breaks, KeepsStage}
use Rattle.cx_rules.specs.Footprints.{Reads, driven, named, tested, through}
use Rattle.cx_rules.specs.Invokes.{ReadsAll}
use Rattle.cx_rules.specs.Items.{Dynamic, statements_in, tests_of}
use Rattle.cx_rules.specs.Ports.{component_of}
use Rattle.cx_rules.specs.RaceRule.{Arms, arms_of, enabled_in, BreaksRace}
use Rattle.cx_rules.specs.Spots.{Spot, OnStatement}
use Rattle.cx_rules.specs.Wellformed.{IsDesign}
use Rattle.cx_rules.proofs.InvokesLemmas.{drives_all-flat, reads_all-flat}
use Rattle.cx_flattening.specs.Events.{the_invoke}
use Rattle.cx_flattening.specs.Copies.{copied_statement}
use Rattle.cx_flattening.specs.Flattened.{Kids, kid_at, invoke_port, copy_of, flat_kids, flat_part, flat_statement}
use Rattle.cx_flattening.specs.FlatDesign.{flat_design}
use Rattle.cx_flattening.specs.Fair.{IsFair, AllFair, AllFairBelow}
use Rattle.cx_flattening.specs.Controlled.{timed_of, IsControlled, AllControlled, AllControlledBelow}
use Rattle.cx_flattening.specs.Ends.{NoneNamesDone}
use Rattle.cx_flattening.proofs.TreeLevels.{no_way}
use Rattle.cx_flattening.proofs.AcceptedTrees.{IsGood}
use Rattle.cx_flattening.proofs.FlatRows.{flat_design_flat}
use Rattle.cx_flattening.proofs.FlatNumbers.{IsMade, made}
use Rattle.cx_flattening.proofs.FlatRanges.{slice_in}
use Rattle.cx_flattening.proofs.FlatStages.{good_component}
use Rattle.cx_flattening.proofs.FlatSafe.{kid_from}
use Rattle.cx_flattening.proofs.FlatForms.{forms_of, form_visited, tested_form, form_tested, IsWithin, arm_one, TwoOf, two_of, arms_copied, arms_flat, Comes, comes}
use Rattle.cx_flattening.proofs.FlatForms as forms
use Rattle.cx_flattening.proofs.FlatInside.{one_cell, IsInside, test_named, below_inside, form_timed}
use Rattle.cx_flattening.proofs.FlatReads.{flat_drives, flat_reads}
use Rattle.cx_flattening.proofs.CopyReads.{copies_apart}
use Rattle.cx_flattening.proofs.FlatOnce.{EnablesOnce, AllOnce, OnceBelow, once_tree, unshared, none_twice, copies_once}
use Rattle.cx_flattening.proofs.FairParts.{HasCells, AllHave, AllHaveBelow}
use Rattle.cx_flattening.proofs.Ruled.{IsRuled, AllRuled, AllRuledBelow}

-- what one statement drives the other does not read, and it enables no group of the other
pub record AreApart (K : PlainComponent) (s t : PlainStatement) : Type 0 where
  pub cells : (x : ℕ) → drives K s x ≡ true → Reads K t x → ⊥
  pub groups : (g : ℕ) → In (enabled_in s) g → In (enabled_in t) g → ⊥

-- the arms of a form, and of each form of the control of a component
abbrev pub NoRace : PlainComponent → PlainForm → Type 0
NoRace K x = (two : Arms (arms_of x)) → AreApart K two.first two.second

abbrev pub NoRaces : PlainComponent → Type 0
NoRaces K = (x : PlainForm) → In (forms_of K.control) x → NoRace K x

no_arms : (K : PlainComponent) (x : PlainForm) → arms_of x ≡ [] → NoRace K x
no_arms K x none two =
    let clash : ◌≡◌ {A = Option PlainStatement} None (Some two.first) = sym (ap (λ l. slice_get l two.one) none) ∙ two.first_stands in
    absurd (cc)

tests_within : (s c : PlainStatement) → IsWithin s (groups_of c) (timed_of c) (forms_of c) → (p : PlacedPort) → In (tests_of s) p → In (tests_of c) p
tests_within s c w p i = let r = tested_form s p i in form_tested c r.0 p (w.forms r.0 r.1) r.2

module _ (part : PlainComponent) (cells : Cells) (fair : IsFair (Node part cells)) (controlled : IsControlled (Node part cells)) (ruled : IsRuled part (Node part cells)) (has : HasCells part cells)
    (once : EnablesOnce part) (inside : (c : ℕ) (child : PlainComponent) → kid_at (flat_kids cells) c ≡ Some child → IsInside child)
    (below : (c : ℕ) (child : PlainComponent) → kid_at (flat_kids cells) c ≡ Some child → NoRaces child) where
  abbrev kids : Kids
  kids = flat_kids cells

  abbrev K : PlainComponent
  K = flat_part (Node part cells)

  abbrev InPart : PlainStatement → Type 0
  InPart s = IsWithin s (groups_of part.control) (timed_of part.control) (forms_of part.control)

  -- THE ARMS of the component itself
  own_apart : (w : PlainForm) → In (forms_of part.control) w → (two : Arms (arms_of w)) → InPart two.first → InPart two.second → AreApart K (flat_statement kids part two.first) (flat_statement kids part two.second)
  own_apart w stands two one other = record { cells = cells_apart; groups = none_twice part cells fair controlled ruled once w stands two one other }
    where
      there : (s : PlainStatement) → InPart s → (g : ℕ) → In (groups_of s) g → g < length part.groups
      there s h g i = controlled.enables g (h.groups g i)

      timed : (s : PlainStatement) → InPart s → (j : ℕ) → In (timed_of s) j → j < length part.invokes
      timed s h j i = controlled.timed j (h.timed j i)

      cells_apart : (x : ℕ) → drives K (flat_statement kids part two.first) x ≡ true → Reads K (flat_statement kids part two.second) x → ⊥
      cells_apart x e reads =
          let d = flat_drives part cells fair controlled ruled has inside two.first (there two.first one) (timed two.first one)
          (λ p i. test_named part cells fair controlled ruled has p (tests_within two.first part.control one p i)) x e in
          let r = flat_reads part cells fair controlled ruled has inside two.second (there two.second other) (timed two.second other)
          (λ p i. test_named part cells fair controlled ruled has p (tests_within two.second part.control other p i)) x reads in
          unshared part cells fair controlled ruled once w stands two one other d.0 (two, d.2, subst (ReadsAll part two.second) (one_cell kids part r.0 d.0 x r.1 d.1) r.2)

  -- THOSE OF A COPY
  copied_apart : (j : ℕ) (child : PlainComponent) → j < length part.invokes → kid_at kids (the_invoke part j).cell ≡ Some child → (s t : PlainStatement)
      → IsWithin s (groups_of child.control) (timed_of child.control) (forms_of child.control) → IsWithin t (groups_of child.control) (timed_of child.control) (forms_of child.control) → AreApart child s t
      → AreApart K (copied_statement (invoke_port kids part child (the_invoke part j)) (copy_of kids part child j) s) (copied_statement (invoke_port kids part child (the_invoke part j)) (copy_of kids part child j) t)
  copied_apart j child less its s t one other apart = record {
    cells = copies_apart part cells fair controlled ruled has inside j less child its s t one.groups other.groups (tests_within s child.control one) (tests_within t child.control other) apart.cells;
    groups = copies_once part cells fair controlled j child s t one.groups other.groups apart.groups;
  }

  part_raceless : NoRaces K
  part_raceless x i = by (comes kids part x part.control i)
    where
      of_own : (w : PlainForm) → In (forms_of part.control) w → (two : Arms (arms_of x)) → TwoOf (flat_statement kids part) (arms_of w) two.first two.second → AreApart K two.first two.second
      of_own w n two t =
          let apart = own_apart w n t.two (arm_one t.two.first w t.first_in part.control n) (arm_one t.two.second w t.second_in part.control n) in
          subst (λ s. AreApart K s two.second) t.first_is (subst (AreApart K (flat_statement kids part t.two.first)) t.second_is apart)

      of_copy : (j : ℕ) (child : PlainComponent) (w : PlainForm) → In (forms_of part.control) (Timed j) → kid_at kids (the_invoke part j).cell ≡ Some child → In (forms_of child.control) w → (two : Arms (arms_of x))
          → TwoOf (copied_statement (invoke_port kids part child (the_invoke part j)) (copy_of kids part child j)) (arms_of w) two.first two.second → AreApart K two.first two.second
      of_copy j child w n its k two t =
          let less = controlled.timed j (form_timed part cells fair controlled part.control j n) in
          let apart = copied_apart j child less its t.two.first t.two.second (arm_one t.two.first w t.first_in child.control k) (arm_one t.two.second w t.second_in child.control k)
          (below (the_invoke part j).cell child its w k t.two) in
          subst (λ s. AreApart K s two.second) t.first_is (subst (AreApart K (copied_statement (invoke_port kids part child (the_invoke part j)) (copy_of kids part child j) t.two.first)) t.second_is apart)

      by : Comes kids part x (forms_of part.control) → NoRace K x
      by (forms.moved w n untimed e) two = of_own w n two (two_of (flat_statement kids part) (arms_of w) (arms_of x) (ap arms_of (sym e) ∙ arms_flat kids part w untimed) two)
      by (forms.copied j child w n its k e) two =
          let f = invoke_port kids part child (the_invoke part j) in
          of_copy j child w n its k two (two_of (copied_statement f (copy_of kids part child j)) (arms_of w) (arms_of x) (ap arms_of (sym e) ∙ arms_copied f (copy_of kids part child j) w) two)
      by (forms.captures j g n e f) two = no_arms K x (ap arms_of (sym f)) two
      by (forms.bare arms enabled test) two = no_arms K x arms two

mutual
  -- AT EVERY DEPTH
  pub all_raceless : (i : Instance) → AllFair i → AllControlled i → AllRuled i → AllHave i → AllOnce i → NoRaces (flat_part i)
  all_raceless (Node part cells) fair controlled ruled has once =
      part_raceless part cells fair.0 controlled.0 ruled.0 has.0 once.0
      (λ c child its. let k = kid_from cells c child its in subst IsInside k.3 (below_inside cells fair.1 controlled.1 ruled.1 has.1 c k.0 k.1))
      (λ c child its. let k = kid_from cells c child its in subst NoRaces k.3 (below_raceless cells fair.1 controlled.1 ruled.1 has.1 once.1 c k.0 k.1))

  below_raceless : (cells : Cells) → AllFairBelow cells → AllControlledBelow cells → AllRuledBelow cells → AllHaveBelow cells → OnceBelow cells → (c : ℕ) (child : Instance) → cell_at cells c ≡ OfInstance child → NoRaces (flat_part child)
  below_raceless no_cells fair controlled ruled has once c child at = absurd (cc)
  below_raceless (a_primitive row rest) fair controlled ruled has once zero child at = absurd (cc)
  below_raceless (a_primitive row rest) fair controlled ruled has once (suc c) child at = below_raceless rest fair controlled ruled has once c child at
  below_raceless (an_instance other rest) fair controlled ruled has once zero child at =
      let same : other ≡ child = cc in subst (λ x. NoRaces (flat_part x)) same (all_raceless other fair.0 controlled.0 ruled.0 has.0 once.0)
  below_raceless (an_instance other rest) fair controlled ruled has once (suc c) child at = below_raceless rest fair.1 controlled.1 ruled.1 has.1 once.1 c child at

-- a component with the same groups and continuous assignments drives and reads the same
drives_like : (A B : PlainComponent) → A.groups ≡ B.groups → (gs : List ℕ) (c : ℕ) → groups_drive A gs c ≡ true → groups_drive B gs c ≡ true
drives_like A B groups gs c e =
    let r = driver A gs c e in groups_drive_in B gs r.0 c r.1 (ap (λ (l : List PlainGroup). assigns_drive (get_or l r.0 no_group).assigns c) (sym groups) ∙ r.2)

reads_like : (A B : PlainComponent) → A.groups ≡ B.groups → A.always ≡ B.always → (s : PlainStatement) (c : ℕ) → Reads A s c → Reads B s c
reads_like A B groups always s c (driven e) = driven (drives_like A B groups (groups_of s) c e)
reads_like A B groups always s c (named p g a i j names) = named p g a i (subst (λ (l : List PlainGroup). In (get_or l g no_group).assigns a) groups j) names
reads_like A B groups always s c (tested p test i e) = tested p test i e
reads_like A B groups always s c (through e p q a r i t names) = through e p q a (reads_like A B groups always s e r) (subst (λ l. In l a) always i) t names

module _ (d : PlainDesign) (design : IsDesign d) (accepted : IsAccepted d) (undone : NoneNamesDone d) where
  -- RULE race
  pub keeps_race : (spot : Spot) (place : Place) (name : List ℕ) → OnStatement BreaksRace (flat_design d) spot place name → ⊥
  keeps_race spot place name b =
      ⊎_elim
      (λ h. let shared = h.1 in let two = shared.0 in
      (raceless two).cells h.0 (drives_as two.first h.0 (sym (drives_all-flat J none two.first h.0) ∙ shared.1)) (reads_as two.second h.0 (reads_all-flat J none two.second h.0 shared.2)))
      (λ h. let twice = h.1.1 in (raceless twice.0).groups h.1.0 twice.1 twice.2)
      bad
    where
      m : IsMade d spot.component
      m = made d design spot.component b.within

      i : Instance
      i = component_of d m.old

      g : IsGood i
      g = good_component d design accepted undone m.old m.less

      J : PlainComponent
      J = part_of (component_of (flat_design d) spot.component)

      K : PlainComponent
      K = flat_part i

      bad : BreaksRace (component_of (flat_design d) spot.component) b.statement place name
      bad = b.breaks

      none : J.invokes ≡ []
      none = ap (λ (p : PlainComponent). p.invokes) (same_part (flat_design d) (length (flat_design d).components) spot.component) ∙ (flat_design_flat d spot.component b.within).no_invoke

      groups : J.groups ≡ K.groups
      groups = ap (λ (p : PlainComponent). p.groups) (same_part (flat_design d) (length (flat_design d).components) spot.component ∙ m.part)

      always : J.always ≡ K.always
      always = ap (λ (p : PlainComponent). p.always) (same_part (flat_design d) (length (flat_design d).components) spot.component ∙ m.part)

      drives_as : (s : PlainStatement) (c : ℕ) → drives J s c ≡ true → drives K s c ≡ true
      drives_as s c e = drives_like J K groups (groups_of s) c e

      reads_as : (s : PlainStatement) (c : ℕ) → Reads J s c → Reads K s c
      reads_as s c r = reads_like J K groups always s c r

      raceless : NoRace K b.statement.form
      raceless =
          all_raceless i g.fair g.controlled g.rules g.has (once_tree d design accepted (length d.components) m.old [] (no_way d design m.old m.less) (omega arith)) b.statement.form
          (form_visited Dynamic K.control b.statement
          (subst (λ (p : PlainComponent). In (statements_in p) b.statement) m.part (slice_in (statements_in (component_at (flat_design d) spot.component)) b.number b.statement b.stands)))

  no_races : (rule : Rule) (spot : Spot) (place : Place) (name : List ℕ) → stage_of rule ≡ 6 → Breaks (flat_design d) rule spot place name → ⊥
  no_races rules.BadByte spot place name at b = absurd (cc)
  no_races rules.OpenComment spot place name at b = absurd (cc)
  no_races rules.OpenString spot place name at b = absurd (cc)
  no_races rules.BadLiteral spot place name at b = absurd (cc)
  no_races rules.Unexpected spot place name at b = absurd (cc)
  no_races rules.TooDeep spot place name at b = absurd (cc)
  no_races rules.Duplicate spot place name at b = absurd (cc)
  no_races rules.UnknownName spot place name at b = absurd (cc)
  no_races rules.UnknownPrimitive spot place name at b = absurd (cc)
  no_races rules.BadParameters spot place name at b = absurd (cc)
  no_races rules.Recursive spot place name at b = absurd (cc)
  no_races rules.NoMain spot place name at b = absurd (cc)
  no_races rules.LeftOut spot place name at b = absurd (cc)
  no_races rules.Width spot place name at b = absurd (cc)
  no_races rules.GuardWidth spot place name at b = absurd (cc)
  no_races rules.Literal spot place name at b = absurd (cc)
  no_races rules.NotATarget spot place name at b = absurd (cc)
  no_races rules.NotASource spot place name at b = absurd (cc)
  no_races rules.NoDone spot place name at b = absurd (cc)
  no_races rules.DoneNotState spot place name at b = absurd (cc)
  no_races rules.AlwaysEnable spot place name at b = absurd (cc)
  no_races rules.CombEnable spot place name at b = absurd (cc)
  no_races rules.StaticGuard spot place name at b = absurd (cc)
  no_races rules.StaticShape spot place name at b = absurd (cc)
  no_races rules.CallShape spot place name at b = absurd (cc)
  no_races rules.OutputNotState spot place name at b = absurd (cc)
  no_races rules.CombCycle spot place name at b = absurd (cc)
  no_races rules.Race spot place name at b = keeps_race spot place name b
  no_races rules.Limit spot place name at b = absurd (cc)
  no_races rules.TooLarge spot place name at b = absurd (cc)

  -- STAGE 6
  pub keeps_races : KeepsStage 6 (flat_design d)
  keeps_races = no_races
