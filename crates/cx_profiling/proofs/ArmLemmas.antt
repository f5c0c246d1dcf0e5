-- TWO ARMS have counted apart, by the rule of races: what they leave together has the counts of both.
use Rattle.std.proofs.Common.{◌≡◌, ℕ, suc, ◌+◌, ◌<◌, ◌≤◌, inl, inr, ⊎_elim, Bool, true, false, ◌||◌, List, [], ◌∷◌, ◌++◌, length, Some, slice_get, refl, sym, ap, ◌∙◌, subst, arith}
use Rattle.std.proofs.lemmas.Bool.{both_ways, or_cases, and_parts}
use Rattle.cx_text.specs.Members.{In}
use Rattle.cx_text.proofs.ListLaws.{behind}
use Rattle.cx_meaning.specs.declared.kinds.GroupKind.{GroupKind}
use Rattle.cx_meaning.specs.declared.kinds.GroupKind.TheVariants as kinds
use Rattle.cx_meaning.specs.declared.ports.PortRef.{PortRef}
use Rattle.cx_meaning.specs.declared.ports.PortRef.TheVariants as ports
use Rattle.cx_meaning.specs.Designs.{PlainAssign, PlainGroup, PlainComponent, PlainDesign, PlainForm, Empty, Enable, Seq, Par, If, While, Repeat, StaticSeq, StaticPar, StaticIf, StaticRepeat, Timed, PlainStatement, Placed, PlainStatements, no_statements, a_statement, component_at, group_at, list_of}
use Rattle.cx_meaning.specs.Instances.{Instance, Cells, cells_of, State, tree_within}
use Rattle.cx_meaning.specs.Sights.{Held}
use Rattle.cx_meaning.specs.Cycles.{Fault}
use Rattle.cx_meaning.specs.Control.{Leaves, with_comb, targets_cell, assigns_drive, groups_in, groups_of, groups_in_all, group_drives, groups_drive, drives}
use Rattle.cx_meaning.specs.Running.{Children, leaves}
use Rattle.cx_meaning.proofs.ControlLaws.{groups_drive_in, driver}
use Rattle.cx_meaning.proofs.InstancesLemmas.{just_true}
use Rattle.cx_meaning.proofs.DesignsLemmas.{same_part}
use Rattle.cx_rules.specs.Items.{Dynamic, Visited, visit, visit_parts, below_dynamic, statements_in, is_comb}
use Rattle.cx_rules.specs.Footprints as footprints
use Rattle.cx_rules.specs.Ports.{component_of}
use Rattle.cx_rules.specs.RaceRule.{Arms, arms_of}
use Rattle.cx_rules.specs.Accepted.{IsAccepted}
use Rattle.cx_rules.specs.Wellformed.{IsDesign, IsForm, IsAssign, IsThere}
use Rattle.cx_rules.proofs.InvokesLemmas.{drives_more, reads_more}
use Rattle.cx_laws.proofs.RaceLemmas.{unshared, not_twice}
use Rattle.cx_laws.proofs.VisitLemmas.{visited}
use Rattle.cx_frames.proofs.ArmLemmas.{groups_joined}
use Rattle.cx_rewrites.specs.Tallies.{Tally, Counting, count, count_arms}
use Rattle.cx_rewrites.specs.Carrying.{Exact}
use Rattle.cx_rewrites.specs.Moving.{moved_form, moved_statement, moved_statements}
use Rattle.cx_rewrites.specs.Beside.{joined, MergesCarry}
use Rattle.cx_profiling.specs.Counters.{has_name, is_counted_kind, is_counted, counters}
use Rattle.cx_profiling.specs.Counting.{ChildrenCount, counting}
use Rattle.cx_profiling.specs.Growing.{Grown}
use Rattle.cx_profiling.specs.Instrumented.{moved_in, with_counts}
use Rattle.cx_profiling.proofs.GrownLemmas.{Apart, grown_merge}
use Rattle.cx_profiling.proofs.GrownTrees.{InTree, in_reach, is_whole}
use Rattle.cx_profiling.proofs.CountWithin.{own_zero, own_arms_zero, below_zero, below_arms_zero}
use Rattle.cx_profiling.proofs.GroupLemmas.{counted_there, old_driven, register_driven, register_past}
use Rattle.cx_profiling.proofs.EnabledLemmas.{AreForms, Known, statement_known, is_enabled, arm_of, visits_of_arm}
use Rattle.cx_meaning.proofs.CycleLemmas.{count_for}

-- the groups of a statement stay when its ports are moved
mutual
  form_groups : (mv : PortRef → PortRef) (form : PlainForm) → groups_in (moved_form mv form) ≡ groups_in form
  form_groups mv Empty = refl
  form_groups mv (Enable g) = refl
  form_groups mv (Seq parts) = all_groups mv parts
  form_groups mv (Par arms) = all_groups mv arms
  form_groups mv (If test comb a b) = ap (λ gs. with_comb comb (gs ++ groups_of (moved_statement mv b))) (moved_groups mv a) ∙ ap (λ gs. with_comb comb (groups_of a ++ gs)) (moved_groups mv b)
  form_groups mv (While test comb a) = ap (with_comb comb) (moved_groups mv a)
  form_groups mv (Repeat count a) = moved_groups mv a
  form_groups mv (StaticSeq length parts) = all_groups mv parts
  form_groups mv (StaticPar length arms) = all_groups mv arms
  form_groups mv (StaticIf length test a b) = ap (λ gs. gs ++ groups_of (moved_statement mv b)) (moved_groups mv a) ∙ ap (λ gs. groups_of a ++ gs) (moved_groups mv b)
  form_groups mv (StaticRepeat length count a) = moved_groups mv a
  form_groups mv (Timed k) = refl

  pub moved_groups : (mv : PortRef → PortRef) (s : PlainStatement) → groups_of (moved_statement mv s) ≡ groups_of s
  moved_groups mv (Placed form place) = form_groups mv form

  all_groups : (mv : PortRef → PortRef) (ss : PlainStatements) → groups_in_all (moved_statements mv ss) ≡ groups_in_all ss
  all_groups mv no_statements = refl
  all_groups mv (a_statement s ss) = ap (λ gs. gs ++ groups_in_all (moved_statements mv ss)) (moved_groups mv s) ∙ ap (λ gs. groups_of s ++ gs) (all_groups mv ss)

-- an arm that drives a cell
driving_arm : (part : PlainComponent) (ss : PlainStatements) (c : ℕ) → groups_drive part (groups_in_all ss) c ≡ true → (n : ℕ) × (s : PlainStatement) × (slice_get (list_of ss) n ≡ Some s) × (drives part s c ≡ true)
driving_arm part no_statements c e = absurd (cc)
driving_arm part (a_statement s ss) c e =
    ⊎_elim (λ a. (0, s, refl, a)) (λ b. let r = driving_arm part ss c b in (suc r.0, r.1, r.2, r.3))
    (or_cases (drives part s c) (groups_drive part (groups_in_all ss) c) (sym (groups_joined part (groups_of s) (groups_in_all ss) c) ∙ e))

pub list_joined : (done later : PlainStatements) → list_of (joined done later) ≡ list_of done ++ list_of later
list_joined no_statements later = refl
list_joined (a_statement s ss) later = ap (λ list. s ∷ list) (list_joined ss later)

pub counted_kind : (cells : Cells) (g : PlainGroup) → is_counted cells g ≡ true → is_comb g.kind ≡ false
counted_kind cells g e = by g.kind (and_parts (has_name g.name) (is_counted_kind cells g.assigns g.kind) e).1
  where
    by : (kind : GroupKind) → is_counted_kind cells g.assigns kind ≡ true → is_comb kind ≡ false
    by kinds.Plain e = refl
    by kinds.Comb e = absurd (cc)
    by (kinds.Timed n) e = refl

module _ (d : PlainDesign) (design : IsDesign d) (accepted : IsAccepted d) (m k : ℕ) (at : InTree d (suc m) k) where
  abbrev part : PlainComponent
  part = component_at d k

  abbrev other : PlainComponent
  other = component_at (with_counts d) k

  abbrev i : Instance
  i = tree_within d (suc m) k

  abbrev j : Instance
  j = tree_within (with_counts d) (suc m) k

  abbrev mv : PortRef → PortRef
  mv p = moved_in d part p

  pub all_forms : AreForms part (statements_in part)
  all_forms v stands = subst (λ x. IsForm x v.form) (same_part d (length d.components) k) ((design.components k at.within).statements v stands).form

  -- old cells are driven alike by groups that are there
  pub groups_same : (gs : List ℕ) (c : ℕ) → ((g : ℕ) → In gs g → g < length part.groups) → c < length part.cells → groups_drive other gs c ≡ groups_drive part gs c
  groups_same [] c there few = refl
  groups_same (g ∷ gs) c there few =
      ap (λ b. b || groups_drive other gs c) (old_driven d k at.within (in_reach d at) g c (there g (inl refl)) few) ∙ ap (λ b. group_drives part g c || b) (groups_same gs c (λ h i. there h (inr i)) few)

  pub no_cell : (g c : ℕ) → length part.cells ≤ c → g < length part.groups → group_drives part g c ≡ true → ⊥
  no_cell g c past few driven =
      let r = targeted (group_at part g).assigns c driven in
      let is : IsAssign (component_of d k) (Some g) r.0 = (design.components k at.within).assigns (Some g) r.0 (few, r.1) in
      let there : IsThere (component_of d k) (ports.Cell c r.2) = subst (IsThere (component_of d k)) r.3 is.target in
      let less : c < length part.cells = subst (λ (x : PlainComponent). c < length x.cells) (same_part d (length d.components) k) there.0 in
      omega (arith, past, less)
    where
      targeted : (list : List PlainAssign) (c : ℕ) → assigns_drive list c ≡ true → (a : PlainAssign) × In list a × (p : ℕ) × (a.target ≡ ports.Cell c p)
      targeted [] c e = absurd (cc)
      targeted (a ∷ rest) c e =
          ⊎_elim (λ x. let r = at_target a.target c x in (a, inl refl, r.0, r.1)) (λ y. let r = targeted rest c y in (r.0, inr r.1, r.2, r.3)) (or_cases (targets_cell a.target c) (assigns_drive rest c) e)
        where
          at_target : (p : PortRef) (c : ℕ) → targets_cell p c ≡ true → (q : ℕ) × (p ≡ ports.Cell c q)
          at_target (ports.Cell e q) c h = (q, ap (λ n. ports.Cell n q) (just_true e c h))
          at_target (ports.Input n) c h = absurd (cc)
          at_target (ports.Output n) c h = absurd (cc)
          at_target (ports.Done g) c h = absurd (cc)
          at_target (ports.Literal w v) c h = absurd (cc)

  module _ (kids : Children) (counts : ChildrenCount) (held : Held) (v : Visited) (stands : In (statements_in part) v) (done : PlainStatements) (arm : PlainStatement) (later : PlainStatements)
      (form : v.form ≡ Par (joined done (a_statement arm later))) where
    abbrev arms : PlainStatements
    arms = joined done (a_statement arm later)

    in_list : list_of arms ≡ list_of done ++ (arm ∷ list_of later)
    in_list = list_joined done (a_statement arm later)

    arm_at : slice_get (list_of arms) (length (list_of done)) ≡ Some arm
    arm_at = let none : length (list_of done) ≡ length (list_of done) + 0 = omega arith in ap (λ list. slice_get list (length (list_of done))) in_list ∙ behind (list_of done) (arm ∷ list_of later) (length (list_of done)) 0 none

    later_at : (n : ℕ) (s : PlainStatement) → slice_get (list_of later) n ≡ Some s → slice_get (list_of arms) (length (list_of done) + suc n) ≡ Some s
    later_at n s e = ap (λ list. slice_get list (length (list_of done) + suc n)) in_list ∙ behind (list_of done) (arm ∷ list_of later) (length (list_of done) + suc n) (suc n) refl ∙ e

    two : (n : ℕ) (s : PlainStatement) → slice_get (list_of later) n ≡ Some s → Arms (arms_of v.form)
    two n s e = record {
      one = length (list_of done);
      other = length (list_of done) + suc n;
      differ = λ same. omega (arith, same);
      first = arm;
      second = s;
      first_stands = ap (λ f. slice_get (arms_of f) (length (list_of done))) form ∙ arm_at;
      second_stands = ap (λ f. slice_get (arms_of f) (length (list_of done) + suc n)) form ∙ later_at n s e;
    }

    -- the statements in an arm
    arm_forms : (n : ℕ) (s : PlainStatement) → slice_get (list_of arms) n ≡ Some s → AreForms part (visit (below_dynamic v.context) s)
    arm_forms n s e w inside =
        all_forms w (visited Dynamic part.control v w stands
        (inr (subst (λ f. In (visit_parts v.context f) w) (sym form) (visits_of_arm (below_dynamic v.context) arms n s w e inside))))

    arm_group : (g : ℕ) → In (groups_of arm) g → Known part (visit Dynamic arm) g
    arm_group g inside = statement_known part (below_dynamic v.context) Dynamic arm g (arm_forms (length (list_of done)) arm arm_at) inside

    -- no later arm drives a cell that the arm drives
    pub undriven_later : (c : ℕ) → drives part arm c ≡ true → groups_drive part (groups_in_all later) c ≡ false
    unfolding two
    undriven_later c e = by (groups_drive part (groups_in_all later) c) refl
      where
        by : (b : Bool) → groups_drive part (groups_in_all later) c ≡ b → b ≡ false
        by false h = refl
        by true h =
            let r = driving_arm part later c h in
            absurd (unshared d accepted k at.within v stands c (two r.0 r.1 r.2, drives_more part arm c e, reads_more part r.1 c (footprints.driven r.3)))

    -- and none enables a group that the arm enables
    pub not_later : (g : ℕ) → is_comb (group_at part g).kind ≡ false → In (groups_of arm) g → In (groups_in_all later) g → ⊥
    unfolding two
    not_later g plain here there =
        let r = arm_of g later there in
        not_twice d accepted k at.within v stands g (
          two r.0 r.1 r.2,
          is_enabled part (below_dynamic v.context) arm g (arm_forms (length (list_of done)) arm arm_at) here plain,
          is_enabled part (below_dynamic v.context) r.1 g (arm_forms (length (list_of done) + suc r.0) r.1 (later_at r.0 r.1 r.2)) r.3 plain,
        )

    abbrev L : Leaves State Fault
    L = leaves i kids held

    abbrev C : Counting State
    C = counting i counts held

    apart : (τ : Tally) (s : State) (n : ℕ) (a b x y : State) → Apart (drives part arm) (drives other (moved_statement mv arm)) a b x y τ (count L C arm s n) (count_arms L C later s n) i
    apart τ s n a b x y = record {
      same = λ c few.
          let less : c < length part.cells = subst (λ z. c < z) (count_for (tree_within d m) part.cells) few in
          ap (λ gs. groups_drive other gs c) (moved_groups mv arm) ∙ groups_same (groups_of arm) c (λ g inside. (arm_group g inside).there) less;
      later = λ c path g driven. below_arms_zero i kids counts held c path g later (undriven_later c driven) s n;
      first = λ c path g none. below_zero i kids counts held c path g arm none s n;
      own_later = λ counter own driven.
          let there : In (counters (component_of d k)) counter = subst (λ tree. In (counters tree) counter) (is_whole d at) own in
          let known = counted_there d k at.within (in_reach d at) counter there in
          let group = driver other (groups_of arm) counter.register (sym (ap (λ gs. groups_drive other gs counter.register) (moved_groups mv arm)) ∙ driven) in
          let few : group.0 < length part.groups = (arm_group group.0 group.1).there in
          let is : group.0 ≡ counter.group = register_driven d k at.within (in_reach d at) counter there group.0 few (no_cell group.0 counter.register (register_past d k at.within (in_reach d at) counter there) few) group.2 in
          own_arms_zero i kids counts held counter.group later (not_later counter.group (counted_kind (cells_of (component_of d k)) (group_at part counter.group) known.1) (subst (In (groups_of arm)) is group.1)) s n;
      own_first = λ counter own none.
          let there : In (counters (component_of d k)) counter = subst (λ tree. In (counters tree) counter) (is_whole d at) own in
          let known = counted_there d k at.within (in_reach d at) counter there in
          own_zero i kids counts held counter.group arm
          (λ inside. both_ways (drives other (moved_statement mv arm) counter.register) none
          (ap (λ gs. groups_drive other gs counter.register) (moved_groups mv arm) ∙ groups_drive_in other (groups_of arm) counter.group counter.register inside known.2)) s n;
    }

    -- WHAT THE ARM AND THE LATER ONES LEAVE
    pub arms_merge : (twin_kids : Children) (twin_held : Held) → MergesCarry Exact (Grown i) (λ f. f) L C (leaves j twin_kids twin_held) arm later (moved_statement mv arm)
    arms_merge twin_kids twin_held τ s n a b x y t u ran all h l =
        grown_merge (drives part arm) (drives other (moved_statement mv arm)) a b x y τ (count L C arm s n) (count_arms L C later s n) i (apart τ s n a b x y) h l
