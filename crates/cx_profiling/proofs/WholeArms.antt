-- TWO ARMS with static invokes have counted apart, by the rule of races: what they leave together has the counts of both.
use Rattle.std.proofs.Common.{◌≡◌, ℕ, suc, ◌+◌, ◌<◌, ◌≤◌, inl, inr, ◌⊎◌, ⊎_elim, true, false, ◌||◌, [], ◌∷◌, ◌++◌, length, Some, slice_get, refl, sym, ap, ◌∙◌, subst, arith}
use Rattle.std.proofs.lemmas.Bool.{both_ways, or_cases, or_left, and_parts, false_from_ne_true}
use Rattle.cx_text.proofs.MemberLaws.{in_either, in_left, in_right}
use Rattle.cx_text.specs.Members.{In}
use Rattle.cx_text.proofs.ListLaws.{behind}
use Rattle.cx_meaning.specs.Designs.{PlainComponent, PlainDesign, PlainForm, Empty, Enable, Seq, Par, If, While, Repeat, StaticSeq, StaticPar, StaticIf, StaticRepeat, Timed, PlainStatement, Placed, PlainStatements, no_statements, a_statement, component_at, group_at, list_of}
use Rattle.cx_meaning.specs.Instances.{Instance, cells_of, Path, State, tree_within}
use Rattle.cx_meaning.specs.Sights.{Held}
use Rattle.cx_meaning.specs.Cycles.{Fault}
use Rattle.cx_meaning.specs.Control.{Leaves, groups_of, groups_in_all, group_drives, groups_drive, drives}
use Rattle.cx_meaning.specs.Running.{Children}
use Rattle.cx_meaning.specs.declared.ports.PortRef.{PortRef}
use Rattle.cx_meaning.proofs.ControlLaws.{groups_drive_in, driver}
use Rattle.cx_meaning.proofs.DesignsLemmas.{same_part}
use Rattle.cx_rules.specs.Items.{Context, Dynamic, InStatic, Branch, Visited, visit, visit_parts, visit_all, below_dynamic, statements_in, is_comb}
use Rattle.cx_rules.specs.Invokes.{invokes_of, captures_of, invokes_cell, drives_all}
use Rattle.cx_rules.specs.Invokes as invokes
use Rattle.cx_rules.specs.Ports.{component_of}
use Rattle.cx_rules.specs.RaceRule.{Arms, arms_of}
use Rattle.cx_rules.specs.Accepted.{IsAccepted}
use Rattle.cx_rules.specs.Wellformed.{IsDesign, IsForm}
use Rattle.cx_laws.proofs.RaceLemmas.{unshared, not_twice}
use Rattle.cx_laws.proofs.VisitLemmas.{visited}
use Rattle.cx_rewrites.specs.Tallies.{Tally, Counting}
use Rattle.cx_rewrites.specs.Carrying.{Exact}
use Rattle.cx_rewrites.specs.Moving.{moved_statement}
use Rattle.cx_rewrites.specs.Beside.{joined}
use Rattle.cx_flattening.specs.Events.{the_invoke}
use Rattle.cx_flattening.specs.Controlled.{timed_in, timed_of, timed_all, AllControlled}
use Rattle.cx_flattening.specs.Whole.{whole_leaves}
use Rattle.cx_flattening.proofs.DeedsApart.{owned_drives, fed_drives}
use Rattle.cx_profiling.specs.Counters.{Counter, has_name, is_counted_kind, counters}
use Rattle.cx_profiling.specs.Counting.{ChildrenCount}
use Rattle.cx_profiling.specs.WholeCounting.{whole_count, whole_count_arms, whole_counting}
use Rattle.cx_profiling.specs.Growing.{Grown}
use Rattle.cx_profiling.specs.Instrumented.{moved_in, with_counts}
use Rattle.cx_profiling.proofs.GrownLemmas.{Apart, grown_merge}
use Rattle.cx_profiling.proofs.GrownTrees.{InTree, in_reach, is_whole}
use Rattle.cx_profiling.proofs.GroupLemmas.{counted_there, register_driven, register_past}
use Rattle.cx_profiling.proofs.EnabledLemmas.{AreForms, Known, statement_known, is_enabled, arm_of, visits_of_arm}
use Rattle.cx_profiling.proofs.ArmLemmas.{moved_groups, list_joined, counted_kind, all_forms, groups_same, no_cell}
use Rattle.cx_profiling.proofs.InvokesMade.{invokes_of-moved, captures_kept, cells_kept, captures_there, invoked_there}
use Rattle.cx_profiling.proofs.GrownEvents.{in_got}
use Rattle.cx_profiling.proofs.WholeWithin.{groups_form, timed_form, whole_own_zero, whole_own_arms, whole_below_zero, whole_below_arms}
use Rattle.cx_profiling.proofs.WholeCarries.{ArmsCarry}
use Rattle.cx_meaning.proofs.CycleLemmas.{count_for}

timed_arm : (n : ℕ) (ss : PlainStatements) → In (timed_all ss) n → (x : ℕ) × (s : PlainStatement) × (slice_get (list_of ss) x ≡ Some s) × In (timed_of s) n
timed_arm n no_statements i = absurd i
timed_arm n (a_statement s ss) i =
    ⊎_elim (λ a. (0, s, refl, a)) (λ b. let r = timed_arm n ss b in (suc r.0, r.1, r.2, r.3)) (in_either (timed_of s) (timed_all ss) n i)

-- the static invokes of a statement are there
module _ (part : PlainComponent) where
  mutual
    form_less : (c : Context) (form : PlainForm) → AreForms part (visit_parts c form) → ((n : ℕ) → form ≡ Timed n → n < length part.invokes) → (n : ℕ) → In (timed_in form) n → n < length part.invokes
    form_less c Empty all own n i = absurd i
    form_less c (Enable g) all own n i = absurd i
    form_less c (Seq parts) all own n i = all_less (below_dynamic c) parts all n i
    form_less c (Par arms) all own n i = all_less (below_dynamic c) arms all n i
    form_less c (If test comb a b) all own n i =
        ⊎_elim (λ x. timed_less (below_dynamic c) a (λ v j. all v (in_left (visit (below_dynamic c) a) (visit (below_dynamic c) b) v j)) n x)
        (λ x. timed_less (below_dynamic c) b (λ v j. all v (in_right (visit (below_dynamic c) a) (visit (below_dynamic c) b) v j)) n x) (in_either (timed_of a) (timed_of b) n i)
    form_less c (While test comb a) all own n i = timed_less (below_dynamic c) a all n i
    form_less c (Repeat count a) all own n i = timed_less (below_dynamic c) a all n i
    form_less c (StaticSeq written parts) all own n i = all_less InStatic parts all n i
    form_less c (StaticPar written arms) all own n i = all_less InStatic arms all n i
    form_less c (StaticIf written test a b) all own n i =
        ⊎_elim (λ x. timed_less Branch a (λ v j. all v (in_left (visit Branch a) (visit Branch b) v j)) n x)
        (λ x. timed_less Branch b (λ v j. all v (in_right (visit Branch a) (visit Branch b) v j)) n x) (in_either (timed_of a) (timed_of b) n i)
    form_less c (StaticRepeat written count a) all own n i = timed_less InStatic a all n i
    form_less c (Timed x) all own n (inl e) = own n (ap Timed e)
    form_less c (Timed x) all own n (inr i) = absurd i

    pub timed_less : (c : Context) (s : PlainStatement) → AreForms part (visit c s) → (n : ℕ) → In (timed_of s) n → n < length part.invokes
    timed_less c (Placed form place) all n i =
        form_less c form (λ v j. all v (inr j)) (λ x e. subst (λ f. IsForm part f) e (all (record { context = c; form = form; place = place }) (inl refl))) n i

    all_less : (c : Context) (ss : PlainStatements) → AreForms part (visit_all c ss) → (n : ℕ) → In (timed_all ss) n → n < length part.invokes
    all_less c no_statements all n i = absurd i
    all_less c (a_statement s ss) all n i =
        ⊎_elim (λ x. timed_less c s (λ v j. all v (in_left (visit c s) (visit_all c ss) v j)) n x) (λ x. all_less c ss (λ v j. all v (in_right (visit c s) (visit_all c ss) v j)) n x) (in_either (timed_of s) (timed_all ss) n i)

module _ (d : PlainDesign) (design : IsDesign d) (accepted : IsAccepted d) (m k : ℕ) (at : InTree d (suc m) k) (controlled : AllControlled (tree_within d (suc m) k)) where
  abbrev part : PlainComponent
  part = component_at d k

  abbrev other : PlainComponent
  other = component_at (with_counts d) k

  abbrev i : Instance
  i = tree_within d (suc m) k

  abbrev j : Instance
  j = tree_within (with_counts d) (suc m) k

  abbrev mv : PortRef → PortRef
  mv p = moved_in d part p

  -- a group with a name captures nothing
  no_capture : (g : ℕ) → ((group_at part g).name ≡ [] → ⊥) → (n : ℕ) → n < length part.invokes → (the_invoke part n).captures ≡ Some g → ⊥
  no_capture g named n less e =
      named
      (subst (λ (y : PlainComponent). (group_at y g).name ≡ []) (same_part d (length d.components) k) (((design.components k at.within).invokes (the_invoke part n) (in_got part.invokes n less)).captures g e).unnamed)

  -- as a counted one has
  counted_named : (x : Counter) → In (counters (component_of d k)) x → (group_at part x.group).name ≡ [] → ⊥
  counted_named x there none =
      let counted = counted_there d k at.within (in_reach d at) x there in
      let named : has_name (group_at part x.group).name ≡ true = (and_parts (has_name (group_at part x.group).name) (is_counted_kind (cells_of (component_of d k)) (group_at part x.group).assigns (group_at part x.group).kind) counted.1).0 in
      both_ways (has_name (group_at part x.group).name) (ap has_name none) named

  module _ (kids : Children) (counts : ChildrenCount) (held : Held) (v : Visited) (stands : In (statements_in part) v) (done : PlainStatements) (arm : PlainStatement) (later : PlainStatements)
      (form : v.form ≡ Par (joined done (a_statement arm later))) where
    abbrev arms : PlainStatements
    arms = joined done (a_statement arm later)

    in_list : list_of arms ≡ list_of done ++ (arm ∷ list_of later)
    in_list = list_joined done (a_statement arm later)

    arm_at : slice_get (list_of arms) (length (list_of done)) ≡ Some arm
    arm_at = let none : length (list_of done) ≡ length (list_of done) + 0 = omega arith in ap (λ list. slice_get list (length (list_of done))) in_list ∙ behind (list_of done) (arm ∷ list_of later) (length (list_of done)) 0 none

    later_at : (n : ℕ) (s : PlainStatement) → slice_get (list_of later) n ≡ Some s → slice_get (list_of arms) (length (list_of done) + suc n) ≡ Some s
    later_at n s e = ap (λ list. slice_get list (length (list_of done) + suc n)) in_list ∙ behind (list_of done) (arm ∷ list_of later) (length (list_of done) + suc n) (suc n) refl ∙ e

    two : (n : ℕ) (s : PlainStatement) → slice_get (list_of later) n ≡ Some s → Arms (arms_of v.form)
    two n s e = record {
      one = length (list_of done);
      other = length (list_of done) + suc n;
      differ = λ same. omega (arith, same);
      first = arm;
      second = s;
      first_stands = ap (λ f. slice_get (arms_of f) (length (list_of done))) form ∙ arm_at;
      second_stands = ap (λ f. slice_get (arms_of f) (length (list_of done) + suc n)) form ∙ later_at n s e;
    }

    arm_forms : (n : ℕ) (s : PlainStatement) → slice_get (list_of arms) n ≡ Some s → AreForms part (visit (below_dynamic v.context) s)
    arm_forms n s e w inside =
        all_forms d design accepted m k at w (visited Dynamic part.control v w stands
        (inr (subst (λ f. In (visit_parts v.context f) w) (sym form) (visits_of_arm (below_dynamic v.context) arms n s w e inside))))

    arm_group : (g : ℕ) → In (groups_of arm) g → Known part (visit Dynamic arm) g
    arm_group g inside = statement_known part (below_dynamic v.context) Dynamic arm g (arm_forms (length (list_of done)) arm arm_at) inside

    arm_less : (n : ℕ) → In (timed_of arm) n → n < length part.invokes
    arm_less n inside = timed_less part (below_dynamic v.context) arm (arm_forms (length (list_of done)) arm arm_at) n inside

    later_less : (n : ℕ) → In (timed_all later) n → n < length part.invokes
    later_less n inside = let r = timed_arm n later inside in timed_less part (below_dynamic v.context) r.1 (arm_forms (length (list_of done) + suc r.0) r.1 (later_at r.0 r.1 r.2)) n r.3

    -- no later arm drives a cell that the arm drives
    apart_later : (c : ℕ) → drives_all part arm c ≡ true → (n : ℕ) (s : PlainStatement) → slice_get (list_of later) n ≡ Some s → drives_all part s c ≡ true → ⊥
    unfolding two
    apart_later c e n s stands_there h = unshared d accepted k at.within v stands c (two n s stands_there, e, invokes.driven h)

    not_later : (g : ℕ) → is_comb (group_at part g).kind ≡ false → In (groups_of arm) g → In (groups_in_all later) g → ⊥
    unfolding two
    not_later g plain here there =
        let r = arm_of g later there in
        not_twice d accepted k at.within v stands g (
          two r.0 r.1 r.2,
          is_enabled part (below_dynamic v.context) arm g (arm_forms (length (list_of done)) arm arm_at) here plain,
          is_enabled part (below_dynamic v.context) r.1 g (arm_forms (length (list_of done) + suc r.0) r.1 (later_at r.0 r.1 r.2)) r.3 plain,
        )

    -- old cells are driven alike
    driven_same : (c : ℕ) → c < length part.cells → drives_all other (moved_statement mv arm) c ≡ drives_all part arm c
    driven_same c less =
        ap (λ b. b || (invokes_cell other (invokes_of (moved_statement mv arm)) c || groups_drive other (captures_of other (invokes_of (moved_statement mv arm))) c))
        (ap (λ gs. groups_drive other gs c) (moved_groups mv arm) ∙ groups_same d design accepted m k at (groups_of arm) c (λ g inside. (arm_group g inside).there) less)
        ∙ ap (λ ns. drives part arm c || (invokes_cell other ns c || groups_drive other (captures_of other ns) c)) (invokes_of-moved d design k at.within arm)
        ∙ ap (λ b. drives part arm c || (b || groups_drive other (captures_of other (invokes_of arm)) c)) (cells_kept d design k at.within (invokes_of arm) c)
        ∙ ap (λ gs. drives part arm c || (invokes_cell part (invokes_of arm) c || groups_drive other gs c)) (captures_kept d design k at.within (invokes_of arm))
        ∙ ap (λ b. drives part arm c || (invokes_cell part (invokes_of arm) c || b))
        (groups_same d design accepted m k at (captures_of part (invokes_of arm)) c (λ g inside. (captures_there d design k at.within (invokes_of arm) g inside).there) less)

    -- of what drives a register a group of the arm
    register_by : (x : Counter) → In (counters (component_of d k)) x → drives_all other (moved_statement mv arm) x.register ≡ true → In (groups_of arm) x.group
    register_by x there e = by (or_cases (drives other (moved_statement mv arm) x.register) (invokes_cell other (invokes_of (moved_statement mv arm)) x.register || groups_drive other (captures_of other (invokes_of (moved_statement mv arm))) x.register) e)
      where
        past : length part.cells ≤ x.register
        past = register_past d k at.within (in_reach d at) x there

        of_group : (g : ℕ) → g < length part.groups → group_drives other g x.register ≡ true → g ≡ x.group
        of_group g few drives_it = register_driven d k at.within (in_reach d at) x there g few (no_cell d design accepted m k at g x.register past few) drives_it

        by_group : drives other (moved_statement mv arm) x.register ≡ true → In (groups_of arm) x.group
        by_group h =
            let group = driver other (groups_of arm) x.register (sym (ap (λ gs. groups_drive other gs x.register) (moved_groups mv arm)) ∙ h) in
            subst (In (groups_of arm)) (of_group group.0 (arm_group group.0 group.1).there group.2) group.1

        by_invoke : invokes_cell other (invokes_of (moved_statement mv arm)) x.register ≡ true → In (groups_of arm) x.group
        by_invoke h =
            let less : x.register < length part.cells = invoked_there d design k at.within (invokes_of arm) x.register (sym (cells_kept d design k at.within (invokes_of arm) x.register) ∙ ap (λ ns. invokes_cell other ns x.register) (sym (invokes_of-moved d design k at.within arm)) ∙ h) in
            absurd (omega (arith, past, less))

        by_capture : groups_drive other (captures_of other (invokes_of (moved_statement mv arm))) x.register ≡ true → In (groups_of arm) x.group
        by_capture h =
            let group = driver other (captures_of part (invokes_of arm)) x.register
            (ap (λ gs. groups_drive other gs x.register) (sym (captures_kept d design k at.within (invokes_of arm)) ∙ ap (captures_of other) (sym (invokes_of-moved d design k at.within arm))) ∙ h) in
            let its = captures_there d design k at.within (invokes_of arm) group.0 group.1 in
            absurd (counted_named x there (ap (λ g. (group_at part g).name) (sym (of_group group.0 its.there group.2)) ∙ its.unnamed))

        by : (drives other (moved_statement mv arm) x.register ≡ true)
            ⊎ ((invokes_cell other (invokes_of (moved_statement mv arm)) x.register || groups_drive other (captures_of other (invokes_of (moved_statement mv arm))) x.register) ≡ true) → In (groups_of arm) x.group
        by (inl h) = by_group h
        by (inr h) = ⊎_elim by_invoke by_capture (or_cases (invokes_cell other (invokes_of (moved_statement mv arm)) x.register) (groups_drive other (captures_of other (invokes_of (moved_statement mv arm))) x.register) h)

    abbrev L : Leaves State Fault
    L = whole_leaves i kids held

    abbrev C : Counting State
    C = whole_counting i counts held

    -- WHAT ONE OF THEM COUNTS the other does not
    pub later_below : (c : ℕ) (path : Path) (g : ℕ) → drives_all part arm c ≡ true → (s : State) (n : ℕ) → whole_count_arms L C later s n (c ∷ path) g ≡ 0
    later_below c path g driven s n =
        whole_below_arms part (cells_of i) controlled kids counts held c path g later
        (λ h inside. false_from_ne_true (group_drives part h c) (λ e.
        let r = arm_of h later inside in apart_later c driven r.0 r.1 r.2 (owned_drives part r.1 h c (inl (subst (λ l. In l h) (sym (groups_form r.1)) r.3)) e)))
        (λ q inside. (
          later_less q inside,
          λ e.
              let r = timed_arm q later inside in apart_later c driven r.0 r.1 r.2 (fed_drives part r.1 c (q, subst (λ l. In l q) (sym (timed_form r.1)) r.3, later_less q inside, e)),
        )) s n

    pub first_below : (c : ℕ) (path : Path) (g : ℕ) → drives_all part arm c ≡ false → (s : State) (n : ℕ) → whole_count L C arm s n (c ∷ path) g ≡ 0
    first_below c path g none s n =
        whole_below_zero part (cells_of i) controlled kids counts held c path g arm
        (λ h inside. false_from_ne_true (group_drives part h c) (λ e. both_ways (drives_all part arm c) none (owned_drives part arm h c (inl (subst (λ l. In l h) (sym (groups_form arm)) inside)) e)))
        (λ q inside. (arm_less q inside, λ e. both_ways (drives_all part arm c) none (fed_drives part arm c (q, subst (λ l. In l q) (sym (timed_form arm)) inside, arm_less q inside, e)))) s n

    pub later_own : (g : ℕ) → is_comb (group_at part g).kind ≡ false → ((group_at part g).name ≡ [] → ⊥) → In (groups_of arm) g → (s : State) (n : ℕ) → whole_count_arms L C later s n [] g ≡ 0
    later_own g plain named here s n =
        whole_own_arms part (cells_of i) controlled kids counts held g later (not_later g plain here) (λ q inside. (later_less q inside, no_capture g named q (later_less q inside))) s n

    pub first_own : (g : ℕ) → ((group_at part g).name ≡ [] → ⊥) → (In (groups_of arm) g → ⊥) → (s : State) (n : ℕ) → whole_count L C arm s n [] g ≡ 0
    first_own g named outside s n = whole_own_zero part (cells_of i) controlled kids counts held g arm outside (λ q inside. (arm_less q inside, no_capture g named q (arm_less q inside))) s n

    whole_apart : (τ : Tally) (s : State) (n : ℕ) (a b x y : State) → Apart (drives_all part arm) (drives_all other (moved_statement mv arm)) a b x y τ (whole_count L C arm s n) (whole_count_arms L C later s n) i
    whole_apart τ s n a b x y = record {
      same = λ c few. driven_same c (subst (λ z. c < z) (count_for (tree_within d m) part.cells) few);
      later = λ c path g driven. later_below c path g driven s n;
      first = λ c path g none. first_below c path g none s n;
      own_later = λ counter own driven.
          let there : In (counters (component_of d k)) counter = subst (λ tree. In (counters tree) counter) (is_whole d at) own in
          let known = counted_there d k at.within (in_reach d at) counter there in
          later_own counter.group (counted_kind (cells_of (component_of d k)) (group_at part counter.group) known.1) (counted_named counter there) (register_by counter there driven) s n;
      own_first = λ counter own none.
          let there : In (counters (component_of d k)) counter = subst (λ tree. In (counters tree) counter) (is_whole d at) own in
          let known = counted_there d k at.within (in_reach d at) counter there in
          first_own counter.group (counted_named counter there)
          (λ inside. both_ways (drives_all other (moved_statement mv arm) counter.register) none
          (or_left (drives other (moved_statement mv arm) counter.register) (invokes_cell other (invokes_of (moved_statement mv arm)) counter.register || groups_drive other (captures_of other (invokes_of (moved_statement mv arm))) counter.register)
          (ap (λ gs. groups_drive other gs counter.register) (moved_groups mv arm) ∙ groups_drive_in other (groups_of arm) counter.group counter.register inside known.2))) s n;
    }

    -- WHAT THE ARM AND THE LATER ONES LEAVE
    pub whole_arms_merge : (twin_kids : Children) (twin_held : Held) → ArmsCarry Exact (Grown i) (λ f. f) L C (whole_leaves j twin_kids twin_held) mv (λ g. Unit {0}) (λ f. Unit {0}) arm later (moved_statement mv arm)
    whole_arms_merge twin_kids twin_held τ s n a b x y t u ran all h l =
        grown_merge (drives_all part arm) (drives_all other (moved_statement mv arm)) a b x y τ (whole_count L C arm s n) (whole_count_arms L C later s n) i (whole_apart τ s n a b x y) h l
