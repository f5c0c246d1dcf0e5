-- RULES ON STATEMENTS: where one of the new design breaks a rule, so does the one of the old design from which it comes.
use Rattle.std.proofs.Common.{◌≡◌, ℕ, ◌+◌, ◌≤◌, ◌⊎◌, inl, inr, Bool, true, false, List, [], ◌∷◌, Option, Some, refl, sym, ap, ◌∙◌, subst, arith}
use Rattle.std.specs.Prelude.{slice_get, is_some, ◌≢◌}
use Rattle.cx_text.proofs.MemberLaws.{flat_in}
use Rattle.cx_text.specs.declared.places.Place.{Place}
use Rattle.cx_text.proofs.BoolLaws.{not_both}
use Rattle.cx_meaning.specs.declared.ports.PlacedPort.{PlacedPort}
use Rattle.cx_meaning.specs.Designs.{PlainGroup, PlainComponent, form_of, group_at, PlainForm, Empty, Enable, Seq, Par, If, While, Repeat, StaticSeq, StaticPar, StaticIf, StaticRepeat, Timed, PlainStatement, Placed, PlainStatements, a_statement}
use Rattle.cx_meaning.specs.Instances.{Instance, part_of}
use Rattle.cx_text.specs.Members.{In}
use Rattle.cx_meaning.specs.Control.{groups_in, groups_of}
use Rattle.cx_meaning.specs.Islands.{kind_length, group_length, or_zero}
use Rattle.cx_rules.specs.Footprints.{Rests}
use Rattle.cx_rules.specs.Items.{Context, Dynamic, InStatic, Visited, visit, statements_in, test_in, option_list, tests_of}
use Rattle.cx_rules.specs.Invokes.{form_lasts, lasts, sum_lasts, invoke_in, invokes_of, captures_of, drives_all, ReadsAll, driven, named, captured, fed, tested, through}
use Rattle.cx_rules.specs.InvokeShape.{BreaksInvoke}
use Rattle.cx_rules.specs.Ports.{cell_name, path_of}
use Rattle.cx_rules.specs.RaceRule.{arms_of, enabled_group, enabled_in, Arms, IsShared, IsEnabledTwice}
use Rattle.cx_rules.specs.ShapeRules.{BreaksLength, BreaksInvokeLength, IsWrongControl, BreaksStaticTest}
use Rattle.cx_rules.specs.Spots.{StatementRule}
use Rattle.cx_rules.specs.StaticControl.{is_static, is_in_static, is_written, may_stand, form_has_length, has_length, written_length}
use Rattle.cx_rules.specs.WidthRules.{differ, TestBreaksGuardWidth, TestBreaksLiteral, TestBreaksNotASource}
use Rattle.cx_rules.proofs.ItemsLemmas.{tests_flat, option_in}
use Rattle.cx_laws.proofs.TogetherLemmas.{in_flat}
use Rattle.cx_laws.proofs.VisitLemmas.{as_visited, itself, visited}
use Rattle.cx_promotion.specs.Made.{IsPromoted, IsRun, one_more, FormMade, empty, enable, seq, collapsed, par, if_made, while_made, repeat_made, static, timed, StatementMade, placed, PartMade}
use Rattle.cx_promotion.proofs.Impossible.{no_true, no_some}
use Rattle.cx_promotion.proofs.Twins.{Twins}
use Rattle.cx_promotion.proofs.Shapes.{shape_of}
use Rattle.cx_promotion.proofs.Members.{plain_length, group_made}
use Rattle.cx_promotion.proofs.StaticStays.{parts_static}
use Rattle.cx_promotion.proofs.MadeControl.{made_groups}
use Rattle.cx_promotion.proofs.PortsMade.{SameSignature, written_same, target_only_same}
use Rattle.cx_promotion.proofs.LeadsMade.{within_group, rests_made}
use Rattle.cx_promotion.proofs.InvokesMade.{made_invokes, invoke_same, captures-same, form_lasts_same, form_has_length_same, drives_all-made, invoke_break_back}
use Rattle.cx_promotion.proofs.VisitsMade.{Came, of_dynamic, of_piece, of_enable, the_same, statement_comes}

none_static : (form : PlainForm) (k : Option ℕ) (test : PlacedPort) (a b : PlainStatement) → form ≡ StaticIf k test a b → is_static form ≡ false → ⊥
none_static form k test a b e dynamic = not_both (is_static form) (ap is_static e) dynamic

module _ (i j : Instance) (t : Twins SameSignature i j) (made : PartMade i (part_of i) (part_of j)) (some_length : (g : ℕ) (is : IsPromoted i (part_of i) (part_of j) g) → 1 ≤ is.0)
    (stands : (v : Visited) → In (statements_in (part_of i)) v → is_in_static v.context ≡ true → may_stand (part_of i) v.context v.form ≡ true) where
  abbrev P : ℕ → Type 0
  P g = IsPromoted i (part_of i) (part_of j) g

  abbrev olds : List Visited
  olds = statements_in (part_of i)

  -- a statement of the old design breaks the rule
  abbrev pub OldStatementBreak : StatementRule → Type 0
  OldStatementBreak rule = (v : Visited) × In olds v × (at : Place) × (called : List ℕ) × rule i v at called

  abbrev pub Comes : Visited → Type 0
  Comes w = Came P olds w.context w.form

  pub comes : (w : Visited) → In (statements_in (part_of j)) w → Comes w
  comes w k = statement_comes P made.control w k

  -- CONDITIONS
  came_test : (vs : List Visited) (context : Context) (form : PlainForm) (test : PlacedPort) → Came P vs context form → test_in form ≡ Some test → (v : Visited) × In vs v × (test_in v.form ≡ Some test)
  came_test vs context form test (of_dynamic v inside tests dynamic enables bare arms) e = (v, inside, sym tests ∙ e)
  came_test vs context form test (of_piece run) e = no_some test e
  came_test vs context form test (of_enable v g inside is long) e = no_some test e
  came_test vs context form test (the_same v inside) e = (v, inside, e)

  pub test_width_back : (w : Visited) (place : Place) (name : List ℕ) → Comes w → TestBreaksGuardWidth j w place name → OldStatementBreak TestBreaksGuardWidth
  test_width_back w place name came (test, is, wide, tells) =
      let r = came_test olds w.context w.form test came is in
      (r.0, r.1, r.0.place, path_of i test.port, (test, r.2, sym (ap (λ x. differ x (Some 1)) (written_same i j t test.port)) ∙ wide, (refl, refl)))

  pub test_literal_back : (w : Visited) (place : Place) (name : List ℕ) → Comes w → TestBreaksLiteral j w place name → OldStatementBreak TestBreaksLiteral
  test_literal_back w place name came (test, is, bad, tells) = let r = came_test olds w.context w.form test came is in (r.0, r.1, test.place, [], (test, r.2, bad, (refl, refl)))

  pub test_source_back : (w : Visited) (place : Place) (name : List ℕ) → Comes w → TestBreaksNotASource j w place name → OldStatementBreak TestBreaksNotASource
  test_source_back w place name came (test, is, sink, tells) =
      let r = came_test olds w.context w.form test came is in
      (r.0, r.1, test.place, path_of i test.port, (test, r.2, sym (target_only_same i j t test.port) ∙ sink, (refl, refl)))

  -- STATIC CONTROL
  static_length : (g : ℕ) → is_some (group_length (part_of i) g) ≡ true → group_length (part_of j) g ≡ group_length (part_of i) g
  static_length g some = by (group_made i made.groups g)
    where
      by : (group_at (part_of j) g ≡ group_at (part_of i) g) ⊎ P g → group_length (part_of j) g ≡ group_length (part_of i) g
      by (inl stays) = ap (λ (x : PlainGroup). kind_length x.kind) stays
      by (inr promoted) =
          no_true (sym (ap is_some (plain_length (group_at (part_of i) g).kind (shape_of i (group_at (part_of i) g) promoted.0 promoted.1).plain)) ∙ some)

  still_stands : (context : Context) (form : PlainForm) → may_stand (part_of i) context form ≡ true → may_stand (part_of j) context form ≡ true
  still_stands context Empty e = e
  still_stands context (Enable g) e = ap is_some (static_length g e) ∙ e
  still_stands context (Seq parts) e = e
  still_stands context (Par arms) e = e
  still_stands context (If test comb a b) e = e
  still_stands context (While test comb a) e = e
  still_stands context (Repeat count a) e = e
  still_stands context (StaticSeq length parts) e = e
  still_stands context (StaticPar length arms) e = e
  still_stands context (StaticIf length test a b) e = e
  still_stands context (StaticRepeat length count a) e = e
  still_stands context (Timed k) e = ap (λ vs. is_written (slice_get vs k)) (sym made.invokes) ∙ e

  promoted_length : (g : ℕ) (is : P g) → group_length (part_of j) g ≡ Some is.0
  promoted_length g is = ap (λ (x : PlainGroup). kind_length x.kind) is.2

  pub control_stands : (context : Context) (form : PlainForm) → Came P olds context form → is_in_static context ≡ true → may_stand (part_of j) context form ≡ true
  control_stands context form (of_dynamic v inside tests dynamic enables bare arms) stat = no_true stat
  control_stands context form (of_piece run) stat = no_true stat
  control_stands context form (of_enable v g inside is long) stat = ap is_some (promoted_length g long)
  control_stands context form (the_same v inside) stat = still_stands v.context v.form (stands v inside stat)

  piece_length : {s : PlainStatement} {run : PlainStatements} → IsRun P (a_statement s run) → sum_lasts (part_of j) (a_statement s run) ≡ 0 → ⊥
  piece_length (one_more {g = g} {ss = ss} long later) e =
      let first : or_zero (group_length (part_of j) g) ≡ long.0 = ap or_zero (promoted_length g long) in
      let some : 1 ≤ long.0 = some_length g long in
      let sum : or_zero (group_length (part_of j) g) + sum_lasts (part_of j) ss ≡ 0 = e in
      omega arith

  static_groups_same : (v : Visited) → In olds v → is_static v.form ≡ true → (g : ℕ) → In (groups_in v.form) g → group_length (part_of j) g ≡ group_length (part_of i) g
  static_groups_same v inside is g k =
      static_length g
      (parts_static (part_of i) v.context v.form is (λ w below stat. stands w (visited Dynamic (part_of i).control v w inside (inr below)) stat) g k)

  abbrev WrongLength : PlainComponent → PlainForm → Type 0
  WrongLength part form = ((n : ℕ) × (written_length form ≡ Some n) × (n ≢ form_lasts part form)) ⊎ (form_lasts part form ≡ 0)

  wrong_back : (form : PlainForm) → form_lasts (part_of j) form ≡ form_lasts (part_of i) form → WrongLength (part_of j) form → WrongLength (part_of i) form
  wrong_back form same (inl (n, written, wrong)) = inl (n, written, λ e. wrong (e ∙ sym same))
  wrong_back form same (inr zero_length) = inr (sym same ∙ zero_length)

  length_at : (context : Context) (form : PlainForm) → Came P olds context form → is_static form ≡ true → form_has_length (part_of j) context form ≡ true → WrongLength (part_of j) form → OldStatementBreak BreaksLength
  length_at context form (of_dynamic v inside tests dynamic enables bare arms) is has wrong = absurd (not_both (is_static form) is dynamic)
  length_at context form (of_piece run) is has (inl (n, written, wrong)) = no_some n written
  length_at context form (of_piece run) is has (inr zero_length) = absurd (piece_length run zero_length)
  length_at context form (of_enable v g inside e long) is has wrong = no_true is
  length_at context form (the_same v inside) is has wrong =
      let same = static_groups_same v inside is in (
        v,
        inside,
        v.place,
        [],
        (
          is,
          sym (form_has_length_same (part_of i) (part_of j) made.invokes v.context v.form same) ∙ has,
          wrong_back v.form (form_lasts_same (part_of i) (part_of j) made.invokes v.form same) wrong,
          (refl, refl),
        ),
      )

  pub length_back : (w : Visited) (place : Place) (name : List ℕ) → Comes w → BreaksLength j w place name → OldStatementBreak BreaksLength
  length_back w place name came (is, has, wrong, tells) = length_at w.context w.form came is has wrong

  static_test_at : (context : Context) (form : PlainForm) → Came P olds context form → (k : Option ℕ) (test : PlacedPort) (a b : PlainStatement) → form ≡ StaticIf k test a b → (Rests j test.port → ⊥) → OldStatementBreak BreaksStaticTest
  static_test_at context form (of_dynamic v inside tests dynamic enables bare arms) k test a b e wrong = absurd (none_static form k test a b e dynamic)
  static_test_at context form (of_piece run) k test a b e wrong = absurd (cc)
  static_test_at context form (of_enable v g inside is long) k test a b e wrong = absurd (cc)
  static_test_at context form (the_same v inside) k test a b e wrong = (v, inside, v.place, [], (k, test, a, b, e, (λ rests. wrong (rests_made i i j t made rests)), (refl, refl)))

  pub static_test_back : (w : Visited) (place : Place) (name : List ℕ) → Comes w → BreaksStaticTest j w place name → OldStatementBreak BreaksStaticTest
  static_test_back w place name came (k, test, a, b, e, wrong, tells) = static_test_at w.context w.form came k test a b e wrong

  -- STATIC INVOKES
  came_timed : (context : Context) (form : PlainForm) (k : ℕ) → Came P olds context form → form ≡ Timed k → (v : Visited) × In olds v × (v.form ≡ Timed k)
  came_timed context form k (of_dynamic v inside tests dynamic enables bare arms) e = absurd (let wrong : k ∷ [] ≡ [] = sym (ap invoke_in e) ∙ bare in cc)
  came_timed context form k (of_piece run) e = absurd (cc)
  came_timed context form k (of_enable v g inside is long) e = absurd (cc)
  came_timed context form k (the_same v inside) e = (v, inside, e)

  pub invoke_length_back : (w : Visited) (place : Place) (name : List ℕ) → Comes w → BreaksInvokeLength j w place name → OldStatementBreak BreaksInvokeLength
  invoke_length_back w place name came (k, invoke, e, at, has, wrong, tells) =
      let r = came_timed w.context w.form k came e in
      (r.0, r.1, r.0.place, [], (k, invoke, r.2, sym (invoke_same (part_of i) (part_of j) made.invokes k) ∙ at, has, wrong, (refl, refl)))

  pub invoke_back : (w : Visited) (place : Place) (name : List ℕ) → Comes w → BreaksInvoke j w place name → OldStatementBreak BreaksInvoke
  invoke_back w place name came (k, invoke, e, at, breaks, tells) =
      let r = came_timed w.context w.form k came e in (
        r.0,
        r.1,
        r.0.place,
        cell_name (part_of i).cells invoke.cell,
        (k, invoke, r.2, sym (invoke_same (part_of i) (part_of j) made.invokes k) ∙ at, invoke_break_back i j t made invoke breaks, (refl, refl)),
      )

  -- THE CONTROL OF A STATIC COMPONENT stays
  same_control : (form twin : PlainForm) → FormMade P form twin → may_stand (part_of i) InStatic form ≡ true → twin ≡ form
  same_control form twin empty may = no_true may
  same_control form twin enable may = refl
  same_control form twin (seq parts) may = no_true may
  same_control form twin (collapsed parts) may = no_true may
  same_control form twin (par arms) may = no_true may
  same_control form twin (if_made one two) may = no_true may
  same_control form twin (while_made one) may = no_true may
  same_control form twin (repeat_made one) may = no_true may
  same_control form twin (static is) may = refl
  same_control form twin timed may = refl

  control_groups : (form : PlainForm) (place : Place) → In olds (record { context = Dynamic; form = form; place = place }) → may_stand (part_of i) InStatic form ≡ true
      → (g : ℕ) → In (groups_in form) g → group_length (part_of j) g ≡ group_length (part_of i) g
  control_groups Empty place inside may g k = no_true may
  control_groups (Enable h) place inside may g (inl same) = subst (λ n. group_length (part_of j) n ≡ group_length (part_of i) n) same (static_length h may)
  control_groups (Enable h) place inside may g (inr k) = absurd k
  control_groups (Seq parts) place inside may g k = no_true may
  control_groups (Par arms) place inside may g k = no_true may
  control_groups (If test comb a b) place inside may g k = no_true may
  control_groups (While test comb a) place inside may g k = no_true may
  control_groups (Repeat count a) place inside may g k = no_true may
  control_groups (StaticSeq length parts) place inside may g k = static_groups_same _ inside refl g k
  control_groups (StaticPar length arms) place inside may g k = static_groups_same _ inside refl g k
  control_groups (StaticIf length test a b) place inside may g k = static_groups_same _ inside refl g k
  control_groups (StaticRepeat length count a) place inside may g k = static_groups_same _ inside refl g k
  control_groups (Timed n) place inside may g k = absurd k

  -- what is wrong with the control of a static component
  abbrev WrongControl : PlainComponent → PlainStatement → ℕ → Type 0
  WrongControl part s latency = (may_stand part InStatic (form_of s) ≡ false) ⊎ ((has_length part InStatic s ≡ true) × (lasts part s ≢ latency))

  wrong_control : (s u : PlainStatement) (latency : ℕ) → StatementMade P s u → In olds (as_visited s) → WrongControl (part_of j) u latency → WrongControl (part_of i) s latency
  wrong_control s u latency (placed {form = form} {other = twin} {p = place} {q = q} made_form) inside wrong = by (may_stand (part_of i) InStatic form) refl
    where
      still : may_stand (part_of i) InStatic form ≡ true → WrongControl (part_of j) (Placed form q) latency → WrongControl (part_of i) (Placed form place) latency
      still may (inl not) = absurd (not_both (may_stand (part_of j) InStatic form) (still_stands InStatic form may) not)
      still may (inr (has, differs)) =
          let same = control_groups form place inside may in
          inr (
            sym (form_has_length_same (part_of i) (part_of j) made.invokes InStatic form same) ∙ has,
            λ e. differs (form_lasts_same (part_of i) (part_of j) made.invokes form same ∙ e),
          )

      by : (b : Bool) → may_stand (part_of i) InStatic form ≡ b → WrongControl (part_of i) (Placed form place) latency
      by true may = still may (subst (λ f. WrongControl (part_of j) (Placed f q) latency) (same_control form twin made_form may) wrong)
      by false may = inl may

  pub part_length_back : (latency : ℕ) → IsWrongControl (part_of j) latency → IsWrongControl (part_of i) latency
  part_length_back latency wrong = wrong_control (part_of i).control (part_of j).control latency made.control (itself (part_of i).control) wrong

  -- RACES. What an arm drives, reads and enables, the old arm does
  record ArmBack (s arm : PlainStatement) : Type 0 where
    groups : groups_of arm ≡ groups_of s
    tests : (p : PlacedPort) → In (tests_of arm) p → In (tests_of s) p
    enables : (g : ℕ) → In (enabled_in arm) g → In (enabled_in s) g
    invokes : invokes_of arm ≡ invokes_of s

  arm_itself : (s : PlainStatement) → ArmBack s s
  arm_itself s = record { groups = refl; tests = λ p k. k; enables = λ g k. k; invokes = refl }

  came_enabled : (vs : List Visited) (context : Context) (form : PlainForm) (g : ℕ) → Came P vs context form → In (enabled_group form) g → (v : Visited) × In vs v × In (enabled_group v.form) g
  came_enabled vs context form g (of_dynamic v inside tests dynamic enables bare arms) k = (v, inside, subst (λ list. In list g) enables k)
  came_enabled vs context form g (of_piece run) k = absurd k
  came_enabled vs context form g (of_enable v n inside is long) k = (v, inside, subst (λ f. In (enabled_group f) g) (sym is) k)
  came_enabled vs context form g (the_same v inside) k = (v, inside, k)

  arm_made : (s arm : PlainStatement) → StatementMade P s arm → ArmBack s arm
  arm_made s arm is = record {
    groups = made_groups P is;
    tests = λ p k.
        let w = flat_in (λ (v : Visited). option_list (test_in v.form)) (visit Dynamic arm) p k in
        let r = came_test (visit Dynamic s) w.0.context w.0.form p (statement_comes P is w.0 w.1) (option_in (test_in w.0.form) p w.2) in
        tests_flat (visit Dynamic s) r.0 p r.1 r.2;
    enables = λ g k.
        let w = flat_in (λ (v : Visited). enabled_group v.form) (visit Dynamic arm) g k in
        let r = came_enabled (visit Dynamic s) w.0.context w.0.form g (statement_comes P is w.0 w.1) w.2 in
        in_flat (λ (v : Visited). enabled_group v.form) (visit Dynamic s) r.0 g r.1 r.2;
    invokes = made_invokes P is;
  }

  drives_back : (s arm : PlainStatement) (c : ℕ) → ArmBack s arm → drives_all (part_of j) arm c ≡ true → drives_all (part_of i) s c ≡ true
  drives_back s arm c back e = sym (drives_all-made i (part_of i) (part_of j) made s arm back.groups back.invokes c) ∙ e

  reads_back : (s arm : PlainStatement) → ArmBack s arm → {c : ℕ} → ReadsAll (part_of j) arm c → ReadsAll (part_of i) s c
  reads_back s arm back (driven {c = c} e) = driven (drives_back s arm c back e)
  reads_back s arm back (named p g a inside assign names) =
      let w = within_group i (part_of i) (part_of j) made g a assign in named p g w.assign (subst (λ gs. In gs g) back.groups inside) w.stands (w.names _ names)
  reads_back s arm back (captured p g a inside assign names) =
      let w = within_group i (part_of i) (part_of j) made g a assign in
      let same = captures-same (part_of i) (part_of j) made.invokes (invokes_of arm) ∙ ap (captures_of (part_of i)) back.invokes in
      captured p g w.assign (subst (λ gs. In gs g) same inside) w.stands (w.names _ names)
  reads_back s arm back (fed p a is names) =
      fed p a
      (record {
        number = is.number;
        stands = subst (λ ks. In ks is.number) back.invokes is.stands;
        invoke = is.invoke;
        is = sym (invoke_same (part_of i) (part_of j) made.invokes is.number) ∙ is.is;
        input = is.input;
      })
      names
  reads_back s arm back (tested p test inside e) = tested p test (back.tests test inside) e
  reads_back s arm back (through c p q a reads inside target names) = through c p q a (reads_back s arm back reads) (subst (λ list. In list a) (sym made.always) inside) target names

  -- two arms of the new statement, and those of the old one
  record TwoBack (old new : PlainForm) (two : Arms (arms_of new)) : Type 0 where
    arms : Arms (arms_of old)
    first : ArmBack arms.first two.first
    second : ArmBack arms.second two.second

  no_arm : {A : Type 0} (n : ℕ) (s : PlainStatement) → slice_get [] n ≡ Some s → A
  no_arm n s e = absurd (cc)

  two_back : (vs : List Visited) (context : Context) (form : PlainForm) → Came P vs context form → (two : Arms (arms_of form)) → (v : Visited) × In vs v × TwoBack v.form form two
  two_back vs context form (of_dynamic v inside tests dynamic enables bare arms) two =
      let one = arms two.one two.first two.first_stands in
      let other = arms two.other two.second two.second_stands in (
        v,
        inside,
        record {
          arms = record { one = two.one; other = two.other; differ = two.differ; first = one.0; second = other.0; first_stands = one.1; second_stands = other.1 };
          first = arm_made one.0 two.first one.2;
          second = arm_made other.0 two.second other.2;
        },
      )
  two_back vs context form (of_piece run) two = no_arm two.one two.first two.first_stands
  two_back vs context form (of_enable v g inside is long) two = no_arm two.one two.first two.first_stands
  two_back vs context form (the_same v inside) two = (v, inside, record { arms = two; first = arm_itself two.first; second = arm_itself two.second })

  pub shared_back : (w : Visited) (c : ℕ) → Comes w → IsShared (part_of j) (arms_of w.form) c → (v : Visited) × In olds v × IsShared (part_of i) (arms_of v.form) c
  shared_back w c came (two, drives_it, reads) =
      let r = two_back olds w.context w.form came two in
      let b = r.2 in
      (r.0, r.1, (b.arms, drives_back b.arms.first two.first c b.first drives_it, reads_back b.arms.second two.second b.second reads))

  pub twice_back : (w : Visited) (g : ℕ) → Comes w → IsEnabledTwice (arms_of w.form) g → (v : Visited) × In olds v × IsEnabledTwice (arms_of v.form) g
  twice_back w g came (two, one, other) =
      let r = two_back olds w.context w.form came two in
      let b = r.2 in
      (r.0, r.1, (b.arms, b.first.enables g one, b.second.enables g other))
