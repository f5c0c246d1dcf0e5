-- THE FORMS of a statement and of all in it, wherever they stand; and where those of a flat statement come from.
use Rattle.std.proofs.Common.{◌≡◌, ℕ, zero, suc, inl, inr, ⊎_elim, List, [], ◌∷◌, ◌++◌, map, Option, Some, None, refl, sym, ap, ap₂, ◌∙◌, subst}
use Rattle.std.specs.Prelude.{slice_get}
use Rattle.std.proofs.lemmas.List.{map-append}
use Rattle.cx_text.proofs.MemberLaws.{flat_in, image_in, in_either, in_image, in_left, in_right}
use Rattle.cx_meaning.specs.declared.ports.PortRef.{PortRef}
use Rattle.cx_meaning.specs.declared.ports.PlacedPort.{PlacedPort}
use Rattle.cx_meaning.specs.Designs.{PlainComponent, PlainForm, Empty, Enable, Seq, Par, If, While, Repeat, StaticSeq, StaticPar, StaticIf, StaticRepeat, Timed, PlainStatement, Placed, PlainStatements, no_statements, a_statement, list_of, no_place}
use Rattle.cx_meaning.specs.Control.{groups_in, groups_of, groups_in_all}
use Rattle.cx_text.specs.Members.{In}
use Rattle.cx_meaning.proofs.SightsLaws.{behind_comb}
use Rattle.cx_rules.specs.Items.{Context, Dynamic, InStatic, Branch, below_dynamic, Visited, visit, visit_parts, visit_all, test_in, option_list, tests_of}
use Rattle.cx_rules.specs.RaceRule.{Arms, arms_of, enabled_group, enabled_in}
use Rattle.cx_laws.proofs.TogetherLemmas.{in_flat}
use Rattle.cx_rewrites.specs.Moving.{moved_port}
use Rattle.cx_flattening.specs.Events.{the_invoke}
use Rattle.cx_flattening.specs.Copies.{copied_form, copied_statement, copied_statements}
use Rattle.cx_flattening.specs.Flattened.{Kids, kid_at, own_port, invoke_port, copy_of, with_capture, inlined, flat_form, flat_statement, flat_statements}
use Rattle.cx_flattening.specs.Controlled.{timed_in, timed_of, timed_all}
use Rattle.cx_flattening.proofs.DeedsApart.{timed_parts}
use Rattle.cx_meaning.proofs.ControlLaws.{in_parts}

-- a statement's own form first
abbrev mutual
  pub forms_of : PlainStatement → List PlainForm
  forms_of (Placed form place) = form ∷ forms_below form

  pub forms_below : PlainForm → List PlainForm
  forms_below Empty = []
  forms_below (Enable g) = []
  forms_below (Seq ss) = forms_all ss
  forms_below (Par arms) = forms_all arms
  forms_below (If test comb a b) = forms_of a ++ forms_of b
  forms_below (While test comb a) = forms_of a
  forms_below (Repeat count a) = forms_of a
  forms_below (StaticSeq written ss) = forms_all ss
  forms_below (StaticPar written arms) = forms_all arms
  forms_below (StaticIf written test a b) = forms_of a ++ forms_of b
  forms_below (StaticRepeat written count a) = forms_of a
  forms_below (Timed k) = []

  pub forms_all : PlainStatements → List PlainForm
  forms_all no_statements = []
  forms_all (a_statement s ss) = forms_of s ++ forms_all ss

-- they are those that are visited
abbrev visited_form : Visited → PlainForm
visited_form v = v.form

mutual
  one_same : (context : Context) (s : PlainStatement) → map visited_form (visit context s) ≡ forms_of s
  one_same context (Placed form place) = ap (λ l. form ∷ l) (parts_same context form)

  parts_same : (context : Context) (form : PlainForm) → map visited_form (visit_parts context form) ≡ forms_below form
  parts_same context Empty = refl
  parts_same context (Enable g) = refl
  parts_same context (Seq ss) = all_same (below_dynamic context) ss
  parts_same context (Par arms) = all_same (below_dynamic context) arms
  parts_same context (If test comb a b) =
      map-append visited_form (visit (below_dynamic context) a) (visit (below_dynamic context) b) ∙ ap₂ (λ xs ys. xs ++ ys) (one_same (below_dynamic context) a) (one_same (below_dynamic context) b)
  parts_same context (While test comb a) = one_same (below_dynamic context) a
  parts_same context (Repeat count a) = one_same (below_dynamic context) a
  parts_same context (StaticSeq written ss) = all_same InStatic ss
  parts_same context (StaticPar written arms) = all_same InStatic arms
  parts_same context (StaticIf written test a b) = map-append visited_form (visit Branch a) (visit Branch b) ∙ ap₂ (λ xs ys. xs ++ ys) (one_same Branch a) (one_same Branch b)
  parts_same context (StaticRepeat written count a) = one_same InStatic a
  parts_same context (Timed k) = refl

  all_same : (context : Context) (ss : PlainStatements) → map visited_form (visit_all context ss) ≡ forms_all ss
  all_same context no_statements = refl
  all_same context (a_statement s ss) = map-append visited_form (visit context s) (visit_all context ss) ∙ ap₂ (λ xs ys. xs ++ ys) (one_same context s) (all_same context ss)

pub form_visited : (context : Context) (s : PlainStatement) (v : Visited) → In (visit context s) v → In (forms_of s) v.form
form_visited context s v i = subst (λ l. In l v.form) (one_same context s) (in_image visited_form (visit context s) v i)

pub visited_at : (context : Context) (s : PlainStatement) (x : PlainForm) → In (forms_of s) x → (v : Visited) × In (visit context s) v × (v.form ≡ x)
visited_at context s x i = image_in visited_form (visit context s) x (subst (λ l. In l x) (sym (one_same context s)) i)

-- the groups that a statement enables, and its conditions
pub enabled_form : (s : PlainStatement) (g : ℕ) → In (enabled_in s) g → (x : PlainForm) × In (forms_of s) x × In (enabled_group x) g
enabled_form s g i = let r = flat_in (λ (v : Visited). enabled_group v.form) (visit Dynamic s) g i in (r.0.form, form_visited Dynamic s r.0 r.1, r.2)

pub form_enabled : (s : PlainStatement) (x : PlainForm) (g : ℕ) → In (forms_of s) x → In (enabled_group x) g → In (enabled_in s) g
form_enabled s x g i e =
    let v = visited_at Dynamic s x i in
    in_flat (λ (w : Visited). enabled_group w.form) (visit Dynamic s) v.0 g v.1 (subst (λ y. In (enabled_group y) g) (sym v.2) e)

pub tested_form : (s : PlainStatement) (p : PlacedPort) → In (tests_of s) p → (x : PlainForm) × In (forms_of s) x × In (option_list (test_in x)) p
tested_form s p i = let r = flat_in (λ (v : Visited). option_list (test_in v.form)) (visit Dynamic s) p i in (r.0.form, form_visited Dynamic s r.0 r.1, r.2)

pub form_tested : (s : PlainStatement) (x : PlainForm) (p : PlacedPort) → In (forms_of s) x → In (option_list (test_in x)) p → In (tests_of s) p
form_tested s x p i e =
    let v = visited_at Dynamic s x i in
    in_flat (λ (w : Visited). option_list (test_in w.form)) (visit Dynamic s) v.0 p v.1 (subst (λ y. In (option_list (test_in y)) p) (sym v.2) e)

-- a group that one of its forms enables is a group of the statement
module _ (x : PlainForm) (g : ℕ) (enables : In (enabled_group x) g) where
  head_group : (form : PlainForm) → In (enabled_group form) g → In (groups_in form) g
  head_group Empty i = absurd i
  head_group (Enable h) i = i
  head_group (Seq ss) i = absurd i
  head_group (Par arms) i = absurd i
  head_group (If test comb a b) i = absurd i
  head_group (While test comb a) i = absurd i
  head_group (Repeat count a) i = absurd i
  head_group (StaticSeq written ss) i = absurd i
  head_group (StaticPar written arms) i = absurd i
  head_group (StaticIf written test a b) i = absurd i
  head_group (StaticRepeat written count a) i = absurd i
  head_group (Timed k) i = absurd i

  mutual
    pub form_group : (s : PlainStatement) → In (forms_of s) x → In (groups_of s) g
    form_group (Placed form place) (inl e) = head_group form (subst (λ y. In (enabled_group y) g) (sym e) enables)
    form_group (Placed form place) (inr i) = part_group form i

    part_group : (form : PlainForm) → In (forms_below form) x → In (groups_in form) g
    part_group Empty i = absurd i
    part_group (Enable h) i = absurd i
    part_group (Seq ss) i = all_group ss i
    part_group (Par arms) i = all_group arms i
    part_group (If test comb a b) i =
        behind_comb comb (groups_of a ++ groups_of b) g
        (⊎_elim (λ j. in_left (groups_of a) (groups_of b) g (form_group a j)) (λ j. in_right (groups_of a) (groups_of b) g (form_group b j)) (in_either (forms_of a) (forms_of b) x i))
    part_group (While test comb a) i = behind_comb comb (groups_of a) g (form_group a i)
    part_group (Repeat count a) i = form_group a i
    part_group (StaticSeq written ss) i = all_group ss i
    part_group (StaticPar written arms) i = all_group arms i
    part_group (StaticIf written test a b) i =
        ⊎_elim (λ j. in_left (groups_of a) (groups_of b) g (form_group a j)) (λ j. in_right (groups_of a) (groups_of b) g (form_group b j)) (in_either (forms_of a) (forms_of b) x i)
    part_group (StaticRepeat written count a) i = form_group a i
    part_group (Timed k) i = absurd i

    all_group : (ss : PlainStatements) → In (forms_all ss) x → In (groups_in_all ss) g
    all_group no_statements i = absurd i
    all_group (a_statement s ss) i =
        ⊎_elim (λ j. in_left (groups_of s) (groups_in_all ss) g (form_group s j)) (λ j. in_right (groups_of s) (groups_in_all ss) g (all_group ss j)) (in_either (forms_of s) (forms_all ss) x i)

pub enabled_group_of : (s : PlainStatement) (g : ℕ) → In (enabled_in s) g → In (groups_of s) g
enabled_group_of s g i = let r = enabled_form s g i in form_group r.0 g r.2 s r.1

-- WHAT STANDS IN AN ARM stands in what the arm is in
pub record IsWithin (s : PlainStatement) (gs js : List ℕ) (fs : List PlainForm) : Type 0 where
  pub groups : (g : ℕ) → In (groups_of s) g → In gs g
  pub timed : (j : ℕ) → In (timed_of s) j → In js j
  pub forms : (x : PlainForm) → In (forms_of s) x → In fs x

module _ (s : PlainStatement) where
  more_within : (gs js hs ks : List ℕ) (fs es : List PlainForm) → ((g : ℕ) → In gs g → In hs g) → ((j : ℕ) → In js j → In ks j) → ((x : PlainForm) → In fs x → In es x) → IsWithin s gs js fs → IsWithin s hs ks es
  more_within gs js hs ks fs es groups timed forms w = record { groups = λ g i. groups g (w.groups g i); timed = λ j i. timed j (w.timed j i); forms = λ x i. forms x (w.forms x i) }

  in_forms : (ss : PlainStatements) → In (list_of ss) s → (x : PlainForm) → In (forms_of s) x → In (forms_all ss) x
  in_forms no_statements i x j = absurd i
  in_forms (a_statement y ys) (inl e) x j = in_left (forms_of y) (forms_all ys) x (subst (λ z. In (forms_of z) x) (sym e) j)
  in_forms (a_statement y ys) (inr i) x j = in_right (forms_of y) (forms_all ys) x (in_forms ys i x j)

  arm_head : (form : PlainForm) → In (arms_of form) s → IsWithin s (groups_in form) (timed_in form) (form ∷ forms_below form)
  arm_head Empty i = absurd i
  arm_head (Enable g) i = absurd i
  arm_head (Seq ss) i = absurd i
  arm_head (Par arms) i = record { groups = λ g j. in_parts arms s g i j; timed = λ k j. timed_parts arms s k i j; forms = λ x j. inr (in_forms arms i x j) }
  arm_head (If test comb a b) i = absurd i
  arm_head (While test comb a) i = absurd i
  arm_head (Repeat count a) i = absurd i
  arm_head (StaticSeq written ss) i = absurd i
  arm_head (StaticPar written arms) i = record { groups = λ g j. in_parts arms s g i j; timed = λ k j. timed_parts arms s k i j; forms = λ x j. inr (in_forms arms i x j) }
  arm_head (StaticIf written test a b) i = absurd i
  arm_head (StaticRepeat written count a) i = absurd i
  arm_head (Timed k) i = absurd i

  module _ (x : PlainForm) (arm : In (arms_of x) s) where
    abbrev Within : PlainStatement → Type 0
    Within a = IsWithin s (groups_of a) (timed_of a) (forms_of a)

    left : (a b : PlainStatement) → Within a → IsWithin s (groups_of a ++ groups_of b) (timed_of a ++ timed_of b) (forms_of a ++ forms_of b)
    left a b w =
        more_within (groups_of a) (timed_of a) (groups_of a ++ groups_of b) (timed_of a ++ timed_of b) (forms_of a) (forms_of a ++ forms_of b)
        (λ g. in_left (groups_of a) (groups_of b) g) (λ j. in_left (timed_of a) (timed_of b) j) (λ y. in_left (forms_of a) (forms_of b) y) w

    right : (a b : PlainStatement) → Within b → IsWithin s (groups_of a ++ groups_of b) (timed_of a ++ timed_of b) (forms_of a ++ forms_of b)
    right a b w =
        more_within (groups_of b) (timed_of b) (groups_of a ++ groups_of b) (timed_of a ++ timed_of b) (forms_of b) (forms_of a ++ forms_of b)
        (λ g. in_right (groups_of a) (groups_of b) g) (λ j. in_right (timed_of a) (timed_of b) j) (λ y. in_right (forms_of a) (forms_of b) y) w

    mutual
      arm_parts : (form : PlainForm) → In (forms_below form) x → IsWithin s (groups_in form) (timed_in form) (forms_below form)
      arm_parts Empty i = absurd i
      arm_parts (Enable g) i = absurd i
      arm_parts (Seq ss) i = arm_all ss i
      arm_parts (Par arms) i = arm_all arms i
      arm_parts (If test comb a b) i =
          let w = ⊎_elim (λ j. left a b (arm_one a j)) (λ j. right a b (arm_one b j)) (in_either (forms_of a) (forms_of b) x i) in record { groups = λ g j. behind_comb comb (groups_of a ++ groups_of b) g (w.groups g j); timed = w.timed; forms = w.forms }
      arm_parts (While test comb a) i = let w = arm_one a i in record { groups = λ g j. behind_comb comb (groups_of a) g (w.groups g j); timed = w.timed; forms = w.forms }
      arm_parts (Repeat count a) i = arm_one a i
      arm_parts (StaticSeq written ss) i = arm_all ss i
      arm_parts (StaticPar written arms) i = arm_all arms i
      arm_parts (StaticIf written test a b) i = ⊎_elim (λ j. left a b (arm_one a j)) (λ j. right a b (arm_one b j)) (in_either (forms_of a) (forms_of b) x i)
      arm_parts (StaticRepeat written count a) i = arm_one a i
      arm_parts (Timed k) i = absurd i

      pub arm_one : (a : PlainStatement) → In (forms_of a) x → IsWithin s (groups_of a) (timed_of a) (forms_of a)
      arm_one (Placed form place) (inl e) = arm_head form (subst (λ y. In (arms_of y) s) (sym e) arm)
      arm_one (Placed form place) (inr i) =
          more_within (groups_in form) (timed_in form) (groups_in form) (timed_in form) (forms_below form) (form ∷ forms_below form) (λ g j. j) (λ k j. j) (λ y j. inr j) (arm_parts form i)

      arm_all : (ss : PlainStatements) → In (forms_all ss) x → IsWithin s (groups_in_all ss) (timed_all ss) (forms_all ss)
      arm_all no_statements i = absurd i
      arm_all (a_statement a ss) i =
          ⊎_elim
          (λ j. more_within (groups_of a) (timed_of a) (groups_of a ++ groups_in_all ss) (timed_of a ++ timed_all ss) (forms_of a) (forms_of a ++ forms_all ss)
          (λ g. in_left (groups_of a) (groups_in_all ss) g) (λ k. in_left (timed_of a) (timed_all ss) k) (λ y. in_left (forms_of a) (forms_all ss) y) (arm_one a j))
          (λ j. more_within (groups_in_all ss) (timed_all ss) (groups_of a ++ groups_in_all ss) (timed_of a ++ timed_all ss) (forms_all ss) (forms_of a ++ forms_all ss)
          (λ g. in_right (groups_of a) (groups_in_all ss) g) (λ k. in_right (timed_of a) (timed_all ss) k) (λ y. in_right (forms_of a) (forms_all ss) y) (arm_all ss j))
          (in_either (forms_of a) (forms_all ss) x i)

-- TWO ARMS of a list that is mapped are those of two arms
pub record TwoOf (f : PlainStatement → PlainStatement) (arms : List PlainStatement) (one other : PlainStatement) : Type 0 where
  pub two : Arms arms
  pub first_is : f two.first ≡ one
  pub second_is : f two.second ≡ other
  pub first_in : In arms two.first
  pub second_in : In arms two.second

mapped_at : (f : PlainStatement → PlainStatement) (xs : List PlainStatement) (n : ℕ) (y : PlainStatement) → slice_get (map f xs) n ≡ Some y → (x : PlainStatement) × (slice_get xs n ≡ Some x) × (f x ≡ y) × In xs x
mapped_at f [] n y e = absurd (let none : ◌≡◌ {A = Option PlainStatement} None (Some y) = e in cc)
mapped_at f (x ∷ xs) zero y e = (x, refl, (let same : f x ≡ y = cc in same), inl refl)
mapped_at f (x ∷ xs) (suc n) y e = let r = mapped_at f xs n y e in (r.0, r.1, r.2, inr r.3)

pub two_of : (f : PlainStatement → PlainStatement) (arms list : List PlainStatement) → list ≡ map f arms → (two : Arms list) → TwoOf f arms two.first two.second
two_of f arms list is two =
    let a = mapped_at f arms two.one two.first (ap (λ l. slice_get l two.one) (sym is) ∙ two.first_stands) in
    let b = mapped_at f arms two.other two.second (ap (λ l. slice_get l two.other) (sym is) ∙ two.second_stands) in
    record {
      two = record { one = two.one; other = two.other; differ = two.differ; first = a.0; second = b.0; first_stands = a.1; second_stands = b.1 };
      first_is = a.2;
      second_is = b.2;
      first_in = a.3;
      second_in = b.3;
    }

-- OF A COPY
module _ (f : PortRef → PortRef) (copy : ℕ → ℕ) where
  mutual
    pub copied_forms : (s : PlainStatement) → forms_of (copied_statement f copy s) ≡ map (copied_form f copy) (forms_of s)
    copied_forms (Placed form place) = ap (λ l. copied_form f copy form ∷ l) (copied_parts form)

    copied_parts : (form : PlainForm) → forms_below (copied_form f copy form) ≡ map (copied_form f copy) (forms_below form)
    copied_parts Empty = refl
    copied_parts (Enable g) = refl
    copied_parts (Seq ss) = copied_all ss
    copied_parts (Par arms) = copied_all arms
    copied_parts (If test comb a b) = ap₂ (λ xs ys. xs ++ ys) (copied_forms a) (copied_forms b) ∙ sym (map-append (copied_form f copy) (forms_of a) (forms_of b))
    copied_parts (While test comb a) = copied_forms a
    copied_parts (Repeat count a) = copied_forms a
    copied_parts (StaticSeq written ss) = copied_all ss
    copied_parts (StaticPar written arms) = copied_all arms
    copied_parts (StaticIf written test a b) = ap₂ (λ xs ys. xs ++ ys) (copied_forms a) (copied_forms b) ∙ sym (map-append (copied_form f copy) (forms_of a) (forms_of b))
    copied_parts (StaticRepeat written count a) = copied_forms a
    copied_parts (Timed k) = refl

    copied_all : (ss : PlainStatements) → forms_all (copied_statements f copy ss) ≡ map (copied_form f copy) (forms_all ss)
    copied_all no_statements = refl
    copied_all (a_statement s ss) = ap₂ (λ xs ys. xs ++ ys) (copied_forms s) (copied_all ss) ∙ sym (map-append (copied_form f copy) (forms_of s) (forms_all ss))

  pub copied_back : (s : PlainStatement) (x : PlainForm) → In (forms_of (copied_statement f copy s)) x → (w : PlainForm) × In (forms_of s) w × (copied_form f copy w ≡ x)
  copied_back s x i = image_in (copied_form f copy) (forms_of s) x (subst (λ l. In l x) (copied_forms s) i)

  arms_listed : (ss : PlainStatements) → list_of (copied_statements f copy ss) ≡ map (copied_statement f copy) (list_of ss)
  arms_listed no_statements = refl
  arms_listed (a_statement s ss) = ap (λ l. copied_statement f copy s ∷ l) (arms_listed ss)

  pub arms_copied : (w : PlainForm) → arms_of (copied_form f copy w) ≡ map (copied_statement f copy) (arms_of w)
  arms_copied Empty = refl
  arms_copied (Enable g) = refl
  arms_copied (Seq ss) = refl
  arms_copied (Par arms) = arms_listed arms
  arms_copied (If test comb a b) = refl
  arms_copied (While test comb a) = refl
  arms_copied (Repeat count a) = refl
  arms_copied (StaticSeq written ss) = refl
  arms_copied (StaticPar written arms) = arms_listed arms
  arms_copied (StaticIf written test a b) = refl
  arms_copied (StaticRepeat written count a) = refl
  arms_copied (Timed k) = refl

  pub enabled_copied : (w : PlainForm) → enabled_group (copied_form f copy w) ≡ map copy (enabled_group w)
  enabled_copied Empty = refl
  enabled_copied (Enable g) = refl
  enabled_copied (Seq ss) = refl
  enabled_copied (Par arms) = refl
  enabled_copied (If test comb a b) = refl
  enabled_copied (While test comb a) = refl
  enabled_copied (Repeat count a) = refl
  enabled_copied (StaticSeq written ss) = refl
  enabled_copied (StaticPar written arms) = refl
  enabled_copied (StaticIf written test a b) = refl
  enabled_copied (StaticRepeat written count a) = refl
  enabled_copied (Timed k) = refl

  pub test_copied : (w : PlainForm) → option_list (test_in (copied_form f copy w)) ≡ map (moved_port f) (option_list (test_in w))
  test_copied Empty = refl
  test_copied (Enable g) = refl
  test_copied (Seq ss) = refl
  test_copied (Par arms) = refl
  test_copied (If test comb a b) = refl
  test_copied (While test comb a) = refl
  test_copied (Repeat count a) = refl
  test_copied (StaticSeq written ss) = refl
  test_copied (StaticPar written arms) = refl
  test_copied (StaticIf written test a b) = refl
  test_copied (StaticRepeat written count a) = refl
  test_copied (Timed k) = refl

-- OF A FLAT FORM: of a form that is no static invoke
abbrev pub IsUntimed : PlainForm → Type 0
IsUntimed Empty = Unit {0}
IsUntimed (Enable g) = Unit {0}
IsUntimed (Seq ss) = Unit {0}
IsUntimed (Par arms) = Unit {0}
IsUntimed (If test comb a b) = Unit {0}
IsUntimed (While test comb a) = Unit {0}
IsUntimed (Repeat count a) = Unit {0}
IsUntimed (StaticSeq written ss) = Unit {0}
IsUntimed (StaticPar written arms) = Unit {0}
IsUntimed (StaticIf written test a b) = Unit {0}
IsUntimed (StaticRepeat written count a) = Unit {0}
IsUntimed (Timed k) = ⊥

module _ (kids : Kids) (part : PlainComponent) where
  flat_listed : (ss : PlainStatements) → list_of (flat_statements kids part ss) ≡ map (flat_statement kids part) (list_of ss)
  flat_listed no_statements = refl
  flat_listed (a_statement s ss) = ap (λ l. flat_statement kids part s ∷ l) (flat_listed ss)

  pub arms_flat : (w : PlainForm) → IsUntimed w → arms_of (flat_form kids part w) ≡ map (flat_statement kids part) (arms_of w)
  arms_flat Empty u = refl
  arms_flat (Enable g) u = refl
  arms_flat (Seq ss) u = refl
  arms_flat (Par arms) u = flat_listed arms
  arms_flat (If test comb a b) u = refl
  arms_flat (While test comb a) u = refl
  arms_flat (Repeat count a) u = refl
  arms_flat (StaticSeq written ss) u = refl
  arms_flat (StaticPar written arms) u = flat_listed arms
  arms_flat (StaticIf written test a b) u = refl
  arms_flat (StaticRepeat written count a) u = refl
  arms_flat (Timed k) u = absurd u

  pub enabled_flat : (w : PlainForm) → IsUntimed w → enabled_group (flat_form kids part w) ≡ enabled_group w
  enabled_flat Empty u = refl
  enabled_flat (Enable g) u = refl
  enabled_flat (Seq ss) u = refl
  enabled_flat (Par arms) u = refl
  enabled_flat (If test comb a b) u = refl
  enabled_flat (While test comb a) u = refl
  enabled_flat (Repeat count a) u = refl
  enabled_flat (StaticSeq written ss) u = refl
  enabled_flat (StaticPar written arms) u = refl
  enabled_flat (StaticIf written test a b) u = refl
  enabled_flat (StaticRepeat written count a) u = refl
  enabled_flat (Timed k) u = absurd u

  pub test_flat : (w : PlainForm) → IsUntimed w → option_list (test_in (flat_form kids part w)) ≡ map (moved_port (own_port kids part)) (option_list (test_in w))
  test_flat Empty u = refl
  test_flat (Enable g) u = refl
  test_flat (Seq ss) u = refl
  test_flat (Par arms) u = refl
  test_flat (If test comb a b) u = refl
  test_flat (While test comb a) u = refl
  test_flat (Repeat count a) u = refl
  test_flat (StaticSeq written ss) u = refl
  test_flat (StaticPar written arms) u = refl
  test_flat (StaticIf written test a b) u = refl
  test_flat (StaticRepeat written count a) u = refl
  test_flat (Timed k) u = absurd u

  module _ (x : PlainForm) where
    -- WHERE A FORM of a flat statement comes from, by the forms of the statement
    pub data Comes (fs : List PlainForm) : Type 0 where
      moved : (w : PlainForm) → In fs w → IsUntimed w → flat_form kids part w ≡ x → Comes fs
      copied : (j : ℕ) (child : PlainComponent) (w : PlainForm) → In fs (Timed j) → kid_at kids (the_invoke part j).cell ≡ Some child → In (forms_of child.control) w
          → copied_form (invoke_port kids part child (the_invoke part j)) (copy_of kids part child j) w ≡ x → Comes fs
      captures : (j g : ℕ) → In fs (Timed j) → (the_invoke part j).captures ≡ Some g → Enable g ≡ x → Comes fs
      bare : arms_of x ≡ [] → enabled_group x ≡ [] → test_in x ≡ None → Comes fs

    more : (fs es : List PlainForm) → ((w : PlainForm) → In fs w → In es w) → Comes fs → Comes es
    more fs es wide (moved w i u e) = moved w (wide w i) u e
    more fs es wide (copied j child w i its k e) = copied j child w (wide (Timed j) i) its k e
    more fs es wide (captures j g i e f) = captures j g (wide (Timed j) i) e f
    more fs es wide (bare arms enabled test) = bare arms enabled test

    either : (xs ys fs es : List PlainForm) → (In xs x → Comes fs) → (In ys x → Comes es) → In (xs ++ ys) x → Comes (fs ++ es)
    either xs ys fs es one other i =
        ⊎_elim (λ j. more fs (fs ++ es) (λ w. in_left fs es w) (one j)) (λ j. more es (fs ++ es) (λ w. in_right fs es w) (other j)) (in_either xs ys x i)

    uncaptured : (s : PlainStatement) → In (with_capture None s ∷ forms_below (with_capture None s)) x → In (forms_of s) x
    uncaptured (Placed form place) i = i

    timed_comes : (j : ℕ) → In (inlined kids part (kid_at kids (the_invoke part j).cell) j (the_invoke part j) ∷ forms_below (inlined kids part (kid_at kids (the_invoke part j).cell) j (the_invoke part j))) x → Comes (Timed j ∷ [])
    timed_comes j i = by (kid_at kids (the_invoke part j).cell) refl i
      where
        of_copy : (child : PlainComponent) → kid_at kids (the_invoke part j).cell ≡ Some child
            → In (forms_of (copied_statement (invoke_port kids part child (the_invoke part j)) (copy_of kids part child j) child.control)) x → Comes (Timed j ∷ [])
        of_copy child its k =
            let r = copied_back (invoke_port kids part child (the_invoke part j)) (copy_of kids part child j) child.control x k in copied j child r.0 (inl refl) its r.1 r.2

        captured : (child : PlainComponent) → kid_at kids (the_invoke part j).cell ≡ Some child → (o : Option ℕ) → (the_invoke part j).captures ≡ o → (s : PlainStatement)
            → s ≡ copied_statement (invoke_port kids part child (the_invoke part j)) (copy_of kids part child j) child.control → In (with_capture o s ∷ forms_below (with_capture o s)) x → Comes (Timed j ∷ [])
        captured child its None e s is k = of_copy child its (subst (λ y. In (forms_of y) x) is (uncaptured s k))
        captured child its (Some g) e s is (inl same) = bare (ap arms_of (sym same)) (ap enabled_group (sym same)) (ap test_in (sym same))
        captured child its (Some g) e s is (inr k) =
            ⊎_elim (λ m. of_copy child its (subst (λ y. In (forms_of y) x) is m)) last (in_either (forms_of s) (forms_all (a_statement (Placed (Enable g) no_place) no_statements)) x k)
          where
            last : In (forms_all (a_statement (Placed (Enable g) no_place) no_statements)) x → Comes (Timed j ∷ [])
            last (inl same) = captures j g (inl refl) e same
            last (inr m) = absurd m

        by : (o : Option PlainComponent) → kid_at kids (the_invoke part j).cell ≡ o → In (inlined kids part o j (the_invoke part j) ∷ forms_below (inlined kids part o j (the_invoke part j))) x → Comes (Timed j ∷ [])
        by None its (inl same) = bare (ap arms_of (sym same)) (ap enabled_group (sym same)) (ap test_in (sym same))
        by None its (inr k) = absurd k
        by (Some child) its k = captured child its (the_invoke part j).captures refl (copied_statement (invoke_port kids part child (the_invoke part j)) (copy_of kids part child j) child.control) refl k

    below : (form : PlainForm) → Comes (forms_below form) → Comes (form ∷ forms_below form)
    below form c = more (forms_below form) (form ∷ forms_below form) (λ w i. inr i) c

    mutual
      -- EACH FORM
      pub comes : (s : PlainStatement) → In (forms_of (flat_statement kids part s)) x → Comes (forms_of s)
      comes (Placed form place) i = form_comes form i

      form_comes : (form : PlainForm) → In (flat_form kids part form ∷ forms_below (flat_form kids part form)) x → Comes (form ∷ forms_below form)
      form_comes (Timed k) i = timed_comes k i
      form_comes Empty (inl e) = moved Empty (inl refl) tt e
      form_comes Empty (inr i) = absurd i
      form_comes (Enable g) (inl e) = moved (Enable g) (inl refl) tt e
      form_comes (Enable g) (inr i) = absurd i
      form_comes (Seq ss) (inl e) = moved (Seq ss) (inl refl) tt e
      form_comes (Seq ss) (inr i) = below (Seq ss) (all_comes ss i)
      form_comes (Par arms) (inl e) = moved (Par arms) (inl refl) tt e
      form_comes (Par arms) (inr i) = below (Par arms) (all_comes arms i)
      form_comes (If test comb a b) (inl e) = moved (If test comb a b) (inl refl) tt e
      form_comes (If test comb a b) (inr i) = below (If test comb a b) (either (forms_of (flat_statement kids part a)) (forms_of (flat_statement kids part b)) (forms_of a) (forms_of b) (comes a) (comes b) i)
      form_comes (While test comb a) (inl e) = moved (While test comb a) (inl refl) tt e
      form_comes (While test comb a) (inr i) = below (While test comb a) (comes a i)
      form_comes (Repeat count a) (inl e) = moved (Repeat count a) (inl refl) tt e
      form_comes (Repeat count a) (inr i) = below (Repeat count a) (comes a i)
      form_comes (StaticSeq written ss) (inl e) = moved (StaticSeq written ss) (inl refl) tt e
      form_comes (StaticSeq written ss) (inr i) = below (StaticSeq written ss) (all_comes ss i)
      form_comes (StaticPar written arms) (inl e) = moved (StaticPar written arms) (inl refl) tt e
      form_comes (StaticPar written arms) (inr i) = below (StaticPar written arms) (all_comes arms i)
      form_comes (StaticIf written test a b) (inl e) = moved (StaticIf written test a b) (inl refl) tt e
      form_comes (StaticIf written test a b) (inr i) = below (StaticIf written test a b) (either (forms_of (flat_statement kids part a)) (forms_of (flat_statement kids part b)) (forms_of a) (forms_of b) (comes a) (comes b) i)
      form_comes (StaticRepeat written count a) (inl e) = moved (StaticRepeat written count a) (inl refl) tt e
      form_comes (StaticRepeat written count a) (inr i) = below (StaticRepeat written count a) (comes a i)

      all_comes : (ss : PlainStatements) → In (forms_all (flat_statements kids part ss)) x → Comes (forms_all ss)
      all_comes no_statements i = absurd i
      all_comes (a_statement s ss) i = either (forms_of (flat_statement kids part s)) (forms_all (flat_statements kids part ss)) (forms_of s) (forms_all ss) (comes s) (all_comes ss) i
