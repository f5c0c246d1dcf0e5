-- Groups and conditions by the forms of a statement.
use Rattle.std.proofs.Common.{◌≡◌, ℕ, List, ◌∷◌, ◌++◌, Option, Some, None, map, flat_map, inl, inr, ⊎_elim, refl, sym, ap, ◌∙◌, subst}
use Rattle.std.proofs.lemmas.Grind.{flat_map-append}
use Rattle.std.proofs.lemmas.List.{map-append}
use Rattle.std.proofs.lemmas.List.Folds.{flat_map-map}
use Rattle.cx_text.proofs.MemberLaws.{in_either, in_left, in_right}
use Rattle.cx_meaning.specs.declared.ports.PlacedPort.{PlacedPort}
use Rattle.cx_meaning.specs.Designs.{PlainForm, Empty, Enable, Seq, Par, If, While, Repeat, StaticSeq, StaticPar, StaticIf, StaticRepeat, Timed, PlainStatement, Placed, PlainStatements, no_statements, a_statement, list_of}
use Rattle.cx_text.specs.Members.{In}
use Rattle.cx_meaning.specs.Control.{with_comb, groups_of, groups_in, groups_in_all}
use Rattle.cx_rules.specs.Items.{Context, Dynamic, InStatic, Branch, below_dynamic, Visited, visit, visit_parts, visit_all, option_list, test_in, tests_of}
use Rattle.cx_rules.specs.RaceRule.{arms_of, enabled_group, enabled_in}
use Rattle.cx_rules.specs.Invokes.{invoke_in, invokes_of}
use Rattle.cx_race.specs.Forms.{forms_of, forms_below, forms_in, own_groups}

abbrev form_of : Visited → PlainForm
form_of v = v.form

two : (xs ys : List Visited) (fs gs : List PlainForm) → map form_of xs ≡ fs → map form_of ys ≡ gs → map form_of (xs ++ ys) ≡ fs ++ gs
two xs ys fs gs a b = map-append form_of xs ys ∙ ap (λ l. l ++ map form_of ys) a ∙ ap (λ l. fs ++ l) b

-- the forms of what is visited, wherever the statement stands
mutual
  pub visited_forms : (context : Context) (s : PlainStatement) → map form_of (visit context s) ≡ forms_of s
  visited_forms context (Placed form place) = ap (λ l. form ∷ l) (visited_below context form)

  visited_below : (context : Context) (form : PlainForm) → map form_of (visit_parts context form) ≡ forms_below form
  visited_below context Empty = refl
  visited_below context (Enable g) = refl
  visited_below context (Seq parts) = visited_in (below_dynamic context) parts
  visited_below context (Par arms) = visited_in (below_dynamic context) arms
  visited_below context (If test comb a b) =
      two (visit (below_dynamic context) a) (visit (below_dynamic context) b) (forms_of a) (forms_of b) (visited_forms (below_dynamic context) a) (visited_forms (below_dynamic context) b)
  visited_below context (While test comb a) = visited_forms (below_dynamic context) a
  visited_below context (Repeat count a) = visited_forms (below_dynamic context) a
  visited_below context (StaticSeq length parts) = visited_in InStatic parts
  visited_below context (StaticPar length arms) = visited_in InStatic arms
  visited_below context (StaticIf length test a b) = two (visit Branch a) (visit Branch b) (forms_of a) (forms_of b) (visited_forms Branch a) (visited_forms Branch b)
  visited_below context (StaticRepeat length count a) = visited_forms InStatic a
  visited_below context (Timed k) = refl

  visited_in : (context : Context) (ss : PlainStatements) → map form_of (visit_all context ss) ≡ forms_in ss
  visited_in context no_statements = refl
  visited_in context (a_statement s ss) = two (visit context s) (visit_all context ss) (forms_of s) (forms_in ss) (visited_forms context s) (visited_in context ss)

-- what each form has, over the forms
by_forms : {A : Type 0} (f : PlainForm → List A) (s : PlainStatement) → flat_map (λ v. f (form_of v)) (visit Dynamic s) ≡ flat_map f (forms_of s)
by_forms f s = sym (flat_map-map f form_of (visit Dynamic s)) ∙ ap (λ l. flat_map f l) (visited_forms Dynamic s)

pub enabled_by_forms : (s : PlainStatement) → enabled_in s ≡ flat_map enabled_group (forms_of s)
enabled_by_forms s = by_forms enabled_group s

pub invokes_by_forms : (s : PlainStatement) → invokes_of s ≡ flat_map invoke_in (forms_of s)
invokes_by_forms s = by_forms invoke_in s

abbrev tests_at : PlainForm → List PlacedPort
tests_at form = option_list (test_in form)

pub tests_by_forms : (s : PlainStatement) → tests_of s ≡ flat_map (λ form. option_list (test_in form)) (forms_of s)
tests_by_forms s = by_forms tests_at s

with_own : (comb : Option ℕ) (gs : List ℕ) → with_comb comb gs ≡ option_list comb ++ gs
with_own None gs = refl
with_own (Some g) gs = refl

two_groups : (fs gs : List PlainForm) (xs ys : List ℕ) → xs ≡ flat_map own_groups fs → ys ≡ flat_map own_groups gs → xs ++ ys ≡ flat_map own_groups (fs ++ gs)
two_groups fs gs xs ys a b = ap (λ l. l ++ ys) a ∙ ap (λ l. flat_map own_groups fs ++ l) b ∙ sym (flat_map-append own_groups fs gs)

mutual
  pub groups_by_forms : (s : PlainStatement) → groups_of s ≡ flat_map own_groups (forms_of s)
  groups_by_forms (Placed form place) = groups_below form

  groups_below : (form : PlainForm) → groups_in form ≡ own_groups form ++ flat_map own_groups (forms_below form)
  groups_below Empty = refl
  groups_below (Enable g) = refl
  groups_below (Seq parts) = groups_all parts
  groups_below (Par arms) = groups_all arms
  groups_below (If test comb a b) =
      with_own comb (groups_of a ++ groups_of b) ∙ ap (λ l. option_list comb ++ l) (two_groups (forms_of a) (forms_of b) (groups_of a) (groups_of b) (groups_by_forms a) (groups_by_forms b))
  groups_below (While test comb a) = with_own comb (groups_of a) ∙ ap (λ l. option_list comb ++ l) (groups_by_forms a)
  groups_below (Repeat count a) = groups_by_forms a
  groups_below (StaticSeq length parts) = groups_all parts
  groups_below (StaticPar length arms) = groups_all arms
  groups_below (StaticIf length test a b) = two_groups (forms_of a) (forms_of b) (groups_of a) (groups_of b) (groups_by_forms a) (groups_by_forms b)
  groups_below (StaticRepeat length count a) = groups_by_forms a
  groups_below (Timed k) = refl

  groups_all : (ss : PlainStatements) → groups_in_all ss ≡ flat_map own_groups (forms_in ss)
  groups_all no_statements = refl
  groups_all (a_statement s ss) = two_groups (forms_of s) (forms_in ss) (groups_of s) (groups_in_all ss) (groups_by_forms s) (groups_all ss)

arms_below : (ss : PlainStatements) (arm : PlainStatement) (h : PlainForm) → In (list_of ss) arm → In (forms_of arm) h → In (forms_in ss) h
arms_below no_statements arm h i j = absurd i
arms_below (a_statement s ss) arm h (inl e) j = in_left (forms_of s) (forms_in ss) h (subst (λ x. In (forms_of x) h) (sym e) j)
arms_below (a_statement s ss) arm h (inr i) j = in_right (forms_of s) (forms_in ss) h (arms_below ss arm h i j)

-- an arm's forms are below its par
arm_forms : (form : PlainForm) (arm : PlainStatement) (h : PlainForm) → In (arms_of form) arm → In (forms_of arm) h → In (forms_below form) h
arm_forms Empty arm h i j = absurd i
arm_forms (Enable g) arm h i j = absurd i
arm_forms (Seq parts) arm h i j = absurd i
arm_forms (Par arms) arm h i j = arms_below arms arm h i j
arm_forms (If test comb a b) arm h i j = absurd i
arm_forms (While test comb a) arm h i j = absurd i
arm_forms (Repeat count a) arm h i j = absurd i
arm_forms (StaticSeq length parts) arm h i j = absurd i
arm_forms (StaticPar length arms) arm h i j = arms_below arms arm h i j
arm_forms (StaticIf length test a b) arm h i j = absurd i
arm_forms (StaticRepeat length count a) arm h i j = absurd i
arm_forms (Timed k) arm h i j = absurd i

either_forms : (xs ys : List PlainForm) (f h : PlainForm) → In (xs ++ ys) f → (In xs f → In xs h) → (In ys f → In ys h) → In (xs ++ ys) h
either_forms xs ys f h i a b = ⊎_elim (λ l. in_left xs ys h (a l)) (λ r. in_right xs ys h (b r)) (in_either xs ys f i)

-- what is below a form of a statement is among the statement's forms
mutual
  pub below_among : (s : PlainStatement) (f h : PlainForm) → In (forms_of s) f → In (forms_below f) h → In (forms_of s) h
  below_among (Placed form place) f h (inl e) j = inr (subst (λ x. In (forms_below x) h) (sym e) j)
  below_among (Placed form place) f h (inr i) j = inr (below_below form f h i j)

  below_below : (form f h : PlainForm) → In (forms_below form) f → In (forms_below f) h → In (forms_below form) h
  below_below Empty f h i j = absurd i
  below_below (Enable g) f h i j = absurd i
  below_below (Seq parts) f h i j = below_in parts f h i j
  below_below (Par arms) f h i j = below_in arms f h i j
  below_below (If test comb a b) f h i j = either_forms (forms_of a) (forms_of b) f h i (λ k. below_among a f h k j) (λ k. below_among b f h k j)
  below_below (While test comb a) f h i j = below_among a f h i j
  below_below (Repeat count a) f h i j = below_among a f h i j
  below_below (StaticSeq length parts) f h i j = below_in parts f h i j
  below_below (StaticPar length arms) f h i j = below_in arms f h i j
  below_below (StaticIf length test a b) f h i j = either_forms (forms_of a) (forms_of b) f h i (λ k. below_among a f h k j) (λ k. below_among b f h k j)
  below_below (StaticRepeat length count a) f h i j = below_among a f h i j
  below_below (Timed k) f h i j = absurd i

  below_in : (ss : PlainStatements) (f h : PlainForm) → In (forms_in ss) f → In (forms_below f) h → In (forms_in ss) h
  below_in no_statements f h i j = absurd i
  below_in (a_statement s ss) f h i j = either_forms (forms_of s) (forms_in ss) f h i (λ k. below_among s f h k j) (λ k. below_in ss f h k j)

-- the forms of an arm are among those of the statement in which its par stands
pub arms_among : (s : PlainStatement) (f : PlainForm) (arm : PlainStatement) (h : PlainForm) → In (forms_of s) f → In (arms_of f) arm → In (forms_of arm) h → In (forms_of s) h
arms_among s f arm h i j k = below_among s f h i (arm_forms f arm h j k)
