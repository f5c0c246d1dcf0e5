-- A STATEMENT visits the same forms wherever it stands, so its conditions are those of what it visits; and where its arms stand.
use Rattle.std.proofs.Common.{◌≡◌, ℕ, inl, inr, ⊎_elim, List, [], ◌∷◌, ◌++◌, map, Option, Some, None, slice_get, refl, sym, ap, ap₂, ◌∙◌, subst}
use Rattle.std.specs.Prelude.{flat_map}
use Rattle.std.proofs.lemmas.List.{map-append}
use Rattle.cx_text.proofs.MemberLaws.{image_in, in_either, in_image}
use Rattle.cx_meaning.specs.declared.ports.PlacedPort.{PlacedPort}
use Rattle.cx_meaning.specs.Designs.{PlainForm, Empty, Enable, Seq, Par, If, While, Repeat, StaticSeq, StaticPar, StaticIf, StaticRepeat, Timed, PlainStatement, Placed, PlainStatements, no_statements, a_statement}
use Rattle.cx_text.specs.Members.{In}
use Rattle.cx_rules.specs.Items.{Context, Dynamic, InStatic, below_dynamic, Visited, visit, visit_parts, visit_all, test_in, tests_of, option_list}
use Rattle.cx_rules.specs.RaceRule.{arms_of}
use Rattle.cx_profiling.proofs.EnabledLemmas.{visits_of_arm}

-- THE FORMS that a statement visits are the same wherever it stands
abbrev forms : List Visited → List PlainForm
forms vs = map (λ (v : Visited). v.form) vs

two_forms : (xs ys us vs : List Visited) → forms xs ≡ forms us → forms ys ≡ forms vs → forms (xs ++ ys) ≡ forms (us ++ vs)
two_forms xs ys us vs e h = map-append (λ (v : Visited). v.form) xs ys ∙ ap₂ ◌++◌ e h ∙ sym (map-append (λ (v : Visited). v.form) us vs)

mutual
  parts_same : (c e : Context) (form : PlainForm) → forms (visit_parts c form) ≡ forms (visit_parts e form)
  parts_same c e Empty = refl
  parts_same c e (Enable g) = refl
  parts_same c e (Seq parts) = all_same (below_dynamic c) (below_dynamic e) parts
  parts_same c e (Par arms) = all_same (below_dynamic c) (below_dynamic e) arms
  parts_same c e (If test comb a b) =
      two_forms (visit (below_dynamic c) a) (visit (below_dynamic c) b) (visit (below_dynamic e) a) (visit (below_dynamic e) b) (forms_same (below_dynamic c) (below_dynamic e) a) (forms_same (below_dynamic c) (below_dynamic e) b)
  parts_same c e (While test comb a) = forms_same (below_dynamic c) (below_dynamic e) a
  parts_same c e (Repeat times a) = forms_same (below_dynamic c) (below_dynamic e) a
  parts_same c e (StaticSeq written parts) = refl
  parts_same c e (StaticPar written arms) = refl
  parts_same c e (StaticIf written test a b) = refl
  parts_same c e (StaticRepeat written times a) = refl
  parts_same c e (Timed k) = refl

  forms_same : (c e : Context) (s : PlainStatement) → forms (visit c s) ≡ forms (visit e s)
  forms_same c e (Placed form place) = ap (λ fs. form ∷ fs) (parts_same c e form)

  all_same : (c e : Context) (ss : PlainStatements) → forms (visit_all c ss) ≡ forms (visit_all e ss)
  all_same c e no_statements = refl
  all_same c e (a_statement s ss) = two_forms (visit c s) (visit_all c ss) (visit e s) (visit_all e ss) (forms_same c e s) (all_same c e ss)

-- a condition of a statement is that of a form that it visits
flat_tests : (vs : List Visited) (p : PlacedPort) → In (flat_map (λ (v : Visited). option_list (test_in v.form)) vs) p → (v : Visited) × In vs v × (test_in v.form ≡ Some p)
flat_tests [] p i = absurd i
flat_tests (v ∷ vs) p i =
    ⊎_elim (λ h. (v, inl refl, one (test_in v.form) h)) (λ h. let r = flat_tests vs p h in (r.0, inr r.1, r.2)) (in_either (option_list (test_in v.form)) (flat_map (λ (w : Visited). option_list (test_in w.form)) vs) p i)
  where
    one : (o : Option PlacedPort) → In (option_list o) p → o ≡ Some p
    one None h = absurd h
    one (Some q) (inl e) = ap Some e
    one (Some q) (inr h) = absurd h

pub tested_form : (c : Context) (s : PlainStatement) (p : PlacedPort) → In (tests_of s) p → (v : Visited) × In (visit c s) v × (test_in v.form ≡ Some p)
tested_form c s p i =
    let r = flat_tests (visit Dynamic s) p i in
    let x = image_in (λ (v : Visited). v.form) (visit c s) r.0.form (subst (λ list. In list r.0.form) (forms_same Dynamic c s) (in_image (λ (v : Visited). v.form) (visit Dynamic s) r.0 r.1)) in
    (x.0, x.1, ap test_in x.2 ∙ r.2)

-- an arm, with where it stands
pub arm_visits : (v : Visited) (n : ℕ) (s : PlainStatement) → slice_get (arms_of v.form) n ≡ Some s → (c : Context) × ((u : Visited) → In (visit c s) u → In (visit_parts v.context v.form) u)
arm_visits v n s at = by v.form at
  where
    by : (form : PlainForm) → slice_get (arms_of form) n ≡ Some s → (c : Context) × ((u : Visited) → In (visit c s) u → In (visit_parts v.context form) u)
    by Empty e = absurd (cc)
    by (Enable g) e = absurd (cc)
    by (Seq parts) e = absurd (cc)
    by (Par arms) e = (below_dynamic v.context, λ u i. visits_of_arm (below_dynamic v.context) arms n s u e i)
    by (If test comb a b) e = absurd (cc)
    by (While test comb a) e = absurd (cc)
    by (Repeat times a) e = absurd (cc)
    by (StaticSeq written parts) e = absurd (cc)
    by (StaticPar written arms) e = (InStatic, λ u i. visits_of_arm InStatic arms n s u e i)
    by (StaticIf written test a b) e = absurd (cc)
    by (StaticRepeat written times a) e = absurd (cc)
    by (Timed k) e = absurd (cc)
