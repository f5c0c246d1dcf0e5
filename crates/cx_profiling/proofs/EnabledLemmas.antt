-- The groups of a statement are there, and enabled in it unless they are comb groups.
use Rattle.std.proofs.Common.{◌≡◌, ℕ, zero, suc, ◌<◌, inl, inr, ⊎_elim, false, List, [], ◌∷◌, ◌++◌, length, Option, Some, None, slice_get, refl, sym, subst}
use Rattle.std.proofs.lemmas.Bool.{both_ways}
use Rattle.cx_text.proofs.MemberLaws.{in_either, in_left, in_right}
use Rattle.cx_text.specs.declared.places.Place.{Place}
use Rattle.cx_meaning.specs.Designs.{PlainComponent, PlainForm, Empty, Enable, Seq, Par, If, While, Repeat, StaticSeq, StaticPar, StaticIf, StaticRepeat, Timed, PlainStatement, Placed, PlainStatements, no_statements, a_statement, group_at, list_of}
use Rattle.cx_text.specs.Members.{In}
use Rattle.cx_meaning.specs.Control.{with_comb, groups_in, groups_of, groups_in_all}
use Rattle.cx_rules.specs.Items.{Context, Dynamic, InStatic, Branch, below_dynamic, Visited, visit, visit_parts, visit_all, is_comb}
use Rattle.cx_rules.specs.RaceRule.{enabled_group, enabled_in}
use Rattle.cx_rules.specs.Wellformed.{IsForm, IsWith}
use Rattle.cx_laws.proofs.TogetherLemmas.{in_flat}

module _ (part : PlainComponent) where
  abbrev pub AreForms : List Visited → Type 0
  AreForms vs = (v : Visited) → In vs v → IsForm part v.form

  -- a group is there, and one of these statements enables it if it is no comb group
  pub record Known (vs : List Visited) (g : ℕ) : Type 0 where
    pub there : g < length part.groups
    pub enabled : is_comb (group_at part g).kind ≡ false → (v : Visited) × In vs v × In (enabled_group v.form) g

  wider : (vs ws : List Visited) (g : ℕ) → ((v : Visited) → In vs v → In ws v) → Known vs g → Known ws g
  wider vs ws g h k = record { there = k.there; enabled = λ e. let r = k.enabled e in (r.0, h r.0 r.1, r.2) }

  with_known : (comb : Option ℕ) (gs : List ℕ) (vs : List Visited) (g : ℕ) → IsWith part comb → (In gs g → Known vs g) → In (with_comb comb gs) g → Known vs g
  with_known None gs vs g w h i = h i
  with_known (Some x) gs vs g (few, comb) h (inl e) =
      subst (Known vs) e (record { there = few; enabled = λ plain. absurd (both_ways (is_comb (group_at part x).kind) plain comb) })
  with_known (Some x) gs vs g w h (inr i) = h i

  either : (xs ys : List ℕ) (vs ws : List Visited) (g : ℕ) → (In xs g → Known vs g) → (In ys g → Known ws g) → In (xs ++ ys) g → Known (vs ++ ws) g
  either xs ys vs ws g h k i = ⊎_elim (λ a. wider vs (vs ++ ws) g (λ v j. in_left vs ws v j) (h a)) (λ b. wider ws (vs ++ ws) g (λ v j. in_right vs ws v j) (k b)) (in_either xs ys g i)

  left : (vs ws : List Visited) → AreForms (vs ++ ws) → AreForms vs
  left vs ws h v i = h v (in_left vs ws v i)

  right : (vs ws : List Visited) → AreForms (vs ++ ws) → AreForms ws
  right vs ws h v i = h v (in_right vs ws v i)

  behind : (first : Visited) (vs : List Visited) (g : ℕ) → Known vs g → Known (first ∷ vs) g
  behind first vs g k = wider vs (first ∷ vs) g (λ v i. inr i) k

  -- by what is visited in one context, of what is visited in another
  mutual
    form_known : (c e : Context) (form : PlainForm) (place : Place) (g : ℕ) → IsForm part form → AreForms (visit_parts c form) → In (groups_in form) g
        → Known (record { context = e; form = form; place = place } ∷ visit_parts e form) g
    form_known c e Empty place g is all i = absurd i
    form_known c e (Enable x) place g (few, plain) all (inl same) =
        subst (Known (record { context = e; form = Enable x; place = place } ∷ [])) same
        (record { there = few; enabled = λ h. (record { context = e; form = Enable x; place = place }, inl refl, inl refl) })
    form_known c e (Enable x) place g is all (inr i) = absurd i
    form_known c e (Seq parts) place g is all i = behind _ _ g (all_known (below_dynamic c) (below_dynamic e) parts g all i)
    form_known c e (Par arms) place g is all i = behind _ _ g (all_known (below_dynamic c) (below_dynamic e) arms g all i)
    form_known c e (If test comb a b) place g is all i =
        behind _ _ g (with_known comb (groups_of a ++ groups_of b) (visit (below_dynamic e) a ++ visit (below_dynamic e) b) g is
        (either (groups_of a) (groups_of b) (visit (below_dynamic e) a) (visit (below_dynamic e) b) g
        (statement_known (below_dynamic c) (below_dynamic e) a g (left (visit (below_dynamic c) a) (visit (below_dynamic c) b) all))
        (statement_known (below_dynamic c) (below_dynamic e) b g (right (visit (below_dynamic c) a) (visit (below_dynamic c) b) all))) i)
    form_known c e (While test comb a) place g is all i =
        behind _ _ g (with_known comb (groups_of a) (visit (below_dynamic e) a) g is (statement_known (below_dynamic c) (below_dynamic e) a g all) i)
    form_known c e (Repeat count a) place g is all i = behind _ _ g (statement_known (below_dynamic c) (below_dynamic e) a g all i)
    form_known c e (StaticSeq length parts) place g is all i = behind _ _ g (all_known InStatic InStatic parts g all i)
    form_known c e (StaticPar length arms) place g is all i = behind _ _ g (all_known InStatic InStatic arms g all i)
    form_known c e (StaticIf length test a b) place g is all i =
        behind _ _ g (either (groups_of a) (groups_of b) (visit Branch a) (visit Branch b) g
        (statement_known Branch Branch a g (left (visit Branch a) (visit Branch b) all)) (statement_known Branch Branch b g (right (visit Branch a) (visit Branch b) all)) i)
    form_known c e (StaticRepeat length count a) place g is all i = behind _ _ g (statement_known InStatic InStatic a g all i)
    form_known c e (Timed k) place g is all i = absurd i

    pub statement_known : (c e : Context) (s : PlainStatement) (g : ℕ) → AreForms (visit c s) → In (groups_of s) g → Known (visit e s) g
    statement_known c e (Placed form place) g all i =
        form_known c e form place g (all (record { context = c; form = form; place = place }) (inl refl)) (λ v j. all v (inr j)) i

    all_known : (c e : Context) (ss : PlainStatements) (g : ℕ) → AreForms (visit_all c ss) → In (groups_in_all ss) g → Known (visit_all e ss) g
    all_known c e no_statements g all i = absurd i
    all_known c e (a_statement s ss) g all i =
        either (groups_of s) (groups_in_all ss) (visit e s) (visit_all e ss) g (statement_known c e s g (left (visit c s) (visit_all c ss) all)) (all_known c e ss g (right (visit c s) (visit_all c ss) all)) i

  -- so it is enabled in it
  pub is_enabled : (c : Context) (s : PlainStatement) (g : ℕ) → AreForms (visit c s) → In (groups_of s) g → is_comb (group_at part g).kind ≡ false → In (enabled_in s) g
  is_enabled c s g all i plain =
      let r = (statement_known c Dynamic s g all i).enabled plain in
      in_flat (λ (v : Visited). enabled_group v.form) (visit Dynamic s) r.0 g r.1 r.2

-- an arm among arms
pub arm_of : (g : ℕ) (ss : PlainStatements) → In (groups_in_all ss) g → (n : ℕ) × (s : PlainStatement) × (slice_get (list_of ss) n ≡ Some s) × In (groups_of s) g
arm_of g no_statements i = absurd i
arm_of g (a_statement s ss) i =
    ⊎_elim (λ a. (0, s, refl, a)) (λ b. let r = arm_of g ss b in (suc r.0, r.1, r.2, r.3)) (in_either (groups_of s) (groups_in_all ss) g i)

pub visits_of_arm : (c : Context) (ss : PlainStatements) (n : ℕ) (s : PlainStatement) (v : Visited) → slice_get (list_of ss) n ≡ Some s → In (visit c s) v → In (visit_all c ss) v
visits_of_arm c no_statements n s v e i = absurd (cc)
visits_of_arm c (a_statement x ss) zero s v e i = let same : x ≡ s = cc in in_left (visit c x) (visit_all c ss) v (subst (λ y. In (visit c y) v) (sym same) i)
visits_of_arm c (a_statement x ss) (suc n) s v e i = in_right (visit c x) (visit_all c ss) v (visits_of_arm c ss n s v e i)
