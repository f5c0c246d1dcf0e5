-- REPEATS of flat control: none is of too many rounds, where none of the tree is.
use Rattle.std.proofs.Common.{◌≡◌, ℕ, zero, suc, ◌<◌, inl, inr, ⊎_elim, Bool, true, false, if◌then◌else◌, List, [], ◌∷◌, length, Option, Some, None, refl, sym, ◌∙◌, subst}
use Rattle.std.proofs.lemmas.Bool.{cases_lt, false_from_ne_true}
use Rattle.std.proofs.lemmas.List.{get_or_past}
use Rattle.cx_text.proofs.MemberLaws.{in_left, in_right, number_in}
use Rattle.cx_text.specs.declared.places.Place.{Place}
use Rattle.cx_text.specs.declared.rules.Rule.TheVariants as rules
use Rattle.cx_meaning.specs.declared.ports.PortRef.{PortRef}
use Rattle.cx_meaning.specs.Designs.{PlainKind, OfPrimitive, OfComponent, PlainCell, PlainForm, Empty, Enable, Seq, Par, If, While, Repeat, StaticSeq, StaticPar, StaticIf, StaticRepeat, Timed, PlainStatement, Placed, PlainStatements, no_statements, a_statement, PlainComponent, PlainDesign, component_at, no_component, no_place}
use Rattle.cx_meaning.specs.Instances.{Instance, Node, Cells, no_cells, a_primitive, an_instance, OfInstance, cell_at, add_cell, cells_for, tree_within}
use Rattle.cx_text.specs.Members.{In}
use Rattle.cx_rules.specs.Accepted.{IsAccepted}
use Rattle.cx_rules.specs.Items.{Context, Dynamic, InStatic, Branch, below_dynamic, Visited, visit, visit_parts, visit_all, statements_in}
use Rattle.cx_rules.specs.LimitRule.{Limited, OnRepeat, word_of, count_in, is_too_many}
use Rattle.cx_rules.specs.Ports.{component_of}
use Rattle.cx_rules.specs.Spots.{AStatement, Spot, OnStatement}
use Rattle.cx_rules.specs.Wellformed.{IsDesign}
use Rattle.cx_flattening.specs.Events.{the_invoke}
use Rattle.cx_flattening.specs.Copies.{copied_form, copied_statement, copied_statements}
use Rattle.cx_flattening.specs.Flattened.{Kids, kid_at, invoke_port, copy_of, with_capture, inlined, flat_form, flat_statement, flat_statements, flat_kids, flat_part}
use Rattle.cx_flattening.specs.FlatDesign.{flat_design}
use Rattle.cx_flattening.proofs.FlatLasts.{Forms, both_forms, headed, one_other, parts_other}
use Rattle.cx_flattening.proofs.FlatNumbers.{made}
use Rattle.cx_flattening.proofs.FlatRanges.{slice_in}
use Rattle.cx_flattening.proofs.FlatSafe.{kid_from}

abbrev Few : PlainForm → Type 0
Few form = is_too_many (count_in form) ≡ false

abbrev AllFew : PlainComponent → Type 0
AllFew part = Forms Few (visit Dynamic part.control)

module _ (f : PortRef → PortRef) (copy : ℕ → ℕ) where
  mutual
    copies_few_one : (c : Context) (s : PlainStatement) → Forms Few (visit c s) → Forms Few (visit c (copied_statement f copy s))
    copies_few_one c (Placed form place) h = copies_few_form c form place (h (record { context = c; form = form; place = place }) (inl refl)) (λ v i. h v (inr i))

    copies_few_form : (c : Context) (form : PlainForm) (place : Place) → Few form → Forms Few (visit_parts c form) → Forms Few (visit c (Placed (copied_form f copy form) place))
    copies_few_form c Empty place own h = headed Few c (copied_form f copy Empty) place own (λ v i. absurd i)
    copies_few_form c (Enable g) place own h = headed Few c (copied_form f copy (Enable g)) place own (λ v i. absurd i)
    copies_few_form c (Seq ss) place own h = headed Few c (copied_form f copy (Seq ss)) place own (copies_few_all (below_dynamic c) ss h)
    copies_few_form c (Par arms) place own h = headed Few c (copied_form f copy (Par arms)) place own (copies_few_all (below_dynamic c) arms h)
    copies_few_form c (If test comb a b) place own h = headed Few c (copied_form f copy (If test comb a b)) place own (both_forms Few (visit (below_dynamic c) (copied_statement f copy a)) (visit (below_dynamic c) (copied_statement f copy b)) (copies_few_one (below_dynamic c) a (λ v i. h v (in_left (visit (below_dynamic c) a) (visit (below_dynamic c) b) v i))) (copies_few_one (below_dynamic c) b (λ v i. h v (in_right (visit (below_dynamic c) a) (visit (below_dynamic c) b) v i))))
    copies_few_form c (While test comb a) place own h = headed Few c (copied_form f copy (While test comb a)) place own (copies_few_one (below_dynamic c) a h)
    copies_few_form c (Repeat count a) place own h = headed Few c (copied_form f copy (Repeat count a)) place own (copies_few_one (below_dynamic c) a h)
    copies_few_form c (StaticSeq written ss) place own h = headed Few c (copied_form f copy (StaticSeq written ss)) place own (copies_few_all InStatic ss h)
    copies_few_form c (StaticPar written arms) place own h = headed Few c (copied_form f copy (StaticPar written arms)) place own (copies_few_all InStatic arms h)
    copies_few_form c (StaticIf written test a b) place own h = headed Few c (copied_form f copy (StaticIf written test a b)) place own (both_forms Few (visit Branch (copied_statement f copy a)) (visit Branch (copied_statement f copy b)) (copies_few_one Branch a (λ v i. h v (in_left (visit Branch a) (visit Branch b) v i))) (copies_few_one Branch b (λ v i. h v (in_right (visit Branch a) (visit Branch b) v i))))
    copies_few_form c (StaticRepeat written count a) place own h = headed Few c (copied_form f copy (StaticRepeat written count a)) place own (copies_few_one InStatic a h)
    copies_few_form c (Timed k) place own h = headed Few c (copied_form f copy (Timed k)) place own (λ v i. absurd i)

    copies_few_all : (c : Context) (ss : PlainStatements) → Forms Few (visit_all c ss) → Forms Few (visit_all c (copied_statements f copy ss))
    copies_few_all c no_statements h = λ v i. absurd i
    copies_few_all c (a_statement s ss) h = both_forms Few (visit c (copied_statement f copy s)) (visit_all c (copied_statements f copy ss)) (copies_few_one c s (λ v i. h v (in_left (visit c s) (visit_all c ss) v i))) (copies_few_all c ss (λ v i. h v (in_right (visit c s) (visit_all c ss) v i)))

plain_few : (c : Context) (place : Place) (s : PlainStatement) → Forms Few (visit InStatic s) → Forms Few (visit c (Placed (with_capture None s) place))
plain_few c place (Placed form at) h = headed Few c form place (h (record { context = InStatic; form = form; place = at }) (inl refl)) (parts_other Few InStatic c form (λ v i. h v (inr i)))

captured_few : (o : Option ℕ) (c : Context) (place : Place) (s : PlainStatement) → Forms Few (visit InStatic s) → Forms Few (visit c (Placed (with_capture o s) place))
captured_few None c place s h = plain_few c place s h
captured_few (Some g) c place s h = headed Few c (with_capture (Some g) s) place refl (both_forms Few (visit InStatic s) (visit_all InStatic (a_statement (Placed (Enable g) no_place) no_statements)) h last)
  where
    last : Forms Few (visit_all InStatic (a_statement (Placed (Enable g) no_place) no_statements))
    last v (inl same) = subst (λ (x : Visited). Few x.form) same refl
    last v (inr i) = absurd i

module _ (kids : Kids) (part : PlainComponent) (below : (c : ℕ) (kid : PlainComponent) → kid_at kids c ≡ Some kid → AllFew kid) where
  timed_few : (c : Context) (k : ℕ) (place : Place) → Forms Few (visit c (Placed (flat_form kids part (Timed k)) place))
  timed_few c k place = by (kid_at kids (the_invoke part k).cell) refl
    where
      by : (o : Option PlainComponent) → kid_at kids (the_invoke part k).cell ≡ o → Forms Few (visit c (Placed (inlined kids part o k (the_invoke part k)) place))
      by None its = headed Few c Empty place refl (λ v i. absurd i)
      by (Some kid) its =
          captured_few (the_invoke part k).captures c place (copied_statement (invoke_port kids part kid (the_invoke part k)) (copy_of kids part kid k) kid.control)
          (copies_few_one (invoke_port kids part kid (the_invoke part k)) (copy_of kids part kid k) InStatic kid.control (one_other Few Dynamic InStatic kid.control (below (the_invoke part k).cell kid its)))

  mutual
    few_flat_one : (c : Context) (s : PlainStatement) → Forms Few (visit c s) → Forms Few (visit c (flat_statement kids part s))
    few_flat_one c (Placed form place) h = few_flat_form c form place (h (record { context = c; form = form; place = place }) (inl refl)) (λ v i. h v (inr i))

    few_flat_form : (c : Context) (form : PlainForm) (place : Place) → Few form → Forms Few (visit_parts c form) → Forms Few (visit c (Placed (flat_form kids part form) place))
    few_flat_form c Empty place own h = headed Few c (flat_form kids part Empty) place own (λ v i. absurd i)
    few_flat_form c (Enable g) place own h = headed Few c (flat_form kids part (Enable g)) place own (λ v i. absurd i)
    few_flat_form c (Seq ss) place own h = headed Few c (flat_form kids part (Seq ss)) place own (few_flat_all (below_dynamic c) ss h)
    few_flat_form c (Par arms) place own h = headed Few c (flat_form kids part (Par arms)) place own (few_flat_all (below_dynamic c) arms h)
    few_flat_form c (If test comb a b) place own h = headed Few c (flat_form kids part (If test comb a b)) place own (both_forms Few (visit (below_dynamic c) (flat_statement kids part a)) (visit (below_dynamic c) (flat_statement kids part b)) (few_flat_one (below_dynamic c) a (λ v i. h v (in_left (visit (below_dynamic c) a) (visit (below_dynamic c) b) v i))) (few_flat_one (below_dynamic c) b (λ v i. h v (in_right (visit (below_dynamic c) a) (visit (below_dynamic c) b) v i))))
    few_flat_form c (While test comb a) place own h = headed Few c (flat_form kids part (While test comb a)) place own (few_flat_one (below_dynamic c) a h)
    few_flat_form c (Repeat count a) place own h = headed Few c (flat_form kids part (Repeat count a)) place own (few_flat_one (below_dynamic c) a h)
    few_flat_form c (StaticSeq written ss) place own h = headed Few c (flat_form kids part (StaticSeq written ss)) place own (few_flat_all InStatic ss h)
    few_flat_form c (StaticPar written arms) place own h = headed Few c (flat_form kids part (StaticPar written arms)) place own (few_flat_all InStatic arms h)
    few_flat_form c (StaticIf written test a b) place own h = headed Few c (flat_form kids part (StaticIf written test a b)) place own (both_forms Few (visit Branch (flat_statement kids part a)) (visit Branch (flat_statement kids part b)) (few_flat_one Branch a (λ v i. h v (in_left (visit Branch a) (visit Branch b) v i))) (few_flat_one Branch b (λ v i. h v (in_right (visit Branch a) (visit Branch b) v i))))
    few_flat_form c (StaticRepeat written count a) place own h = headed Few c (flat_form kids part (StaticRepeat written count a)) place own (few_flat_one InStatic a h)
    few_flat_form c (Timed k) place own h = timed_few c k place

    few_flat_all : (c : Context) (ss : PlainStatements) → Forms Few (visit_all c ss) → Forms Few (visit_all c (flat_statements kids part ss))
    few_flat_all c no_statements h = λ v i. absurd i
    few_flat_all c (a_statement s ss) h = both_forms Few (visit c (flat_statement kids part s)) (visit_all c (flat_statements kids part ss)) (few_flat_one c s (λ v i. h v (in_left (visit c s) (visit_all c ss) v i))) (few_flat_all c ss (λ v i. h v (in_right (visit c s) (visit_all c ss) v i)))

abbrev mutual
  FewIn : Instance → Type 0
  FewIn (Node part cells) = AllFew part × FewBelow cells

  FewBelow : Cells → Type 0
  FewBelow no_cells = Unit {0}
  FewBelow (a_primitive row rest) = FewBelow rest
  FewBelow (an_instance child rest) = FewIn child × FewBelow rest

mutual
  flat_few : (i : Instance) → FewIn i → AllFew (flat_part i)
  flat_few (Node part cells) h = few_flat_one (flat_kids cells) part (λ c kid its. let r = kid_from cells c kid its in subst AllFew r.3 (few_below cells h.1 c r.0 r.1)) Dynamic part.control h.0

  few_below : (cells : Cells) → FewBelow cells → (c : ℕ) (child : Instance) → cell_at cells c ≡ OfInstance child → AllFew (flat_part child)
  few_below no_cells h c child at = absurd (cc)
  few_below (a_primitive row rest) h zero child at = absurd (cc)
  few_below (a_primitive row rest) h (suc c) child at = few_below rest h c child at
  few_below (an_instance other rest) h zero child at = let same : other ≡ child = cc in subst (λ x. AllFew (flat_part x)) same (flat_few other h.0)
  few_below (an_instance other rest) h (suc c) child at = few_below rest h.1 c child at

few_kind : (trees : ℕ → Instance) (kind : PlainKind) (rest : Cells) → ((k : ℕ) → FewIn (trees k)) → FewBelow rest → FewBelow (add_cell trees kind rest)
few_kind trees (OfPrimitive p) rest each h = h
few_kind trees (OfComponent k) rest each h = (each k, h)

few_cells : (trees : ℕ → Instance) (cs : List PlainCell) → ((k : ℕ) → FewIn (trees k)) → FewBelow (cells_for trees cs)
few_cells trees [] each = tt
few_cells trees (c ∷ cs) each = few_kind trees c.kind (cells_for trees cs) each (few_cells trees cs each)

few_within : (d : PlainDesign) → ((k : ℕ) → AllFew (component_at d k)) → (n k : ℕ) → FewIn (tree_within d n k)
few_within d each zero k = (each k, tt)
few_within d each (suc n) k = (each k, few_cells (tree_within d n) (component_at d k).cells (few_within d each n))

first_limit : (b : Bool) (o : Option Limited) → b ≡ true → (if b then Some OnRepeat else o) ≡ Some OnRepeat
first_limit true o e = refl
first_limit false o e = absurd (cc)

none_few : AllFew no_component
none_few v (inl same) = subst (λ (x : Visited). Few x.form) same refl
none_few v (inr i) = absurd i

module _ (d : PlainDesign) (accepted : IsAccepted d) where
  few_component : (k : ℕ) → AllFew (component_at d k)
  few_component k = ⊎_elim there (λ h. subst AllFew (sym (get_or_past d.components k no_component h)) none_few) (cases_lt k (length d.components))
    where
      there : k < length d.components → AllFew (component_at d k)
      there within v i =
          false_from_ne_true (is_too_many (count_in v.form))
          (λ many.
          let at = number_in (statements_in (component_at d k)) v i in
          accepted.limits rules.Limit (record { component = k; part = AStatement at.0 }) v.place (word_of OnRepeat) refl
          (inr (inr (inl (record { within = within; number = at.0; is = refl; statement = v; stands = at.1; breaks = (OnRepeat, first_limit (is_too_many (count_in v.form)) _ many, (refl, refl)) })))))

  -- THE LIMIT on repeats
  pub keeps_repeats : IsDesign d → (spot : Spot) (place : Place) (name : List ℕ) → OnStatement (λ i v at called. is_too_many (count_in v.form) ≡ true) (flat_design d) spot place name → ⊥
  keeps_repeats design spot place name b =
      let m = made d design spot.component b.within in
      let few = flat_few (component_of d m.old) (few_within d few_component (length d.components) m.old) b.statement
      (subst (λ (p : PlainComponent). In (statements_in p) b.statement) m.part (slice_in (statements_in (component_at (flat_design d) spot.component)) b.number b.statement b.stands)) in
      let clash : true ≡ false = sym b.breaks ∙ few in cc
