-- STATIC CONTROL of a flat component: nothing stands in it that may not, where nothing does in that of the tree.
use Rattle.std.proofs.Common.{◌≡◌, ℕ, zero, suc, ◌<◌, inl, inr, ⊎_elim, Bool, true, false, List, ◌++◌, length, get_or, Option, Some, None, refl, sym, ap, ◌∙◌, subst}
use Rattle.std.specs.Prelude.{is_some, slice_get}
use Rattle.cx_text.proofs.MemberLaws.{in_either, in_left, in_right}
use Rattle.cx_text.specs.declared.places.Place.{Place}
use Rattle.cx_meaning.specs.declared.ports.PortRef.{PortRef}
use Rattle.cx_meaning.specs.Designs.{PlainForm, Empty, Enable, Seq, Par, If, While, Repeat, StaticSeq, StaticPar, StaticIf, StaticRepeat, Timed, PlainStatement, Placed, PlainStatements, no_statements, a_statement, PlainComponent, PlainDesign, component_at, PlainGroup, no_group, form_of, no_place}
use Rattle.cx_meaning.specs.Instances.{Instance, Node, Cells, no_cells, a_primitive, an_instance, OfInstance, part_of, cell_at}
use Rattle.cx_meaning.specs.Control.{with_comb, groups_in, groups_of, groups_in_all}
use Rattle.cx_meaning.specs.Islands.{kind_length, group_length}
use Rattle.cx_text.specs.Members.{In}
use Rattle.cx_meaning.proofs.DesignsLemmas.{same_part}
use Rattle.cx_rules.specs.Accepted.{IsAccepted}
use Rattle.cx_rules.specs.Items.{Context, Dynamic, InStatic, Branch, below_dynamic, Visited, visit, visit_parts, visit_all, statements_in}
use Rattle.cx_rules.specs.Ports.{component_of}
use Rattle.cx_rules.specs.ShapeRules.{BreaksStaticControl}
use Rattle.cx_rules.specs.Spots.{Spot, OnStatement}
use Rattle.cx_rules.specs.StaticControl.{is_in_static, may_stand, is_written}
use Rattle.cx_rules.specs.Wellformed.{IsDesign}
use Rattle.cx_flattening.specs.Events.{the_invoke}
use Rattle.cx_flattening.specs.Whole.{is_static}
use Rattle.cx_flattening.specs.Copies.{copied_form, copied_statement, copied_statements}
use Rattle.cx_flattening.specs.Flattened.{Kids, kid_at, invoke_port, copy_of, with_capture, inlined, flat_form, flat_statement, flat_statements, flat_kids, flat_part}
use Rattle.cx_flattening.specs.FlatDesign.{renumbered_part, flat_design}
use Rattle.cx_flattening.specs.Fair.{IsFair, AllFair, AllFairBelow}
use Rattle.cx_flattening.specs.Controlled.{timed_in, timed_of, timed_all, IsInvoked, IsControlled, AllControlled, AllControlledBelow}
use Rattle.cx_flattening.specs.Ends.{NoneNamesDone}
use Rattle.cx_flattening.proofs.CopiedControl.{statement_twice}
use Rattle.cx_flattening.proofs.FlatGroups.{own-length}
use Rattle.cx_flattening.proofs.FlatLengths.{Lasting, LastsAlike, AllThere, there_left, there_right, lasting_left, lasting_right, invoke_lasting, kids_last, captures_in_it}
use Rattle.cx_flattening.proofs.FlatLists.{statement_still}
use Rattle.cx_flattening.proofs.LevelSights.{kid-static}
use Rattle.cx_flattening.proofs.FairParts.{some_of}
use Rattle.cx_flattening.proofs.FlatNumbers.{IsMade, made}
use Rattle.cx_flattening.proofs.FlatRanges.{slice_in}
use Rattle.cx_flattening.proofs.FlatStages.{good_component}
use Rattle.cx_flattening.proofs.Ruled.{IsRuled, AllRuled, AllRuledBelow}

-- what is in static control may stand there
abbrev pub May : PlainComponent → List Visited → Type 0
May J vs = (v : Visited) → In vs v → is_in_static v.context ≡ true → may_stand J v.context v.form ≡ true

may_both : (J : PlainComponent) (xs ys : List Visited) → May J xs → May J ys → May J (xs ++ ys)
may_both J xs ys h g v i s = ⊎_elim (λ j. h v j s) (λ j. g v j s) (in_either xs ys v i)

headed : (J : PlainComponent) (context : Context) (form : PlainForm) (place : Place) → (is_in_static context ≡ true → may_stand J context form ≡ true) → May J (visit_parts context form) → May J (visit context (Placed form place))
headed J context form place head parts v (inl same) s = subst (λ (x : Visited). may_stand J x.context x.form ≡ true) same (head (ap (λ (x : Visited). is_in_static x.context) same ∙ s))
headed J context form place head parts v (inr i) s = parts v i s

pub head_may : (J : PlainComponent) (context : Context) (form : PlainForm) (place : Place) → May J (visit context (Placed form place)) → is_in_static context ≡ true → may_stand J context form ≡ true
head_may J context form place h s = h (record { context = context; form = form; place = place }) (inl refl) s

-- in any context
may_any : (J : PlainComponent) (context : Context) (form : PlainForm) → may_stand J InStatic form ≡ true → may_stand J context form ≡ true
may_any J context Empty m = absurd (let clash : false ≡ true = m in cc)
may_any J context (Enable g) m = m
may_any J context (Seq ss) m = m
may_any J context (Par arms) m = m
may_any J context (If test comb a b) m = m
may_any J context (While test comb a) m = m
may_any J context (Repeat count a) m = m
may_any J context (StaticSeq written ss) m = m
may_any J context (StaticPar written arms) m = m
may_any J context (StaticIf written test a b) m = m
may_any J context (StaticRepeat written count a) m = m
may_any J context (Timed k) m = m

parts_same : (J : PlainComponent) (one other : Context) (form : PlainForm) → may_stand J InStatic form ≡ true → visit_parts one form ≡ visit_parts other form
parts_same J one other Empty m = refl
parts_same J one other (Enable g) m = refl
parts_same J one other (Seq ss) m = absurd (let clash : false ≡ true = m in cc)
parts_same J one other (Par arms) m = absurd (let clash : false ≡ true = m in cc)
parts_same J one other (If test comb a b) m = absurd (let clash : false ≡ true = m in cc)
parts_same J one other (While test comb a) m = absurd (let clash : false ≡ true = m in cc)
parts_same J one other (Repeat count a) m = absurd (let clash : false ≡ true = m in cc)
parts_same J one other (StaticSeq written ss) m = refl
parts_same J one other (StaticPar written arms) m = refl
parts_same J one other (StaticIf written test a b) m = refl
parts_same J one other (StaticRepeat written count a) m = refl
parts_same J one other (Timed k) m = refl

may_like : (A B : PlainComponent) → A.groups ≡ B.groups → A.invokes ≡ B.invokes → (context : Context) (form : PlainForm) → may_stand A context form ≡ may_stand B context form
may_like A B groups invokes context Empty = refl
may_like A B groups invokes context (Enable g) = ap (λ (l : List PlainGroup). is_some (kind_length (get_or l g no_group).kind)) groups
may_like A B groups invokes context (Seq ss) = refl
may_like A B groups invokes context (Par arms) = refl
may_like A B groups invokes context (If test comb a b) = refl
may_like A B groups invokes context (While test comb a) = refl
may_like A B groups invokes context (Repeat count a) = refl
may_like A B groups invokes context (StaticSeq written ss) = refl
may_like A B groups invokes context (StaticPar written arms) = refl
may_like A B groups invokes context (StaticIf written test a b) = refl
may_like A B groups invokes context (StaticRepeat written count a) = refl
may_like A B groups invokes context (Timed k) = ap (λ l. is_written (slice_get l k)) invokes

pub with_in : (comb : Option ℕ) (list : List ℕ) (g : ℕ) → In list g → In (with_comb comb list) g
with_in None list g i = i
with_in (Some h) list g i = inr i

-- what is claimed of a static component: of each copy of its control
abbrev pub StaticMay : Instance → Type 0
StaticMay i = (J : PlainComponent) (f : PortRef → PortRef) (copy : ℕ → ℕ) → Lasting J (flat_part i) copy (groups_of (flat_part i).control) → May J (visit InStatic (copied_statement f copy (flat_part i).control))

module _ (part : PlainComponent) (cells : Cells) (ruled : IsRuled part (Node part cells)) (fair : IsFair (Node part cells)) (controlled : IsControlled (Node part cells))
    (lasting : (c : ℕ) (child : Instance) → cell_at cells c ≡ OfInstance child → LastsAlike child) (below : (c : ℕ) (child : Instance) → cell_at cells c ≡ OfInstance child → is_static child ≡ true → StaticMay child) where
  abbrev kids : Kids
  kids = flat_kids cells

  abbrev flat : PlainComponent
  flat = flat_part (Node part cells)

  module _ (J : PlainComponent) (f : PortRef → PortRef) (copy : ℕ → ℕ) where
    plain_may : (context : Context) (place : Place) (s : PlainStatement) → May J (visit InStatic (copied_statement f copy s)) → May J (visit context (Placed (copied_form f copy (with_capture None s)) place))
    plain_may context place (Placed form at) inner =
        let may = head_may J InStatic (copied_form f copy form) at inner refl in
        headed J context (copied_form f copy form) place (λ s. may_any J context (copied_form f copy form) may)
        (λ v i. inner v (inr (subst (λ l. In l v) (parts_same J context InStatic (copied_form f copy form) may) i)))

    captured_may : (context : Context) (place : Place) (g : ℕ) → group_length J (copy g) ≡ Some 1 → (s : PlainStatement) → May J (visit InStatic (copied_statement f copy s))
        → May J (visit context (Placed (copied_form f copy (with_capture (Some g) s)) place))
    captured_may context place g one s inner v (inl same) h = subst (λ (x : Visited). may_stand J x.context x.form ≡ true) same refl
    captured_may context place g one s inner v (inr i) h = ⊎_elim (λ j. inner v j h) last (in_either (visit InStatic (copied_statement f copy s)) (visit_all InStatic (copied_statements f copy (a_statement (Placed (Enable g) no_place) no_statements))) v i)
      where
        last : In (visit_all InStatic (copied_statements f copy (a_statement (Placed (Enable g) no_place) no_statements))) v → may_stand J v.context v.form ≡ true
        last (inl same) = subst (λ (x : Visited). may_stand J x.context x.form ≡ true) same (ap is_some one)
        last (inr j) = absurd j

    timed_may : (context : Context) (place : Place) (k : ℕ) → k < length part.invokes → Lasting J flat copy (groups_in (flat_form kids part (Timed k))) → May J (visit context (Placed (copied_form f copy (flat_form kids part (Timed k))) place))
    timed_may context place k there lasts =
        subst (λ o. May J (visit context (Placed (copied_form f copy (inlined kids part o k (the_invoke part k))) place))) (sym at) (captured (the_invoke part k).captures refl)
      where
        its : IsInvoked (Node part cells) (the_invoke part k)
        its = controlled.invokes k there

        kid : PlainComponent
        kid = flat_part its.child

        at : kid_at kids (the_invoke part k).cell ≡ Some kid
        at = kid-static cells (the_invoke part k).cell its.child its.stands its.static

        s : PlainStatement
        s = copied_statement (invoke_port kids part kid (the_invoke part k)) (copy_of kids part kid k) kid.control

        whole : Lasting J flat copy (groups_in (with_capture (the_invoke part k).captures s))
        whole = subst (λ o. Lasting J flat copy (groups_in (inlined kids part o k (the_invoke part k)))) at lasts

        inner : May J (visit InStatic (copied_statement f copy s))
        inner =
            subst (λ x. May J (visit InStatic x)) (sym (statement_twice f (invoke_port kids part kid (the_invoke part k)) copy (copy_of kids part kid k) kid.control))
            (below (the_invoke part k).cell its.child its.stands its.static J (λ q. f (invoke_port kids part kid (the_invoke part k) q)) (λ g. copy (copy_of kids part kid k g))
            (invoke_lasting part cells fair controlled lasting J copy k there kid at whole))

        captured : (o : Option ℕ) → (the_invoke part k).captures ≡ o → May J (visit context (Placed (copied_form f copy (with_capture o s)) place))
        captured None e = plain_may context place s inner
        captured (Some g) e =
            let c = its.captures g e in
            captured_may context place g (subst (λ o. Lasting J flat copy (groups_in (with_capture o s))) e whole g (captures_in_it g s) ∙ own-length kids part g c.0 ∙ c.1) s inner

    mutual
      form_may : (context : Context) (form : PlainForm) (place : Place) → May part (visit context (Placed form place)) → AllThere (groups_in form) (length part.groups) → AllThere (timed_in form) (length part.invokes)
          → Lasting J flat copy (groups_in (flat_form kids part form)) → May J (visit context (Placed (copied_form f copy (flat_form kids part form)) place))
      form_may context Empty place h own timed l = headed J context Empty place (head_may part context Empty place h) (λ v i. absurd i)
      form_may context (Enable g) place h own timed l =
          headed J context (Enable (copy g)) place (λ s. ap is_some (l g (inl refl) ∙ own-length kids part g (own g (inl refl))) ∙ head_may part context (Enable g) place h s) (λ v i. absurd i)
      form_may context (Seq ss) place h own timed l = headed J context (copied_form f copy (flat_form kids part (Seq ss))) place (head_may part context (Seq ss) place h) (all_may (below_dynamic context) ss (λ v i. h v (inr i)) own timed l)
      form_may context (Par arms) place h own timed l = headed J context (copied_form f copy (flat_form kids part (Par arms))) place (head_may part context (Par arms) place h) (all_may (below_dynamic context) arms (λ v i. h v (inr i)) own timed l)
      form_may context (If test comb a b) place h own timed l =
          headed J context (copied_form f copy (flat_form kids part (If test comb a b))) place (head_may part context (If test comb a b) place h)
          (may_both J (visit (below_dynamic context) (copied_statement f copy (flat_statement kids part a))) (visit (below_dynamic context) (copied_statement f copy (flat_statement kids part b)))
          (one_may (below_dynamic context) a (λ v i. h v (inr (in_left (visit (below_dynamic context) a) (visit (below_dynamic context) b) v i))) (there_left (groups_of a) (groups_of b) _ (λ g i. own g (with_in comb (groups_of a ++ groups_of b) g i))) (there_left (timed_of a) (timed_of b) _ timed) (lasting_left J flat copy (groups_of (flat_statement kids part a)) (groups_of (flat_statement kids part b)) (λ g i. l g (with_in comb (groups_of (flat_statement kids part a) ++ groups_of (flat_statement kids part b)) g i))))
          (one_may (below_dynamic context) b (λ v i. h v (inr (in_right (visit (below_dynamic context) a) (visit (below_dynamic context) b) v i))) (there_right (groups_of a) (groups_of b) _ (λ g i. own g (with_in comb (groups_of a ++ groups_of b) g i))) (there_right (timed_of a) (timed_of b) _ timed) (lasting_right J flat copy (groups_of (flat_statement kids part a)) (groups_of (flat_statement kids part b)) (λ g i. l g (with_in comb (groups_of (flat_statement kids part a) ++ groups_of (flat_statement kids part b)) g i)))))
      form_may context (While test comb a) place h own timed l =
          headed J context (copied_form f copy (flat_form kids part (While test comb a))) place (head_may part context (While test comb a) place h)
          (one_may (below_dynamic context) a (λ v i. h v (inr i)) (λ g i. own g (with_in comb (groups_of a) g i)) timed (λ g i. l g (with_in comb (groups_of (flat_statement kids part a)) g i)))
      form_may context (Repeat count a) place h own timed l =
          headed J context (copied_form f copy (flat_form kids part (Repeat count a))) place (head_may part context (Repeat count a) place h) (one_may (below_dynamic context) a (λ v i. h v (inr i)) own timed l)
      form_may context (StaticSeq written ss) place h own timed l = headed J context (copied_form f copy (flat_form kids part (StaticSeq written ss))) place (λ s. refl) (all_may InStatic ss (λ v i. h v (inr i)) own timed l)
      form_may context (StaticPar written arms) place h own timed l = headed J context (copied_form f copy (flat_form kids part (StaticPar written arms))) place (λ s. refl) (all_may InStatic arms (λ v i. h v (inr i)) own timed l)
      form_may context (StaticIf written test a b) place h own timed l = headed J context (copied_form f copy (flat_form kids part (StaticIf written test a b))) place (λ s. refl)
          (may_both J (visit Branch (copied_statement f copy (flat_statement kids part a))) (visit Branch (copied_statement f copy (flat_statement kids part b)))
          (one_may Branch a (λ v i. h v (inr (in_left (visit Branch a) (visit Branch b) v i))) (there_left (groups_of a) (groups_of b) _ own) (there_left (timed_of a) (timed_of b) _ timed) (lasting_left J flat copy (groups_of (flat_statement kids part a)) (groups_of (flat_statement kids part b)) l))
          (one_may Branch b (λ v i. h v (inr (in_right (visit Branch a) (visit Branch b) v i))) (there_right (groups_of a) (groups_of b) _ own) (there_right (timed_of a) (timed_of b) _ timed) (lasting_right J flat copy (groups_of (flat_statement kids part a)) (groups_of (flat_statement kids part b)) l)))
      form_may context (StaticRepeat written count a) place h own timed l = headed J context (copied_form f copy (flat_form kids part (StaticRepeat written count a))) place (λ s. refl) (one_may InStatic a (λ v i. h v (inr i)) own timed l)
      form_may context (Timed k) place h own timed l = timed_may context place k (timed k (inl refl)) l

      one_may : (context : Context) (s : PlainStatement) → May part (visit context s) → AllThere (groups_of s) (length part.groups) → AllThere (timed_of s) (length part.invokes)
          → Lasting J flat copy (groups_of (flat_statement kids part s)) → May J (visit context (copied_statement f copy (flat_statement kids part s)))
      one_may context (Placed form place) h own timed l = form_may context form place h own timed l

      all_may : (context : Context) (ss : PlainStatements) → May part (visit_all context ss) → AllThere (groups_in_all ss) (length part.groups) → AllThere (timed_all ss) (length part.invokes)
          → Lasting J flat copy (groups_in_all (flat_statements kids part ss)) → May J (visit_all context (copied_statements f copy (flat_statements kids part ss)))
      all_may context no_statements h own timed l = λ v i. absurd i
      all_may context (a_statement s ss) h own timed l =
          may_both J (visit context (copied_statement f copy (flat_statement kids part s))) (visit_all context (copied_statements f copy (flat_statements kids part ss)))
          (one_may context s (λ v i. h v (in_left (visit context s) (visit_all context ss) v i)) (there_left (groups_of s) (groups_in_all ss) _ own) (there_left (timed_of s) (timed_all ss) _ timed)
          (lasting_left J flat copy (groups_of (flat_statement kids part s)) (groups_in_all (flat_statements kids part ss)) l))
          (all_may context ss (λ v i. h v (in_right (visit context s) (visit_all context ss) v i)) (there_right (groups_of s) (groups_in_all ss) _ own) (there_right (timed_of s) (timed_all ss) _ timed)
          (lasting_right J flat copy (groups_of (flat_statement kids part s)) (groups_in_all (flat_statements kids part ss)) l))

  -- the control of a static component, where it is copied
  own_may : (n : ℕ) → part.latency ≡ Some n → (s : PlainStatement) → part.control ≡ s → May part (visit InStatic s)
  own_may n static (Placed form place) e =
      headed part InStatic form place (λ s. stands) (λ v i. whole v (inr (subst (λ l. In l v) (parts_same part InStatic Dynamic form stands) i)))
    where
      whole : May part (visit Dynamic (Placed form place))
      whole = subst (λ x. May part (visit Dynamic x)) e (λ v i s. ruled.stands v i s)

      stands : may_stand part InStatic form ≡ true
      stands = by (may_stand part InStatic form) refl
        where
          by : (b : Bool) → may_stand part InStatic form ≡ b → b ≡ true
          by true g = refl
          by false g = absurd (ruled.control n static (inl (ap (λ x. may_stand part InStatic (form_of x)) e ∙ g)))

  part_may : (n : ℕ) → part.latency ≡ Some n → StaticMay (Node part cells)
  part_may n static J f copy l = one_may J f copy InStatic part.control (own_may n static part.control refl) controlled.enables controlled.timed l

  top_may : May flat (visit Dynamic flat.control)
  top_may =
      subst (λ x. May flat (visit Dynamic x)) (statement_still flat.control)
      (one_may flat (λ q. q) (λ g. g) Dynamic part.control (λ v i s. ruled.stands v i s) controlled.enables controlled.timed (λ g i. refl))

mutual
  control_may : (i : Instance) → AllRuled i → AllFair i → AllControlled i → is_static i ≡ true → StaticMay i
  control_may (Node part cells) ruled fair controlled static =
      let n = some_of part.latency static in
      part_may part cells ruled.0 fair.0 controlled.0 (kids_last cells fair.1 controlled.1) (λ c child at is. kids_may cells ruled.1 fair.1 controlled.1 c child at is) n.0 n.1

  pub kids_may : (cells : Cells) → AllRuledBelow cells → AllFairBelow cells → AllControlledBelow cells → (c : ℕ) (child : Instance) → cell_at cells c ≡ OfInstance child → is_static child ≡ true → StaticMay child
  kids_may no_cells ruled fair controlled c child at static = absurd (cc)
  kids_may (a_primitive row rest) ruled fair controlled zero child at static = absurd (cc)
  kids_may (a_primitive row rest) ruled fair controlled (suc c) child at static = kids_may rest ruled fair controlled c child at static
  kids_may (an_instance other rest) ruled fair controlled zero child at static =
      let same : other ≡ child = cc in subst StaticMay same (control_may other ruled.0 fair.0 controlled.0 (ap is_static same ∙ static))
  kids_may (an_instance other rest) ruled fair controlled (suc c) child at static = kids_may rest ruled.1 fair.1 controlled.1 c child at static

flat_may : (i : Instance) → AllRuled i → AllFair i → AllControlled i → May (flat_part i) (visit Dynamic (flat_part i).control)
flat_may (Node part cells) ruled fair controlled =
    top_may part cells ruled.0 fair.0 controlled.0 (kids_last cells fair.1 controlled.1) (λ c child at is. kids_may cells ruled.1 fair.1 controlled.1 c child at is)

module _ (d : PlainDesign) (design : IsDesign d) (accepted : IsAccepted d) (undone : NoneNamesDone d) where
  -- RULE static-shape, of what stands in static control
  pub keeps_stands : (spot : Spot) (place : Place) (name : List ℕ) → OnStatement BreaksStaticControl (flat_design d) spot place name → ⊥
  keeps_stands spot place name b =
      let g = good_component d design accepted undone m.old m.less in
      let may = flat_may (component_of d m.old) g.rules g.fair g.controlled b.statement
      (subst (λ (p : PlainComponent). In (statements_in p) b.statement) m.part (slice_in (statements_in (component_at (flat_design d) spot.component)) b.number b.statement b.stands)) bad.0 in
      let clash : true ≡ false =
      sym may ∙ sym (may_like (part_of (component_of (flat_design d) spot.component)) (flat_part (component_of d m.old)) (ap (λ (p : PlainComponent). p.groups) same) (ap (λ (p : PlainComponent). p.invokes) same) b.statement.context b.statement.form) ∙ bad.1 in
      absurd (cc)
    where
      m : IsMade d spot.component
      m = made d design spot.component b.within

      bad : BreaksStaticControl (component_of (flat_design d) spot.component) b.statement place name
      bad = b.breaks

      same : part_of (component_of (flat_design d) spot.component) ≡ renumbered_part d (flat_part (component_of d m.old))
      same = same_part (flat_design d) (length (flat_design d).components) spot.component ∙ m.part
