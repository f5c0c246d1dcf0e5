-- LENGTHS WRITTEN in flat control are those that it has, and none is 0, where that is so in the control of the tree.
use Rattle.std.proofs.Common.{◌≡◌, ℕ, zero, suc, ◌+◌, ◌*◌, ◌<◌, ◌≤◌, max, ◌⊎◌, inl, inr, ⊎_elim, true, false, List, [], ◌∷◌, ◌++◌, length, Option, Some, None, refl, sym, ap, ◌∙◌, subst, arith}
use Rattle.std.specs.Prelude.{◌≢◌, slice_get}
use Rattle.cx_text.proofs.MemberLaws.{in_either, in_left, in_right, number_in}
use Rattle.cx_text.specs.declared.places.Place.{Place}
use Rattle.cx_text.specs.declared.rules.Rule.TheVariants as rules
use Rattle.cx_text.proofs.NumberLaws.{same_or_not}
use Rattle.cx_meaning.specs.declared.ports.PortRef.{PortRef}
use Rattle.cx_meaning.specs.Designs.{OfComponent, PlainForm, Empty, Enable, Seq, Par, If, While, Repeat, StaticSeq, StaticPar, StaticIf, StaticRepeat, Timed, PlainStatement, Placed, PlainStatements, no_statements, a_statement, PlainComponent, PlainDesign, component_at, no_place}
use Rattle.cx_meaning.specs.Instances.{Instance, Node, Cells, no_cells, a_primitive, an_instance, OfInstance, part_of, cell_at, cells_for, tree_within}
use Rattle.cx_meaning.specs.Control.{groups_in, groups_of, groups_in_all}
use Rattle.cx_meaning.specs.Islands.{group_length, or_zero, form_length, length_of, sum_length, max_length}
use Rattle.cx_text.specs.Members.{In}
use Rattle.cx_meaning.proofs.DesignsLemmas.{same_part}
use Rattle.cx_rules.specs.Accepted.{IsAccepted}
use Rattle.cx_rules.specs.Items.{Context, Dynamic, InStatic, Branch, below_dynamic, Visited, visit, visit_parts, visit_all, statements_in}
use Rattle.cx_rules.specs.Invokes.{invoke_length, form_lasts, lasts, sum_lasts, max_lasts}
use Rattle.cx_rules.specs.Ports.{component_of}
use Rattle.cx_rules.specs.ShapeRules.{BreaksLength}
use Rattle.cx_rules.specs.Spots.{AStatement, Spot, OnStatement, Tells}
use Rattle.cx_rules.specs.StaticControl.{may_stand, form_has_length, written_length}
use Rattle.cx_rules.specs.StaticControl as control
use Rattle.cx_rules.specs.Wellformed.{IsDesign}
use Rattle.cx_flattening.specs.Events.{the_invoke}
use Rattle.cx_flattening.specs.Copies.{copied_form, copied_statement, copied_statements}
use Rattle.cx_flattening.specs.Flattened.{Kids, kid_at, invoke_port, copy_of, with_capture, inlined, flat_form, flat_statement, flat_statements, flat_kids, flat_part}
use Rattle.cx_flattening.specs.FlatDesign.{flat_design}
use Rattle.cx_flattening.specs.Fair.{IsFair, AllFair, AllFairBelow}
use Rattle.cx_flattening.specs.Controlled.{timed_in, timed_of, timed_all, IsInvoked, IsControlled, AllControlled, AllControlledBelow}
use Rattle.cx_flattening.specs.Ends.{NoneNamesDone}
use Rattle.cx_flattening.proofs.CopiedControl.{statement_twice}
use Rattle.cx_flattening.proofs.CellLayout.{kind_at, cell_for, kind_in}
use Rattle.cx_flattening.proofs.TreeLevels.{IsWay, no_way, further, way_is_short}
use Rattle.cx_flattening.proofs.FlatGroups.{own-length}
use Rattle.cx_flattening.proofs.FlatLengths.{Lasting, LastsAlike, AllThere, there_left, there_right, lasting_left, lasting_right, invoke_lasting, form_lasting, kids_last, captures_in_it}
use Rattle.cx_flattening.proofs.FlatLists.{statement_still}
use Rattle.cx_flattening.proofs.FlatRows.{flat_design_flat}
use Rattle.cx_flattening.proofs.FlatStands.{with_in}
use Rattle.cx_flattening.proofs.LevelSights.{kid-static}
use Rattle.cx_flattening.proofs.FairParts.{HasCells, form_lengthy, lengthy_whole}
use Rattle.cx_flattening.proofs.AcceptedTrees.{child_kind, has_cells, ruled_tree}
use Rattle.cx_flattening.proofs.FlatNumbers.{IsMade, made}
use Rattle.cx_flattening.proofs.FlatRanges.{slice_in}
use Rattle.cx_flattening.proofs.FlatStages.{good_component}
use Rattle.cx_flattening.proofs.Ruled.{IsRuled}

-- what is below a visited statement is visited
mutual
  one_inside : (c : Context) (s : PlainStatement) (v w : Visited) → In (visit c s) v → In (visit_parts v.context v.form) w → In (visit c s) w
  one_inside c (Placed form place) v w (inl same) j = inr (subst (λ (x : Visited). In (visit_parts x.context x.form) w) (sym same) j)
  one_inside c (Placed form place) v w (inr i) j = inr (parts_inside c form v w i j)

  parts_inside : (c : Context) (form : PlainForm) (v w : Visited) → In (visit_parts c form) v → In (visit_parts v.context v.form) w → In (visit_parts c form) w
  parts_inside c Empty v w i j = absurd i
  parts_inside c (Enable g) v w i j = absurd i
  parts_inside c (Seq ss) v w i j = all_inside (below_dynamic c) ss v w i j
  parts_inside c (Par arms) v w i j = all_inside (below_dynamic c) arms v w i j
  parts_inside c (If test comb a b) v w i j =
      ⊎_elim (λ k. in_left (visit (below_dynamic c) a) (visit (below_dynamic c) b) w (one_inside (below_dynamic c) a v w k j)) (λ k. in_right (visit (below_dynamic c) a) (visit (below_dynamic c) b) w (one_inside (below_dynamic c) b v w k j))
      (in_either (visit (below_dynamic c) a) (visit (below_dynamic c) b) v i)
  parts_inside c (While test comb a) v w i j = one_inside (below_dynamic c) a v w i j
  parts_inside c (Repeat count a) v w i j = one_inside (below_dynamic c) a v w i j
  parts_inside c (StaticSeq written ss) v w i j = all_inside InStatic ss v w i j
  parts_inside c (StaticPar written arms) v w i j = all_inside InStatic arms v w i j
  parts_inside c (StaticIf written test a b) v w i j =
      ⊎_elim (λ k. in_left (visit Branch a) (visit Branch b) w (one_inside Branch a v w k j)) (λ k. in_right (visit Branch a) (visit Branch b) w (one_inside Branch b v w k j)) (in_either (visit Branch a) (visit Branch b) v i)
  parts_inside c (StaticRepeat written count a) v w i j = one_inside InStatic a v w i j
  parts_inside c (Timed k) v w i j = absurd i

  all_inside : (c : Context) (ss : PlainStatements) (v w : Visited) → In (visit_all c ss) v → In (visit_parts v.context v.form) w → In (visit_all c ss) w
  all_inside c no_statements v w i j = absurd i
  all_inside c (a_statement s ss) v w i j =
      ⊎_elim (λ k. in_left (visit c s) (visit_all c ss) w (one_inside c s v w k j)) (λ k. in_right (visit c s) (visit_all c ss) w (all_inside c ss v w k j)) (in_either (visit c s) (visit_all c ss) v i)

static_stands : (part : PlainComponent) (context : Context) (form : PlainForm) → control.is_static form ≡ true → may_stand part context form ≡ true
static_stands part context Empty e = absurd (let clash : false ≡ true = e in cc)
static_stands part context (Enable g) e = absurd (let clash : false ≡ true = e in cc)
static_stands part context (Seq ss) e = e
static_stands part context (Par arms) e = e
static_stands part context (If test comb a b) e = e
static_stands part context (While test comb a) e = e
static_stands part context (Repeat count a) e = e
static_stands part context (StaticSeq written ss) e = refl
static_stands part context (StaticPar written arms) e = refl
static_stands part context (StaticIf written test a b) e = refl
static_stands part context (StaticRepeat written count a) e = refl
static_stands part context (Timed k) e = absurd (let clash : false ≡ true = e in cc)

static_long : (part : PlainComponent) (cells : Cells) (ruled : IsRuled part (Node part cells)) (has : HasCells part cells) (v : Visited) → In (statements_in part) v → control.is_static v.form ≡ true → form_has_length part v.context v.form ≡ true
static_long part cells ruled has v i e =
    let whole = lengthy_whole part cells ruled has in
    form_lengthy part cells ruled has v.context v.context v.form (static_stands part v.context v.form e)
    (λ k f written. absurd (let clash : false ≡ true = sym (ap control.is_static f) ∙ e in cc))
    (record { stands = λ w j. whole.stands w (one_inside Dynamic part.control v w i j); timed = λ w k j. whole.timed w k (one_inside Dynamic part.control v w i j) })

-- FORMS of visited statements, wherever they stand
abbrev pub Forms : (PlainForm → Type 0) → List Visited → Type 0
Forms Q vs = (v : Visited) → In vs v → Q v.form

module _ (Q : PlainForm → Type 0) where
  pub both_forms : (xs ys : List Visited) → Forms Q xs → Forms Q ys → Forms Q (xs ++ ys)
  both_forms xs ys h g v i = ⊎_elim (λ j. h v j) (λ j. g v j) (in_either xs ys v i)

  pub headed : (context : Context) (form : PlainForm) (place : Place) → Q form → Forms Q (visit_parts context form) → Forms Q (visit context (Placed form place))
  headed context form place head parts v (inl same) = subst (λ (x : Visited). Q x.form) same head
  headed context form place head parts v (inr i) = parts v i

  mutual
    pub one_other : (one other : Context) (s : PlainStatement) → Forms Q (visit one s) → Forms Q (visit other s)
    one_other one other (Placed form place) h = headed other form place (h (record { context = one; form = form; place = place }) (inl refl)) (parts_other one other form (λ v i. h v (inr i)))

    pub parts_other : (one other : Context) (form : PlainForm) → Forms Q (visit_parts one form) → Forms Q (visit_parts other form)
    parts_other one other Empty h = h
    parts_other one other (Enable g) h = h
    parts_other one other (Seq ss) h = all_other (below_dynamic one) (below_dynamic other) ss h
    parts_other one other (Par arms) h = all_other (below_dynamic one) (below_dynamic other) arms h
    parts_other one other (If test comb a b) h =
        both_forms (visit (below_dynamic other) a) (visit (below_dynamic other) b)
        (one_other (below_dynamic one) (below_dynamic other) a (λ v i. h v (in_left (visit (below_dynamic one) a) (visit (below_dynamic one) b) v i)))
        (one_other (below_dynamic one) (below_dynamic other) b (λ v i. h v (in_right (visit (below_dynamic one) a) (visit (below_dynamic one) b) v i)))
    parts_other one other (While test comb a) h = one_other (below_dynamic one) (below_dynamic other) a h
    parts_other one other (Repeat count a) h = one_other (below_dynamic one) (below_dynamic other) a h
    parts_other one other (StaticSeq written ss) h = h
    parts_other one other (StaticPar written arms) h = h
    parts_other one other (StaticIf written test a b) h = h
    parts_other one other (StaticRepeat written count a) h = h
    parts_other one other (Timed k) h = h

    all_other : (one other : Context) (ss : PlainStatements) → Forms Q (visit_all one ss) → Forms Q (visit_all other ss)
    all_other one other no_statements h = h
    all_other one other (a_statement s ss) h =
        both_forms (visit other s) (visit_all other ss) (one_other one other s (λ v i. h v (in_left (visit one s) (visit_all one ss) v i))) (all_other one other ss (λ v i. h v (in_right (visit one s) (visit_all one ss) v i)))

-- a static statement takes a cycle at least, and as many as are written
abbrev Long : (PlainForm → ℕ) → PlainForm → Type 0
Long cycles form = control.is_static form ≡ true → (cycles form ≡ 0 → ⊥) × ((n : ℕ) → written_length form ≡ Some n → n ≡ cycles form)

not_static : (cycles : PlainForm → ℕ) (form : PlainForm) → control.is_static form ≡ false → Long cycles form
not_static cycles form none e = absurd (let clash : true ≡ false = sym e ∙ none in cc)

long_as : (a b : PlainForm → ℕ) (x y : PlainForm) → written_length y ≡ written_length x → control.is_static x ≡ true → b y ≡ a x → Long a x → Long b y
long_as a b x y written static e h s = let r = h static in (λ z. r.0 (sym e ∙ z), λ n w. r.1 n (sym written ∙ w) ∙ sym e)

abbrev StaticLong : Instance → Type 0
StaticLong i = (J : PlainComponent) (f : PortRef → PortRef) (copy : ℕ → ℕ) → Lasting J (flat_part i) copy (groups_of (flat_part i).control) → Forms (Long (form_length J)) (visit InStatic (copied_statement f copy (flat_part i).control))

abbrev IsLong : PlainComponent → Type 0
IsLong part = Forms (Long (form_lasts part)) (visit Dynamic part.control)

abbrev mutual
  AllLong : Instance → Type 0
  AllLong (Node part cells) = IsLong part × LongBelow cells

  LongBelow : Cells → Type 0
  LongBelow no_cells = Unit {0}
  LongBelow (a_primitive row rest) = LongBelow rest
  LongBelow (an_instance child rest) = AllLong child × LongBelow rest

module _ (part : PlainComponent) (cells : Cells) (own_long : IsLong part) (fair : IsFair (Node part cells)) (controlled : IsControlled (Node part cells))
    (lasting : (c : ℕ) (child : Instance) → cell_at cells c ≡ OfInstance child → LastsAlike child) (below : (c : ℕ) (child : Instance) → cell_at cells c ≡ OfInstance child → StaticLong child) where
  abbrev kids : Kids
  kids = flat_kids cells

  abbrev flat : PlainComponent
  flat = flat_part (Node part cells)

  module _ (J : PlainComponent) (f : PortRef → PortRef) (copy : ℕ → ℕ) where
    abbrev Q : PlainForm → Type 0
    Q = Long (form_length J)

    plain_long : (context : Context) (place : Place) (s : PlainStatement) → Forms Q (visit InStatic (copied_statement f copy s)) → Forms Q (visit context (Placed (copied_form f copy (with_capture None s)) place))
    plain_long context place (Placed form at) inner =
        headed Q context (copied_form f copy form) place (inner (record { context = InStatic; form = copied_form f copy form; place = at }) (inl refl)) (parts_other Q InStatic context (copied_form f copy form) (λ v i. inner v (inr i)))

    captured_long : (context : Context) (place : Place) (g : ℕ) → group_length J (copy g) ≡ Some 1 → (s : PlainStatement) → Forms Q (visit InStatic (copied_statement f copy s))
        → Forms Q (visit context (Placed (copied_form f copy (with_capture (Some g) s)) place))
    captured_long context place g one s inner =
        headed Q context (copied_form f copy (with_capture (Some g) s)) place
        (λ static. (λ z. none z, λ n w. absurd (cc)))
        (both_forms Q (visit InStatic (copied_statement f copy s)) (visit_all InStatic (copied_statements f copy (a_statement (Placed (Enable g) no_place) no_statements))) inner last)
      where
        none : length_of J (copied_statement f copy s) + (or_zero (group_length J (copy g)) + 0) ≡ 0 → ⊥
        none z = let o : or_zero (group_length J (copy g)) ≡ 1 = ap or_zero one in omega (arith, z, o)

        last : Forms Q (visit_all InStatic (copied_statements f copy (a_statement (Placed (Enable g) no_place) no_statements)))
        last v (inl same) = subst (λ (x : Visited). Q x.form) same (not_static (form_length J) (Enable (copy g)) refl)
        last v (inr i) = absurd i

    timed_long : (context : Context) (place : Place) (k : ℕ) → k < length part.invokes → Lasting J flat copy (groups_in (flat_form kids part (Timed k))) → Forms Q (visit context (Placed (copied_form f copy (flat_form kids part (Timed k))) place))
    timed_long context place k there lasts_there =
        subst (λ o. Forms Q (visit context (Placed (copied_form f copy (inlined kids part o k (the_invoke part k))) place))) (sym at) (captured (the_invoke part k).captures refl)
      where
        its : IsInvoked (Node part cells) (the_invoke part k)
        its = controlled.invokes k there

        kid : PlainComponent
        kid = flat_part its.child

        at : kid_at kids (the_invoke part k).cell ≡ Some kid
        at = kid-static cells (the_invoke part k).cell its.child its.stands its.static

        s : PlainStatement
        s = copied_statement (invoke_port kids part kid (the_invoke part k)) (copy_of kids part kid k) kid.control

        whole : Lasting J flat copy (groups_in (with_capture (the_invoke part k).captures s))
        whole = subst (λ o. Lasting J flat copy (groups_in (inlined kids part o k (the_invoke part k)))) at lasts_there

        inner : Forms Q (visit InStatic (copied_statement f copy s))
        inner =
            subst (λ x. Forms Q (visit InStatic x)) (sym (statement_twice f (invoke_port kids part kid (the_invoke part k)) copy (copy_of kids part kid k) kid.control))
            (below (the_invoke part k).cell its.child its.stands J (λ q. f (invoke_port kids part kid (the_invoke part k) q)) (λ g. copy (copy_of kids part kid k g))
            (invoke_lasting part cells fair controlled lasting J copy k there kid at whole))

        captured : (o : Option ℕ) → (the_invoke part k).captures ≡ o → Forms Q (visit context (Placed (copied_form f copy (with_capture o s)) place))
        captured None e = plain_long context place s inner
        captured (Some g) e =
            let c = its.captures g e in
            captured_long context place g (subst (λ o. Lasting J flat copy (groups_in (with_capture o s))) e whole g (captures_in_it g s) ∙ own-length kids part g c.0 ∙ c.1) s inner

    head_of : (context : Context) (form : PlainForm) (place : Place) → Forms (Long (form_lasts part)) (visit context (Placed form place)) → Long (form_lasts part) form
    head_of context form place h = h (record { context = context; form = form; place = place }) (inl refl)

    abbrev Its : Context → PlainForm → Place → Type 0
    Its context form place = Forms (Long (form_lasts part)) (visit context (Placed form place))

    mutual
      form_long : (context : Context) (form : PlainForm) (place : Place) → Its context form place → AllThere (groups_in form) (length part.groups) → AllThere (timed_in form) (length part.invokes)
          → Lasting J flat copy (groups_in (flat_form kids part form)) → Forms Q (visit context (Placed (copied_form f copy (flat_form kids part form)) place))
      form_long context Empty place h own timed l = headed Q context Empty place (not_static (form_length J) Empty refl) (λ v i. absurd i)
      form_long context (Enable g) place h own timed l = headed Q context (Enable (copy g)) place (not_static (form_length J) (Enable (copy g)) refl) (λ v i. absurd i)
      form_long context (Seq ss) place h own timed l = headed Q context (copied_form f copy (flat_form kids part (Seq ss))) place (λ e. absurd (let clash : false ≡ true = e in cc)) (all_long (below_dynamic context) ss (λ v i. h v (inr i)) own timed l)
      form_long context (Par arms) place h own timed l = headed Q context (copied_form f copy (flat_form kids part (Par arms))) place (λ e. absurd (let clash : false ≡ true = e in cc)) (all_long (below_dynamic context) arms (λ v i. h v (inr i)) own timed l)
      form_long context (If test comb a b) place h own timed l =
          headed Q context (copied_form f copy (flat_form kids part (If test comb a b))) place (λ e. absurd (let clash : false ≡ true = e in cc))
          (both_forms Q (visit (below_dynamic context) (copied_statement f copy (flat_statement kids part a))) (visit (below_dynamic context) (copied_statement f copy (flat_statement kids part b)))
          (one_long (below_dynamic context) a (λ v i. h v (inr (in_left (visit (below_dynamic context) a) (visit (below_dynamic context) b) v i))) (there_left (groups_of a) (groups_of b) _ (λ g i. own g (with_in comb (groups_of a ++ groups_of b) g i))) (there_left (timed_of a) (timed_of b) _ timed) (lasting_left J flat copy (groups_of (flat_statement kids part a)) (groups_of (flat_statement kids part b)) (λ g i. l g (with_in comb (groups_of (flat_statement kids part a) ++ groups_of (flat_statement kids part b)) g i))))
          (one_long (below_dynamic context) b (λ v i. h v (inr (in_right (visit (below_dynamic context) a) (visit (below_dynamic context) b) v i))) (there_right (groups_of a) (groups_of b) _ (λ g i. own g (with_in comb (groups_of a ++ groups_of b) g i))) (there_right (timed_of a) (timed_of b) _ timed) (lasting_right J flat copy (groups_of (flat_statement kids part a)) (groups_of (flat_statement kids part b)) (λ g i. l g (with_in comb (groups_of (flat_statement kids part a) ++ groups_of (flat_statement kids part b)) g i)))))
      form_long context (While test comb a) place h own timed l =
          headed Q context (copied_form f copy (flat_form kids part (While test comb a))) place (λ e. absurd (let clash : false ≡ true = e in cc))
          (one_long (below_dynamic context) a (λ v i. h v (inr i)) (λ g i. own g (with_in comb (groups_of a) g i)) timed (λ g i. l g (with_in comb (groups_of (flat_statement kids part a)) g i)))
      form_long context (Repeat count a) place h own timed l =
          headed Q context (copied_form f copy (flat_form kids part (Repeat count a))) place (λ e. absurd (let clash : false ≡ true = e in cc)) (one_long (below_dynamic context) a (λ v i. h v (inr i)) own timed l)
      form_long context (StaticSeq written ss) place h own timed l =
          headed Q context (copied_form f copy (flat_form kids part (StaticSeq written ss))) place
          (long_as (form_lasts part) (form_length J) (StaticSeq written ss) (copied_form f copy (flat_form kids part (StaticSeq written ss))) refl refl (form_lasting part cells fair controlled lasting J f copy (StaticSeq written ss) own timed l) (head_of context (StaticSeq written ss) place h))
          (all_long InStatic ss (λ v i. h v (inr i)) own timed l)
      form_long context (StaticPar written arms) place h own timed l =
          headed Q context (copied_form f copy (flat_form kids part (StaticPar written arms))) place
          (long_as (form_lasts part) (form_length J) (StaticPar written arms) (copied_form f copy (flat_form kids part (StaticPar written arms))) refl refl (form_lasting part cells fair controlled lasting J f copy (StaticPar written arms) own timed l) (head_of context (StaticPar written arms) place h))
          (all_long InStatic arms (λ v i. h v (inr i)) own timed l)
      form_long context (StaticIf written test a b) place h own timed l =
          headed Q context (copied_form f copy (flat_form kids part (StaticIf written test a b))) place
          (long_as (form_lasts part) (form_length J) (StaticIf written test a b) (copied_form f copy (flat_form kids part (StaticIf written test a b))) refl refl (form_lasting part cells fair controlled lasting J f copy (StaticIf written test a b) own timed l) (head_of context (StaticIf written test a b) place h))
          (both_forms Q (visit Branch (copied_statement f copy (flat_statement kids part a))) (visit Branch (copied_statement f copy (flat_statement kids part b)))
          (one_long Branch a (λ v i. h v (inr (in_left (visit Branch a) (visit Branch b) v i))) (there_left (groups_of a) (groups_of b) _ own) (there_left (timed_of a) (timed_of b) _ timed) (lasting_left J flat copy (groups_of (flat_statement kids part a)) (groups_of (flat_statement kids part b)) l))
          (one_long Branch b (λ v i. h v (inr (in_right (visit Branch a) (visit Branch b) v i))) (there_right (groups_of a) (groups_of b) _ own) (there_right (timed_of a) (timed_of b) _ timed) (lasting_right J flat copy (groups_of (flat_statement kids part a)) (groups_of (flat_statement kids part b)) l)))
      form_long context (StaticRepeat written count a) place h own timed l =
          headed Q context (copied_form f copy (flat_form kids part (StaticRepeat written count a))) place
          (long_as (form_lasts part) (form_length J) (StaticRepeat written count a) (copied_form f copy (flat_form kids part (StaticRepeat written count a))) refl refl (form_lasting part cells fair controlled lasting J f copy (StaticRepeat written count a) own timed l) (head_of context (StaticRepeat written count a) place h))
          (one_long InStatic a (λ v i. h v (inr i)) own timed l)
      form_long context (Timed k) place h own timed l = timed_long context place k (timed k (inl refl)) l

      one_long : (context : Context) (s : PlainStatement) → Forms (Long (form_lasts part)) (visit context s) → AllThere (groups_of s) (length part.groups) → AllThere (timed_of s) (length part.invokes)
          → Lasting J flat copy (groups_of (flat_statement kids part s)) → Forms Q (visit context (copied_statement f copy (flat_statement kids part s)))
      one_long context (Placed form place) h own timed l = form_long context form place h own timed l

      all_long : (context : Context) (ss : PlainStatements) → Forms (Long (form_lasts part)) (visit_all context ss) → AllThere (groups_in_all ss) (length part.groups) → AllThere (timed_all ss) (length part.invokes)
          → Lasting J flat copy (groups_in_all (flat_statements kids part ss)) → Forms Q (visit_all context (copied_statements f copy (flat_statements kids part ss)))
      all_long context no_statements h own timed l = λ v i. absurd i
      all_long context (a_statement s ss) h own timed l =
          both_forms Q (visit context (copied_statement f copy (flat_statement kids part s))) (visit_all context (copied_statements f copy (flat_statements kids part ss)))
          (one_long context s (λ v i. h v (in_left (visit context s) (visit_all context ss) v i)) (there_left (groups_of s) (groups_in_all ss) _ own) (there_left (timed_of s) (timed_all ss) _ timed)
          (lasting_left J flat copy (groups_of (flat_statement kids part s)) (groups_in_all (flat_statements kids part ss)) l))
          (all_long context ss (λ v i. h v (in_right (visit context s) (visit_all context ss) v i)) (there_right (groups_of s) (groups_in_all ss) _ own) (there_right (timed_of s) (timed_all ss) _ timed)
          (lasting_right J flat copy (groups_of (flat_statement kids part s)) (groups_in_all (flat_statements kids part ss)) l))

  part_long : StaticLong (Node part cells)
  part_long J f copy l = one_long J f copy InStatic part.control (one_other (Long (form_lasts part)) Dynamic InStatic part.control own_long) controlled.enables controlled.timed l

  top_long : (J : PlainComponent) → ((g : ℕ) → group_length J g ≡ group_length flat g) → Forms (Long (form_length J)) (visit Dynamic flat.control)
  top_long J same =
      subst (λ x. Forms (Long (form_length J)) (visit Dynamic x)) (statement_still flat.control)
      (one_long J (λ q. q) (λ g. g) Dynamic part.control own_long controlled.enables controlled.timed (λ g i. same g))

mutual
  control_long : (i : Instance) → AllLong i → AllFair i → AllControlled i → StaticLong i
  control_long (Node part cells) long fair controlled =
      part_long part cells long.0 fair.0 controlled.0 (kids_last cells fair.1 controlled.1) (λ c child at. kids_long cells long.1 fair.1 controlled.1 c child at)

  kids_long : (cells : Cells) → LongBelow cells → AllFairBelow cells → AllControlledBelow cells → (c : ℕ) (child : Instance) → cell_at cells c ≡ OfInstance child → StaticLong child
  kids_long no_cells long fair controlled c child at = absurd (cc)
  kids_long (a_primitive row rest) long fair controlled zero child at = absurd (cc)
  kids_long (a_primitive row rest) long fair controlled (suc c) child at = kids_long rest long fair controlled c child at
  kids_long (an_instance other rest) long fair controlled zero child at = let same : other ≡ child = cc in subst StaticLong same (control_long other long.0 fair.0 controlled.0)
  kids_long (an_instance other rest) long fair controlled (suc c) child at = kids_long rest long.1 fair.1 controlled.1 c child at

flat_long : (i : Instance) → AllLong i → AllFair i → AllControlled i → (J : PlainComponent) → ((g : ℕ) → group_length J g ≡ group_length (flat_part i) g) → Forms (Long (form_length J)) (visit Dynamic (flat_part i).control)
flat_long (Node part cells) long fair controlled J same =
    top_long part cells long.0 fair.0 controlled.0 (kids_last cells fair.1 controlled.1) (λ c child at. kids_long cells long.1 fair.1 controlled.1 c child at) J same

-- of a component without static invokes
module _ (J : PlainComponent) (none : J.invokes ≡ []) where
  mutual
    lasts_length : (form : PlainForm) → form_lasts J form ≡ form_length J form
    lasts_length Empty = refl
    lasts_length (Enable g) = refl
    lasts_length (Seq ss) = refl
    lasts_length (Par arms) = refl
    lasts_length (If test comb a b) = refl
    lasts_length (While test comb a) = refl
    lasts_length (Repeat count a) = refl
    lasts_length (StaticSeq written ss) = sum_same ss
    lasts_length (StaticPar written arms) = max_same arms
    lasts_length (StaticIf written test a b) = ap (λ n. max n (lasts J b)) (one_same a) ∙ ap (max (length_of J a)) (one_same b)
    lasts_length (StaticRepeat written count a) = ap (λ n. count * n) (one_same a)
    lasts_length (Timed k) = ap (λ l. invoke_length (slice_get l k)) none

    one_same : (s : PlainStatement) → lasts J s ≡ length_of J s
    one_same (Placed form place) = lasts_length form

    sum_same : (ss : PlainStatements) → sum_lasts J ss ≡ sum_length J ss
    sum_same no_statements = refl
    sum_same (a_statement s ss) = ap (λ n. n + sum_lasts J ss) (one_same s) ∙ ap (λ n. length_of J s + n) (sum_same ss)

    max_same : (ss : PlainStatements) → max_lasts J ss ≡ max_length J ss
    max_same no_statements = refl
    max_same (a_statement s ss) = ap (λ n. max n (max_lasts J ss)) (one_same s) ∙ ap (max (length_of J s)) (max_same ss)

abbrev LengthBreak : PlainComponent → Visited → Type 0
LengthBreak p v = ((n : ℕ) × (written_length v.form ≡ Some n) × (n ≢ form_lasts p v.form)) ⊎ (form_lasts p v.form ≡ 0)

component_long : (d : PlainDesign) (accepted : IsAccepted d) (k : ℕ) (within : k < length d.components) (cells : Cells) → IsRuled (component_at d k) (Node (component_at d k) cells) → HasCells (component_at d k) cells → IsLong (component_at d k)
component_long d accepted k within cells ruled has v i static =
    (λ z. broken (inr z), λ n w. ⊎_elim (λ e. e) (λ apart. absurd (broken (inl (n, w, apart)))) (same_or_not n (form_lasts (component_at d k) v.form)))
  where
    broken : LengthBreak (component_at d k) v → ⊥
    broken x =
        let at = number_in (statements_in (component_at d k)) v i in
        let breaks : BreaksLength (component_of d k) v v.place [] =
        subst (λ p. (control.is_static v.form ≡ true) × (form_has_length p v.context v.form ≡ true) × LengthBreak p v × Tells v.place [] v.place []) (sym (same_part d (length d.components) k))
        (static, static_long (component_at d k) cells ruled has v i static, x, (refl, refl)) in
        accepted.shapes rules.StaticShape (record { component = k; part = AStatement at.0 }) v.place [] refl (inr (inr (inl (record { within = within; number = at.0; is = refl; statement = v; stands = at.1; breaks = breaks }))))

long_below : (cells : Cells) → ((c : ℕ) (child : Instance) → cell_at cells c ≡ OfInstance child → AllLong child) → LongBelow cells
long_below no_cells h = tt
long_below (a_primitive row rest) h = long_below rest (λ c child at. h (suc c) child at)
long_below (an_instance child rest) h = (h 0 child refl, long_below rest (λ c other at. h (suc c) other at))

module _ (d : PlainDesign) (design : IsDesign d) (accepted : IsAccepted d) (undone : NoneNamesDone d) where
  long_tree : (n k : ℕ) (path : List ℕ) → IsWay d design path k → length d.components ≤ n + length path → AllLong (tree_within d n k)
  long_tree zero k path way many = absurd (let short = way_is_short d design path k way in omega (arith, short, many))
  long_tree (suc n) k path way many = (
    component_long d accepted k (way.there k (inl refl)) (cells_for (tree_within d n) (component_at d k).cells) (ruled_tree d design accepted undone (suc n) k path way many) (has_cells (tree_within d n) (component_at d k)),
    long_below (cells_for (tree_within d n) (component_at d k).cells)
        (λ c child at.
        let r = child_kind (tree_within d n) (kind_at (component_at d k).cells c) child (sym (cell_for (tree_within d n) (component_at d k).cells c) ∙ at) in
        let cell = kind_in (component_at d k).cells c (OfComponent r.0) r.1 in
        subst AllLong r.2 (long_tree n r.0 (k ∷ path) (further d design path k r.0 cell.0 way cell.1 cell.2) (omega (arith, many)))),
  )

  -- RULE static-shape, of lengths
  pub keeps_lengths : (spot : Spot) (place : Place) (name : List ℕ) → OnStatement BreaksLength (flat_design d) spot place name → ⊥
  keeps_lengths spot place name b =
      let g = good_component d design accepted undone m.old m.less in
      let long = flat_long (component_of d m.old) (long_tree (length d.components) m.old [] (no_way d design m.old m.less) (omega arith)) g.fair g.controlled J
      (λ h. ap (λ p. group_length p h) (same_part (flat_design d) (length (flat_design d).components) spot.component ∙ m.part)) b.statement
      (subst (λ (p : PlainComponent). In (statements_in p) b.statement) m.part (slice_in (statements_in (component_at (flat_design d) spot.component)) b.number b.statement b.stands)) bad.0 in
      let e = lasts_length J (ap (λ (p : PlainComponent). p.invokes) (same_part (flat_design d) (length (flat_design d).components) spot.component) ∙ (flat_design_flat d spot.component b.within).no_invoke) b.statement.form in
      ⊎_elim (λ y. y.2 (long.1 y.0 y.1 ∙ sym e)) (λ z. long.0 (sym e ∙ z)) bad.2
    where
      m : IsMade d spot.component
      m = made d design spot.component b.within

      J : PlainComponent
      J = part_of (component_of (flat_design d) spot.component)

      bad : BreaksLength (component_of (flat_design d) spot.component) b.statement place name
      bad = b.breaks
