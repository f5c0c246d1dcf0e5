-- OCCURRENCES: a statement of a flat component has those that are counted in the statement with its invokes written out, and is an island where
-- that is one; so the islands of a flat component, and its statements, are those counted.
use Rattle.std.proofs.Common.{◌≡◌, ℕ, zero, suc, ◌+◌, ◌<◌, ◌⊎◌, inl, inr, ⊎_elim, Bool, true, false, ◌&&◌, ◌||◌, is_some, List, [], ◌∷◌, length, Option, Some, None, refl, sym, ap, ap₂, ◌∙◌, subst, arith}
use Rattle.std.specs.Prelude.{flat_map, slice_get}
use Rattle.std.proofs.lemmas.List.{length-append}
use Rattle.std.proofs.lemmas.Option.{slice_get-get_or}
use Rattle.cx_text.specs.declared.places.Place.{Place}
use Rattle.cx_meaning.specs.Designs.{PlainInvoke, PlainComponent, PlainForm, Empty, Enable, Seq, Par, If, While, Repeat, StaticSeq, StaticPar, StaticIf, StaticRepeat, Timed, PlainStatement, Placed, form_of, PlainStatements, no_statements, a_statement, no_place}
use Rattle.cx_meaning.specs.Instances.{Instance, Node, Cells, no_cells, a_primitive, an_instance, OfInstance, cell_at}
use Rattle.cx_meaning.specs.Control.{groups_in, groups_of, groups_in_all}
use Rattle.cx_meaning.specs.Islands.{group_length}
use Rattle.cx_text.specs.Members.{In}
use Rattle.cx_rules.specs.Items.{Context, Dynamic, InStatic, Branch, Amiss, Visited, visit, visit_parts, visit_all, statements_in}
use Rattle.cx_rules.specs.StaticControl.{is_dynamic, is_island_form, is_island, may_stand, is_written, one_if, form_occurrences, occurrences, occurrences_in, island_occurrences, occurrences_of}
use Rattle.cx_rules.specs.Invokes.{invoke_at, capture_length, invoke_in}
use Rattle.cx_rules.specs.Counts.{Inners, inner_at, inner_for, captures_in, statement_count_of, statements_for, statements_counted, occurrence_count_of, form_counted, counted, counted_in, has_invoke, is_any_island, island_counted, occurrences_counted, inners_of}
use Rattle.cx_rules.proofs.StaticControlLemmas.{occurrences_of-append}
use Rattle.cx_flattening.specs.Events.{no_invoke, the_invoke}
use Rattle.cx_flattening.specs.Whole.{is_static}
use Rattle.cx_flattening.specs.Copies.{copied_statement}
use Rattle.cx_flattening.specs.Flattened.{Kids, kid_at, invoke_port, copy_of, with_capture, inlined, flat_form, flat_statement, flat_statements, flat_kids, flat_part}
use Rattle.cx_flattening.specs.Fair.{IsFair, AllFair, AllFairBelow}
use Rattle.cx_flattening.specs.Controlled.{timed_in, timed_of, timed_all, IsInvoked, IsControlled, AllControlled, AllControlledBelow}
use Rattle.cx_flattening.proofs.FlatGroups.{own-length}
use Rattle.cx_flattening.proofs.FlatLengths.{Lasting, LastsAlike, AllThere, there_left, there_right, invoke_lasting, kids_last}
use Rattle.cx_flattening.proofs.LevelSights.{kid-static}
use Rattle.cx_flattening.proofs.FairParts.{some_of}
use Rattle.cx_flattening.proofs.FlatStands.{May, StaticMay, head_may, kids_may}
use Rattle.cx_flattening.proofs.FlatCounts.{inner_there}
use Rattle.cx_flattening.proofs.CopiedSizes.{visits_one, visits_form, one_occurs, AllStill, still_form, occurrences_still}
use Rattle.cx_flattening.proofs.FlatVisits.{flattened_one, become, becomes, flat_visits, AreThere, there_one}
use Rattle.cx_flattening.proofs.FlatLasts.{Forms}
use Rattle.cx_flattening.proofs.Ruled.{IsRuled, AllRuled, AllRuledBelow}

-- WHAT MAY STAND IN STATIC CONTROL is an island where it stands in dynamic control, and what is below it is not in dynamic control
abbrev pub is_any : PlainComponent → PlainForm → Bool
is_any part form = is_island_form part form || has_invoke part (invoke_in form)

written_some : (o : Option PlainInvoke) → is_written o ≡ true → is_some o ≡ true
written_some None e = absurd (let clash : false ≡ true = e in cc)
written_some (Some v) e = refl

stands_any : (part : PlainComponent) (form : PlainForm) → may_stand part InStatic form ≡ true → is_any part form ≡ true
stands_any part Empty m = absurd (let clash : false ≡ true = m in cc)
stands_any part (Enable g) m = ap (λ b. b || false) m
stands_any part (Seq ss) m = absurd (let clash : false ≡ true = m in cc)
stands_any part (Par arms) m = absurd (let clash : false ≡ true = m in cc)
stands_any part (If test comb a b) m = absurd (let clash : false ≡ true = m in cc)
stands_any part (While test comb a) m = absurd (let clash : false ≡ true = m in cc)
stands_any part (Repeat count a) m = absurd (let clash : false ≡ true = m in cc)
stands_any part (StaticSeq written ss) m = refl
stands_any part (StaticPar written arms) m = refl
stands_any part (StaticIf written test a b) m = refl
stands_any part (StaticRepeat written count a) m = refl
stands_any part (Timed k) m = written_some (slice_get part.invokes k) m

stands_still : (part : PlainComponent) (c : Context) (form : PlainForm) → may_stand part InStatic form ≡ true → AllStill (visit_parts c form)
stands_still part c Empty m = absurd (let clash : false ≡ true = m in cc)
stands_still part c (Enable g) m = λ v i. absurd i
stands_still part c (Seq ss) m = absurd (let clash : false ≡ true = m in cc)
stands_still part c (Par arms) m = absurd (let clash : false ≡ true = m in cc)
stands_still part c (If test comb a b) m = absurd (let clash : false ≡ true = m in cc)
stands_still part c (While test comb a) m = absurd (let clash : false ≡ true = m in cc)
stands_still part c (Repeat count a) m = absurd (let clash : false ≡ true = m in cc)
stands_still part c (StaticSeq written ss) m = still_form InStatic (StaticSeq written ss) refl
stands_still part c (StaticPar written arms) m = still_form InStatic (StaticPar written arms) refl
stands_still part c (StaticIf written test a b) m = still_form InStatic (StaticIf written test a b) refl
stands_still part c (StaticRepeat written count a) m = still_form InStatic (StaticRepeat written count a) refl
stands_still part c (Timed k) m = λ v i. absurd i

occurrences_counted-still : (part : PlainComponent) (below : Inners) (vs : List Visited) → AllStill vs → occurrences_counted part below vs ≡ 0
occurrences_counted-still part below [] h = refl
occurrences_counted-still part below (v ∷ vs) h =
    let own : island_counted part below (is_any_island part v) v.form ≡ 0 = ap (λ b. island_counted part below ((b && is_island_form part v.form) || (b && has_invoke part (invoke_in v.form))) v.form) (h v (inl refl)) in
    let rest : occurrences_counted part below vs ≡ 0 = occurrences_counted-still part below vs (λ w i. h w (inr i)) in
    omega (arith, own, rest)

-- THE OCCURRENCES counted in the control of a static component are those counted of it
control_counted : (part : PlainComponent) (below : Inners) (s : PlainStatement) → may_stand part InStatic (form_of s) ≡ true → occurrences_counted part below (visit Dynamic s) ≡ counted part below s
control_counted part below (Placed form place) m =
    let own : island_counted part below (is_any part form) form ≡ form_counted part below form = ap (λ b. island_counted part below b form) (stands_any part form m) in
    let rest : occurrences_counted part below (visit_parts Dynamic form) ≡ 0 = occurrences_counted-still part below (visit_parts Dynamic form) (stands_still part Dynamic form m) in
    omega (arith, own, rest)

stands_island : (J : PlainComponent) → J.invokes ≡ [] → (form : PlainForm) → may_stand J InStatic form ≡ true → is_island_form J form ≡ true
stands_island J none Empty m = absurd (let clash : false ≡ true = m in cc)
stands_island J none (Enable g) m = m
stands_island J none (Seq ss) m = absurd (let clash : false ≡ true = m in cc)
stands_island J none (Par arms) m = absurd (let clash : false ≡ true = m in cc)
stands_island J none (If test comb a b) m = absurd (let clash : false ≡ true = m in cc)
stands_island J none (While test comb a) m = absurd (let clash : false ≡ true = m in cc)
stands_island J none (Repeat count a) m = absurd (let clash : false ≡ true = m in cc)
stands_island J none (StaticSeq written ss) m = refl
stands_island J none (StaticPar written arms) m = refl
stands_island J none (StaticIf written test a b) m = refl
stands_island J none (StaticRepeat written count a) m = refl
stands_island J none (Timed k) m = absurd (let clash : false ≡ true = sym (ap (λ l. is_written (slice_get l k)) none) ∙ m in cc)

first_may : (J : PlainComponent) (s : PlainStatement) → May J (visit InStatic s) → may_stand J InStatic (form_of s) ≡ true
first_may J (Placed form place) h = head_may J InStatic form place h refl

-- a statement, where it stands
abbrev pub here : Context → Place → PlainForm → Visited
here c place form = record { context = c; form = form; place = place }

-- what is claimed of a static child
abbrev child_occurrences : Instance → ℕ
child_occurrences (Node p cs) = occurrences_counted p (inners_of cs) (statements_in p)

abbrev child_statements : Instance → ℕ
child_statements (Node p cs) = statements_counted p (inners_of cs) (statements_in p)

abbrev OccursAlike : Instance → Type 0
OccursAlike i = occurrences (flat_part i) (flat_part i).control ≡ child_occurrences i

abbrev StatementsAlike : Instance → Type 0
StatementsAlike i = length (statements_in (flat_part i)) ≡ child_statements i

abbrev CountedAlike : Instance → Type 0
CountedAlike i = (is_static i ≡ true → OccursAlike i) × StatementsAlike i

-- COUNTED OF AN INVOKE
counted_child : (cells : Cells) (c n : ℕ) (child : Instance) → cell_at cells c ≡ OfInstance child → is_static child ≡ true → occurrence_count_of (inner_at (inners_of cells) c) n ≡ child_occurrences child + n
counted_child cells c n (Node p cs) at static = ap (λ o. occurrence_count_of o n) (inner_there cells c p cs at static)

counted_statements : (cells : Cells) (c n : ℕ) (child : Instance) → cell_at cells c ≡ OfInstance child → is_static child ≡ true → statement_count_of (inner_at (inners_of cells) c) n ≡ child_statements child + (n + n)
counted_statements cells c n (Node p cs) at static = ap (λ o. statement_count_of o n) (inner_there cells c p cs at static)

module _ (part : PlainComponent) (cells : Cells) (fair : IsFair (Node part cells)) (controlled : IsControlled (Node part cells))
    (lasting : (c : ℕ) (child : Instance) → cell_at cells c ≡ OfInstance child → LastsAlike child) (stands : (c : ℕ) (child : Instance) → cell_at cells c ≡ OfInstance child → is_static child ≡ true → StaticMay child)
    (below : (c : ℕ) (child : Instance) → cell_at cells c ≡ OfInstance child → CountedAlike child) where
  abbrev kids : Kids
  kids = flat_kids cells

  abbrev flat : PlainComponent
  flat = flat_part (Node part cells)

  abbrev inners : Inners
  inners = inners_of cells

  module _ (k : ℕ) (there : k < length part.invokes) where
    abbrev v : PlainInvoke
    v = the_invoke part k

    abbrev its : IsInvoked (Node part cells) v
    its = controlled.invokes k there

    abbrev kid : PlainComponent
    kid = flat_part its.child

    abbrev s : PlainStatement
    s = copied_statement (invoke_port kids part kid v) (copy_of kids part kid k) kid.control

    invoke_is : invoke_at part k ≡ Some v
    invoke_is = slice_get-get_or part.invokes k no_invoke there

    kid_is : kid_at kids v.cell ≡ Some kid
    kid_is = kid-static cells v.cell its.child its.stands its.static

    copies_last : Lasting flat kid (copy_of kids part kid k) (groups_of kid.control)
    copies_last = invoke_lasting part cells fair controlled lasting flat (λ g. g) k there kid kid_is (λ g i. refl)

    copy_may : may_stand flat InStatic (form_of s) ≡ true
    copy_may = first_may flat s (stands v.cell its.child its.stands its.static flat (invoke_port kids part kid v) (copy_of kids part kid k) copies_last)

    -- a group that captures takes one cycle
    captures_one : (g : ℕ) → v.captures ≡ Some g → group_length flat g ≡ Some 1
    captures_one g e = let c = its.captures g e in own-length kids part g c.0 ∙ c.1

    copy_occurs : occurrences flat s ≡ child_occurrences its.child
    copy_occurs = one_occurs flat kid (invoke_port kids part kid v) (copy_of kids part kid k) kid.control copies_last ∙ (below v.cell its.child its.stands).0 its.static

    with_occurs : (o : Option ℕ) → v.captures ≡ o → form_occurrences flat (with_capture o s) ≡ occurrences flat s + capture_length o
    with_occurs None e = plain s
      where
        plain : (x : PlainStatement) → form_occurrences flat (with_capture None x) ≡ occurrences flat x + 0
        plain (Placed form place) = zero_more (form_occurrences flat form)
          where
            zero_more : (a : ℕ) → a ≡ a + 0
            zero_more a = omega arith
    with_occurs (Some g) e = ap (λ o. occurrences flat s + (one_if (is_some o) + 0)) (captures_one g e)

    pub timed_occurs : form_occurrences flat (flat_form kids part (Timed k)) ≡ form_counted part inners (Timed k)
    timed_occurs =
        ap (λ o. form_occurrences flat (inlined kids part o k v)) kid_is ∙ with_occurs v.captures refl
        ∙ ap (λ n. n + capture_length v.captures) copy_occurs
        ∙ sym (ap (λ o. occurrence_count_of (inner_for inners o) (captures_in o)) invoke_is ∙ counted_child cells v.cell (capture_length v.captures) its.child its.stands its.static)

    -- it is an island, with none inside
    with_may : (o : Option ℕ) (x : PlainStatement) → may_stand flat InStatic (form_of x) ≡ true → may_stand flat InStatic (with_capture o x) ≡ true
    with_may None (Placed form place) m = m
    with_may (Some g) x m = refl

    timed_may : may_stand flat InStatic (flat_form kids part (Timed k)) ≡ true
    timed_may = ap (λ o. may_stand flat InStatic (inlined kids part o k v)) kid_is ∙ with_may v.captures s copy_may

    timed_any : is_island_form flat (flat_form kids part (Timed k)) ≡ is_any part (Timed k)
    timed_any = stands_island flat refl (flat_form kids part (Timed k)) timed_may ∙ sym (ap is_some invoke_is)

    timed_still : (c : Context) → AllStill (visit_parts c (flat_form kids part (Timed k)))
    timed_still c = stands_still flat c (flat_form kids part (Timed k)) timed_may

    -- its statements
    with_visits : (o : Option ℕ) (c : Context) (place : Place) (x : PlainStatement)
        → length (visit c (Placed (with_capture o (copied_statement (invoke_port kids part kid v) (copy_of kids part kid k) x)) place)) ≡ length (visit Dynamic x) + (capture_length o + capture_length o)
    with_visits None c place (Placed form at) = ap suc (visits_form (invoke_port kids part kid v) (copy_of kids part kid k) c Dynamic form) ∙ no_more (suc (length (visit_parts Dynamic form)))
      where
        no_more : (a : ℕ) → a ≡ a + (0 + 0)
        no_more a = omega arith
    with_visits (Some g) c place x =
        ap suc (length-append (visit InStatic (copied_statement (invoke_port kids part kid v) (copy_of kids part kid k) x)) (visit_all InStatic (a_statement (Placed (Enable g) no_place) no_statements)))
        ∙ two_more (length (visit InStatic (copied_statement (invoke_port kids part kid v) (copy_of kids part kid k) x))) (length (visit Dynamic x)) (visits_one (invoke_port kids part kid v) (copy_of kids part kid k) InStatic Dynamic x)
      where
        two_more : (a b : ℕ) → a ≡ b → suc (a + 1) ≡ b + (1 + 1)
        two_more a b e = omega (arith, e)

    timed_visits : (c : Context) (place : Place) → length (visit c (Placed (flat_form kids part (Timed k)) place)) ≡ statements_for part inners (k ∷ [])
    timed_visits c place =
        ap (λ o. length (visit c (Placed (inlined kids part o k v) place))) kid_is ∙ with_visits v.captures c place kid.control
        ∙ ap (λ n. n + (capture_length v.captures + capture_length v.captures)) (below v.cell its.child its.stands).1
        ∙ sym (ap (λ o. statement_count_of (inner_for inners o) (captures_in o)) invoke_is ∙ counted_statements cells v.cell (capture_length v.captures) its.child its.stands its.static)

  -- EACH STATEMENT: its occurrences
  mutual
    pub flat_occurs : (form : PlainForm) → AllThere (groups_in form) (length part.groups) → AllThere (timed_in form) (length part.invokes) → form_occurrences flat (flat_form kids part form) ≡ form_counted part inners form
    flat_occurs Empty own timed = refl
    flat_occurs (Enable g) own timed = ap (λ o. one_if (is_some o)) (own-length kids part g (own g (inl refl)))
    flat_occurs (Seq ss) own timed = refl
    flat_occurs (Par arms) own timed = refl
    flat_occurs (If test comb a b) own timed = refl
    flat_occurs (While test comb a) own timed = refl
    flat_occurs (Repeat count a) own timed = refl
    flat_occurs (StaticSeq written ss) own timed = all_occur ss own timed
    flat_occurs (StaticPar written arms) own timed = all_occur arms own timed
    flat_occurs (StaticIf written test a b) own timed =
        ap₂ (λ n m. n + m) (each_occurs a (there_left (groups_of a) (groups_of b) _ own) (there_left (timed_of a) (timed_of b) _ timed))
        (each_occurs b (there_right (groups_of a) (groups_of b) _ own) (there_right (timed_of a) (timed_of b) _ timed))
    flat_occurs (StaticRepeat written count a) own timed = each_occurs a own timed
    flat_occurs (Timed k) own timed = timed_occurs k (timed k (inl refl))

    each_occurs : (s : PlainStatement) → AllThere (groups_of s) (length part.groups) → AllThere (timed_of s) (length part.invokes) → occurrences flat (flat_statement kids part s) ≡ counted part inners s
    each_occurs (Placed form place) own timed = flat_occurs form own timed

    all_occur : (ss : PlainStatements) → AllThere (groups_in_all ss) (length part.groups) → AllThere (timed_all ss) (length part.invokes) → occurrences_in flat (flat_statements kids part ss) ≡ counted_in part inners ss
    all_occur no_statements own timed = refl
    all_occur (a_statement s ss) own timed =
        ap₂ (λ n m. n + m) (each_occurs s (there_left (groups_of s) (groups_in_all ss) _ own) (there_left (timed_of s) (timed_all ss) _ timed))
        (all_occur ss (there_right (groups_of s) (groups_in_all ss) _ own) (there_right (timed_of s) (timed_all ss) _ timed))

  -- whether it is an island in dynamic control
  pub flat_any : (form : PlainForm) → AllThere (groups_in form) (length part.groups) → AllThere (timed_in form) (length part.invokes) → is_island_form flat (flat_form kids part form) ≡ is_any part form
  flat_any Empty own timed = refl
  flat_any (Enable g) own timed = ap is_some (own-length kids part g (own g (inl refl))) ∙ or_none (is_some (group_length part g))
    where
      or_none : (b : Bool) → b ≡ (b || false)
      or_none true = refl
      or_none false = refl
  flat_any (Seq ss) own timed = refl
  flat_any (Par arms) own timed = refl
  flat_any (If test comb a b) own timed = refl
  flat_any (While test comb a) own timed = refl
  flat_any (Repeat count a) own timed = refl
  flat_any (StaticSeq written ss) own timed = refl
  flat_any (StaticPar written arms) own timed = refl
  flat_any (StaticIf written test a b) own timed = refl
  flat_any (StaticRepeat written count a) own timed = refl
  flat_any (Timed k) own timed = timed_any k (timed k (inl refl))

  -- WHAT IT BECOMES
  become_visits : (c : Context) (place : Place) (form : PlainForm) → AllThere (timed_in form) (length part.invokes) → length (become kids part c place form) ≡ statements_for part inners (invoke_in form)
  become_visits c place Empty timed = refl
  become_visits c place (Enable g) timed = refl
  become_visits c place (Seq ss) timed = refl
  become_visits c place (Par arms) timed = refl
  become_visits c place (If test comb a b) timed = refl
  become_visits c place (While test comb a) timed = refl
  become_visits c place (Repeat count a) timed = refl
  become_visits c place (StaticSeq written ss) timed = refl
  become_visits c place (StaticPar written arms) timed = refl
  become_visits c place (StaticIf written test a b) timed = refl
  become_visits c place (StaticRepeat written count a) timed = refl
  become_visits c place (Timed k) timed = timed_visits k (timed k (inl refl)) c place

  own_islands : (c : Context) (place : Place) (form : PlainForm) → AreThere (length part.groups) (length part.invokes) form
      → island_occurrences flat (is_island flat (flattened_one kids part c place form)) (flat_form kids part form) ≡ island_counted part inners (is_any_island part (here c place form)) form
  own_islands Dynamic place form there = ap (λ b. island_occurrences flat b (flat_form kids part form)) (flat_any form there.0 there.1) ∙ by (is_any part form)
    where
      by : (b : Bool) → island_occurrences flat b (flat_form kids part form) ≡ island_counted part inners b form
      by true = flat_occurs form there.0 there.1
      by false = refl
  own_islands InStatic place form there = refl
  own_islands Branch place form there = refl
  own_islands Amiss place form there = refl

  become_islands : (c : Context) (place : Place) (form : PlainForm) → AreThere (length part.groups) (length part.invokes) form
      → occurrences_of flat (become kids part c place form) ≡ island_counted part inners (is_any_island part (here c place form)) form
  become_islands c place form there = by form there (own_islands c place form there)
    where
      alone : (a b : ℕ) → a ≡ b → a + 0 ≡ b
      alone a b e = omega (arith, e)

      by : (x : PlainForm) → AreThere (length part.groups) (length part.invokes) x
          → island_occurrences flat (is_island flat (flattened_one kids part c place x)) (flat_form kids part x) ≡ island_counted part inners (is_any_island part (here c place x)) x
          → occurrences_of flat (become kids part c place x) ≡ island_counted part inners (is_any_island part (here c place x)) x
      by Empty h e = alone _ _ e
      by (Enable g) h e = alone _ _ e
      by (Seq ss) h e = alone _ _ e
      by (Par arms) h e = alone _ _ e
      by (If test comb a b) h e = alone _ _ e
      by (While test comb a) h e = alone _ _ e
      by (Repeat count a) h e = alone _ _ e
      by (StaticSeq written ss) h e = alone _ _ e
      by (StaticPar written arms) h e = alone _ _ e
      by (StaticIf written test a b) h e = alone _ _ e
      by (StaticRepeat written count a) h e = alone _ _ e
      by (Timed k) h e =
          ap₂ (λ n m. n + m) e (occurrences_still flat (visit_parts c (flat_form kids part (Timed k))) (timed_still k (h.1 k (inl refl)) c))
          ∙ alone (island_counted part inners (is_any_island part (here c place (Timed k))) (Timed k)) _ refl

  -- a statement of what it becomes is itself, flattened, or is not in dynamic control
  only : (x w : Visited) → In (x ∷ []) w → (x ≡ w) ⊎ (is_dynamic w.context ≡ false)
  only x w (inl e) = inl e
  only x w (inr i) = absurd i

  pub become_head : (c : Context) (place : Place) (form : PlainForm) → AllThere (timed_in form) (length part.invokes) → (w : Visited) → In (become kids part c place form) w
      → (flattened_one kids part c place form ≡ w) ⊎ (is_dynamic w.context ≡ false)
  become_head c place Empty timed w = only (flattened_one kids part c place Empty) w
  become_head c place (Enable g) timed w = only (flattened_one kids part c place (Enable g)) w
  become_head c place (Seq ss) timed w = only (flattened_one kids part c place (Seq ss)) w
  become_head c place (Par arms) timed w = only (flattened_one kids part c place (Par arms)) w
  become_head c place (If test comb a b) timed w = only (flattened_one kids part c place (If test comb a b)) w
  become_head c place (While test comb a) timed w = only (flattened_one kids part c place (While test comb a)) w
  become_head c place (Repeat count a) timed w = only (flattened_one kids part c place (Repeat count a)) w
  become_head c place (StaticSeq written ss) timed w = only (flattened_one kids part c place (StaticSeq written ss)) w
  become_head c place (StaticPar written arms) timed w = only (flattened_one kids part c place (StaticPar written arms)) w
  become_head c place (StaticIf written test a b) timed w = only (flattened_one kids part c place (StaticIf written test a b)) w
  become_head c place (StaticRepeat written count a) timed w = only (flattened_one kids part c place (StaticRepeat written count a)) w
  become_head c place (Timed k) timed w = ⊎_elim (λ e. inl e) (λ j. inr (timed_still k (timed k (inl refl)) c w j))

  all_visits : (vs : List Visited) → Forms (AreThere (length part.groups) (length part.invokes)) vs → length (flat_map (becomes kids part) vs) ≡ statements_counted part inners vs
  all_visits [] h = refl
  all_visits (v ∷ vs) h =
      length-append (becomes kids part v) (flat_map (becomes kids part) vs)
      ∙ ap₂ (λ n m. n + m) (become_visits v.context v.place v.form (h v (inl refl)).1) (all_visits vs (λ w i. h w (inr i)))

  all_islands : (vs : List Visited) → Forms (AreThere (length part.groups) (length part.invokes)) vs → occurrences_of flat (flat_map (becomes kids part) vs) ≡ occurrences_counted part inners vs
  all_islands [] h = refl
  all_islands (v ∷ vs) h =
      occurrences_of-append flat (becomes kids part v) (flat_map (becomes kids part) vs)
      ∙ ap₂ (λ n m. n + m) (become_islands v.context v.place v.form (h v (inl refl))) (all_islands vs (λ w i. h w (inr i)))

  pub forms_there : Forms (AreThere (length part.groups) (length part.invokes)) (statements_in part)
  forms_there = there_one (length part.groups) (length part.invokes) Dynamic part.control controlled.enables controlled.timed

  -- THE STATEMENTS of the flat component, and the occurrences in its islands
  pub node_visits : length (statements_in flat) ≡ statements_counted part inners (statements_in part)
  node_visits = ap length (flat_visits kids part Dynamic part.control) ∙ all_visits (statements_in part) forms_there

  pub node_islands : occurrences_of flat (statements_in flat) ≡ occurrences_counted part inners (statements_in part)
  node_islands = ap (occurrences_of flat) (flat_visits kids part Dynamic part.control) ∙ all_islands (statements_in part) forms_there

  node_occurs : may_stand part InStatic (form_of part.control) ≡ true → occurrences flat flat.control ≡ occurrences_counted part inners (statements_in part)
  node_occurs m = each_occurs part.control controlled.enables controlled.timed ∙ sym (control_counted part inners part.control m)

control_may : (part : PlainComponent) (cells : Cells) → IsRuled part (Node part cells) → (n : ℕ) → part.latency ≡ Some n → may_stand part InStatic (form_of part.control) ≡ true
control_may part cells ruled n static = by (may_stand part InStatic (form_of part.control)) refl
  where
    by : (b : Bool) → may_stand part InStatic (form_of part.control) ≡ b → b ≡ true
    by true e = refl
    by false e = absurd (ruled.control n static (inl e))

mutual
  counted_alike : (i : Instance) → AllRuled i → AllFair i → AllControlled i → CountedAlike i
  counted_alike (Node part cells) ruled fair controlled =
      let lasting = kids_last cells fair.1 controlled.1 in
      let may = kids_may cells ruled.1 fair.1 controlled.1 in (
        λ static. let n = some_of part.latency static in node_occurs part cells fair.0 controlled.0 lasting may (counted_below cells ruled.1 fair.1 controlled.1) (control_may part cells ruled.0 n.0 n.1),
        node_visits part cells fair.0 controlled.0 lasting may (counted_below cells ruled.1 fair.1 controlled.1),
      )

  pub counted_below : (cells : Cells) → AllRuledBelow cells → AllFairBelow cells → AllControlledBelow cells → (c : ℕ) (child : Instance) → cell_at cells c ≡ OfInstance child → CountedAlike child
  counted_below no_cells ruled fair controlled c child at = absurd (cc)
  counted_below (a_primitive row rest) ruled fair controlled zero child at = absurd (cc)
  counted_below (a_primitive row rest) ruled fair controlled (suc c) child at = counted_below rest ruled fair controlled c child at
  counted_below (an_instance other rest) ruled fair controlled zero child at = let same : other ≡ child = cc in subst CountedAlike same (counted_alike other ruled.0 fair.0 controlled.0)
  counted_below (an_instance other rest) ruled fair controlled (suc c) child at = counted_below rest ruled.1 fair.1 controlled.1 c child at
