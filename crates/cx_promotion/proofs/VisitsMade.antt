-- STATEMENTS OF THE NEW DESIGN: each comes from one of the old design, or is a piece or an enable in one.
use Rattle.std.proofs.Common.{◌≡◌, ℕ, zero, suc, inl, inr, false, List, [], ◌∷◌, ◌++◌, Some, None, refl, subst}
use Rattle.std.specs.Prelude.{slice_get}
use Rattle.cx_text.proofs.MemberLaws.{in_left, in_right, of_joined}
use Rattle.cx_text.specs.declared.places.Place.{Place}
use Rattle.cx_meaning.specs.Designs.{PlainForm, Empty, Enable, Seq, Par, If, While, Repeat, StaticSeq, Timed, PlainStatement, Placed, PlainStatements, no_statements, a_statement, list_of}
use Rattle.cx_text.specs.Members.{In}
use Rattle.cx_rules.specs.Items.{Context, Dynamic, InStatic, Visited, visit, visit_parts, visit_all, test_in}
use Rattle.cx_rules.specs.Invokes.{invoke_in}
use Rattle.cx_rules.specs.RaceRule.{arms_of, enabled_group}
use Rattle.cx_rules.specs.StaticControl.{is_static}
use Rattle.cx_rewrites.specs.Beside.{joined}
use Rattle.cx_promotion.specs.Made as made
use Rattle.cx_promotion.specs.Made.{IsRun, FormMade, StatementMade, PartsMade, ArmsMade}

module _ (promoted : ℕ → Type 0) where
  -- arm n of the new statement was made of arm n of the old one
  abbrev pub ArmsFrom : PlainForm → PlainForm → Type 0
  ArmsFrom old new = (n : ℕ) (t : PlainStatement) → slice_get (arms_of new) n ≡ Some t → (s : PlainStatement) × (slice_get (arms_of old) n ≡ Some s) × StatementMade promoted s t

  -- where a statement in dynamic control comes from, and one in static control
  pub data Came (vs : List Visited) : Context → PlainForm → Type 0 where
    of_dynamic : {form : PlainForm} (v : Visited) → In vs v → test_in form ≡ test_in v.form → is_static form ≡ false → enabled_group form ≡ enabled_group v.form → invoke_in form ≡ [] → ArmsFrom v.form form → Came vs Dynamic form
    of_piece : {s : PlainStatement} {run : PlainStatements} → IsRun promoted (a_statement s run) → Came vs Dynamic (StaticSeq None (a_statement s run))
    of_enable : (v : Visited) (g : ℕ) → In vs v → v.form ≡ Enable g → promoted g → Came vs InStatic (Enable g)
    the_same : (v : Visited) → In vs v → Came vs v.context v.form

  wider : {vs ws : List Visited} {context : Context} {form : PlainForm} → ((v : Visited) → In vs v → In ws v) → Came vs context form → Came ws context form
  wider h (of_dynamic v inside tests dynamic enables bare arms) = of_dynamic v (h v inside) tests dynamic enables bare arms
  wider h (of_piece run) = of_piece run
  wider h (of_enable v g inside is long) = of_enable v g (h v inside) is long
  wider h (the_same v inside) = the_same v (h v inside)

  no_arms : (form new : PlainForm) → arms_of new ≡ [] → ArmsFrom form new
  no_arms form new none n t e = absurd (no_item n t (subst (λ list. slice_get list n ≡ Some t) none e))
    where
      no_item : (n : ℕ) (t : PlainStatement) → slice_get [] n ≡ Some t → ⊥
      no_item n t e = cc

  arms_from : {ss tt : PlainStatements} → ArmsMade promoted ss tt → (n : ℕ) (t : PlainStatement) → slice_get (list_of tt) n ≡ Some t → (s : PlainStatement) × (slice_get (list_of ss) n ≡ Some s) × StatementMade promoted s t
  arms_from made.no_arms n t e = absurd (cc)
  arms_from (made.an_arm {s = s} {t = u} first later) zero t e = let same : u ≡ t = cc in (s, refl, subst (StatementMade promoted s) same first)
  arms_from (made.an_arm first later) (suc n) t e = arms_from later n t e

  -- where each visited statement of a made one comes from
  abbrev pub CameAll : List Visited → List Visited → Type 0
  CameAll vs ws = (w : Visited) → In ws w → Came vs w.context w.form

  abbrev at : Context → PlainForm → Place → Visited
  at context form place = record { context = context; form = form; place = place }

  head_or : (vs ws : List Visited) (context : Context) (form : PlainForm) (place : Place) → Came vs context form → CameAll vs ws → CameAll vs (at context form place ∷ ws)
  head_or vs ws context form place first each w (inl e) = subst (λ (x : Visited). Came vs x.context x.form) e first
  head_or vs ws context form place first each w (inr k) = each w k

  both_come : (vs xs ys : List Visited) → CameAll vs xs → CameAll vs ys → CameAll vs (xs ++ ys)
  both_come vs xs ys one two w k = of_joined xs ys w k (one w) (two w)

  -- of a run: its enables
  run_comes : {ss : PlainStatements} → IsRun promoted ss → CameAll (visit_all Dynamic ss) (visit_all InStatic ss)
  run_comes made.no_more w k = absurd k
  run_comes (made.one_more {g = g} {p = p} {ss = ss} long later) w (inl e) =
      subst (λ (x : Visited). Came (visit_all Dynamic (a_statement (Placed (Enable g) p) ss)) x.context x.form) e (of_enable (at Dynamic (Enable g) p) g (inl refl) refl long)
  run_comes (made.one_more {g = g} {p = p} {ss = ss} long later) w (inr k) = wider (λ v j. inr j) (run_comes later w k)

  -- of static control: itself
  same_parts : (context : Context) (form : PlainForm) (place : Place) → CameAll (visit context (Placed form place)) (visit_parts context form)
  same_parts context form place w k = the_same w (inr k)

  visit_front : (first later : PlainStatements) (v : Visited) → In (visit_all Dynamic first) v → In (visit_all Dynamic (joined first later)) v
  visit_front no_statements later v k = absurd k
  visit_front (a_statement s ss) later v k =
      of_joined (visit Dynamic s) (visit_all Dynamic ss) v k (in_left (visit Dynamic s) (visit_all Dynamic (joined ss later)) v) (λ j. in_right (visit Dynamic s) (visit_all Dynamic (joined ss later)) v (visit_front ss later v j))

  visit_back : (first later : PlainStatements) (v : Visited) → In (visit_all Dynamic later) v → In (visit_all Dynamic (joined first later)) v
  visit_back no_statements later v k = k
  visit_back (a_statement s ss) later v k = in_right (visit Dynamic s) (visit_all Dynamic (joined ss later)) v (visit_back ss later v k)

  -- of a dynamic form and the same kind of form
  dynamic_comes : (old new : PlainForm) (p : Place) → test_in new ≡ test_in old → is_static new ≡ false → enabled_group new ≡ enabled_group old → invoke_in new ≡ [] → ArmsFrom old new → Came (visit Dynamic (Placed old p)) Dynamic new
  dynamic_comes old new p tests dynamic enables bare arms = of_dynamic (at Dynamic old p) (inl refl) tests dynamic enables bare arms

  mutual
    form_comes : {form twin : PlainForm} → FormMade promoted form twin → (p : Place) → Came (visit Dynamic (Placed form p)) Dynamic twin × CameAll (visit Dynamic (Placed form p)) (visit_parts Dynamic twin)
    form_comes made.empty p = (dynamic_comes Empty Empty p refl refl refl refl (no_arms Empty Empty refl), λ w k. absurd k)
    form_comes (made.enable {g = g}) p = (dynamic_comes (Enable g) (Enable g) p refl refl refl refl (no_arms (Enable g) (Enable g) refl), λ w k. absurd k)
    form_comes (made.seq {parts = parts} {others = others} h) p =
        (dynamic_comes (Seq parts) (Seq others) p refl refl refl refl (no_arms (Seq parts) (Seq others) refl), λ w k. wider (λ v j. inr j) (parts_come h w k))
    form_comes (made.collapsed {parts = parts} {form = twin} {p = q} h) p = (
      wider (λ v j. inr j) (parts_come h (at Dynamic twin q) (inl refl)),
      λ w k. wider (λ v j. inr j) (parts_come h w (inr (in_left (visit_parts Dynamic twin) [] w k))),
    )
    form_comes (made.par {arms = arms} {others = others} h) p = (dynamic_comes (Par arms) (Par others) p refl refl refl refl (arms_from h), λ w k. wider (λ v j. inr j) (arms_come h w k))
    form_comes (made.if_made {test = test} {comb = comb} {a = a} {b = b} {x = x} {y = y} one two) p = (
      dynamic_comes (If test comb a b) (If test comb x y) p refl refl refl refl (no_arms (If test comb a b) (If test comb x y) refl),
      both_come (visit Dynamic (Placed (If test comb a b) p)) (visit Dynamic x) (visit Dynamic y)
          (λ w k. wider (λ v j. inr (in_left (visit Dynamic a) (visit Dynamic b) v j)) (statement_comes one w k))
          (λ w k. wider (λ v j. inr (in_right (visit Dynamic a) (visit Dynamic b) v j)) (statement_comes two w k)),
    )
    form_comes (made.while_made {test = test} {comb = comb} {a = a} {x = x} one) p =
        (dynamic_comes (While test comb a) (While test comb x) p refl refl refl refl (no_arms (While test comb a) (While test comb x) refl), λ w k. wider (λ v j. inr j) (statement_comes one w k))
    form_comes (made.repeat_made {count = count} {a = a} {x = x} one) p =
        (dynamic_comes (Repeat count a) (Repeat count x) p refl refl refl refl (no_arms (Repeat count a) (Repeat count x) refl), λ w k. wider (λ v j. inr j) (statement_comes one w k))
    form_comes (made.static {form = form} is) p = (the_same (at Dynamic form p) (inl refl), same_parts Dynamic form p)
    form_comes (made.timed {k = n}) p = (the_same (at Dynamic (Timed n) p) (inl refl), λ w k. absurd k)

    pub statement_comes : {s t : PlainStatement} → StatementMade promoted s t → CameAll (visit Dynamic s) (visit Dynamic t)
    statement_comes (made.placed {form = form} {other = twin} {p = p} {q = q} h) w k =
        let r = form_comes h p in head_or (visit Dynamic (Placed form p)) (visit_parts Dynamic twin) Dynamic twin q r.0 r.1 w k

    parts_come : {ss tt : PlainStatements} → PartsMade promoted ss tt → CameAll (visit_all Dynamic ss) (visit_all Dynamic tt)
    parts_come made.no_parts w k = absurd k
    parts_come (made.a_part {s = s} {t = t} {ss = ss} {tt = tt} first later) w k =
        both_come (visit_all Dynamic (a_statement s ss)) (visit Dynamic t) (visit_all Dynamic tt)
        (λ x j. wider (in_left (visit Dynamic s) (visit_all Dynamic ss)) (statement_comes first x j))
        (λ x j. wider (in_right (visit Dynamic s) (visit_all Dynamic ss)) (parts_come later x j)) w k
    parts_come (made.a_run {s = s} {run = run} {ss = ss} {tt = tt} {p = p} is later) w k =
        both_come (visit_all Dynamic (joined (a_statement s run) ss)) (visit Dynamic (Placed (StaticSeq None (a_statement s run)) p)) (visit_all Dynamic tt)
        (head_or (visit_all Dynamic (joined (a_statement s run) ss)) (visit_all InStatic (a_statement s run)) Dynamic (StaticSeq None (a_statement s run)) p (of_piece is)
        (λ x j. wider (visit_front (a_statement s run) ss) (run_comes is x j)))
        (λ x j. wider (visit_back (a_statement s run) ss) (parts_come later x j)) w k

    arms_come : {ss tt : PlainStatements} → ArmsMade promoted ss tt → CameAll (visit_all Dynamic ss) (visit_all Dynamic tt)
    arms_come made.no_arms w k = absurd k
    arms_come (made.an_arm {s = s} {t = t} {ss = ss} {tt = tt} first later) w k =
        both_come (visit_all Dynamic (a_statement s ss)) (visit Dynamic t) (visit_all Dynamic tt)
        (λ x j. wider (in_left (visit Dynamic s) (visit_all Dynamic ss)) (statement_comes first x j))
        (λ x j. wider (in_right (visit Dynamic s) (visit_all Dynamic ss)) (arms_come later x j)) w k
