-- THE CONTROL of an instance, with static invokes, is carried by that of the shared instance: statement by statement, and by induction on the tree.
use Rattle.std.proofs.Common.{◌≡◌, ℕ, zero, suc, ◌+◌, inl, inr, List, refl, sym, ap, ◌∙◌, subst, arith}
use Rattle.cx_text.proofs.MemberLaws.{in_left, in_right}
use Rattle.cx_text.specs.Members.{In}
use Rattle.cx_text.specs.declared.places.Place.{Place}
use Rattle.cx_meaning.specs.declared.ports.PortRef.{PortRef}
use Rattle.cx_meaning.specs.Designs.{PlainComponent, PlainForm, Empty, Enable, Seq, Par, If, While, Repeat, StaticSeq, StaticPar, StaticIf, StaticRepeat, Timed, PlainStatement, Placed, PlainStatements, no_statements, a_statement}
use Rattle.cx_meaning.specs.Instances.{Instance, Node, Cells, a_primitive, an_instance, OfInstance, part_of, cells_of, cell_at, State}
use Rattle.cx_meaning.specs.Control.{Leaves, run_form, run}
use Rattle.cx_meaning.specs.Cycles.{Fault}
use Rattle.cx_meaning.specs.Sights.{Held}
use Rattle.cx_rules.specs.Circles.{AreAcyclic, AcyclicBelow}
use Rattle.cx_rules.specs.Invokes.{drives_all}
use Rattle.cx_rules.specs.Items.{Context, Dynamic, below_dynamic, Visited, visit, visit_all, statements_in}
use Rattle.cx_rules.specs.Wellformed.{IsForm}
use Rattle.cx_rewrites.specs.Moving.{moved_port, moved_form, moved_statement, moved_statements}
use Rattle.cx_rewrites.specs.Renaming.{renamed}
use Rattle.cx_rewrites.specs.Tallies.{Tally, none, uncounted, count, count_form}
use Rattle.cx_rewrites.specs.Carrying.{Exact, Carries}
use Rattle.cx_rewrites.specs.Beside.{MergesCarry, FormBeside, outright, empties, seqs, pars, ifs, whiles, repeats, Beside, placed, PartsBeside, no_parts, a_part, ArmsBeside, no_arms, an_arm}
use Rattle.cx_rewrites.proofs.BesideLemmas.{run_carries}
use Rattle.cx_rewrites.proofs.TurnLemmas.{equals_carry}
use Rattle.cx_flattening.specs.Controlled.{AllControlled, AllControlledBelow}
use Rattle.cx_flattening.specs.Whole.{whole_leaves, whole_control, whole_below}
use Rattle.cx_flattening.proofs.DeedsApart.{Stands}
use Rattle.cx_flattening.proofs.Ruled.{AllRuled, AllRuledBelow}
use Rattle.cx_flattening.proofs.WholeSteady.{whole_child}
use Rattle.cx_sharing.specs.Giving.{new_cell}
use Rattle.cx_sharing.specs.Following.{SharedStands, shared_fault}
use Rattle.cx_sharing.proofs.TwinStates.{merged_state, held_other}
use Rattle.cx_sharing.proofs.SharedLeaves.{recount, rests, test_shared}
use Rattle.cx_sharing.proofs.WholeTwins.{Twins, twins, twin_of, fit_of, Remain, none_left, a_row_stays, a_row_goes, a_child}
use Rattle.cx_sharing.proofs.WholeIslands.{island_alike}
use Rattle.cx_sharing.proofs.WholeLeaves.{drives_alike, enable_alike}

-- the forms of a tree that keeps the rules
ruled_forms : (i : Instance) → AllRuled i → (v : Visited) → In (statements_in (part_of i)) v → IsForm (part_of i) v.form
ruled_forms (Node part cells) rules v k = (rules.0.statements v k).form

module _ {i j : Instance} (both : Twins i j) (controlled : AllControlled i) (rules : AllRuled i) (calm : AreAcyclic i) (held : Held)
    (kids : (c : ℕ) (child : Instance) → cell_at (cells_of i) c ≡ OfInstance child → (own : Held)
    → Carries Exact (λ counted. SharedStands child) (shared_fault child) (λ s n. none) (whole_below (cells_of i) c own) (whole_below (cells_of j) (new_cell (part_of i) c) own)) where
  abbrev R : Tally → State → State → Type 0
  R counted = SharedStands i

  abbrev move : PortRef → PortRef
  move = renamed (new_cell (part_of i))

  abbrev L : Leaves State Fault
  L = whole_leaves i (whole_below (cells_of i)) held

  abbrev M : Leaves State Fault
  M = whole_leaves j (whole_below (cells_of j)) held

  -- what a statement visits stands in the component's control
  abbrev AllStand : List Visited → Type 0
  AllStand vs = (v : Visited) → In vs v → In (statements_in (part_of i)) v

  merges : (arm : PlainStatement) (later : PlainStatements) → MergesCarry Exact R (shared_fault i) L uncounted M arm later (moved_statement move arm)
  merges arm later before s n a b x y t v first second one two =
      merged_state i (drives_all (part_of i) arm) (drives_all (part_of j) (moved_statement move arm)) a b x y (λ e none_given. drives_alike both e none_given arm) (λ e path. held_other i j (twin_of both) e path) one two

  stands_here : (context : Context) (form : PlainForm) (place : Place) → AllStand (visit context (Placed form place)) → Stands (part_of i) form
  stands_here context form place all = record { context = context; place = place; inside = all }

  island_beside : (context : Context) (form : PlainForm) (place : Place) → AllStand (visit context (Placed form place)) → Carries Exact R (shared_fault i) (λ s n. none) (L.island form) (M.island (moved_form move form))
  island_beside context form place all = island_alike both controlled rules calm held form (stands_here context form place all) (ruled_forms i rules)

  mutual
    form_beside : (context : Context) (form : PlainForm) (place : Place) → AllStand (visit context (Placed form place)) → FormBeside Exact R (shared_fault i) L uncounted M form (moved_form move form)
    form_beside context Empty place all = empties
    form_beside context (Enable g) place all = outright (enable_alike both controlled rules calm (ruled_forms i rules) held (whole_below (cells_of i)) (whole_below (cells_of j)) kids g (stands_here context (Enable g) place all))
    form_beside context (Seq parts) place all = seqs (parts_beside (below_dynamic context) parts (λ v k. all v (inr k)))
    form_beside context (Par arms) place all = pars (arms_beside (below_dynamic context) arms (λ v k. all v (inr k)))
    form_beside context (If test comb a b) place all =
        ifs {p = test} {q = moved_port move test}
        (test_shared i j (twin_of both) (fit_of both) held (record { context = context; form = If test comb a b; place = place }) test comb (all (record { context = context; form = If test comb a b; place = place }) (inl refl)) (λ x y. refl))
        (beside (below_dynamic context) a (λ v k. all v (inr (in_left (visit (below_dynamic context) a) (visit (below_dynamic context) b) v k))))
        (beside (below_dynamic context) b (λ v k. all v (inr (in_right (visit (below_dynamic context) a) (visit (below_dynamic context) b) v k))))
    form_beside context (While test comb a) place all =
        whiles {p = test} {q = moved_port move test}
        (test_shared i j (twin_of both) (fit_of both) held (record { context = context; form = While test comb a; place = place }) test comb (all (record { context = context; form = While test comb a; place = place }) (inl refl)) (λ x y. refl))
        (beside (below_dynamic context) a (λ v k. all v (inr k)))
    form_beside context (Repeat count a) place all = repeats (beside (below_dynamic context) a (λ v k. all v (inr k)))
    form_beside context (StaticSeq length parts) place all = outright (island_beside context (StaticSeq length parts) place all)
    form_beside context (StaticPar length arms) place all = outright (island_beside context (StaticPar length arms) place all)
    form_beside context (StaticIf length test a b) place all = outright (island_beside context (StaticIf length test a b) place all)
    form_beside context (StaticRepeat length count a) place all = outright (island_beside context (StaticRepeat length count a) place all)
    form_beside context (Timed k) place all =
        outright (recount (SharedStands i) (shared_fault i) (λ s n. none) (count_form L uncounted (Timed k)) (run_form L (Timed k)) (run_form M (Timed k)) (island_beside context (Timed k) place all))

    beside : (context : Context) (s : PlainStatement) → AllStand (visit context s) → Beside Exact R (shared_fault i) L uncounted M s (moved_statement move s)
    beside context (Placed form place) all = placed (form_beside context form place all)

    parts_beside : (context : Context) (ss : PlainStatements) → AllStand (visit_all context ss) → PartsBeside Exact R (shared_fault i) L uncounted M ss (moved_statements move ss)
    parts_beside context no_statements all = no_parts
    parts_beside context (a_statement s ss) all =
        a_part (beside context s (λ v k. all v (in_left (visit context s) (visit_all context ss) v k))) (parts_beside context ss (λ v k. all v (in_right (visit context s) (visit_all context ss) v k)))

    arms_beside : (context : Context) (ss : PlainStatements) → AllStand (visit_all context ss) → ArmsBeside Exact R (shared_fault i) L uncounted M ss (moved_statements move ss)
    arms_beside context no_statements all = no_arms
    arms_beside context (a_statement s ss) all =
        an_arm (merges s ss) (beside context s (λ v k. all v (in_left (visit context s) (visit_all context ss) v k))) (arms_beside context ss (λ v k. all v (in_right (visit context s) (visit_all context ss) v k)))

  -- THE CONTROL
  control_of : (x : Instance) (s : State) (m : ℕ) → whole_control x held s m ≡ run (whole_leaves x (whole_below (cells_of x)) held) (part_of x).control s m
  control_of (Node part cells) s m = refl

  pub own_alike : Carries Exact R (shared_fault i) (λ s n. none) (whole_control i held) (whole_control j held)
  own_alike =
      equals_carry Exact R (shared_fault i) (λ s n. none) (run L (part_of i).control) (whole_control i held) (run M (moved_statement move (part_of i).control)) (whole_control j held)
      (control_of i)
      (λ s n. control_of j s n ∙ ap (λ (x : PlainComponent). run M x.control s n) (twin_of both).part)
      (recount (SharedStands i) (shared_fault i) (count L uncounted (part_of i).control) (λ s n. none) (run L (part_of i).control) (run M (moved_statement move (part_of i).control))
      (run_carries Exact R (shared_fault i) L uncounted M (rests i j (twin_of both) (fit_of both) held) (beside Dynamic (part_of i).control (λ v k. k))))

-- the run of a child, by the new number of a cell
abbrev Below : Instance → Instance → ℕ → Cells → ℕ → Instance → Type 0
Below i j c list n child = (own : Held) → Carries Exact (λ counted. SharedStands child) (shared_fault child) (λ s m. none) (whole_below list n own) (whole_below (cells_of j) (new_cell (part_of i) c) own)

one_further : (i j : Instance) (first n : ℕ) (list : Cells) (child : Instance) → Below i j (suc first + n) list n child → Below i j (first + suc n) list n child
one_further i j first n list child h = let next : suc first + n ≡ first + suc n = omega arith in subst (λ k. Below i j k list n child) next h

this_one : (i j : Instance) (first : ℕ) (one twin : Instance) (rest : Cells) → cell_at (cells_of j) (new_cell (part_of i) first) ≡ OfInstance twin
    → ((own : Held) → Carries Exact (λ counted. SharedStands one) (shared_fault one) (λ s m. none) (whole_control one own) (whole_control twin own)) → Below i j (first + 0) (an_instance one rest) 0 one
this_one i j first one twin rest there runs own =
    let start : first ≡ first + 0 = omega arith in
    subst (λ k. Carries Exact (λ counted. SharedStands one) (shared_fault one) (λ s m. none) (whole_below (an_instance one rest) 0 own) (whole_below (cells_of j) (new_cell (part_of i) k) own)) start
    (equals_carry Exact (λ counted. SharedStands one) (shared_fault one) (λ s m. none) (whole_control one own) (whole_below (an_instance one rest) 0 own) (whole_control twin own) (whole_below (cells_of j) (new_cell (part_of i) first) own)
    (λ s n. refl) (λ s n. whole_child (cells_of j) (new_cell (part_of i) first) twin there own s n) (runs own))

-- EVERY INSTANCE of the tree
mutual
  pub control_alike : {i j : Instance} → Twins i j → AllControlled i → AllRuled i → AreAcyclic i → (held : Held) → Carries Exact (λ counted. SharedStands i) (shared_fault i) (λ s n. none) (whole_control i held) (whole_control j held)
  control_alike (twins {part} {other} {cells} {kin} twin fit invoked remain) controlled rules calm held =
      own_alike (twins twin fit invoked remain) controlled rules calm held
      (λ c child at. let start : c ≡ 0 + c = omega arith in subst (λ k. Below (Node part cells) (Node other kin) k cells c child) (sym start) (below_alike remain controlled.1 rules.1 calm.1 c child at))

  below_alike : {i j : Instance} {first : ℕ} {list left : Cells} → Remain i j first list left → AllControlledBelow list → AllRuledBelow list → AcyclicBelow list
      → (n : ℕ) (child : Instance) → cell_at list n ≡ OfInstance child → Below i j (first + n) list n child
  below_alike none_left controlled rules calm n child e = absurd (cc)
  below_alike (a_row_stays row twin on rest) controlled rules calm zero child e = absurd (cc)
  below_alike {i} {j} {first} {list = a_primitive _ more} (a_row_stays row twin on rest) controlled rules calm (suc n) child e = one_further i j first n more child (below_alike rest controlled rules calm n child e)
  below_alike (a_row_goes row off rest) controlled rules calm zero child e = absurd (cc)
  below_alike {i} {j} {first} {list = a_primitive _ more} (a_row_goes row off rest) controlled rules calm (suc n) child e = one_further i j first n more child (below_alike rest controlled rules calm n child e)
  below_alike {i} {j} {first} {list = an_instance _ more} (a_child one twin here there lone both rest) controlled rules calm zero child e =
      subst (λ x. Below i j (first + 0) (an_instance one more) 0 x) (let same : one ≡ child = cc in same) (this_one i j first one twin more there (control_alike both controlled.0 rules.0 calm.0))
  below_alike {i} {j} {first} {list = an_instance _ more} (a_child one twin here there lone both rest) controlled rules calm (suc n) child e = one_further i j first n more child (below_alike rest controlled.1 rules.1 calm.1 n child e)
