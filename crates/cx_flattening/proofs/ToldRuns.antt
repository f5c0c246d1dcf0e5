-- A RUN OF A TREE THAT KEEPS THE RULES faults at ports that may be looked at.
use Rattle.std.proofs.Common.{◌≡◌, ℕ, zero, suc, ◌<◌, inl, inr, Bool, true, false, [], length, Option, Some, None, refl, sym, ap, ◌∙◌, subst}
use Rattle.std.specs.Prelude.{is_some}
use Rattle.cx_text.proofs.MemberLaws.{in_left, in_right}
use Rattle.cx_text.specs.Members.{In}
use Rattle.cx_text.specs.declared.places.Place.{Place}
use Rattle.cx_meaning.specs.declared.ports.PortRef.{PortRef}
use Rattle.cx_meaning.specs.declared.ports.PortRef.TheVariants as ports
use Rattle.cx_meaning.specs.declared.kinds.GroupKind.{GroupKind}
use Rattle.cx_meaning.specs.declared.kinds.GroupKind.TheVariants as kinds
use Rattle.cx_meaning.specs.Designs.{PlainComponent, group_at, PlainForm, Empty, Enable, Seq, Par, If, While, Repeat, StaticSeq, StaticPar, StaticIf, StaticRepeat, Timed, PlainStatement, Placed, PlainStatements, no_statements, a_statement}
use Rattle.cx_meaning.specs.Instances.{Instance, Node, Cells, no_cells, a_primitive, an_instance, OfInstance, cell_at, State, under, idle}
use Rattle.cx_meaning.specs.Truths.{Truth, truth_of}
use Rattle.cx_meaning.specs.Truths as truths
use Rattle.cx_meaning.specs.Active.{group, capture, comb}
use Rattle.cx_meaning.specs.Sights.{Held, seen}
use Rattle.cx_meaning.specs.Cycles.{Fault, Ended}
use Rattle.cx_meaning.specs.Answers.{Answer, End, More, turns_of, idle_turn, one_turn}
use Rattle.cx_meaning.specs.Answers as answers
use Rattle.cx_meaning.specs.Control.{run}
use Rattle.cx_meaning.specs.Islands.{turn_of}
use Rattle.cx_meaning.specs.Calls.{hole_turn, test, test_of, called, captures, lift_answer, inputs_of_call}
use Rattle.cx_meaning.specs.Running.{Children}
use Rattle.cx_rules.specs.Items.{Dynamic, Visited, visit, visit_all, statements_in}
use Rattle.cx_rules.specs.InvokeShape.{latency_at, is_static_port}
use Rattle.cx_rules.specs.Wellformed.{IsForm}
use Rattle.cx_flattening.specs.Whole.{is_static, whole_cycle, whole_island, after_child, group_turn, call_or_turns, enable_kind, whole_leaves, whole_control, whole_below}
use Rattle.cx_flattening.specs.Fair.{IsNamed, AllFair, AllFairBelow}
use Rattle.cx_flattening.specs.Controlled.{AllControlled, AllControlledBelow}
use Rattle.cx_flattening.specs.Faulty.{FaultAt}
use Rattle.cx_flattening.proofs.FaultRuns.{Told, TurnTold, TestTold, then_told, idle_told, turn_told, turns_told, FormTells, Tells, AllTell, run_told}
use Rattle.cx_flattening.proofs.KnownFaults.{Known, EndedTold, turn_ended, whole_told, top_named, island_told}
use Rattle.cx_flattening.proofs.Ruled.{IsRuled, AllRuled, AllRuledBelow}
use Rattle.cx_flattening.proofs.FairParts.{AllHave, AllHaveBelow, named, groups_there, invokes_there, tests_named}
use Rattle.cx_flattening.proofs.AcceptedAsks.{called_is}

-- a run of the child at a cell, where it is dynamic
abbrev ChildTold : Cells → Children → Type 0
ChildTold cells children =
    (c : ℕ) (child : Instance) → cell_at cells c ≡ OfInstance child → is_static child ≡ false → (held : Held) (s : State) (n : ℕ) → Told (Known false child) (children c held s n)

module _ (part : PlainComponent) (cells : Cells) (fair : AllFair (Node part cells)) (controlled : AllControlled (Node part cells)) (rules : AllRuled (Node part cells)) (have : AllHave (Node part cells))
    (below : Children) (tells : ChildTold cells below) (held : Held) where
  abbrev i : Instance
  i = Node part cells

  ruled : IsRuled part i
  ruled = rules.0

  abbrev Inside : PlainStatement → Type 0
  Inside s = (v : Visited) → In (visit Dynamic s) v → In (statements_in part) v

  island_at : (form : PlainForm) (place : Place) → Inside (Placed form place) → (s : State) (n : ℕ) → Told (Known false i) (whole_island i held form s n)
  island_at form place inside s n =
      island_told part cells fair controlled form
      (record {
        enables = groups_there part cells ruled have.0 (Placed form place) inside;
        timed = invokes_there part cells ruled have.0 (Placed form place) inside;
        tests = tests_named part cells ruled have.0 (Placed form place) inside;
      }) held s n

  -- a group, turn by turn
  hole_told : (g : ℕ) → g < length part.groups → (x : Ended) (t : Truth) → EndedTold (Known false i) x → TurnTold (Known false i) (hole_turn g x t)
  hole_told g less x truths.One h = tt
  hole_told g less x truths.Zero h = turn_ended (Known false i) x h
  hole_told g less x truths.Conflict h = (refl, less)
  hole_told g less x truths.Undefined h = (refl, less)

  lift_told : (c : ℕ) (child : Instance) → cell_at cells c ≡ OfInstance child → is_static child ≡ false → (s : State) (x : Answer State Fault) → Told (Known false child) x → Told (Known false i) (lift_answer c s x)
  lift_told c child at dynamic s (End own t) h = tt
  lift_told c child at dynamic s (answers.Fault f t) h = (child, at, subst (λ b. FaultAt b child f.path f.port) (sym dynamic) h)
  lift_told c child at dynamic s More h = tt

  after_told : (g c : ℕ) (b : Bool) (s : State) (n : ℕ) → Told (Known false i) (after_child i held g c b s n)
  after_told g c false s n = idle_told (Known false i) (idle i) s n
  after_told g c true s zero = tt
  after_told g c true s (suc n) =
      turn_told (Known false i) (idle i) s (turn_of (whole_cycle i held (capture g c) [] s)) (λ after. idle_turn (idle i) after n)
      (turn_ended (Known false i) (whole_cycle i held (capture g c) [] s) (whole_told false i fair held (capture g c) [] s)) (λ after. idle_told (Known false i) (idle i) after n)

  calls_told : (g : ℕ) → g < length part.groups → (o : Option ℕ) → called i g ≡ o → (s : State) (n : ℕ) → Told (Known false i) (call_or_turns i below held g o s n)
  calls_told g less None e s n =
      turns_told (Known false i) (idle i) (group_turn i held g)
      (λ t. hole_told g less (whole_cycle i held (group g) [] t) (truth_of (seen i held (group g) t (ports.Done g))) (whole_told false i fair held (group g) [] t)) n s
  calls_told g less (Some c) e s n =
      let r = called_is cells (group_at part g).assigns c e in
      let dynamic : is_static r.child ≡ false = ap (λ x. is_some (latency_at x)) (sym r.at) ∙ ap (is_static_port i) (sym r.target) ∙ ruled.dynamic (Some g) r.assign (less, r.among) in
      then_told (Known false i) (lift_answer c s (below c (inputs_of_call i held g c s) (under c s) n)) n (after_child i held g c (captures i g))
      (lift_told c r.child r.at dynamic s (below c (inputs_of_call i held g c s) (under c s) n) (tells c r.child r.at dynamic (inputs_of_call i held g c s) (under c s) n))
      (λ t m. after_told g c (captures i g) t m)

  kind_told : (g : ℕ) (place : Place) → g < length part.groups → Inside (Placed (Enable g) place) → (kind : GroupKind) (s : State) (n : ℕ) → Told (Known false i) (enable_kind i below held g kind s n)
  kind_told g place less inside kinds.Plain s n = calls_told g less (called i g) refl s n
  kind_told g place less inside kinds.Comb s n = calls_told g less (called i g) refl s n
  kind_told g place less inside (kinds.Timed m) s n = island_at (Enable g) place inside s n

  tested : (p : PortRef) (t : Truth) → IsNamed i p → TestTold (Known false i) (test_of p t)
  tested p truths.One h = tt
  tested p truths.Zero h = tt
  tested p truths.Conflict h = top_named part cells fair controlled p h
  tested p truths.Undefined h = top_named part cells fair controlled p h

  mutual
    form_tells : (form : PlainForm) (place : Place) → Inside (Placed form place) → FormTells (Known false i) (whole_leaves i below held) form
    form_tells Empty place inside = tt
    form_tells (Enable g) place inside =
        let form : IsForm part (Enable g) = (ruled.statements (record { context = Dynamic; form = Enable g; place = place }) (inside (record { context = Dynamic; form = Enable g; place = place }) (inl refl))).form in
        λ s n. kind_told g place form.0 inside (group_at part g).kind s n
    form_tells (Seq ss) place inside = all_tell ss (λ v k. inside v (inr k))
    form_tells (Par arms) place inside = all_tell arms (λ v k. inside v (inr k))
    form_tells (If test with_group a b) place inside =
        let v : Visited = record { context = Dynamic; form = If test with_group a b; place = place } in
        let its : IsNamed i test.port = named part cells ruled have.0 test.port (ruled.tests v test (inside v (inl refl)) refl) in (
          λ s. tested test.port (truth_of (seen i held (comb with_group) s test.port)) its,
          (statement_tells a (λ w k. inside w (inr (in_left (visit Dynamic a) (visit Dynamic b) w k))), statement_tells b (λ w k. inside w (inr (in_right (visit Dynamic a) (visit Dynamic b) w k)))),
        )
    form_tells (While test with_group a) place inside =
        let v : Visited = record { context = Dynamic; form = While test with_group a; place = place } in
        let its : IsNamed i test.port = named part cells ruled have.0 test.port (ruled.tests v test (inside v (inl refl)) refl) in (
          λ s. tested test.port (truth_of (seen i held (comb with_group) s test.port)) its,
          statement_tells a (λ w k. inside w (inr k)),
        )
    form_tells (Repeat count a) place inside = statement_tells a (λ w k. inside w (inr k))
    form_tells (StaticSeq written ss) place inside = island_at (StaticSeq written ss) place inside
    form_tells (StaticPar written ss) place inside = island_at (StaticPar written ss) place inside
    form_tells (StaticIf written test a b) place inside = island_at (StaticIf written test a b) place inside
    form_tells (StaticRepeat written count a) place inside = island_at (StaticRepeat written count a) place inside
    form_tells (Timed k) place inside = island_at (Timed k) place inside

    statement_tells : (s : PlainStatement) → Inside s → Tells (Known false i) (whole_leaves i below held) s
    statement_tells (Placed form place) inside = form_tells form place inside

    all_tell : (ss : PlainStatements) → ((v : Visited) → In (visit_all Dynamic ss) v → In (statements_in part) v) → AllTell (Known false i) (whole_leaves i below held) ss
    all_tell no_statements inside = tt
    all_tell (a_statement s ss) inside =
        (statement_tells s (λ v k. inside v (in_left (visit Dynamic s) (visit_all Dynamic ss) v k)), all_tell ss (λ v k. inside v (in_right (visit Dynamic s) (visit_all Dynamic ss) v k)))

  part_told : (s : State) (n : ℕ) → Told (Known false i) (run (whole_leaves i below held) part.control s n)
  part_told s n = run_told (Known false i) (whole_leaves i below held) part.control (statement_tells part.control (λ v k. k)) s n

mutual
  -- THE RUN OF A TREE
  pub control_told : (i : Instance) → AllFair i → AllControlled i → AllRuled i → AllHave i → (held : Held) (s : State) (n : ℕ) → Told (Known false i) (whole_control i held s n)
  control_told (Node part cells) fair controlled rules have held s n =
      part_told part cells fair controlled rules have (whole_below cells) (λ c child at dynamic h t m. children_told cells fair.1 controlled.1 rules.1 have.1 c child at h t m) held s n

  children_told : (cells : Cells) → AllFairBelow cells → AllControlledBelow cells → AllRuledBelow cells → AllHaveBelow cells → (c : ℕ) (child : Instance) → cell_at cells c ≡ OfInstance child → (held : Held) (s : State) (n : ℕ)
      → Told (Known false child) (whole_below cells c held s n)
  children_told no_cells fair controlled rules have c child at held s n = absurd (cc)
  children_told (a_primitive row rest) fair controlled rules have zero child at held s n = absurd (cc)
  children_told (a_primitive row rest) fair controlled rules have (suc c) child at held s n = children_told rest fair controlled rules have c child at held s n
  children_told (an_instance other rest) fair controlled rules have zero child at held s n =
      let same : other ≡ child = cc in subst (λ x. Told (Known false x) (whole_control other held s n)) same (control_told other fair.0 controlled.0 rules.0 have.0 held s n)
  children_told (an_instance other rest) fair controlled rules have (suc c) child at held s n = children_told rest fair.1 controlled.1 rules.1 have.1 c child at held s n
