-- A TREE THAT KEEPS THE RULES keeps all that is asked of it, statement by statement.
use Rattle.std.proofs.Common.{◌≡◌, ℕ, zero, suc, ◌+◌, ◌<◌, inl, inr, List, [], ◌∷◌, length, get_or, Option, Some, None, refl, sym, ap, ◌∙◌, subst, arith}
use Rattle.std.specs.Prelude.{is_some, slice_get}
use Rattle.cx_text.proofs.MemberLaws.{in_left, in_right}
use Rattle.cx_prim.specs.Rows.{Row, IsLawful}
use Rattle.cx_text.specs.declared.places.Place.{Place}
use Rattle.cx_meaning.specs.Rows.{KeepsIdle}
use Rattle.cx_meaning.specs.Laws.{AllRows, AllRowsBelow}
use Rattle.cx_meaning.specs.declared.ports.PortRef.{PortRef}
use Rattle.cx_meaning.specs.declared.ports.PortRef.TheVariants as ports
use Rattle.cx_meaning.specs.declared.kinds.GroupKind.{GroupKind}
use Rattle.cx_meaning.specs.declared.kinds.GroupKind.TheVariants as kinds
use Rattle.cx_meaning.specs.Designs.{PlainAssign, PlainGroup, PlainComponent, group_at, no_group, PlainForm, Empty, Enable, Seq, Par, If, While, Repeat, StaticSeq, StaticPar, StaticIf, StaticRepeat, Timed, PlainStatement, Placed, form_of, PlainStatements, no_statements, a_statement, list_of}
use Rattle.cx_meaning.specs.Instances.{Instance, Node, Cells, no_cells, a_primitive, an_instance, At, Nothing, OfRow, OfInstance, part_of, cells_of, cell_at}
use Rattle.cx_meaning.specs.Active.{comb}
use Rattle.cx_meaning.specs.Calls.{if_instance, called_by, called_in, called}
use Rattle.cx_meaning.specs.Control.{groups_of}
use Rattle.cx_meaning.specs.Islands.{kind_length}
use Rattle.cx_text.specs.Members.{In}
use Rattle.cx_meaning.proofs.InstancesLemmas.{instance_is}
use Rattle.cx_rules.specs.Items.{Dynamic, Visited, visit, visit_parts, visit_all, statements_in}
use Rattle.cx_rules.specs.Circles.{AreAcyclic, AcyclicBelow}
use Rattle.cx_rules.specs.RaceRule.{IsShared}
use Rattle.cx_rules.specs.InvokeShape.{latency_at, is_static_port}
use Rattle.cx_rules.specs.Wellformed.{IsForm, IsWith}
use Rattle.cx_frames.proofs.CircleFrames.{capture_acyclic}
use Rattle.cx_flattening.specs.Events.{the_invoke}
use Rattle.cx_flattening.specs.Copies.{copied_statement}
use Rattle.cx_flattening.specs.Flattened.{kid_at, flat_kids, flat_part, kept_at, invoke_port, copy_of, with_capture, inlined}
use Rattle.cx_flattening.specs.Embedded.{AreEmbedded, IsFlattened}
use Rattle.cx_flattening.specs.Levels.{IsKnown}
use Rattle.cx_flattening.specs.Fair.{IsNamed, AllFair, AllFairBelow}
use Rattle.cx_flattening.specs.Controlled.{AllControlled, AllControlledBelow}
use Rattle.cx_flattening.specs.Seeing.{NoCircle}
use Rattle.cx_flattening.specs.Turning.{IsGroupBeside}
use Rattle.cx_flattening.specs.Lists.{IsIsland, island_events}
use Rattle.cx_flattening.specs.Deeds.{deeds_in}
use Rattle.cx_flattening.specs.Arms.{DrivesAlike}
use Rattle.cx_flattening.specs.Asking.{IsStaticForm, CallAsks, KindAsks, FormAsks, Asks, AllAsk, ArmsAsk, RunAsks, TreeAsks, ChildrenAsk}
use Rattle.cx_flattening.proofs.FlatGroups.{in_one_of, copy-length}
use Rattle.cx_flattening.proofs.LevelSights.{kid-static}
use Rattle.cx_flattening.proofs.FlatDeeper.{still_circle, none_below}
use Rattle.cx_flattening.proofs.FlatBare.{flat_bare}
use Rattle.cx_flattening.proofs.DeedSources.{island_does}
use Rattle.cx_flattening.proofs.DeedsApart.{Stands}
use Rattle.cx_flattening.proofs.DeedsOnce.{fed_once, deeds_circle}
use Rattle.cx_flattening.proofs.ArmsAlike.{drives_alike, arm_apart}
use Rattle.cx_flattening.proofs.StaticControls.{form_copied, kids_static}
use Rattle.cx_flattening.proofs.Ruled.{IsRuled, AllRuled, AllRuledBelow}
use Rattle.cx_flattening.proofs.FairParts.{AllHave, AllHaveBelow, named, groups_there, invokes_there, tests_named}

known_of : (i : Instance) (q : PortRef) → IsNamed i q → IsKnown i q
known_of i (ports.Cell c p) h = h
known_of i (ports.Input n) h = tt
known_of i (ports.Output n) h = tt
known_of i (ports.Done g) h = tt
known_of i (ports.Literal w v) h = tt

-- the cell that a group calls is a component's, and the group drives a port of it
pub record IsCalled (cells : Cells) (list : List PlainAssign) (c : ℕ) : Type 0 where
  pub child : Instance
  pub at : cell_at cells c ≡ OfInstance child
  pub assign : PlainAssign
  pub among : In list assign
  pub port : ℕ
  pub target : assign.target ≡ ports.Cell c port

pub called_is : (cells : Cells) (list : List PlainAssign) (c : ℕ) → called_in cells list ≡ Some c → IsCalled cells list c
called_is cells [] c e = absurd (cc)
called_is cells (a ∷ rest) c e = of_target a.target refl e (called_is cells rest c)
  where
    later : IsCalled cells rest c → IsCalled cells (a ∷ rest) c
    later h = record { child = h.child; at = h.at; assign = h.assign; among = inr h.among; port = h.port; target = h.target }

    of_at : (x : At) (d p : ℕ) → a.target ≡ ports.Cell d p → cell_at cells d ≡ x → if_instance x d (called_in cells rest) ≡ Some c → (called_in cells rest ≡ Some c → IsCalled cells rest c) → IsCalled cells (a ∷ rest) c
    of_at Nothing d p t at f h = later (h f)
    of_at (OfRow row) d p t at f h = later (h f)
    of_at (OfInstance child) d p t at f h =
        let same : d ≡ c = cc in
        record { child = child; at = ap (cell_at cells) (sym same) ∙ at; assign = a; among = inl refl; port = p; target = t ∙ ap (λ k. ports.Cell k p) same }

    of_target : (q : PortRef) → a.target ≡ q → called_by cells q (called_in cells rest) ≡ Some c → (called_in cells rest ≡ Some c → IsCalled cells rest c) → IsCalled cells (a ∷ rest) c
    of_target (ports.Cell d p) t f h = of_at (cell_at cells d) d p t refl f h
    of_target (ports.Input n) t f h = later (h f)
    of_target (ports.Output n) t f h = later (h f)
    of_target (ports.Done g) t f h = later (h f)
    of_target (ports.Literal w v) t f h = later (h f)

module _ (part : PlainComponent) (cells : Cells) (flat : Instance) (flattened : IsFlattened (Node part cells) flat) (fair : AllFair (Node part cells)) (controlled : AllControlled (Node part cells))
    (rules : AllRuled (Node part cells)) (have : AllHave (Node part cells)) (calm : AreAcyclic (Node part cells)) where
  abbrev i : Instance
  i = Node part cells

  ruled : IsRuled part i
  ruled = rules.0

  abbrev Inside : PlainStatement → Type 0
  Inside s = (v : Visited) → In (visit Dynamic s) v → In (statements_in part) v

  group_circle : (g : ℕ) → g < length part.groups → NoCircle i (comb (Some g)) []
  group_circle g less = (ruled.group_circle g less, calm.1, none_below cells calm.1)

  beside : (with_group : Option ℕ) → ((g : ℕ) → with_group ≡ Some g → g < length part.groups) → IsGroupBeside i flat with_group
  beside with_group there = record { flattened = flattened; fair = fair; there = there; no_circle = by with_group there }
    where
      by : (o : Option ℕ) → ((g : ℕ) → o ≡ Some g → g < length part.groups) → NoCircle i (comb o) []
      by None h = still_circle i calm
      by (Some g) h = group_circle g (h g refl)

  -- AN ISLAND
  island : (form : PlainForm) (place : Place) → Inside (Placed form place) → IsIsland i flat form
  island form place inside = record {
    flattened = flattened;
    fair = fair;
    controlled = controlled;
    static = record {
      enables = groups_there part cells ruled have.0 (Placed form place) inside;
      timed = invokes_there part cells ruled have.0 (Placed form place) inside;
      tests = tests_named part cells ruled have.0 (Placed form place) inside;
    };
    once = λ h t. fed_once i rules form (deeds_in h t (island_events i form)) (island_does h t i form controlled (invokes_there part cells ruled have.0 (Placed form place) inside)) stands;
    no_circle = λ h t. deeds_circle i rules calm form (deeds_in h t (island_events i form)) (island_does h t i form controlled (invokes_there part cells ruled have.0 (Placed form place) inside)) stands;
    still = still_circle i calm;
  }
    where
      stands : Stands part form
      stands = record { context = Dynamic; place = place; inside = inside }

  -- A CALL
  call_asks : (g : ℕ) → g < length part.groups → (o : Option ℕ) → called i g ≡ o → CallAsks i flat g o
  call_asks g less None e = beside (Some g) (λ h f. subst (λ x. x < length part.groups) (let same : g ≡ h = cc in same) less)
  call_asks g less (Some c) e =
      let r = called_is cells (group_at part g).assigns c e in (
        r.child,
        record {
          group = beside (Some g) (λ h f. subst (λ x. x < length part.groups) (let same : g ≡ h = cc in same) less);
          stands = r.at;
          dynamic = ap (λ x. is_some (latency_at x)) (sym r.at) ∙ ap (is_static_port i) (sym r.target) ∙ ruled.dynamic (Some g) r.assign (less, r.among);
          no_circle = (capture_acyclic i g c (ruled.group_circle g less), calm.1, none_below cells calm.1);
        },
      )

  kind_asks : (g : ℕ) (place : Place) → g < length part.groups → Inside (Placed (Enable g) place) → (kind : GroupKind) → KindAsks i flat g kind
  kind_asks g place less inside kinds.Plain = call_asks g less (called i g) refl
  kind_asks g place less inside kinds.Comb = call_asks g less (called i g) refl
  kind_asks g place less inside (kinds.Timed n) = island (Enable g) place inside

  -- A STATIC INVOKE is static in its flat form
  invoke_static : (k : ℕ) → k < length part.invokes → IsStaticForm (part_of flat) (inlined (flat_kids cells) part (kid_at (flat_kids cells) (the_invoke part k).cell) k (the_invoke part k))
  invoke_static k less =
      let its = controlled.0.invokes k less in
      let kid = flat_part its.child in
      let at : kid_at (flat_kids cells) (the_invoke part k).cell ≡ Some kid = kid-static cells (the_invoke part k).cell its.child its.stands its.static in
      subst (λ o. IsStaticForm (part_of flat) (inlined (flat_kids cells) part o k (the_invoke part k))) (sym at)
      (captured (the_invoke part k).captures kid
      (subst (IsStaticForm (part_of flat)) (sym (form_copied (invoke_port (flat_kids cells) part kid (the_invoke part k)) (copy_of (flat_kids cells) part kid k) kid.control))
      (kids_static cells rules.1 fair.1 controlled.1 (the_invoke part k).cell its.child its.stands its.static (part_of flat) (invoke_port (flat_kids cells) part kid (the_invoke part k)) (copy_of (flat_kids cells) part kid k)
      (λ g used. ap (λ (p : List PlainGroup). kind_length (get_or p (copy_of (flat_kids cells) part kid k g) no_group).kind) flattened.0.groups
      ∙ copy-length (flat_kids cells) part k g kid less at (in_one_of g (groups_of kid.control) used) ((fair.0.targets.blocks (the_invoke part k).cell kid at).there g (in_one_of g (groups_of kid.control) used))))))
    where
      plain : (s : PlainStatement) → IsStaticForm (part_of flat) (form_of s) → IsStaticForm (part_of flat) (with_capture None s)
      plain (Placed form place) h = h

      captured : (o : Option ℕ) (kid : PlainComponent) → IsStaticForm (part_of flat) (form_of (copied_statement (invoke_port (flat_kids cells) part kid (the_invoke part k)) (copy_of (flat_kids cells) part kid k) kid.control))
          → IsStaticForm (part_of flat) (with_capture o (copied_statement (invoke_port (flat_kids cells) part kid (the_invoke part k)) (copy_of (flat_kids cells) part kid k) kid.control))
      captured None kid h = plain (copied_statement (invoke_port (flat_kids cells) part kid (the_invoke part k)) (copy_of (flat_kids cells) part kid k) kid.control) h
      captured (Some g) kid h = tt

  with_there : (with_group : Option ℕ) → IsWith part with_group → (g : ℕ) → with_group ≡ Some g → g < length part.groups
  with_there None h g e = absurd (cc)
  with_there (Some x) h g e = let same : x ≡ g = cc in subst (λ n. n < length part.groups) same h.0

  below_one : (form : PlainForm) (place : Place) (s : PlainStatement) → Inside (Placed form place) → ((v : Visited) → In (visit Dynamic s) v → In (visit_parts Dynamic form) v) → Inside s
  below_one form place s inside h v k = inside v (inr (h v k))

  alike : (s : PlainStatement) → Inside s → DrivesAlike i flat s
  alike s inside = drives_alike part cells fair.0 controlled.0 flat flattened s (groups_there part cells ruled have.0 s inside) (invokes_there part cells ruled have.0 s inside)

  mutual
    form_asks : (form : PlainForm) (place : Place) → Inside (Placed form place) → FormAsks i flat form
    form_asks Empty place inside = tt
    form_asks (Enable g) place inside =
        let form : IsForm part (Enable g) = (ruled.statements (record { context = Dynamic; form = Enable g; place = place }) (inside (record { context = Dynamic; form = Enable g; place = place }) (inl refl))).form in
        (form.0, kind_asks g place form.0 inside (group_at part g).kind)
    form_asks (Seq ss) place inside = all_ask ss (λ v k. inside v (inr k))
    form_asks (Par arms) place inside =
        arms_ask (list_of arms) (ruled.apart (record { context = Dynamic; form = Par arms; place = place }) (inside (record { context = Dynamic; form = Par arms; place = place }) (inl refl))) 0 arms
        (λ m. ap (slice_get (list_of arms)) (let z : m ≡ 0 + m = omega arith in z)) (λ v k. inside v (inr k))
    form_asks (If test with_group a b) place inside =
        let v : Visited = record { context = Dynamic; form = If test with_group a b; place = place } in
        let form : IsForm part (If test with_group a b) = (ruled.statements v (inside v (inl refl))).form in (
          record { known = known_of i test.port (named part cells ruled have.0 test.port (ruled.tests v test (inside v (inl refl)) refl)); beside = beside with_group (with_there with_group form) },
          (statement_asks a (λ w k. inside w (inr (in_left (visit Dynamic a) (visit Dynamic b) w k))), statement_asks b (λ w k. inside w (inr (in_right (visit Dynamic a) (visit Dynamic b) w k)))),
        )
    form_asks (While test with_group a) place inside =
        let v : Visited = record { context = Dynamic; form = While test with_group a; place = place } in
        let form : IsForm part (While test with_group a) = (ruled.statements v (inside v (inl refl))).form in (
          record { known = known_of i test.port (named part cells ruled have.0 test.port (ruled.tests v test (inside v (inl refl)) refl)); beside = beside with_group (with_there with_group form) },
          statement_asks a (λ w k. inside w (inr k)),
        )
    form_asks (Repeat count a) place inside = statement_asks a (λ w k. inside w (inr k))
    form_asks (StaticSeq written ss) place inside = island (StaticSeq written ss) place inside
    form_asks (StaticPar written ss) place inside = island (StaticPar written ss) place inside
    form_asks (StaticIf written test a b) place inside = island (StaticIf written test a b) place inside
    form_asks (StaticRepeat written count a) place inside = island (StaticRepeat written count a) place inside
    form_asks (Timed k) place inside = (island (Timed k) place inside, invoke_static k (invokes_there part cells ruled have.0 (Placed (Timed k) place) inside k (inl refl)))

    statement_asks : (s : PlainStatement) → Inside s → Asks i flat s
    statement_asks (Placed form place) inside = form_asks form place inside

    all_ask : (ss : PlainStatements) → ((v : Visited) → In (visit_all Dynamic ss) v → In (statements_in part) v) → AllAsk i flat ss
    all_ask no_statements inside = tt
    all_ask (a_statement s ss) inside =
        (statement_asks s (λ v k. inside v (in_left (visit Dynamic s) (visit_all Dynamic ss) v k)), all_ask ss (λ v k. inside v (in_right (visit Dynamic s) (visit_all Dynamic ss) v k)))

    arms_ask : (all : List PlainStatement) → ((c : ℕ) → IsShared part all c → ⊥) → (n : ℕ) (ss : PlainStatements) → ((m : ℕ) → slice_get (list_of ss) m ≡ slice_get all (n + m))
        → ((v : Visited) → In (visit_all Dynamic ss) v → In (statements_in part) v) → ArmsAsk i flat ss
    arms_ask all unshared n no_statements tail inside = tt
    arms_ask all unshared n (a_statement s ss) tail inside = (
      statement_asks s (λ v k. inside v (in_left (visit Dynamic s) (visit_all Dynamic ss) v k)),
      (
        alike s (λ v k. inside v (in_left (visit Dynamic s) (visit_all Dynamic ss) v k)),
        (
          arm_apart part all unshared n s ss tail,
          arms_ask all unshared (suc n) ss (λ m. tail (suc m) ∙ ap (slice_get all) (let z : n + suc m ≡ suc n + m = omega arith in z)) (λ v k. inside v (in_right (visit Dynamic s) (visit_all Dynamic ss) v k)),
        ),
      ),
    )

  -- THE INSTANCE
  run_asks : AllRows KeepsIdle flat → ((c : ℕ) (row : Row) → cell_at (cells_of flat) c ≡ OfRow row → IsLawful row) → RunAsks i flat
  run_asks idle lawful = record {
    flattened = flattened;
    fair = fair;
    idle = idle;
    lawful = lawful;
    bare = flat_bare i flat flattened rules fair;
    control = statement_asks part.control (λ v k. k);
  }

-- rows of a tree
rows_child : (P : Row → Type 0) (cells : Cells) (c : ℕ) (child : Instance) → AllRowsBelow P cells → cell_at cells c ≡ OfInstance child → AllRows P child
rows_child P no_cells c child h e = absurd (cc)
rows_child P (a_primitive row rest) zero child h e = absurd (cc)
rows_child P (a_primitive row rest) (suc c) child h e = rows_child P rest c child h.1 e
rows_child P (an_instance other rest) zero child h e = let same : other ≡ child = cc in subst (AllRows P) same h.0
rows_child P (an_instance other rest) (suc c) child h e = rows_child P rest c child h.1 e

rows_cell : (P : Row → Type 0) (cells : Cells) (c : ℕ) (row : Row) → AllRowsBelow P cells → cell_at cells c ≡ OfRow row → P row
rows_cell P no_cells c row h e = absurd (cc)
rows_cell P (a_primitive other rest) zero row h e = let same : other ≡ row = cc in subst P same h.0
rows_cell P (a_primitive other rest) (suc c) row h e = rows_cell P rest c row h.1 e
rows_cell P (an_instance other rest) zero row h e = absurd (cc)
rows_cell P (an_instance other rest) (suc c) row h e = rows_cell P rest c row h.1 e

rows_of : (P : Row → Type 0) (i : Instance) → AllRows P i → AllRowsBelow P (cells_of i)
rows_of P (Node part cells) h = h

mutual
  -- THE TREE
  pub tree_asks : (i flat : Instance) → IsFlattened i flat → AllFair i → AllControlled i → AllRuled i → AllHave i → AreAcyclic i → AllRows KeepsIdle flat → AllRows IsLawful flat → TreeAsks i flat
  tree_asks (Node part cells) flat flattened fair controlled rules have calm idle lawful = (
    run_asks part cells flat flattened fair controlled rules have calm idle (λ c row at. rows_cell IsLawful (cells_of flat) c row (rows_of IsLawful flat lawful) at),
    children_ask cells cells part 0 flat flattened.1 fair.1 controlled.1 rules.1 have.1 calm.1 idle lawful,
  )

  children_ask : (rest cells : Cells) (part : PlainComponent) (c : ℕ) (flat : Instance) → AreEmbedded (flat_kids cells) part rest c 0 (cells_of flat) → AllFairBelow rest → AllControlledBelow rest → AllRuledBelow rest → AllHaveBelow rest → AcyclicBelow rest
      → AllRows KeepsIdle flat → AllRows IsLawful flat → ChildrenAsk rest cells c flat
  children_ask no_cells cells part c flat embedded fair controlled rules have calm idle lawful = tt
  children_ask (a_primitive row rest) cells part c flat embedded fair controlled rules have calm idle lawful = children_ask rest cells part (suc c) flat embedded.1 fair controlled rules have calm idle lawful
  children_ask (an_instance child rest) cells part c flat embedded fair controlled rules have calm idle lawful = (
    λ dynamic twin at.
        let r = embedded.1 dynamic in
        let same : r.0 ≡ twin = instance_is r.0 twin (sym r.1 ∙ ap (cell_at (cells_of flat)) (let z : 0 + kept_at (flat_kids cells) c ≡ kept_at (flat_kids cells) c = omega arith in z) ∙ at) in
        tree_asks child twin (subst (IsFlattened child) same (r.2, r.3, r.4)) fair.0 controlled.0 rules.0 have.0 calm.0
        (rows_child KeepsIdle (cells_of flat) (kept_at (flat_kids cells) c) twin (rows_of KeepsIdle flat idle) at)
        (rows_child IsLawful (cells_of flat) (kept_at (flat_kids cells) c) twin (rows_of IsLawful flat lawful) at),
    children_ask rest cells part (suc c) flat embedded.2 fair.1 controlled.1 rules.1 have.1 calm.1 idle lawful,
  )
