-- CONDITIONS of flat control are one bit wide and may be looked at, where those of the tree are.
use Rattle.std.proofs.Common.{◌≡◌, ℕ, zero, suc, ◌+◌, ◌<◌, inl, inr, ⊎_elim, true, List, ◌++◌, length, Option, Some, None, refl, sym, ap, ◌∙◌, subst}
use Rattle.cx_text.proofs.MemberLaws.{in_either, in_left, in_right}
use Rattle.cx_meaning.specs.declared.ports.PortRef.{PortRef}
use Rattle.cx_meaning.specs.declared.ports.PlacedPort.{PlacedPort}
use Rattle.cx_meaning.specs.Designs.{PlainForm, Empty, Enable, Seq, Par, If, While, Repeat, StaticSeq, StaticPar, StaticIf, StaticRepeat, Timed, PlainStatement, Placed, PlainStatements, no_statements, a_statement, PlainComponent}
use Rattle.cx_meaning.specs.Instances.{Instance, Node, Cells, no_cells, a_primitive, an_instance, OfInstance, part_of, cells_of, cell_at}
use Rattle.cx_text.specs.Members.{In}
use Rattle.cx_rules.specs.Items.{Context, InStatic, Branch, below_dynamic, Visited, visit, visit_parts, visit_all, test_in}
use Rattle.cx_flattening.specs.Events.{the_invoke, source_to}
use Rattle.cx_flattening.specs.Whole.{is_static}
use Rattle.cx_flattening.specs.Copies.{copied_form, copied_statement, copied_statements}
use Rattle.cx_flattening.specs.Flattened.{Kids, kid_at, start_of, own_port, invoke_port, copy_of, with_capture, inlined, flat_form, flat_statement, flat_statements, flat_kids, flat_part}
use Rattle.cx_flattening.specs.Embedded.{IsEmbedded, IsFlattened}
use Rattle.cx_flattening.specs.Fair.{IsFair, AllFair}
use Rattle.cx_flattening.specs.Controlled.{timed_in, timed_of, timed_all, IsControlled, AllControlled, AllControlledBelow}
use Rattle.cx_flattening.proofs.FlatSafe.{kid_from}
use Rattle.cx_flattening.proofs.FlatDeeper.{fair_child}
use Rattle.cx_flattening.proofs.FairParts.{in_invokes}
use Rattle.cx_flattening.proofs.Typed.{Source}
use Rattle.cx_flattening.proofs.FlatTyped.{OwnSource, Every, IsTyped, AllTyped, TypedBelow, Moves, own_source, below_moves, embedded_child, top}

-- the conditions of a statement
module _ (P : PortRef → Type 0) where
  abbrev mutual
    pub FormTests : PlainForm → Type 0
    FormTests Empty = Unit {0}
    FormTests (Enable g) = Unit {0}
    FormTests (Seq ss) = AllTests ss
    FormTests (Par arms) = AllTests arms
    FormTests (If test comb a b) = P test.port × (Tests a × Tests b)
    FormTests (While test comb a) = P test.port × Tests a
    FormTests (Repeat count a) = Tests a
    FormTests (StaticSeq written ss) = AllTests ss
    FormTests (StaticPar written arms) = AllTests arms
    FormTests (StaticIf written test a b) = P test.port × (Tests a × Tests b)
    FormTests (StaticRepeat written count a) = Tests a
    FormTests (Timed k) = Unit {0}

    pub Tests : PlainStatement → Type 0
    Tests (Placed form place) = FormTests form

    pub AllTests : PlainStatements → Type 0
    AllTests no_statements = Unit {0}
    AllTests (a_statement s ss) = Tests s × AllTests ss

  -- of the statements that are visited
  abbrev Visits : List Visited → Type 0
  Visits vs = (v : Visited) (p : PlacedPort) → In vs v → test_in v.form ≡ Some p → P p.port

  visits_both : (xs ys : List Visited) → Visits xs → Visits ys → Visits (xs ++ ys)
  visits_both xs ys h g v p i e = ⊎_elim (λ j. h v p j e) (λ j. g v p j e) (in_either xs ys v i)

  own_test : (test : PlacedPort) → P test.port → (p : PlacedPort) → ◌≡◌ {A = Option PlacedPort} (Some test) (Some p) → P p.port
  own_test test h p e = let same : test ≡ p = cc in subst (λ (q : PlacedPort). P q.port) same h

  mutual
    form_visits : (context : Context) (form : PlainForm) → FormTests form → Visits (visit_parts context form)
    form_visits context Empty h v p i e = absurd i
    form_visits context (Enable g) h v p i e = absurd i
    form_visits context (Seq ss) h v p i e = all_visits (below_dynamic context) ss h v p i e
    form_visits context (Par arms) h v p i e = all_visits (below_dynamic context) arms h v p i e
    form_visits context (If test comb a b) h v p i e = visits_both (visit (below_dynamic context) a) (visit (below_dynamic context) b) (one_visits (below_dynamic context) a h.1.0) (one_visits (below_dynamic context) b h.1.1) v p i e
    form_visits context (While test comb a) h v p i e = one_visits (below_dynamic context) a h.1 v p i e
    form_visits context (Repeat count a) h v p i e = one_visits (below_dynamic context) a h v p i e
    form_visits context (StaticSeq written ss) h v p i e = all_visits InStatic ss h v p i e
    form_visits context (StaticPar written arms) h v p i e = all_visits InStatic arms h v p i e
    form_visits context (StaticIf written test a b) h v p i e = visits_both (visit Branch a) (visit Branch b) (one_visits Branch a h.1.0) (one_visits Branch b h.1.1) v p i e
    form_visits context (StaticRepeat written count a) h v p i e = one_visits InStatic a h v p i e
    form_visits context (Timed k) h v p i e = absurd i

    pub one_visits : (context : Context) (s : PlainStatement) → Tests s → Visits (visit context s)
    one_visits context (Placed form place) h v p (inl same) e = own form h p (ap (λ (x : Visited). test_in x.form) same ∙ e)
    one_visits context (Placed form place) h v p (inr i) e = form_visits context form h v p i e

    all_visits : (context : Context) (ss : PlainStatements) → AllTests ss → Visits (visit_all context ss)
    all_visits context no_statements h v p i e = absurd i
    all_visits context (a_statement s ss) h v p i e = visits_both (visit context s) (visit_all context ss) (one_visits context s h.0) (all_visits context ss h.1) v p i e

    own : (form : PlainForm) → FormTests form → (p : PlacedPort) → test_in form ≡ Some p → P p.port
    own Empty h p e = absurd (cc)
    own (Enable g) h p e = absurd (cc)
    own (Seq ss) h p e = absurd (cc)
    own (Par arms) h p e = absurd (cc)
    own (If test comb a b) h p e = own_test test h.0 p e
    own (While test comb a) h p e = own_test test h.0 p e
    own (Repeat count a) h p e = absurd (cc)
    own (StaticSeq written ss) h p e = absurd (cc)
    own (StaticPar written arms) h p e = absurd (cc)
    own (StaticIf written test a b) h p e = own_test test h.0 p e
    own (StaticRepeat written count a) h p e = absurd (cc)
    own (Timed k) h p e = absurd (cc)

  -- and back
  mutual
    visited_form : (context : Context) (form : PlainForm) → ((p : PlacedPort) → test_in form ≡ Some p → P p.port) → Visits (visit_parts context form) → FormTests form
    visited_form context Empty here h = tt
    visited_form context (Enable g) here h = tt
    visited_form context (Seq ss) here h = visited_all (below_dynamic context) ss h
    visited_form context (Par arms) here h = visited_all (below_dynamic context) arms h
    visited_form context (If test comb a b) here h =
        (here test refl, (visited (below_dynamic context) a (λ v p i e. h v p (in_left (visit (below_dynamic context) a) (visit (below_dynamic context) b) v i) e), visited (below_dynamic context) b (λ v p i e. h v p (in_right (visit (below_dynamic context) a) (visit (below_dynamic context) b) v i) e)))
    visited_form context (While test comb a) here h = (here test refl, visited (below_dynamic context) a h)
    visited_form context (Repeat count a) here h = visited (below_dynamic context) a h
    visited_form context (StaticSeq written ss) here h = visited_all InStatic ss h
    visited_form context (StaticPar written arms) here h = visited_all InStatic arms h
    visited_form context (StaticIf written test a b) here h =
        (here test refl, (visited Branch a (λ v p i e. h v p (in_left (visit Branch a) (visit Branch b) v i) e), visited Branch b (λ v p i e. h v p (in_right (visit Branch a) (visit Branch b) v i) e)))
    visited_form context (StaticRepeat written count a) here h = visited InStatic a h
    visited_form context (Timed k) here h = tt

    pub visited : (context : Context) (s : PlainStatement) → Visits (visit context s) → Tests s
    visited context (Placed form place) h =
        visited_form context form (λ p e. h (record { context = context; form = form; place = place }) p (inl refl) e) (λ v p i e. h v p (inr i) e)

    visited_all : (context : Context) (ss : PlainStatements) → Visits (visit_all context ss) → AllTests ss
    visited_all context no_statements h = tt
    visited_all context (a_statement s ss) h =
        (visited context s (λ v p i e. h v p (in_left (visit context s) (visit_all context ss) v i) e), visited_all context ss (λ v p i e. h v p (in_right (visit context s) (visit_all context ss) v i) e))

-- of a copy
module _ (P : PortRef → Type 0) (f : PortRef → PortRef) (copy : ℕ → ℕ) where
  mutual
    form_copied : (form : PlainForm) → FormTests (λ p. P (f p)) form → FormTests P (copied_form f copy form)
    form_copied Empty h = tt
    form_copied (Enable g) h = tt
    form_copied (Seq ss) h = all_copied ss h
    form_copied (Par arms) h = all_copied arms h
    form_copied (If test comb a b) h = (h.0, (tests_copied a h.1.0, tests_copied b h.1.1))
    form_copied (While test comb a) h = (h.0, tests_copied a h.1)
    form_copied (Repeat count a) h = tests_copied a h
    form_copied (StaticSeq written ss) h = all_copied ss h
    form_copied (StaticPar written arms) h = all_copied arms h
    form_copied (StaticIf written test a b) h = (h.0, (tests_copied a h.1.0, tests_copied b h.1.1))
    form_copied (StaticRepeat written count a) h = tests_copied a h
    form_copied (Timed k) h = tt

    pub tests_copied : (s : PlainStatement) → Tests (λ p. P (f p)) s → Tests P (copied_statement f copy s)
    tests_copied (Placed form place) h = form_copied form h

    all_copied : (ss : PlainStatements) → AllTests (λ p. P (f p)) ss → AllTests P (copied_statements f copy ss)
    all_copied no_statements h = tt
    all_copied (a_statement s ss) h = (tests_copied s h.0, all_copied ss h.1)

pub captured : (P : PortRef → Type 0) (o : Option ℕ) (s : PlainStatement) → Tests P s → FormTests P (with_capture o s)
captured P None (Placed form place) h = h
captured P (Some g) s h = (h, (tt, tt))

-- of flat control, where those of the control and of its invokes are
module _ (P Q : PortRef → Type 0) (kids : Kids) (part : PlainComponent) (moves : (p : PortRef) → Q p → P (own_port kids part p))
    (invokes : (k : ℕ) → k < length part.invokes → FormTests P (inlined kids part (kid_at kids (the_invoke part k).cell) k (the_invoke part k))) where
  mutual
    form_flat : (form : PlainForm) → ((k : ℕ) → In (timed_in form) k → k < length part.invokes) → FormTests Q form → FormTests P (flat_form kids part form)
    form_flat Empty t h = tt
    form_flat (Enable g) t h = tt
    form_flat (Seq ss) t h = all_flat ss t h
    form_flat (Par arms) t h = all_flat arms t h
    form_flat (If test comb a b) t h = (moves test.port h.0, (tests_flat a (λ k i. t k (in_left (timed_of a) (timed_of b) k i)) h.1.0, tests_flat b (λ k i. t k (in_right (timed_of a) (timed_of b) k i)) h.1.1))
    form_flat (While test comb a) t h = (moves test.port h.0, tests_flat a t h.1)
    form_flat (Repeat count a) t h = tests_flat a t h
    form_flat (StaticSeq written ss) t h = all_flat ss t h
    form_flat (StaticPar written arms) t h = all_flat arms t h
    form_flat (StaticIf written test a b) t h = (moves test.port h.0, (tests_flat a (λ k i. t k (in_left (timed_of a) (timed_of b) k i)) h.1.0, tests_flat b (λ k i. t k (in_right (timed_of a) (timed_of b) k i)) h.1.1))
    form_flat (StaticRepeat written count a) t h = tests_flat a t h
    form_flat (Timed k) t h = invokes k (t k (inl refl))

    pub tests_flat : (s : PlainStatement) → ((k : ℕ) → In (timed_of s) k → k < length part.invokes) → Tests Q s → Tests P (flat_statement kids part s)
    tests_flat (Placed form place) t h = form_flat form t h

    all_flat : (ss : PlainStatements) → ((k : ℕ) → In (timed_all ss) k → k < length part.invokes) → AllTests Q ss → AllTests P (flat_statements kids part ss)
    all_flat no_statements t h = tt
    all_flat (a_statement s ss) t h = (tests_flat s (λ k i. t k (in_left (timed_of s) (timed_all ss) k i)) h.0, all_flat ss (λ k i. t k (in_right (timed_of s) (timed_all ss) k i)) h.1)

-- what the rules keep of conditions, at every depth
abbrev pub Tested : Instance → Type 0
Tested i = Tests (OwnSource i Every 1) (part_of i).control

abbrev mutual
  pub AllTested : Instance → Type 0
  AllTested (Node part cells) = Tested (Node part cells) × TestedBelow cells

  pub TestedBelow : Cells → Type 0
  TestedBelow no_cells = Unit {0}
  TestedBelow (a_primitive row rest) = TestedBelow rest
  TestedBelow (an_instance child rest) = AllTested child × TestedBelow rest

module _ (host : Instance) where
  abbrev GoodTests : Instance → ℕ → Type 0
  GoodTests i first = (f : PortRef → PortRef) → Moves host i first Every f → Tests (λ p. Source host 1 (f p)) (flat_part i).control

  node_tests : (part : PlainComponent) (cells : Cells) → IsFair (Node part cells) → IsControlled (Node part cells) → IsTyped (Node part cells) → Tested (Node part cells) → (first : ℕ) (embedded : IsEmbedded (Node part cells) first (cells_of host))
      → ((c : ℕ) (child : Instance) → cell_at cells c ≡ OfInstance child → is_static child ≡ true → GoodTests child (first + start_of (flat_kids cells) part c)) → GoodTests (Node part cells) first
  node_tests part cells fair controlled typed tested first embedded below f moves =
      tests_flat (λ p. Source host 1 (f p)) (OwnSource (Node part cells) Every 1) (flat_kids cells) part (own_source host part cells fair typed first embedded Every f moves 1) invoked part.control controlled.timed tested
    where
      of_kid : (k : ℕ) → k < length part.invokes → (kid : Option PlainComponent) → kid_at (flat_kids cells) (the_invoke part k).cell ≡ kid → FormTests (λ p. Source host 1 (f p)) (inlined (flat_kids cells) part kid k (the_invoke part k))
      of_kid k less None its = tt
      of_kid k less (Some kid) its =
          let v = the_invoke part k in
          let r = kid_from cells v.cell kid its in
          captured (λ p. Source host 1 (f p)) v.captures (copied_statement (invoke_port (flat_kids cells) part kid v) (copy_of (flat_kids cells) part kid k) kid.control)
          (tests_copied (λ p. Source host 1 (f p)) (invoke_port (flat_kids cells) part kid v) (copy_of (flat_kids cells) part kid k) kid.control
          (subst (λ y. Tests (λ p. Source host 1 (f (invoke_port (flat_kids cells) part y v p))) y.control) r.3
          (below v.cell r.0 r.1 r.2 (λ q. f (invoke_port (flat_kids cells) part (flat_part r.0) v q))
          (below_moves host part cells fair typed first embedded Every f moves v.cell r.0 r.1 r.2 Every (λ n. own_port (flat_kids cells) part (source_to v.cell v.inputs n))
          (λ n w asked is. own_source host part cells fair typed first embedded Every f moves w (source_to v.cell v.inputs n) (typed.binds v r.0 n w (in_invokes part.invokes k less) r.1 is))))))

      invoked : (k : ℕ) → k < length part.invokes → FormTests (λ p. Source host 1 (f p)) (inlined (flat_kids cells) part (kid_at (flat_kids cells) (the_invoke part k).cell) k (the_invoke part k))
      invoked k less = of_kid k less (kid_at (flat_kids cells) (the_invoke part k).cell) refl

  mutual
    good_tests : (i : Instance) → AllFair i → AllControlled i → AllTyped i → AllTested i → (first : ℕ) → IsEmbedded i first (cells_of host) → GoodTests i first
    good_tests (Node part cells) fair controlled typed tested first embedded =
        node_tests part cells fair.0 controlled.0 typed.0 tested.0 first embedded
        (λ c child at static. tests_below cells c child at (fair_child cells c child fair.1 at) controlled.1 typed.1 tested.1 (first + start_of (flat_kids cells) part c) (embedded_child host part cells first c child embedded at static))

    tests_below : (cells : Cells) (c : ℕ) (child : Instance) → cell_at cells c ≡ OfInstance child → AllFair child → AllControlledBelow cells → TypedBelow cells → TestedBelow cells → (first : ℕ) → IsEmbedded child first (cells_of host) → GoodTests child first
    tests_below no_cells c child at fair controlled typed tested first embedded = absurd (cc)
    tests_below (a_primitive row rest) zero child at fair controlled typed tested first embedded = absurd (cc)
    tests_below (a_primitive row rest) (suc c) child at fair controlled typed tested first embedded = tests_below rest c child at fair controlled typed tested first embedded
    tests_below (an_instance other rest) zero child at fair controlled typed tested first embedded =
        let same : child ≡ other = cc in
        subst (λ x. GoodTests x first) (sym same) (good_tests other (subst AllFair same fair) controlled.0 typed.0 tested.0 first (subst (λ x. IsEmbedded x first (cells_of host)) same embedded))
    tests_below (an_instance other rest) (suc c) child at fair controlled typed tested first embedded = tests_below rest c child at fair controlled.1 typed.1 tested.1 first embedded

-- THE CONDITIONS of flat control
pub flat_tested : (i flat : Instance) → IsFlattened i flat → AllFair i → AllControlled i → AllTyped i → AllTested i → Tests (Source flat 1) (flat_part i).control
flat_tested i flat flattened fair controlled typed tested = good_tests flat i fair controlled typed tested 0 flattened.1 (λ q. q) (top i flat flattened fair typed Every)
