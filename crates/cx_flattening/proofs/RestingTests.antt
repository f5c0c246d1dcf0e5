-- CONDITIONS OF STATIC IFS in flat control rest on state, where those of the tree do: in a copy an input of the static component is its
-- source, which rests.
use Rattle.std.proofs.Common.{◌≡◌, ℕ, zero, suc, ◌+◌, ◌<◌, inl, inr, ⊎_elim, true, List, ◌++◌, length, Option, Some, None, refl, ap, ◌∙◌, subst}
use Rattle.cx_text.proofs.MemberLaws.{in_either, in_left, in_right}
use Rattle.cx_meaning.specs.declared.ports.PortRef.{PortRef}
use Rattle.cx_meaning.specs.declared.ports.PortRef.TheVariants as ports
use Rattle.cx_meaning.specs.declared.ports.PlacedPort.{PlacedPort}
use Rattle.cx_meaning.specs.Designs.{PlainForm, Empty, Enable, Seq, Par, If, While, Repeat, StaticSeq, StaticPar, StaticIf, StaticRepeat, Timed, PlainStatement, Placed, PlainStatements, no_statements, a_statement, PlainAssign, PlainComponent}
use Rattle.cx_meaning.specs.Instances.{Instance, Node, Cells, no_cells, a_primitive, an_instance, OfInstance, part_of, cell_at}
use Rattle.cx_text.specs.Members.{In}
use Rattle.cx_rules.specs.Circles.{AreAcyclic, AcyclicBelow}
use Rattle.cx_rules.specs.Footprints.{AssignNames, Rests, input_rests}
use Rattle.cx_rules.specs.InvokeShape.{input_port, restless}
use Rattle.cx_rules.specs.Items.{Context, InStatic, Branch, Dynamic, below_dynamic, Visited, visit, visit_parts, visit_all, test_in}
use Rattle.cx_flattening.specs.Events.{the_invoke, source_to}
use Rattle.cx_flattening.specs.Whole.{is_static}
use Rattle.cx_flattening.specs.Copies.{copied_form, copied_statement, copied_statements}
use Rattle.cx_flattening.specs.Flattened.{Kids, kid_at, start_of, own_port, invoke_port, copy_of, with_capture, inlined, flat_form, flat_statement, flat_statements, flat_kids, flat_part}
use Rattle.cx_flattening.specs.Embedded.{IsFlattened}
use Rattle.cx_flattening.specs.Fair.{IsNamed, IsAtRest, AllFair, AllFairBelow}
use Rattle.cx_flattening.specs.Controlled.{timed_in, timed_of, timed_all}
use Rattle.cx_flattening.proofs.FairParts.{HasCells, AllHave, AllHaveBelow, bound_source, unbroken, input_bound, named, timed_there, in_invokes}
use Rattle.cx_flattening.proofs.FlatSafe.{kid_from}
use Rattle.cx_flattening.proofs.RestingSeats.{Surely, surely, IsRestSeat, at_rest_there, child_rest_seat, wire_rests, kids_rest, top_rest_seat}
use Rattle.cx_flattening.proofs.Ruled.{IsRuled, AllRuled, AllRuledBelow}
use Rattle.cx_flattening.proofs.SafeOutputs.{OutputsSafe, kids_safe}

-- each port at which a static if looks has this property
module _ (P : PortRef → Type 0) where
  abbrev mutual
    pub FormLooks : PlainForm → Type 0
    FormLooks Empty = Unit {0}
    FormLooks (Enable g) = Unit {0}
    FormLooks (Seq ss) = AllLook ss
    FormLooks (Par arms) = AllLook arms
    FormLooks (If test comb a b) = Looks a × Looks b
    FormLooks (While test comb a) = Looks a
    FormLooks (Repeat count a) = Looks a
    FormLooks (StaticSeq written ss) = AllLook ss
    FormLooks (StaticPar written arms) = AllLook arms
    FormLooks (StaticIf written test a b) = P test.port × (Looks a × Looks b)
    FormLooks (StaticRepeat written count a) = Looks a
    FormLooks (Timed k) = Unit {0}

    pub Looks : PlainStatement → Type 0
    Looks (Placed form place) = FormLooks form

    pub AllLook : PlainStatements → Type 0
    AllLook no_statements = Unit {0}
    AllLook (a_statement s ss) = Looks s × AllLook ss

  -- of the statements that are visited
  abbrev OfIf : PlainForm → Type 0
  OfIf form = (written : Option ℕ) (test : PlacedPort) (a b : PlainStatement) → form ≡ StaticIf written test a b → P test.port

  abbrev pub Visits : List Visited → Type 0
  Visits vs = (v : Visited) → In vs v → OfIf v.form

  visits_both : (xs ys : List Visited) → Visits xs → Visits ys → Visits (xs ++ ys)
  visits_both xs ys h g v i = ⊎_elim (λ j. h v j) (λ j. g v j) (in_either xs ys v i)

  own_if : (form : PlainForm) → FormLooks form → OfIf form
  own_if Empty h written test a b e = absurd (cc)
  own_if (Enable g) h written test a b e = absurd (cc)
  own_if (Seq ss) h written test a b e = absurd (cc)
  own_if (Par arms) h written test a b e = absurd (cc)
  own_if (If condition comb x y) h written test a b e = absurd (cc)
  own_if (While condition comb x) h written test a b e = absurd (cc)
  own_if (Repeat count x) h written test a b e = absurd (cc)
  own_if (StaticSeq length ss) h written test a b e = absurd (cc)
  own_if (StaticPar length arms) h written test a b e = absurd (cc)
  own_if (StaticIf length condition x y) h written test a b e = let same : condition ≡ test = cc in subst (λ (p : PlacedPort). P p.port) same h.0
  own_if (StaticRepeat length count x) h written test a b e = absurd (cc)
  own_if (Timed k) h written test a b e = absurd (cc)

  mutual
    form_visits : (context : Context) (form : PlainForm) → FormLooks form → Visits (visit_parts context form)
    form_visits context Empty h v i = absurd i
    form_visits context (Enable g) h v i = absurd i
    form_visits context (Seq ss) h v i = all_visits (below_dynamic context) ss h v i
    form_visits context (Par arms) h v i = all_visits (below_dynamic context) arms h v i
    form_visits context (If test comb a b) h v i = visits_both (visit (below_dynamic context) a) (visit (below_dynamic context) b) (one_visits (below_dynamic context) a h.0) (one_visits (below_dynamic context) b h.1) v i
    form_visits context (While test comb a) h v i = one_visits (below_dynamic context) a h v i
    form_visits context (Repeat count a) h v i = one_visits (below_dynamic context) a h v i
    form_visits context (StaticSeq written ss) h v i = all_visits InStatic ss h v i
    form_visits context (StaticPar written arms) h v i = all_visits InStatic arms h v i
    form_visits context (StaticIf written test a b) h v i = visits_both (visit Branch a) (visit Branch b) (one_visits Branch a h.1.0) (one_visits Branch b h.1.1) v i
    form_visits context (StaticRepeat written count a) h v i = one_visits InStatic a h v i
    form_visits context (Timed k) h v i = absurd i

    pub one_visits : (context : Context) (s : PlainStatement) → Looks s → Visits (visit context s)
    one_visits context (Placed form place) h v (inl same) = subst (λ (x : Visited). OfIf x.form) same (own_if form h)
    one_visits context (Placed form place) h v (inr i) = form_visits context form h v i

    all_visits : (context : Context) (ss : PlainStatements) → AllLook ss → Visits (visit_all context ss)
    all_visits context no_statements h v i = absurd i
    all_visits context (a_statement s ss) h v i = visits_both (visit context s) (visit_all context ss) (one_visits context s h.0) (all_visits context ss h.1) v i

  -- and back
  mutual
    visited_form : (context : Context) (form : PlainForm) → OfIf form → Visits (visit_parts context form) → FormLooks form
    visited_form context Empty here h = tt
    visited_form context (Enable g) here h = tt
    visited_form context (Seq ss) here h = visited_all (below_dynamic context) ss h
    visited_form context (Par arms) here h = visited_all (below_dynamic context) arms h
    visited_form context (If test comb a b) here h =
        (visited (below_dynamic context) a (λ v i. h v (in_left (visit (below_dynamic context) a) (visit (below_dynamic context) b) v i)), visited (below_dynamic context) b (λ v i. h v (in_right (visit (below_dynamic context) a) (visit (below_dynamic context) b) v i)))
    visited_form context (While test comb a) here h = visited (below_dynamic context) a h
    visited_form context (Repeat count a) here h = visited (below_dynamic context) a h
    visited_form context (StaticSeq written ss) here h = visited_all InStatic ss h
    visited_form context (StaticPar written arms) here h = visited_all InStatic arms h
    visited_form context (StaticIf written test a b) here h =
        (here written test a b refl, (visited Branch a (λ v i. h v (in_left (visit Branch a) (visit Branch b) v i)), visited Branch b (λ v i. h v (in_right (visit Branch a) (visit Branch b) v i))))
    visited_form context (StaticRepeat written count a) here h = visited InStatic a h
    visited_form context (Timed k) here h = tt

    pub visited : (context : Context) (s : PlainStatement) → Visits (visit context s) → Looks s
    visited context (Placed form place) h = visited_form context form (h (record { context = context; form = form; place = place }) (inl refl)) (λ v i. h v (inr i))

    visited_all : (context : Context) (ss : PlainStatements) → Visits (visit_all context ss) → AllLook ss
    visited_all context no_statements h = tt
    visited_all context (a_statement s ss) h =
        (visited context s (λ v i. h v (in_left (visit context s) (visit_all context ss) v i)), visited_all context ss (λ v i. h v (in_right (visit context s) (visit_all context ss) v i)))

-- of a copy
module _ (P : PortRef → Type 0) (f : PortRef → PortRef) (copy : ℕ → ℕ) where
  mutual
    form_copied : (form : PlainForm) → FormLooks (λ p. P (f p)) form → FormLooks P (copied_form f copy form)
    form_copied Empty h = tt
    form_copied (Enable g) h = tt
    form_copied (Seq ss) h = all_copied ss h
    form_copied (Par arms) h = all_copied arms h
    form_copied (If test comb a b) h = (looks_copied a h.0, looks_copied b h.1)
    form_copied (While test comb a) h = looks_copied a h
    form_copied (Repeat count a) h = looks_copied a h
    form_copied (StaticSeq written ss) h = all_copied ss h
    form_copied (StaticPar written arms) h = all_copied arms h
    form_copied (StaticIf written test a b) h = (h.0, (looks_copied a h.1.0, looks_copied b h.1.1))
    form_copied (StaticRepeat written count a) h = looks_copied a h
    form_copied (Timed k) h = tt

    pub looks_copied : (s : PlainStatement) → Looks (λ p. P (f p)) s → Looks P (copied_statement f copy s)
    looks_copied (Placed form place) h = form_copied form h

    all_copied : (ss : PlainStatements) → AllLook (λ p. P (f p)) ss → AllLook P (copied_statements f copy ss)
    all_copied no_statements h = tt
    all_copied (a_statement s ss) h = (looks_copied s h.0, all_copied ss h.1)

captured : (P : PortRef → Type 0) (o : Option ℕ) (s : PlainStatement) → Looks P s → FormLooks P (with_capture o s)
captured P None (Placed form place) h = h
captured P (Some g) s h = (h, (tt, tt))

-- of flat control, where those of the control and of its invokes are
module _ (P Q : PortRef → Type 0) (kids : Kids) (part : PlainComponent) (moves : (p : PortRef) → Q p → P (own_port kids part p))
    (invokes : (k : ℕ) → k < length part.invokes → FormLooks P (inlined kids part (kid_at kids (the_invoke part k).cell) k (the_invoke part k))) where
  mutual
    form_flat : (form : PlainForm) → ((k : ℕ) → In (timed_in form) k → k < length part.invokes) → FormLooks Q form → FormLooks P (flat_form kids part form)
    form_flat Empty t h = tt
    form_flat (Enable g) t h = tt
    form_flat (Seq ss) t h = all_flat ss t h
    form_flat (Par arms) t h = all_flat arms t h
    form_flat (If test comb a b) t h = (looks_flat a (λ k i. t k (in_left (timed_of a) (timed_of b) k i)) h.0, looks_flat b (λ k i. t k (in_right (timed_of a) (timed_of b) k i)) h.1)
    form_flat (While test comb a) t h = looks_flat a t h
    form_flat (Repeat count a) t h = looks_flat a t h
    form_flat (StaticSeq written ss) t h = all_flat ss t h
    form_flat (StaticPar written arms) t h = all_flat arms t h
    form_flat (StaticIf written test a b) t h = (moves test.port h.0, (looks_flat a (λ k i. t k (in_left (timed_of a) (timed_of b) k i)) h.1.0, looks_flat b (λ k i. t k (in_right (timed_of a) (timed_of b) k i)) h.1.1))
    form_flat (StaticRepeat written count a) t h = looks_flat a t h
    form_flat (Timed k) t h = invokes k (t k (inl refl))

    pub looks_flat : (s : PlainStatement) → ((k : ℕ) → In (timed_of s) k → k < length part.invokes) → Looks Q s → Looks P (flat_statement kids part s)
    looks_flat (Placed form place) t h = form_flat form t h

    all_flat : (ss : PlainStatements) → ((k : ℕ) → In (timed_all ss) k → k < length part.invokes) → AllLook Q ss → AllLook P (flat_statements kids part ss)
    all_flat no_statements t h = tt
    all_flat (a_statement s ss) t h = (looks_flat s (λ k i. t k (in_left (timed_of s) (timed_all ss) k i)) h.0, all_flat ss (λ k i. t k (in_right (timed_of s) (timed_all ss) k i)) h.1)

-- the conditions of a static component, in a host in which its inputs rest
abbrev TestsRest : Instance → Type 0
TestsRest i = (host : Instance) (first : ℕ) (f : PortRef → PortRef) → IsRestSeat host i first f
    → ((n : ℕ) → n < length (part_of i).inputs → Surely (Rests host (f (ports.Input n)))) → Looks (λ p. Surely (Rests host (f p))) (flat_part i).control

module _ (part : PlainComponent) (cells : Cells) (ruled : IsRuled part (Node part cells)) (has : HasCells part cells) (fair : AllFair (Node part cells)) (calm : AreAcyclic (Node part cells))
    (below : (c : ℕ) (child : Instance) → cell_at cells c ≡ OfInstance child → is_static child ≡ true → TestsRest child) where
  abbrev kids : Kids
  kids = flat_kids cells

  safe_below : (c : ℕ) (child : Instance) → cell_at cells c ≡ OfInstance child → OutputsSafe child
  safe_below = kids_safe cells fair.1 calm.1

  -- what a static if looks at rests, and so does what an invoke binds
  abbrev Good : PortRef → Type 0
  Good p = IsAtRest (Node part cells) p × IsNamed (Node part cells) p

  tests_good : Looks Good part.control
  tests_good = visited Good Dynamic part.control (λ v i written test a b e. (ruled.tests_rest v written test a b i e, named part cells ruled has test.port (ruled.tests v test i (ap test_in e))))

  source_good : (k n : ℕ) (child : Instance) → k < length part.invokes → cell_at cells (the_invoke part k).cell ≡ OfInstance child → n < length (part_of child).inputs
      → Good (source_to (the_invoke part k).cell (the_invoke part k).inputs n)
  source_good k n child less at there =
      bound_source Good (the_invoke part k).cell (input_port (the_invoke part k).cell n) (the_invoke part k).inputs (input_bound part cells ruled has k n child less at there)
      (λ a m. (λ never. unbroken part cells ruled has k less (restless a a.source.port m (inr refl) never), named part cells ruled has a.source.port (ruled.inputs (the_invoke part k) a (in_invokes part.invokes k less) m)))

  module _ (host : Instance) (first : ℕ) (f : PortRef → PortRef) (base : IsRestSeat host (Node part cells) first f) (wanted : ℕ → Type 0)
      (always_wants : (a : PlainAssign) (n : ℕ) → In part.always a → AssignNames a (ports.Input n) → wanted n) (inputs : (n : ℕ) → wanted n → Surely (Rests host (f (ports.Input n))))
      (named_wants : (n : ℕ) → n < length part.inputs → wanted n) where
    abbrev P : PortRef → Type 0
    P p = Surely (Rests host (f p))

    wants : (p : PortRef) → IsNamed (Node part cells) p → (n : ℕ) → p ≡ ports.Input n → wanted n
    wants p its n e = named_wants n (subst (IsNamed (Node part cells)) e its)

    moved : (p : PortRef) → Good p → P (own_port kids part p)
    moved p good =
        at_rest_there part cells fair safe_below host first f base wanted always_wants inputs
        (wire_rests part cells fair safe_below (λ c child at static. kids_rest cells fair.1 calm.1 c child at static) host first f base) p good.0 good.1 (wants p good.1)

    of_kid : (k : ℕ) → k < length part.invokes → (kid : Option PlainComponent) → kid_at kids (the_invoke part k).cell ≡ kid → FormLooks P (inlined kids part kid k (the_invoke part k))
    of_kid k less None its = tt
    of_kid k less (Some kid) its =
        let v = the_invoke part k in
        let r = kid_from cells v.cell kid its in
        captured P v.captures (copied_statement (invoke_port kids part kid v) (copy_of kids part kid k) kid.control)
        (looks_copied P (invoke_port kids part kid v) (copy_of kids part kid k) kid.control
        (subst (λ (y : PlainComponent). Looks (λ p. P (invoke_port kids part y v p)) y.control) r.3
        (below v.cell r.0 r.1 r.2 host (first + start_of kids part v.cell) (λ q. f (invoke_port kids part (flat_part r.0) v q))
        (child_rest_seat part cells fair safe_below host first f base v.cell r.0 r.1 r.2 (λ n. own_port kids part (source_to v.cell v.inputs n)))
        (λ n there. moved (source_to v.cell v.inputs n) (source_good k n r.0 less r.1 there)))))

    node_looks : Looks P (flat_part (Node part cells)).control
    node_looks = looks_flat P Good kids part moved (λ k less. of_kid k less (kid_at kids (the_invoke part k).cell) refl) part.control (timed_there part cells ruled has) tests_good

mutual
  tests_rest : (i : Instance) → AllRuled i → AllHave i → AllFair i → AreAcyclic i → is_static i ≡ true → TestsRest i
  tests_rest (Node part cells) ruled has fair calm static host first f base inputs =
      node_looks part cells ruled.0 has.0 fair calm (λ c child at is. tests_below cells ruled.1 has.1 fair.1 calm.1 c child at is) host first f base (λ n. n < length part.inputs)
      (λ a n j names. absurd (fair.0.kept static a n j names)) inputs (λ n less. less)

  tests_below : (cells : Cells) → AllRuledBelow cells → AllHaveBelow cells → AllFairBelow cells → AcyclicBelow cells → (c : ℕ) (child : Instance) → cell_at cells c ≡ OfInstance child → is_static child ≡ true → TestsRest child
  tests_below no_cells ruled has fair calm c child at static = absurd (cc)
  tests_below (a_primitive row rest) ruled has fair calm zero child at static = absurd (cc)
  tests_below (a_primitive row rest) ruled has fair calm (suc c) child at static = tests_below rest ruled has fair calm c child at static
  tests_below (an_instance other rest) ruled has fair calm zero child at static =
      let same : other ≡ child = cc in subst TestsRest same (tests_rest other ruled.0 has.0 fair.0 calm.0 (ap is_static same ∙ static))
  tests_below (an_instance other rest) ruled has fair calm (suc c) child at static = tests_below rest ruled.1 has.1 fair.1 calm.1 c child at static

-- EACH CONDITION of a static if in flat control rests on state
pub flat_tests_rest : (i flat : Instance) → IsFlattened i flat → AllRuled i → AllHave i → AllFair i → AreAcyclic i → Looks (λ p. IsAtRest flat p) (flat_part i).control
flat_tests_rest (Node part cells) flat flattened ruled has fair calm =
    node_looks part cells ruled.0 has.0 fair calm (λ c child at is. tests_below cells ruled.1 has.1 fair.1 calm.1 c child at is) flat 0 (λ q. q) (top_rest_seat (Node part cells) flat flattened)
    (λ n. Unit {0}) (λ a n j names. tt) (λ n h. surely input_rests) (λ n less. tt)
