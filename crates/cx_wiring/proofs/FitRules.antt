-- What the rules say of the statements and the assignments of an accepted design, in its net: tests and atoms are bits, targets and
-- sources, and what is compared, are equally wide, and lengths, counts and ranges are numbers of 32 bits.
use Rattle.std.proofs.Common.{◌≡◌, inl, inr, ℕ, ◌+◌, ◌<◌, ◌≤◌, Bool, true, false, ◌&&◌, ◌||◌, not, cond, if◌then◌else◌, List, [], ◌∷◌, length, Option, Some, None, slice_get, get_or, refl, ap, ap₂, sym, ◌∙◌, subst, arith}
use Rattle.std.specs.Prelude.{◌^◌, nat_lt, nat_le, nat_eq, filter, option_map}
use Rattle.std.proofs.lemmas.Bool.{ltb-true, eqb-true}
use Rattle.std.proofs.lemmas.Bool.Decides.{nat_tests}
use Rattle.std.proofs.lemmas.Option.{slice_get-get_or}
use Rattle.cx_text.proofs.MemberLaws.{in_left, in_right, number_in}
use Rattle.cx_text.specs.declared.limits.TheConstants.{REPETITIONS}
use Rattle.cx_text.specs.declared.rules.Rule.TheVariants as told
use Rattle.cx_meaning.specs.declared.ports.PortRef.{PortRef}
use Rattle.cx_meaning.specs.declared.ports.PortRef.TheVariants as ports
use Rattle.cx_meaning.specs.declared.ports.PlacedPort.{PlacedPort}
use Rattle.cx_meaning.specs.declared.kinds.GroupKind.{GroupKind}
use Rattle.cx_meaning.specs.declared.kinds.GroupKind.TheVariants as kinds
use Rattle.cx_meaning.specs.Designs.{PlainGuard, Always, Atom, Negation, All, Any, Compared, Within, PlainGuards, no_guards, a_guard, PlainAssign, PlainGroup, PlainComponent, PlainDesign, component_at, no_group}
use Rattle.cx_meaning.specs.Instances.{Instance, part_of}
use Rattle.cx_meaning.specs.Active.{Owned, source_order}
use Rattle.cx_meaning.specs.Islands.{kind_length, group_length, form_length}
use Rattle.cx_text.specs.Members.{In, Each}
use Rattle.cx_rules.specs.Flat.{IsFlat}
use Rattle.cx_rules.specs.Accepted.{IsAccepted}
use Rattle.cx_rules.specs.Items.{Pair, atoms_of, atoms_in, comparisons_of, comparisons_in, operands_of, operands_in, Range, ranges_of, ranges_in, sources_of, Visited, statements_in, test_in}
use Rattle.cx_rules.specs.LimitRule.{Limited, word_of, count_in, is_too_many, statement_limit}
use Rattle.cx_rules.specs.Invokes.{form_lasts}
use Rattle.cx_rules.proofs.InvokesLemmas.{form_lasts-flat}
use Rattle.cx_rules.proofs.LimitRuleLemmas.{keeps_limits}
use Rattle.cx_rules.specs.Ports.{width_of, is_source_only, path_of}
use Rattle.cx_rules.specs.ShapeRules.{owner_length, is_bad_range}
use Rattle.cx_rules.specs.Spots.{AnAssign, AStatement}
use Rattle.cx_rules.specs.StaticControl.{is_island}
use Rattle.cx_rules.specs.Wellformed.{IsDesign, IsThere, IsAssign, StandsIn, IsStatement, IsForm}
use Rattle.cx_rules.specs.WidthRules.{differ, pairs_of, first_unequal, is_wide, first_wide, IsBadLiteral}
use Rattle.cx_laws.proofs.StaticLemmas.{group_lasts}
use Rattle.cx_laws.proofs.LengthLemmas.{stands_well}
use Rattle.cx_net.specs.NetFits.{HasPortWidth, target_width}
use Rattle.cx_static.specs.Islands.{PlainOccurrence, PlainIsland}
use Rattle.cx_static.specs.Lowering.{lowered_component, lowered_of}
use Rattle.cx_wiring.specs.Assignments.{occurs_among, occurs_in, kind_drives, owner_drives, is_driven, driven_assigns, target_of}
use Rattle.cx_wiring.specs.Reached.{has_number, order}
use Rattle.cx_wiring.specs.Bounds.{IsProper}
use Rattle.cx_wiring.specs.Fitting.{GuardFits, GuardsFit, AssignFits, OwnerFits, OwnedFits}
use Rattle.cx_wiring.proofs.DesignNames.{in_filter, stands_in}
use Rattle.cx_wiring.proofs.WayLemmas.{there}
use Rattle.cx_wiring.proofs.FitLemmas.{are_each}
use Rattle.cx_wiring.proofs.FitIslands.{hole_width}
use Rattle.cx_wiring.proofs.FitLowering.{Fine, IsShort}
use Rattle.cx_wiring.proofs.FitPorts.{whole, net, npart, part_is, port_wide, width_some}
use Rattle.cx_text.proofs.NumberLaws.{never}
use Rattle.cx_rules.proofs.WidthRulesLemmas.{bit_width}

-- WIDTHS that do not differ
no_difference : (v w : ℕ) → differ (Some v) (Some w) ≡ false → v ≡ w
no_difference v w e = eqb-true v w (not_false (nat_eq v w) e)
  where
    not_false : (b : Bool) → not b ≡ false → b ≡ true
    not_false true f = refl
    not_false false f = absurd cc

none_unequal : (i : Instance) (pairs : List Pair) → first_unequal i pairs ≡ None → (pair : Pair) → In pairs pair → differ (width_of i pair.first) (width_of i pair.second) ≡ false
none_unequal i [] none pair m = absurd m
none_unequal i (x ∷ pairs) none pair m = by (differ (width_of i x.first) (width_of i x.second)) refl none (none_unequal i pairs)
  where
    by : (b : Bool) → differ (width_of i x.first) (width_of i x.second) ≡ b → (if b then Some x.first else first_unequal i pairs) ≡ None
        → (first_unequal i pairs ≡ None → (q : Pair) → In pairs q → differ (width_of i q.first) (width_of i q.second) ≡ false) → differ (width_of i pair.first) (width_of i pair.second) ≡ false
    by true is e later = absurd cc
    by false is e later = either m
      where
        either : In (x ∷ pairs) pair → differ (width_of i pair.first) (width_of i pair.second) ≡ false
        either (inl same) = subst (λ (q : Pair). differ (width_of i q.first) (width_of i q.second) ≡ false) same is
        either (inr n) = later e pair n

none_wide : (i : Instance) (atoms : List PlacedPort) → first_wide i atoms ≡ None → (p : PlacedPort) → In atoms p → is_wide i p.port ≡ false
none_wide i [] none p m = absurd m
none_wide i (x ∷ atoms) none p m = by (is_wide i x.port) refl none (none_wide i atoms)
  where
    by : (b : Bool) → is_wide i x.port ≡ b → (if b then Some x.port else first_wide i atoms) ≡ None → (first_wide i atoms ≡ None → (q : PlacedPort) → In atoms q → is_wide i q.port ≡ false) → is_wide i p.port ≡ false
    by true is e later = absurd cc
    by false is e later = either m
      where
        either : In (x ∷ atoms) p → is_wide i p.port ≡ false
        either (inl same) = subst (λ (q : PlacedPort). is_wide i q.port ≡ false) same is
        either (inr n) = later e p n

few_rounds : (o : Option ℕ) → is_too_many o ≡ false → (n : ℕ) → o ≡ Some n → n < 2 ^ 32
few_rounds None e n is = absurd cc
few_rounds (Some m) e n is = let same : m ≡ n = cc in subst (λ x. x < 2 ^ 32) same (less m e)
  where
    less : (x : ℕ) → nat_le REPETITIONS x ≡ false → x < 2 ^ 32
    less x f = grind (arith, nat_tests)

few_cycles : (island : Bool) (n : ℕ) → (island && nat_le REPETITIONS n) ≡ false → island ≡ true → n < 2 ^ 32
few_cycles true n e is = less n e
  where
    less : (x : ℕ) → nat_le REPETITIONS x ≡ false → x < 2 ^ 32
    less x f = grind (arith, nat_tests)
few_cycles false n e is = never is

good_range : (n from to : ℕ) → (not (nat_lt from to) || nat_lt n to) ≡ false → n < 2 ^ 32 → (from < 2 ^ 32) × (to < 2 ^ 32)
good_range n from to e few = by (nat_lt from to) refl (nat_lt n to) refl e
  where
    by : (a : Bool) → nat_lt from to ≡ a → (b : Bool) → nat_lt n to ≡ b → (not a || b) ≡ false → (from < 2 ^ 32) × (to < 2 ^ 32)
    by true f true g h = absurd cc
    by true f false g h =
        let less : from < to = ltb-true from to f in
        let most : to ≤ n = not_less n to g in
        (omega arith, omega arith)
      where
        not_less : (x y : ℕ) → nat_lt x y ≡ false → y ≤ x
        not_less x y i = grind (arith, nat_tests)
    by false f b g h = absurd cc

-- an occurrence of a group that occurs
occurs_among_is : (P : PlainOccurrence → Type 0) (g : ℕ) (os : List PlainOccurrence) → Each P os → occurs_among g os ≡ true → (o : PlainOccurrence) × (o.group ≡ g) × P o
occurs_among_is P g [] all e = never e
occurs_among_is P g (o ∷ os) all e = by (nat_eq o.group g) refl e (occurs_among_is P g os all.1)
  where
    by : (b : Bool) → nat_eq o.group g ≡ b → (b || occurs_among g os) ≡ true → (occurs_among g os ≡ true → (x : PlainOccurrence) × (x.group ≡ g) × P x) → (x : PlainOccurrence) × (x.group ≡ g) × P x
    by true is f later = (o, eqb-true o.group g is, all.0)
    by false is f later = later f

occurs_is : (P : PlainOccurrence → Type 0) (g : ℕ) (islands : List PlainIsland) → Each (λ island. Each P island.occurrences) islands → occurs_in g islands ≡ true → (o : PlainOccurrence) × (o.group ≡ g) × P o
occurs_is P g [] all e = never e
occurs_is P g (island ∷ islands) all e = by (occurs_among g island.occurrences) refl e (occurs_is P g islands all.1)
  where
    by : (b : Bool) → occurs_among g island.occurrences ≡ b → (b || occurs_in g islands) ≡ true → (occurs_in g islands ≡ true → (x : PlainOccurrence) × (x.group ≡ g) × P x) → (x : PlainOccurrence) × (x.group ≡ g) × P x
    by true is f later = occurs_among_is P g island.occurrences all.0 is
    by false is f later = later f

passes : {A : Type 0} (p : A → Bool) (xs : List A) (y : A) → In (filter p xs) y → p y ≡ true
passes p [] y i = absurd i
passes p (x ∷ xs) y i = one (p x) refl (passes p xs y) i
  where
    one : (b : Bool) → p x ≡ b → (In (filter p xs) y → p y ≡ true) → In (cond b (x ∷ filter p xs) (filter p xs)) y → p y ≡ true
    one true is later (inl e) = ap p (sym e) ∙ is
    one true is later (inr j) = later j
    one false is later j = later j

module _ (d : PlainDesign) (rules : IsDesign d) (flat : IsFlat d) (accepted : IsAccepted d) (k : ℕ) (here : has_number k (order (lowered_of d)) ≡ true) where
  abbrev part : PlainComponent
  part = component_at d k

  within : k < length d.components
  within = there d rules k here

  -- STATEMENTS
  module _ (v : Visited) (i : In (statements_in part) v) where
    is_statement : IsStatement (whole d rules k here) v
    is_statement = (rules.components k within).statements v i

    good_test : (p : PlacedPort) → test_in v.form ≡ Some p → IsBadLiteral p.port → ⊥
    good_test p is bad =
        let n = number_in (statements_in part) v i in
        accepted.widths told.Literal (record { component = k; part = AStatement n.0 }) p.place [] refl
        (inr (inl (record { within = within; number = n.0; is = refl; statement = v; stands = n.1; breaks = (p, is, bad, (refl, refl)) })))

    narrow_test : (p : PlacedPort) → test_in v.form ≡ Some p → is_wide (whole d rules k here) p.port ≡ false
    narrow_test p is = by (is_wide (whole d rules k here) p.port) refl
      where
        by : (b : Bool) → is_wide (whole d rules k here) p.port ≡ b → b ≡ false
        by false e = refl
        by true e =
            let n = number_in (statements_in part) v i in
            absurd (accepted.widths told.GuardWidth (record { component = k; part = AStatement n.0 }) v.place (path_of (whole d rules k here) p.port) refl
            (inr (inl (record { within = within; number = n.0; is = refl; statement = v; stands = n.1; breaks = (p, is, e, (refl, refl)) }))))

    test_fits : (p : PlacedPort) → test_in v.form ≡ Some p → HasPortWidth (net d rules k here) (npart d rules k here) p.port 1
    test_fits p is =
        let w = width_some (whole d rules k here) p.port (is_statement.test p is) (good_test p is) in
        let one = bit_width (whole d rules k here) p.port w.0 w.1 (narrow_test p is) in
        subst (λ x. HasPortWidth (net d rules k here) (npart d rules k here) p.port x) one (port_wide d rules k here p.port w.0 (is_statement.test p is) (is_statement.no_hole p is) w.1)

    no_statement_limit : statement_limit (whole d rules k here) v ≡ None
    no_statement_limit = by (statement_limit (whole d rules k here) v) refl
      where
        by : (o : Option Limited) → statement_limit (whole d rules k here) v ≡ o → o ≡ None
        by None e = refl
        by (Some limited) e =
            let n = number_in (statements_in part) v i in
            absurd (accepted.limits told.Limit (record { component = k; part = AStatement n.0 }) v.place (word_of limited) refl
            (inr (inr (inl (record { within = within; number = n.0; is = refl; statement = v; stands = n.1; breaks = (limited, e, (refl, refl)) })))))

    length_is : form_lasts (part_of (whole d rules k here)) v.form ≡ form_length part v.form
    length_is = ap (λ x. form_lasts x v.form) (part_is d rules k here) ∙ form_lasts-flat part (flat k within).no_invoke v.form

    limits_kept : (is_too_many (count_in v.form) ≡ false) × ((is_island part v && nat_le REPETITIONS (form_length part v.form)) ≡ false)
    limits_kept =
        let kept = keeps_limits (whole d rules k here) v no_statement_limit in
        (kept.0, sym (ap₂ (λ x n. is_island x v && nat_le REPETITIONS n) (part_is d rules k here) length_is) ∙ kept.1)

    -- WHAT THE RULES SAY of a statement
    pub statement_fine : Fine (net d rules k here) (npart d rules k here) part v
    statement_fine = record {
      form = subst (λ x. IsForm x v.form) (part_is d rules k here) is_statement.form;
      no_invoke = (flat k within).no_invoke;
      stands = stands_well d flat accepted k within v i;
      test = test_fits;
      short = λ island. few_cycles (is_island part v) (form_length part v.form) limits_kept.1 island;
      rounds = λ n is. few_rounds (count_in v.form) limits_kept.0 n is;
    }

  pub groups_last : (g n : ℕ) → g < length part.groups → group_length part g ≡ Some n → 0 < n
  groups_last g n less is = group_lasts d accepted k within g n less is

  -- ASSIGNMENTS
  module _ (o : Owned) (i : In (source_order part) o) where
    stands : StandsIn part o.owner o.assign
    stands = stands_in part o i

    is_assign : IsAssign (whole d rules k here) o.owner o.assign
    is_assign = (rules.components k within).assigns o.owner o.assign stands

    good_source : (p : PlacedPort) → In (sources_of o.assign) p → IsBadLiteral p.port → ⊥
    good_source p j bad =
        let n = number_in (source_order part) o i in
        accepted.widths told.Literal (record { component = k; part = AnAssign n.0 }) p.place [] refl
        (inl (record { within = within; number = n.0; is = refl; assign = o; stands = n.1; breaks = (p, j, bad, (refl, refl)) }))

    none_differ : first_unequal (whole d rules k here) (pairs_of o.assign) ≡ None
    none_differ = by (first_unequal (whole d rules k here) (pairs_of o.assign)) refl
      where
        by : (r : Option PortRef) → first_unequal (whole d rules k here) (pairs_of o.assign) ≡ r → r ≡ None
        by None e = refl
        by (Some port) e =
            let n = number_in (source_order part) o i in
            absurd (accepted.widths told.Width (record { component = k; part = AnAssign n.0 }) o.assign.place (path_of (whole d rules k here) port) refl
            (inl (record { within = within; number = n.0; is = refl; assign = o; stands = n.1; breaks = (port, e, (refl, refl)) })))

    none_too_wide : first_wide (whole d rules k here) (atoms_of o.assign.guard) ≡ None
    none_too_wide = by (first_wide (whole d rules k here) (atoms_of o.assign.guard)) refl
      where
        by : (r : Option PortRef) → first_wide (whole d rules k here) (atoms_of o.assign.guard) ≡ r → r ≡ None
        by None e = refl
        by (Some port) e =
            let n = number_in (source_order part) o i in
            absurd (accepted.widths told.GuardWidth (record { component = k; part = AnAssign n.0 }) o.assign.place (path_of (whole d rules k here) port) refl
            (inl (record { within = within; number = n.0; is = refl; assign = o; stands = n.1; breaks = (port, e, (refl, refl)) })))

    range_kept : (r : Range) → In (ranges_of o.assign.guard) r → is_bad_range (owner_length part o.owner) r ≡ false
    range_kept r j = subst (λ x. is_bad_range (owner_length x o.owner) r ≡ false) (part_is d rules k here) (by (is_bad_range (owner_length (part_of (whole d rules k here)) o.owner) r) refl)
      where
        by : (b : Bool) → is_bad_range (owner_length (part_of (whole d rules k here)) o.owner) r ≡ b → b ≡ false
        by false e = refl
        by true e =
            let n = number_in (source_order part) o i in
            absurd (accepted.shapes told.StaticGuard (record { component = k; part = AnAssign n.0 }) o.assign.place (path_of (whole d rules k here) o.assign.target) refl
            (record { within = within; number = n.0; is = refl; assign = o; stands = n.1; breaks = (r, j, e, (refl, refl)) }))

    -- a source that is there, with its width in the design and in the net
    record HasWidths (p : PortRef) : Type 0 where
      width : ℕ
      known : width_of (whole d rules k here) p ≡ Some width
      in_net : HasPortWidth (net d rules k here) (npart d rules k here) p width

    source_has : (p : PlacedPort) → In (sources_of o.assign) p → HasWidths p.port
    source_has p j =
        let w = width_some (whole d rules k here) p.port (is_assign.sources p j) (good_source p j) in
        record { width = w.0; known = w.1; in_net = port_wide d rules k here p.port w.0 (is_assign.sources p j) (is_assign.no_hole p j) w.1 }

    target_has : (p : PortRef) → o.assign.target ≡ p → (w : ℕ) → width_of (whole d rules k here) p ≡ Some w → target_width (net d rules k here) (npart d rules k here) (target_of p) ≡ Some w
    target_has (ports.Cell c p) is w e =
        let spot = subst (IsThere (whole d rules k here)) is is_assign.target in
        port_wide d rules k here (ports.Cell c p) w spot refl e
    target_has (ports.Input n) is w e =
        let spot = subst (IsThere (whole d rules k here)) is is_assign.target in
        port_wide d rules k here (ports.Input n) w spot refl e
    target_has (ports.Output n) is w e =
        let spot = subst (IsThere (whole d rules k here)) is is_assign.target in
        port_wide d rules k here (ports.Output n) w spot refl e
    target_has (ports.Done g) is w e =
        let spot = subst (IsThere (whole d rules k here)) is is_assign.target in
        let less : g < length part.groups = subst (λ (x : PlainComponent). g < length x.groups) (part_is d rules k here) spot in
        let few : g < length part.groups + length part.groups = omega arith in
        hole_width (net d rules k here) (npart d rules k here) g few ∙ e
    target_has (ports.Literal u v) is w e = absurd (is_assign.no_literal u v is)

    -- an input of the signature is no target
    no_input : (n : ℕ) → o.assign.target ≡ ports.Input n → ⊥
    no_input n is =
        let at = number_in (source_order part) o i in
        accepted.widths told.NotATarget (record { component = k; part = AnAssign at.0 }) o.assign.place (path_of (whole d rules k here) o.assign.target) refl
        (inl (record { within = within; number = at.0; is = refl; assign = o; stands = at.1; breaks = (ap (is_source_only (whole d rules k here)) is, (refl, refl)) }))

    target_proper : (p : PortRef) → o.assign.target ≡ p → IsProper (target_of p)
    target_proper (ports.Cell c p) is = tt
    target_proper (ports.Input n) is = no_input n is
    target_proper (ports.Output n) is = tt
    target_proper (ports.Done g) is = tt
    target_proper (ports.Literal w v) is = is_assign.no_literal w v is

    target_known : (w : ℕ) × (width_of (whole d rules k here) o.assign.target ≡ Some w)
    target_known = width_some (whole d rules k here) o.assign.target is_assign.target (λ bad. is_assign.no_literal bad.0 bad.1 bad.2)

    -- GUARDS
    module _ (few : (r : Range) → In (ranges_of o.assign.guard) r → (r.from < 2 ^ 32) × (r.to < 2 ^ 32)) where
      mutual
        guard_of : (g : PlainGuard) → ((p : PlacedPort) → In (operands_of g) p → HasWidths p.port) → ((p : PlacedPort) → In (atoms_of g) p → is_wide (whole d rules k here) p.port ≡ false)
            → ((pair : Pair) → In (comparisons_of g) pair → differ (width_of (whole d rules k here) pair.first) (width_of (whole d rules k here) pair.second) ≡ false)
            → ((r : Range) → In (ranges_of g) r → (r.from < 2 ^ 32) × (r.to < 2 ^ 32)) → GuardFits (net d rules k here) (npart d rules k here) g
        guard_of Always has narrow same short = tt
        guard_of (Atom p) has narrow same short =
            let w = has p (inl refl) in
            subst (λ x. HasPortWidth (net d rules k here) (npart d rules k here) p.port x) (bit_width (whole d rules k here) p.port w.width w.known (narrow p (inl refl))) w.in_net
        guard_of (Negation g) has narrow same short = guard_of g has narrow same short
        guard_of (All gs) has narrow same short = guards_of gs has narrow same short
        guard_of (Any gs) has narrow same short = guards_of gs has narrow same short
        guard_of (Compared c a b) has narrow same short =
            let v = has a (inl refl) in
            let w = has b (inr (inl refl)) in
            let pair : Pair = record { first = a.port; second = b.port } in
            let equal : v.width ≡ w.width = no_difference v.width w.width
            (ap (λ x. differ x (Some w.width)) (sym v.known) ∙ ap (differ (width_of (whole d rules k here) a.port)) (sym w.known) ∙ same pair (inl refl)) in
            (v.width, v.in_net, subst (λ x. HasPortWidth (net d rules k here) (npart d rules k here) b.port x) (sym equal) w.in_net)
        guard_of (Within from to) has narrow same short = short (record { from = from; to = to }) (inl refl)

        guards_of : (gs : PlainGuards) → ((p : PlacedPort) → In (operands_in gs) p → HasWidths p.port) → ((p : PlacedPort) → In (atoms_in gs) p → is_wide (whole d rules k here) p.port ≡ false)
            → ((pair : Pair) → In (comparisons_in gs) pair → differ (width_of (whole d rules k here) pair.first) (width_of (whole d rules k here) pair.second) ≡ false)
            → ((r : Range) → In (ranges_in gs) r → (r.from < 2 ^ 32) × (r.to < 2 ^ 32)) → GuardsFit (net d rules k here) (npart d rules k here) gs
        guards_of no_guards has narrow same short = tt
        guards_of (a_guard g gs) has narrow same short = (
          guard_of g (λ p j. has p (in_left (operands_of g) (operands_in gs) p j)) (λ p j. narrow p (in_left (atoms_of g) (atoms_in gs) p j)) (λ q j. same q (in_left (comparisons_of g) (comparisons_in gs) q j))
              (λ r j. short r (in_left (ranges_of g) (ranges_in gs) r j)),
          guards_of gs (λ p j. has p (in_right (operands_of g) (operands_in gs) p j)) (λ p j. narrow p (in_right (atoms_of g) (atoms_in gs) p j)) (λ q j. same q (in_right (comparisons_of g) (comparisons_in gs) q j))
              (λ r j. short r (in_right (ranges_of g) (ranges_in gs) r j)),
        )

      assign_fits : AssignFits (net d rules k here) (npart d rules k here) o.assign
      assign_fits =
          let t = target_known in
          let s = source_has o.assign.source (inl refl) in
          let pair : Pair = record { first = o.assign.target; second = o.assign.source.port } in
          let differs = none_unequal (whole d rules k here) (pairs_of o.assign) none_differ in
          let equal : t.0 ≡ s.width = no_difference t.0 s.width
          (ap (λ x. differ x (Some s.width)) (sym t.1) ∙ ap (differ (width_of (whole d rules k here) o.assign.target)) (sym s.known) ∙ differs pair (inl refl)) in
          record {
            proper = target_proper o.assign.target refl;
            guard = guard_of o.assign.guard (λ p j. source_has p (inr j)) (none_wide (whole d rules k here) (atoms_of o.assign.guard) none_too_wide) (λ q j. differs q (inr j)) few;
            width = t.0;
            target = target_has o.assign.target refl t.0 t.1;
            source = subst (λ x. HasPortWidth (net d rules k here) (npart d rules k here) o.assign.source.port x) (sym equal) s.in_net;
          }

  -- RANGES of a group that is driven are within its length, which is a number of 32 bits
  module _ (short : Each (λ island. Each (IsShort (net d rules k here) (npart d rules k here) part) island.occurrences) (lowered_component part).islands) where
    occurring : (g n : ℕ) → group_length part g ≡ Some n → occurs_in g (lowered_component part).islands ≡ true → n < 2 ^ 32
    occurring g n is occurs =
        let r = occurs_is (IsShort (net d rules k here) (npart d rules k here) part) g (lowered_component part).islands short occurs in
        r.2 n (ap (group_length part) r.1 ∙ is)

    timed_drives : (kind : GroupKind) (occurs : Bool) (n : ℕ) → kind_drives occurs (Some kind) ≡ true → kind_length kind ≡ Some n → occurs ≡ true
    timed_drives kinds.Plain occurs n drives is = absurd cc
    timed_drives kinds.Comb occurs n drives is = absurd cc
    timed_drives (kinds.Timed m) occurs n drives is = drives

    group_there : (g : ℕ) (occurs : Bool) (found : Option PlainGroup) → slice_get part.groups g ≡ found → kind_drives occurs (option_map (λ (x : PlainGroup). x.kind) found) ≡ true → (n : ℕ) → kind_length (get_or part.groups g no_group).kind ≡ Some n → g < length part.groups → occurs ≡ true
    group_there g occurs None is drives n long less = never drives
    group_there g occurs (Some x) is drives n long less =
        let same : Some (get_or part.groups g no_group) ≡ Some x = sym (slice_get-get_or part.groups g no_group less) ∙ is in
        let one : get_or part.groups g no_group ≡ x = some_same (get_or part.groups g no_group) x same in
        timed_drives x.kind occurs n drives (ap (λ (y : PlainGroup). kind_length y.kind) (sym one) ∙ long)
      where
        some_same : (a b : PlainGroup) → Some a ≡ Some b → a ≡ b
        some_same a b e = cc

    range_few : (owner : Option ℕ) (r : Range) → OwnerFits (net d rules k here) (npart d rules k here) (length part.groups) owner → owner_drives (lowered_component part) owner ≡ true → is_bad_range (owner_length part owner) r ≡ false
        → (r.from < 2 ^ 32) × (r.to < 2 ^ 32)
    range_few None r less drives e = never (sym e)
    range_few (Some g) r less drives e = by (group_length part g) refl e
      where
        by : (long : Option ℕ) → group_length part g ≡ long → is_bad_range long r ≡ false → (r.from < 2 ^ 32) × (r.to < 2 ^ 32)
        by None is f = never (sym f)
        by (Some n) is f =
            good_range n r.from r.to f
            (occurring g n is (group_there g (occurs_in g (lowered_component part).islands) (slice_get part.groups g) refl drives n is less))

    owner_fits : (owner : Option ℕ) (a : PlainAssign) → StandsIn part owner a → OwnerFits (net d rules k here) (npart d rules k here) (length part.groups) owner
    owner_fits None a is = tt
    owner_fits (Some g) a is = is.0

    -- WHAT THE RULES SAY of the assignments
    pub assigns_fine : Each (OwnedFits (net d rules k here) (npart d rules k here) (length part.groups)) (driven_assigns (lowered_component part))
    assigns_fine =
        are_each (OwnedFits (net d rules k here) (npart d rules k here) (length part.groups)) (driven_assigns (lowered_component part))
        (λ o j.
        let i = in_filter (is_driven (lowered_component part)) (source_order part) o j in
        let drives = passes (is_driven (lowered_component part)) (source_order part) o j in
        let owns = owner_fits o.owner o.assign (stands o i) in
        record { owner = owns; assign = assign_fits o i (λ r m. range_few o.owner r owns drives (range_kept o i r m)) })
