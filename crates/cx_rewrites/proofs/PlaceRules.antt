-- RULES OF WIDTHS, SHAPES AND RACES: what breaks one breaks it at other places too.
use Rattle.std.proofs.Common.{◌≡◌, ◌≢◌, ℕ, ◌<◌, ◌⊎◌, inl, inr, Bool, ◌||◌, List, [], ◌∷◌, length, map, Some, refl, sym, ap, ap₂, ◌∙◌, subst}
use Rattle.std.specs.Prelude.{if◌then◌else◌, nat_eq, flat_map}
use Rattle.cx_text.specs.declared.places.Place.{Place}
use Rattle.cx_meaning.specs.declared.ports.PortRef.{PortRef}
use Rattle.cx_meaning.specs.declared.ports.PortRef.TheVariants as ports
use Rattle.cx_meaning.specs.declared.ports.PlacedPort.{PlacedPort}
use Rattle.cx_meaning.specs.Designs.{PlainInvoke, PlainComponent, group_at, PlainForm, Timed, PlainStatement}
use Rattle.cx_meaning.specs.Instances.{Instance, part_of, cells_of, cell_at, OfInstance}
use Rattle.cx_meaning.specs.Active.{Owned, nothing, group, same_port}
use Rattle.cx_text.specs.Members.{In}
use Rattle.cx_rules.specs.Ports.{width_of, is_source_only, is_target_only, is_primitive_enable, is_part_port}
use Rattle.cx_rules.specs.Items.{Pair, atoms_of, comparisons_of, ranges_of, sources_of, Dynamic, Visited, visit, test_in, is_plain, is_comb}
use Rattle.cx_rules.specs.Footprints.{Rests}
use Rattle.cx_rules.specs.WidthRules.{differ, pairs_of, first_unequal, BreaksWidth, is_wide, first_wide, BreaksGuardWidth, TestBreaksGuardWidth, IsBadLiteral, BreaksLiteral, TestBreaksLiteral, BreaksNotATarget, BreaksNotASource, TestBreaksNotASource}
use Rattle.cx_rules.specs.ShapeRules.{is_hole, is_hole_of, some_target, BreaksNoDone, BreaksDoneNotState, BreaksAlwaysEnable, BreaksCombEnable, owner_length, is_bad_range, BreaksStaticGuard, GroupBreaksStaticShape, BreaksStaticControl, BreaksLength, BreaksInvokeLength, BreaksStaticTest, LeadsToInput, BreaksOutputNotState, BreaksKept}
use Rattle.cx_rules.specs.InvokeShape.{BreaksStaticCell, LeadsToCell, itself, through, is_static_port, input_port, InvokeBreak, another_kind, unbound, restless, fed_back, BreaksInvoke}
use Rattle.cx_rules.specs.Invokes.{invoke_length, form_lasts}
use Rattle.cx_rules.specs.StaticControl.{is_static, is_in_static, is_timed, may_stand, form_has_length, written_length}
use Rattle.cx_rules.specs.RaceRule.{GroupBreaksCombCycle, arms_of, enabled_group, enabled_in, Arms, IsShared, IsEnabledTwice, BreaksRace}
use Rattle.cx_rules.specs.Spots.{AssignRule, StatementRule, GroupRule}
use Rattle.cx_rules.proofs.ShapeRulesLemmas.{owner_length-same}
use Rattle.cx_rewrites.specs.Places.{unplaced_port, unplaced_assign, unplaced_invoke, unplaced_owned, unplaced_form, unplaced, unplaced_visited, SamePart}
use Rattle.cx_rewrites.proofs.PlaceLemmas.{SameTree, same_parts}
use Rattle.cx_rewrites.proofs.PlaceStatements.{kind-same, assigns-same}
use Rattle.cx_rewrites.proofs.PlaceRuns.{same_part_itself}
use Rattle.cx_rewrites.proofs.PlacePorts.{width_of-same, written_width-same, is_source_only-same, is_target_only-same, is_primitive_enable-same, is_part_port-same, is_static_port-same, comparisons_of-unplaced, ranges_of-unplaced, atoms_of-unplaced, target_is, source_is, guard_is, names_same, sources_of-same, twin_in}
use Rattle.cx_rewrites.proofs.PlaceLeads.{depends-same, has_cycle-same, rests-same, visit-unplaced, child_there}
use Rattle.cx_rewrites.proofs.PlaceShapes.{twin_at, some_target-unplaced, TestAlike, test_alike, StaticIfAlike, static_if_alike, arms_are, enabled-unplaced, is_static-unplaced, written_length-unplaced, may_stand-unplaced, form_has_length-unplaced}
use Rattle.cx_rewrites.proofs.PlaceInvokes.{timed_there, lengths-same, form_lasts-unplaced, words-same, invoke_twin, drives_all-same, reads_all-same}

-- a rule is broken by a part, whatever is told
abbrev pub ByAssign : AssignRule → Instance → Owned → Type 0
ByAssign rule i o = (place : Place) × (name : List ℕ) × rule i o place name

abbrev pub ByStatement : StatementRule → Instance → Visited → Type 0
ByStatement rule i v = (place : Place) × (name : List ℕ) × rule i v place name

abbrev pub ByGroup : GroupRule → Instance → ℕ → Type 0
ByGroup rule i g = (place : Place) × (name : List ℕ) × rule i g place name

pub targets-same : (part other : PlainComponent) → SamePart part other → (test : PortRef → Bool) (g : ℕ) → some_target test (group_at part g).assigns ≡ some_target test (group_at other g).assigns
targets-same part other same test g =
    sym (some_target-unplaced test (group_at part g).assigns) ∙ ap (some_target test) (assigns-same part other same g) ∙ some_target-unplaced test (group_at other g).assigns

module _ (i j : Instance) (t : SameTree i j) (u : SameTree j i) where
  abbrev same : SamePart (part_of i) (part_of j)
  same = same_parts i j t

  first_unequal-same : (list : List Pair) → first_unequal i list ≡ first_unequal j list
  first_unequal-same [] = refl
  first_unequal-same (p ∷ rest) =
      ap (λ w. if differ w (width_of i p.second) then Some p.first else first_unequal i rest) (width_of-same i j t p.first)
      ∙ ap (λ w. if differ (width_of j p.first) w then Some p.first else first_unequal i rest) (width_of-same i j t p.second)
      ∙ ap (λ r. if differ (width_of j p.first) (width_of j p.second) then Some p.first else r) (first_unequal-same rest)

  is_wide-same : (p : PortRef) → is_wide i p ≡ is_wide j p
  is_wide-same p = ap (λ w. differ w (Some 1)) (written_width-same i j t p)

  first_wide-same : (list : List PlacedPort) → first_wide i list ≡ first_wide j list
  first_wide-same [] = refl
  first_wide-same (p ∷ rest) = ap (λ b. if b then Some p.port else first_wide i rest) (is_wide-same p.port) ∙ ap (λ r. if is_wide j p.port then Some p.port else r) (first_wide-same rest)

  first_wide-unplaced : (list : List PlacedPort) → first_wide j (map unplaced_port list) ≡ first_wide j list
  first_wide-unplaced [] = refl
  first_wide-unplaced (p ∷ rest) = ap (λ r. if is_wide j p.port then Some p.port else r) (first_wide-unplaced rest)

  leads_to_input : (q : PortRef) → LeadsToInput i q → LeadsToInput j q
  leads_to_input q (n, inl e) = (n, inl e)
  leads_to_input q (n, inr d) = (n, inr (depends-same i j t nothing q (ports.Input n) d))

  -- ASSIGNMENTS
  module _ (o w : Owned) (e : unplaced_owned o ≡ unplaced_owned w) where
    assign_is : unplaced_assign o.assign ≡ unplaced_assign w.assign
    assign_is = ap (λ (x : Owned). x.assign) e

    pub owner_is : o.owner ≡ w.owner
    owner_is = ap (λ (x : Owned). x.owner) e

    pub aim_is : o.assign.target ≡ w.assign.target
    aim_is = target_is o.assign w.assign assign_is

    pairs_is : pairs_of o.assign ≡ pairs_of w.assign
    pairs_is =
        ap (λ (p : PortRef). record { first = p; second = o.assign.source.port } ∷ comparisons_of o.assign.guard) aim_is
        ∙ ap (λ (p : PortRef). record { first = w.assign.target; second = p } ∷ comparisons_of o.assign.guard) (source_is o.assign w.assign assign_is)
        ∙ ap (λ list. record { first = w.assign.target; second = w.assign.source.port } ∷ list)
        (sym (comparisons_of-unplaced o.assign.guard) ∙ ap comparisons_of (guard_is o.assign w.assign assign_is) ∙ comparisons_of-unplaced w.assign.guard)

    pub width_kept : (place : Place) (name : List ℕ) → BreaksWidth i o place name → ByAssign BreaksWidth j w
    width_kept place name (port, is, told) = (_, _, (port, sym (first_unequal-same (pairs_of w.assign)) ∙ ap (first_unequal i) (sym pairs_is) ∙ is, (refl, refl)))

    pub guard_width_kept : (place : Place) (name : List ℕ) → BreaksGuardWidth i o place name → ByAssign BreaksGuardWidth j w
    guard_width_kept place name (port, is, told) = (
      _,
      _,
      (
        port,
        sym (first_wide-unplaced (atoms_of w.assign.guard))
            ∙ ap (first_wide j) (sym (atoms_of-unplaced w.assign.guard) ∙ ap atoms_of (sym (guard_is o.assign w.assign assign_is)) ∙ atoms_of-unplaced o.assign.guard)
            ∙ first_wide-unplaced (atoms_of o.assign.guard) ∙ sym (first_wide-same (atoms_of o.assign.guard)) ∙ is,
        (refl, refl),
      ),
    )

    -- the operand at the other place
    source_twin : (p : PlacedPort) → In (sources_of o.assign) p → (q : PlacedPort) × In (sources_of w.assign) q × (unplaced_port p ≡ unplaced_port q)
    source_twin p i0 = twin_in unplaced_port (sources_of o.assign) (sources_of w.assign) p (sources_of-same o.assign w.assign assign_is) i0

    port_of : (p q : PlacedPort) → unplaced_port p ≡ unplaced_port q → p.port ≡ q.port
    port_of p q s = ap (λ (x : PlacedPort). x.port) s

    pub literal_kept : (place : Place) (name : List ℕ) → BreaksLiteral i o place name → ByAssign BreaksLiteral j w
    literal_kept place name (p, stands, bad, told) =
        let r = source_twin p stands in (_, _, (r.0, r.1, subst IsBadLiteral (port_of p r.0 r.2) bad, (refl, refl)))

    pub not_a_target_kept : (place : Place) (name : List ℕ) → BreaksNotATarget i o place name → ByAssign BreaksNotATarget j w
    not_a_target_kept place name (is, told) = (_, _, (sym (is_source_only-same i j t w.assign.target) ∙ ap (is_source_only i) (sym aim_is) ∙ is, (refl, refl)))

    pub not_a_source_kept : (place : Place) (name : List ℕ) → BreaksNotASource i o place name → ByAssign BreaksNotASource j w
    not_a_source_kept place name (p, stands, is, told) =
        let r = source_twin p stands in
        (_, _, (r.0, r.1, sym (is_target_only-same i j t r.0.port) ∙ ap (is_target_only i) (sym (port_of p r.0 r.2)) ∙ is, (refl, refl)))

    pub done_not_state_kept : (place : Place) (name : List ℕ) → BreaksDoneNotState i o place name → ByAssign BreaksDoneNotState j w
    done_not_state_kept place name (g, aim, (q, names, wrong), told) =
        (_, _, (g, sym aim_is ∙ aim, (q, names_same o.assign w.assign assign_is q names, λ rests. wrong (rests-same j i u same rests)), (refl, refl)))

    pub always_enable_kept : (place : Place) (name : List ℕ) → BreaksAlwaysEnable i o place name → ByAssign BreaksAlwaysEnable j w
    always_enable_kept place name (owner, is, told) =
        (_, _, (sym owner_is ∙ owner, sym (is_primitive_enable-same i j t w.assign.target) ∙ ap (is_primitive_enable i) (sym aim_is) ∙ is, (refl, refl)))

    pub comb_enable_kept : (place : Place) (name : List ℕ) → BreaksCombEnable i o place name → ByAssign BreaksCombEnable j w
    comb_enable_kept place name (g, owner, comb, is, told) = (
      _,
      _,
      (
        g,
        sym owner_is ∙ owner,
        ap is_comb (sym (kind-same (part_of i) (part_of j) same g)) ∙ comb,
        ap (λ p. is_primitive_enable j p || is_part_port j p || is_hole p) (sym aim_is)
            ∙ ap (λ b. b || is_part_port j o.assign.target || is_hole o.assign.target) (sym (is_primitive_enable-same i j t o.assign.target))
            ∙ ap (λ b. is_primitive_enable i o.assign.target || b || is_hole o.assign.target) (sym (is_part_port-same i j t o.assign.target))
            ∙ is,
        (refl, refl),
      ),
    )

    pub static_guard_kept : (place : Place) (name : List ℕ) → BreaksStaticGuard i o place name → ByAssign BreaksStaticGuard j w
    static_guard_kept place name (r, stands, bad, told) = (
      _,
      _,
      (
        r,
        subst (λ list. In list r) (sym (ranges_of-unplaced o.assign.guard) ∙ ap ranges_of (guard_is o.assign w.assign assign_is) ∙ ranges_of-unplaced w.assign.guard) stands,
        ap (λ x. is_bad_range x r) (ap (owner_length (part_of j)) (sym owner_is) ∙ owner_length-same (part_of i) (part_of j) (lengths-same (part_of i) (part_of j) same) o.owner) ∙ bad,
        (refl, refl),
      ),
    )

    pub output_not_state_kept : (place : Place) (name : List ℕ) → BreaksOutputNotState i o place name → ByAssign BreaksOutputNotState j w
    output_not_state_kept place name (n, aim, (q, names, bad), told) = (_, _, (n, sym aim_is ∙ aim, (q, names_same o.assign w.assign assign_is q names, one bad), (refl, refl)))
      where
        one : (Rests i q → ⊥) ⊎ LeadsToInput i q → (Rests j q → ⊥) ⊎ LeadsToInput j q
        one (inl wrong) = inl (λ rests. wrong (rests-same j i u same rests))
        one (inr leads) = inr (leads_to_input q leads)

    pub kept_kept : (place : Place) (name : List ℕ) → BreaksKept i o place name → ByAssign BreaksKept j w
    kept_kept place name (latency, static, owner, (n, names), told) =
        (_, _, (latency, sym same.latency ∙ static, sym owner_is ∙ owner, (n, names_same o.assign w.assign assign_is (ports.Input n) names), (refl, refl)))

    pub static_cell_kept : (place : Place) (name : List ℕ) → BreaksStaticCell i o place name → ByAssign BreaksStaticCell j w
    static_cell_kept place name (is, told) = (_, _, (sym (is_static_port-same i j t w.assign.target) ∙ ap (is_static_port i) (sym aim_is) ∙ is, (refl, refl)))

  -- GROUPS
  pub no_done_kept : (g : ℕ) (place : Place) (name : List ℕ) → BreaksNoDone i g place name → ByGroup BreaksNoDone j g
  no_done_kept g place name (plain, none, told) =
      (_, _, (ap is_plain (sym (kind-same (part_of i) (part_of j) same g)) ∙ plain, sym (targets-same (part_of i) (part_of j) same (is_hole_of g) g) ∙ none, (refl, refl)))

  pub static_group_kept : (g : ℕ) (place : Place) (name : List ℕ) → GroupBreaksStaticShape i g place name → ByGroup GroupBreaksStaticShape j g
  static_group_kept g place name (n, is, bad, told) =
      (_, _, (n, lengths-same (part_of i) (part_of j) same g ∙ is, ap (λ b. b || nat_eq n 0) (sym (targets-same (part_of i) (part_of j) same is_hole g)) ∙ bad, (refl, refl)))

  pub group_cycle_kept : (g : ℕ) (place : Place) (name : List ℕ) → GroupBreaksCombCycle i g place name → ByGroup GroupBreaksCombCycle j g
  group_cycle_kept g place name (cycle, told) = (_, _, (has_cycle-same i j t (group g) cycle, (refl, refl)))

  -- STATIC INVOKES
  leads_to_cell : {e c : ℕ} → LeadsToCell (part_of i) e c → LeadsToCell (part_of j) e c
  leads_to_cell itself = itself
  leads_to_cell (through {c = c} m p q a leads among target names) =
      let r = twin_in unplaced_assign (part_of i).always (part_of j).always a same.always among in
      through m p q r.0 (leads_to_cell leads) r.1 (sym (target_is a r.0 r.2) ∙ target) (names_same a r.0 r.2 (ports.Cell c q) names)

  invoke_break : (w y : PlainInvoke) → unplaced_invoke w ≡ unplaced_invoke y → InvokeBreak i w → InvokeBreak j y
  invoke_break w y e (another_kind none) = another_kind (sym (ap (λ (z : PlainInvoke). z.latency) e) ∙ none)
  invoke_break w y e (unbound child n at less none) =
      let cell : w.cell ≡ y.cell = ap (λ (z : PlainInvoke). z.cell) e in
      let r = child_there i j t w.cell child at in
      let inputs : map unplaced_assign w.inputs ≡ map unplaced_assign y.inputs = ap (λ (z : PlainInvoke). z.inputs) e in
      unbound r.0 n (subst (λ c. cell_at (cells_of j) c ≡ OfInstance r.0) cell r.1) (subst (λ list. n < length list) (same_parts child r.0 r.2).inputs less)
      (sym (some_target-unplaced (same_port (input_port y.cell n)) y.inputs)
      ∙ ap₂ (λ c list. some_target (same_port (input_port c n)) list) (sym cell) (sym inputs)
      ∙ some_target-unplaced (same_port (input_port w.cell n)) w.inputs ∙ none)
  invoke_break w y e (restless a q among names wrong) =
      let r = twin_in unplaced_assign w.inputs y.inputs a (ap (λ (z : PlainInvoke). z.inputs) e) among in
      restless r.0 q r.1 (names_same a r.0 r.2 q names) (λ rests. wrong (rests-same j i u same rests))
  invoke_break w y e (fed_back a c p among names leads) =
      let r = twin_in unplaced_assign w.inputs y.inputs a (ap (λ (z : PlainInvoke). z.inputs) e) among in
      fed_back r.0 c p r.1 (names_same a r.0 r.2 (ports.Cell c p) names) (subst (LeadsToCell (part_of j) c) (ap (λ (z : PlainInvoke). z.cell) e) (leads_to_cell leads))

  -- STATEMENTS
  module _ (v x : Visited) (e : unplaced_visited v ≡ unplaced_visited x) where
    context_is : v.context ≡ x.context
    context_is = ap (λ (y : Visited). y.context) e

    pub form_is : unplaced_form v.form ≡ unplaced_form x.form
    form_is = ap (λ (y : Visited). y.form) e

    test_twin : (p : PlacedPort) → test_in v.form ≡ Some p → TestAlike p x.form
    test_twin p stands = test_alike v.form x.form form_is p stands

    pub test_width_kept : (place : Place) (name : List ℕ) → TestBreaksGuardWidth i v place name → ByStatement TestBreaksGuardWidth j x
    test_width_kept place name (p, stands, wide, told) =
        let r = test_twin p stands in (_, _, (r.test, r.stands, sym (is_wide-same r.test.port) ∙ ap (is_wide i) (sym r.port) ∙ wide, (refl, refl)))

    pub test_literal_kept : (place : Place) (name : List ℕ) → TestBreaksLiteral i v place name → ByStatement TestBreaksLiteral j x
    test_literal_kept place name (p, stands, bad, told) = let r = test_twin p stands in (_, _, (r.test, r.stands, subst IsBadLiteral r.port bad, (refl, refl)))

    pub test_source_kept : (place : Place) (name : List ℕ) → TestBreaksNotASource i v place name → ByStatement TestBreaksNotASource j x
    test_source_kept place name (p, stands, is, told) =
        let r = test_twin p stands in (_, _, (r.test, r.stands, sym (is_target_only-same i j t r.test.port) ∙ ap (is_target_only i) (sym r.port) ∙ is, (refl, refl)))

    -- what is of a form and its component is the same
    of_form : {A : Type 0} (f : PlainComponent → PlainForm → A)
        → ((part other : PlainComponent) → SamePart part other → (form : PlainForm) → f other (unplaced_form form) ≡ f part form)
        → f (part_of i) v.form ≡ f (part_of j) x.form
    of_form f kept = sym (kept (part_of i) (part_of j) same v.form) ∙ ap (f (part_of j)) form_is ∙ kept (part_of j) (part_of j) (same_part_itself (part_of j)) x.form

    pub static_control_kept : (place : Place) (name : List ℕ) → BreaksStaticControl i v place name → ByStatement BreaksStaticControl j x
    static_control_kept place name (inside, bad, told) = (
      _,
      _,
      (
        ap is_in_static (sym context_is) ∙ inside,
        ap (λ c. may_stand (part_of j) c x.form) (sym context_is)
            ∙ sym (of_form (λ part form. may_stand part v.context form) (λ part other h form. may_stand-unplaced part other (lengths-same part other h) (words-same part other h) v.context form)) ∙ bad,
        (refl, refl),
      ),
    )

    pub length_kept : (place : Place) (name : List ℕ) → BreaksLength i v place name → ByStatement BreaksLength j x
    length_kept place name (static, has, bad, told) = (
      _,
      _,
      (
        sym (is_static-unplaced x.form) ∙ ap is_static (sym form_is) ∙ is_static-unplaced v.form ∙ static,
        ap (λ c. form_has_length (part_of j) c x.form) (sym context_is)
            ∙ sym (of_form (λ part form. form_has_length part v.context form) (λ part other h form. form_has_length-unplaced part other (lengths-same part other h) (words-same part other h) v.context form)) ∙ has,
        one bad,
        (refl, refl),
      ),
    )
      where
        same_length : form_lasts (part_of i) v.form ≡ form_lasts (part_of j) x.form
        same_length = of_form form_lasts form_lasts-unplaced

        one : ((n : ℕ) × (written_length v.form ≡ Some n) × (n ≢ form_lasts (part_of i) v.form)) ⊎ (form_lasts (part_of i) v.form ≡ 0)
            → ((n : ℕ) × (written_length x.form ≡ Some n) × (n ≢ form_lasts (part_of j) x.form)) ⊎ (form_lasts (part_of j) x.form ≡ 0)
        one (inl (n, written, differs)) =
            inl (n, sym (written_length-unplaced x.form) ∙ ap written_length (sym form_is) ∙ written_length-unplaced v.form ∙ written, λ is. differs (is ∙ sym same_length))
        one (inr none) = inr (sym same_length ∙ none)

    -- a static invoke
    timed_is : (k : ℕ) → v.form ≡ Timed k → x.form ≡ Timed k
    timed_is k is = timed_there x.form k (sym form_is ∙ ap unplaced_form is)

    pub invoke_length_kept : (place : Place) (name : List ℕ) → BreaksInvokeLength i v place name → ByStatement BreaksInvokeLength j x
    invoke_length_kept place name (k, w, is, at, timed, bad, told) =
        let y = invoke_twin (part_of i) (part_of j) same k w at in
        (_, _, (k, y.0, timed_is k is, y.1, ap (λ z. is_timed (Some z)) (sym y.2) ∙ timed, one y.0 y.2 bad, (refl, refl)))
      where
        one : (y : PlainInvoke) → unplaced_invoke w ≡ unplaced_invoke y → ((n : ℕ) × (w.length ≡ Some n) × (n ≢ invoke_length (Some w))) ⊎ (invoke_length (Some w) ≡ 0)
            → ((n : ℕ) × (y.length ≡ Some n) × (n ≢ invoke_length (Some y))) ⊎ (invoke_length (Some y) ≡ 0)
        one y e (inl (n, written, differs)) =
            inl (n, sym (ap (λ (z : PlainInvoke). z.length) e) ∙ written, λ is. differs (is ∙ ap (λ z. invoke_length (Some z)) (sym e)))
        one y e (inr none) = inr (ap (λ z. invoke_length (Some z)) (sym e) ∙ none)

    pub invoke_kept : (place : Place) (name : List ℕ) → BreaksInvoke i v place name → ByStatement BreaksInvoke j x
    invoke_kept place name (k, w, is, at, broken, told) =
        let y = invoke_twin (part_of i) (part_of j) same k w at in (_, _, (k, y.0, timed_is k is, y.1, invoke_break w y.0 y.2 broken, (refl, refl)))

    pub static_test_kept : (place : Place) (name : List ℕ) → BreaksStaticTest i v place name → ByStatement BreaksStaticTest j x
    static_test_kept place name (n, p, a, b, is, wrong, told) =
        let r : StaticIfAlike n p x.form = static_if_alike x.form n p (unplaced a) (unplaced b) (sym form_is ∙ ap unplaced_form is) in
        (_, _, (n, r.test, r.first, r.second, r.is, (λ rests. wrong (subst (Rests i) (sym r.port) (rests-same j i u same rests))), (refl, refl)))

-- RACES
module _ (i j : Instance) (t : SameTree i j) (form other : PlainForm) (e : unplaced_form form ≡ unplaced_form other) where
  arms_twin : (two : Arms (arms_of form)) → (twins : Arms (arms_of other)) × (unplaced two.first ≡ unplaced twins.first) × (unplaced two.second ≡ unplaced twins.second)
  arms_twin two =
      let f = twin_at unplaced (arms_of form) (arms_of other) two.one two.first (arms_are form other e) two.first_stands in
      let s = twin_at unplaced (arms_of form) (arms_of other) two.other two.second (arms_are form other e) two.second_stands in
      (record { one = two.one; other = two.other; differ = two.differ; first = f.0; second = s.0; first_stands = f.1; second_stands = s.1 }, f.2, s.2)

  pub shared-same : (c : ℕ) → IsShared (part_of i) (arms_of form) c → IsShared (part_of j) (arms_of other) c
  shared-same c (two, drives_it, reads) =
      let r = arms_twin two in
      (r.0, sym (drives_all-same (part_of i) (part_of j) (same_parts i j t) two.first r.0.first r.1 c) ∙ drives_it, reads_all-same (part_of i) (part_of j) (same_parts i j t) two.second r.0.second r.2 reads)

  enabled_is : (s z : PlainStatement) → unplaced s ≡ unplaced z → enabled_in s ≡ enabled_in z
  enabled_is s z h =
      sym (enabled-unplaced (visit Dynamic s)) ∙ ap (flat_map (λ v. enabled_group v.form)) (sym (visit-unplaced Dynamic s) ∙ ap (visit Dynamic) h ∙ visit-unplaced Dynamic z) ∙ enabled-unplaced (visit Dynamic z)

  pub enabled_twice-same : (g : ℕ) → IsEnabledTwice (arms_of form) g → IsEnabledTwice (arms_of other) g
  enabled_twice-same g (two, first, second) =
      let r = arms_twin two in
      (r.0, subst (λ gs. In gs g) (enabled_is two.first r.0.first r.1) first, subst (λ gs. In gs g) (enabled_is two.second r.0.second r.2) second)

pub race_kept : (i j : Instance) (t : SameTree i j) (u : SameTree j i) (v x : Visited) → unplaced_visited v ≡ unplaced_visited x → (place : Place) (name : List ℕ) → BreaksRace i v place name → ByStatement BreaksRace j x
race_kept i j t u v x e place name (inl (c, shared, least, told)) =
    (_, _, inl (c, shared-same i j t v.form x.form (form_is i j t u v x e) c shared, (λ d lt other. least d lt (shared-same j i u x.form v.form (sym (form_is i j t u v x e)) d other)), (refl, refl)))
race_kept i j t u v x e place name (inr (unshared, (g, twice, least, told))) = (
  _,
  _,
  inr (
    (λ c other. unshared c (shared-same j i u x.form v.form (sym (form_is i j t u v x e)) c other)),
    (g, enabled_twice-same i j t v.form x.form (form_is i j t u v x e) g twice, (λ h lt other. least h lt (enabled_twice-same j i u x.form v.form (sym (form_is i j t u v x e)) h other)), (refl, refl)),
  ),
)
