-- THE RULE ON CALLS: what breaks it breaks it at other places too.
use Rattle.std.proofs.Common.{◌≡◌, ℕ, zero, suc, ◌+◌, inl, inr, Bool, true, false, nat_eq, cond, ◌||◌, ◌&&◌, List, [], ◌∷◌, length, map, Some, slice_get, refl, sym, ap, ◌∙◌, subst}
use Rattle.cx_meaning.specs.declared.ports.PortRef.{PortRef}
use Rattle.cx_meaning.specs.declared.ports.PortRef.TheVariants as ports
use Rattle.cx_text.specs.declared.places.Place.{Place}
use Rattle.cx_meaning.specs.Designs.{PlainGuard, Always, Atom, Negation, All, Any, Compared, Within, PlainGuards, no_guards, a_guard, PlainAssign, PlainCell}
use Rattle.cx_meaning.specs.Instances.{Instance, part_of}
use Rattle.cx_meaning.specs.Active.{Owned, group, same_port}
use Rattle.cx_meaning.specs.Sights.{part_port}
use Rattle.cx_rules.specs.Ports.{is_part_port}
use Rattle.cx_rules.specs.Items.{is_plain}
use Rattle.cx_rules.specs.ShapeRules.{is_hole_of, some_target}
use Rattle.cx_rules.specs.CallShape.{is_port_of, Calls, go_port, done_port, write_en_of, is_reg_kind, is_register_cell, one, with_target, is_atom, is_always, is_negated, is_right_go, is_right_enable, is_register_enable, added, captured_from, captured, wanted_dones, joined, conjuncts, conjuncts_in, are_dones, is_right_done, assigns_of, IsFedBack, CallBreak, another_cell, wrong_go, input_by_output, wrong_enable, wrong_done, IsOutside, IsMisshapen, BreaksCallShape, GroupBreaksCallShape}
use Rattle.cx_rewrites.specs.Places.{unplaced_guard, unplaced_guards, unplaced_assign, unplaced_cell, unplaced_owned, SamePart}
use Rattle.cx_rewrites.proofs.PlaceLemmas.{SameTree, same_parts, part_port-same}
use Rattle.cx_rewrites.proofs.PlaceStatements.{kind-same, assigns-same}
use Rattle.cx_rewrites.proofs.PlacePorts.{is_primitive_enable-same, is_part_port-same}
use Rattle.cx_rewrites.proofs.PlaceLeads.{depends-same, child_there}
use Rattle.cx_rewrites.proofs.PlaceShapes.{some_target-unplaced}
use Rattle.cx_rewrites.proofs.PlaceRules.{ByAssign, ByGroup, targets-same, owner_is, aim_is}

-- GUARDS
is_always-unplaced : (g : PlainGuard) → is_always (unplaced_guard g) ≡ is_always g
is_always-unplaced Always = refl
is_always-unplaced (Atom p) = refl
is_always-unplaced (Negation g) = refl
is_always-unplaced (All gs) = refl
is_always-unplaced (Any gs) = refl
is_always-unplaced (Compared c a b) = refl
is_always-unplaced (Within from to) = refl

is_atom-unplaced : (port : PortRef) (g : PlainGuard) → is_atom port (unplaced_guard g) ≡ is_atom port g
is_atom-unplaced port Always = refl
is_atom-unplaced port (Atom p) = refl
is_atom-unplaced port (Negation g) = refl
is_atom-unplaced port (All gs) = refl
is_atom-unplaced port (Any gs) = refl
is_atom-unplaced port (Compared c a b) = refl
is_atom-unplaced port (Within from to) = refl

is_negated-unplaced : (port : PortRef) (g : PlainGuard) → is_negated port (unplaced_guard g) ≡ is_negated port g
is_negated-unplaced port Always = refl
is_negated-unplaced port (Atom p) = refl
is_negated-unplaced port (Negation g) = is_atom-unplaced port g
is_negated-unplaced port (All gs) = refl
is_negated-unplaced port (Any gs) = refl
is_negated-unplaced port (Compared c a b) = refl
is_negated-unplaced port (Within from to) = refl

mutual
  conjuncts-unplaced : (g : PlainGuard) → conjuncts (unplaced_guard g) ≡ conjuncts g
  conjuncts-unplaced Always = refl
  conjuncts-unplaced (Atom p) = refl
  conjuncts-unplaced (Negation g) = refl
  conjuncts-unplaced (All gs) = conjuncts_in-unplaced gs
  conjuncts-unplaced (Any gs) = refl
  conjuncts-unplaced (Compared c a b) = refl
  conjuncts-unplaced (Within from to) = refl

  conjuncts_in-unplaced : (gs : PlainGuards) → conjuncts_in (unplaced_guards gs) ≡ conjuncts_in gs
  conjuncts_in-unplaced no_guards = refl
  conjuncts_in-unplaced (a_guard g gs) = ap (λ x. joined x (conjuncts_in (unplaced_guards gs))) (conjuncts-unplaced g) ∙ ap (joined (conjuncts g)) (conjuncts_in-unplaced gs)

-- LISTS OF ASSIGNMENTS
with_target-unplaced : (port : PortRef) (list : List PlainAssign) → with_target port (map unplaced_assign list) ≡ map unplaced_assign (with_target port list)
with_target-unplaced port [] = refl
with_target-unplaced port (a ∷ rest) = choice (same_port a.target port) (with_target-unplaced port rest)
  where
    choice : (b : Bool) → with_target port (map unplaced_assign rest) ≡ map unplaced_assign (with_target port rest)
        → cond b (unplaced_assign a ∷ with_target port (map unplaced_assign rest)) (with_target port (map unplaced_assign rest)) ≡ map unplaced_assign (cond b (a ∷ with_target port rest) (with_target port rest))
    choice true e = ap (λ list. unplaced_assign a ∷ list) e
    choice false e = e

is_right_go-unplaced : (done : PortRef) (list : List PlainAssign) → is_right_go done (map unplaced_assign list) ≡ is_right_go done list
is_right_go-unplaced done [] = refl
is_right_go-unplaced done (a ∷ []) =
    ap (λ b. same_port a.source.port one && (b || is_negated done (unplaced_guard a.guard))) (is_always-unplaced a.guard)
    ∙ ap (λ b. same_port a.source.port one && (is_always a.guard || b)) (is_negated-unplaced done a.guard)
is_right_go-unplaced done (a ∷ b ∷ rest) = refl

is_right_enable-unplaced : (done : PortRef) (list : List PlainAssign) → is_right_enable done (map unplaced_assign list) ≡ is_right_enable done list
is_right_enable-unplaced done [] = refl
is_right_enable-unplaced done (a ∷ []) =
    ap (λ b. (same_port a.source.port done && b) || (same_port a.source.port one && is_atom done (unplaced_guard a.guard))) (is_always-unplaced a.guard)
    ∙ ap (λ b. (same_port a.source.port done && is_always a.guard) || (same_port a.source.port one && b)) (is_atom-unplaced done a.guard)
is_right_enable-unplaced done (a ∷ b ∷ rest) = refl

is_right_done-unplaced : (wanted : List PortRef) (list : List PlainAssign) → is_right_done wanted (map unplaced_assign list) ≡ is_right_done wanted list
is_right_done-unplaced wanted [] = refl
is_right_done-unplaced wanted (a ∷ []) =
    ap (λ b. (b && are_dones wanted (Some (a.source.port ∷ []))) || (same_port a.source.port one && are_dones wanted (conjuncts (unplaced_guard a.guard)))) (is_always-unplaced a.guard)
    ∙ ap (λ ps. (is_always a.guard && are_dones wanted (Some (a.source.port ∷ []))) || (same_port a.source.port one && are_dones wanted ps)) (conjuncts-unplaced a.guard)
is_right_done-unplaced wanted (a ∷ b ∷ rest) = refl

-- what is of the assignments of a target is the same of lists that are the same
of_target : {A : Type 0} (f : List PlainAssign → A) → ((list : List PlainAssign) → f (map unplaced_assign list) ≡ f list) → (port : PortRef) (list other : List PlainAssign) → map unplaced_assign list ≡ map unplaced_assign other
    → f (with_target port list) ≡ f (with_target port other)
of_target f kept port list other e =
    sym (kept (with_target port list)) ∙ ap f (sym (with_target-unplaced port list) ∙ ap (with_target port) e ∙ with_target-unplaced port other) ∙ kept (with_target port other)

-- REGISTERS
is_register_cell-unplaced : (cells : List PlainCell) (r : ℕ) → is_register_cell (slice_get (map unplaced_cell cells) r) ≡ is_register_cell (slice_get cells r)
is_register_cell-unplaced [] r = refl
is_register_cell-unplaced (c ∷ cells) zero = refl
is_register_cell-unplaced (c ∷ cells) (suc r) = is_register_cell-unplaced cells r

captured_from-unplaced : (assigns : List PlainAssign) (r : ℕ) (cells : List PlainCell) → captured_from (map unplaced_assign assigns) r (map unplaced_cell cells) ≡ captured_from assigns r cells
captured_from-unplaced assigns r [] = refl
captured_from-unplaced assigns r (cell ∷ cells) =
    ap (λ b. added r (is_reg_kind cell.kind && b) (captured_from (map unplaced_assign assigns) (suc r) (map unplaced_cell cells))) (some_target-unplaced (same_port (write_en_of r)) assigns)
    ∙ ap (added r (is_reg_kind cell.kind && some_target (same_port (write_en_of r)) assigns)) (captured_from-unplaced assigns (suc r) cells)

module _ (i j : Instance) (t : SameTree i j) where
  abbrev same : SamePart (part_of i) (part_of j)
  same = same_parts i j t

  calls-same : (g c : ℕ) → Calls i (assigns_of i g) c → Calls j (assigns_of j g) c
  calls-same g c calls =
      let r = child_there i j t c calls.child calls.is_component in
      record { child = r.0; is_component = r.1; dynamic = sym (same_parts calls.child r.0 r.2).latency ∙ calls.dynamic; driven = sym (targets-same (part_of i) (part_of j) same (is_port_of c) g) ∙ calls.driven }

  is_register_enable-same : (p : PortRef) → is_register_enable (part_of i) p ≡ is_register_enable (part_of j) p
  is_register_enable-same (ports.Cell r p) =
      ap (λ b. b && nat_eq p 1)
      (sym (is_register_cell-unplaced (part_of i).cells r) ∙ ap (λ cells. is_register_cell (slice_get cells r)) same.cells ∙ is_register_cell-unplaced (part_of j).cells r)
  is_register_enable-same (ports.Input n) = refl
  is_register_enable-same (ports.Output n) = refl
  is_register_enable-same (ports.Done g) = refl
  is_register_enable-same (ports.Literal w v) = refl

  captured-same : (g : ℕ) → captured (part_of i) (assigns_of i g) ≡ captured (part_of j) (assigns_of j g)
  captured-same g =
      sym (captured_from-unplaced (assigns_of i g) 0 (part_of i).cells)
      ∙ ap (λ assigns. captured_from assigns 0 (map unplaced_cell (part_of i).cells)) (assigns-same (part_of i) (part_of j) same g)
      ∙ ap (captured_from (map unplaced_assign (assigns_of j g)) 0) same.cells
      ∙ captured_from-unplaced (assigns_of j g) 0 (part_of j).cells

  module _ (g c : ℕ) (child twin : Instance) (s : SameTree child twin) where
    done_port-same : done_port c child ≡ done_port c twin
    done_port-same =
        ap (λ ins. ports.Cell c (suc (length ins + length (part_of child).outputs))) (same_parts child twin s).inputs
        ∙ ap (λ outs. ports.Cell c (suc (length (part_of twin).inputs + length outs))) (same_parts child twin s).outputs

    port_is : (p : ℕ) → part_port (part_of child) p ≡ part_port (part_of twin) p
    port_is p = part_port-same (part_of child) (part_of twin) (same_parts child twin s) p

    fed_back : (p : ℕ) → IsFedBack i g c child p → IsFedBack j g c twin p
    fed_back p ((n, input), (q, inl (m, output), d)) = ((n, sym (port_is p) ∙ input), (q, inl (m, sym (port_is q) ∙ output), depends-same i j t (group g) (ports.Cell c p) (ports.Cell c q) d))
    fed_back p ((n, input), (q, inr done, d)) = ((n, sym (port_is p) ∙ input), (q, inr (sym (port_is q) ∙ done), depends-same i j t (group g) (ports.Cell c p) (ports.Cell c q) d))

    break-same : {p : PortRef} → CallBreak i g c child p → CallBreak j g c twin p
    break-same (another_cell {target} ((e, calls, differs), is)) = another_cell ((e, calls-same g e calls, differs), sym (is_part_port-same i j t target) ∙ is)
    break-same (wrong_go wrong) =
        wrong_go (sym (ap (λ d. is_right_go d (with_target (go_port c) (assigns_of i g))) done_port-same
        ∙ of_target (is_right_go (done_port c twin)) (is_right_go-unplaced (done_port c twin)) (go_port c) (assigns_of i g) (assigns_of j g) (assigns-same (part_of i) (part_of j) same g)) ∙ wrong)
    break-same (input_by_output p back) = input_by_output p (fed_back p back)
    break-same (wrong_enable {target} enable wrong) =
        wrong_enable (sym (is_primitive_enable-same i j t target) ∙ enable)
        (sym (ap (λ b. b && is_right_enable (done_port c child) (with_target target (assigns_of i g))) (is_register_enable-same target)
        ∙ ap (λ d. is_register_enable (part_of j) target && is_right_enable d (with_target target (assigns_of i g))) done_port-same
        ∙ ap (λ b. is_register_enable (part_of j) target && b)
        (of_target (is_right_enable (done_port c twin)) (is_right_enable-unplaced (done_port c twin)) target (assigns_of i g) (assigns_of j g) (assigns-same (part_of i) (part_of j) same g)))
        ∙ wrong)
    break-same (wrong_done wrong) =
        wrong_done (sym (ap (λ d. is_right_done (wanted_dones d (captured (part_of i) (assigns_of i g))) (with_target (ports.Done g) (assigns_of i g))) done_port-same
        ∙ ap (λ rs. is_right_done (wanted_dones (done_port c twin) rs) (with_target (ports.Done g) (assigns_of i g))) (captured-same g)
        ∙ of_target (is_right_done (wanted_dones (done_port c twin) (captured (part_of j) (assigns_of j g)))) (is_right_done-unplaced (wanted_dones (done_port c twin) (captured (part_of j) (assigns_of j g))))
        (ports.Done g) (assigns_of i g) (assigns_of j g) (assigns-same (part_of i) (part_of j) same g)) ∙ wrong)

  -- THE RULE
  module _ (u : SameTree j i) (o w : Owned) (e : unplaced_owned o ≡ unplaced_owned w) where
    outside-same : IsOutside i o → IsOutside j w
    outside-same (is, inl none) = (sym (is_part_port-same i j t w.assign.target) ∙ ap (is_part_port i) (sym (aim_is i j t u o w e)) ∙ is, inl (sym (owner_is i j t u o w e) ∙ none))
    outside-same (is, inr (g, owner, other)) = (
      sym (is_part_port-same i j t w.assign.target) ∙ ap (is_part_port i) (sym (aim_is i j t u o w e)) ∙ is,
      inr (g, sym (owner_is i j t u o w e) ∙ owner, ap is_plain (sym (kind-same (part_of i) (part_of j) same g)) ∙ other),
    )

    misshapen-same : IsMisshapen i o → IsMisshapen j w
    misshapen-same m =
        let r = child_there i j t m.cell m.calls.child m.calls.is_component in
        record {
          group = m.group;
          owner = sym (owner_is i j t u o w e) ∙ m.owner;
          plain = ap is_plain (sym (kind-same (part_of i) (part_of j) same m.group)) ∙ m.plain;
          cell = m.cell;
          calls = record { child = r.0; is_component = r.1; dynamic = sym (same_parts m.calls.child r.0 r.2).latency ∙ m.calls.dynamic; driven = sym (targets-same (part_of i) (part_of j) same (is_port_of m.cell) m.group) ∙ m.calls.driven };
          breaks = subst (CallBreak j m.group m.cell r.0) (aim_is i j t u o w e) (break-same m.group m.cell m.calls.child r.0 r.2 m.breaks);
        }

    pub call_shape_kept : (place : Place) (name : List ℕ) → BreaksCallShape i o place name → ByAssign BreaksCallShape j w
    call_shape_kept place name (inl outside, told) = (_, _, (inl (outside-same outside), (refl, refl)))
    call_shape_kept place name (inr misshapen, told) = (_, _, (inr (misshapen-same misshapen), (refl, refl)))

  pub group_call_kept : (g : ℕ) (place : Place) (name : List ℕ) → GroupBreaksCallShape i g place name → ByGroup GroupBreaksCallShape j g
  group_call_kept g place name (plain, (c, calls, bad), told) = (
    _,
    _,
    (
      ap is_plain (sym (kind-same (part_of i) (part_of j) same g)) ∙ plain,
      (
        c,
        calls-same g c calls,
        ap (λ b. b && some_target (is_hole_of g) (assigns_of j g)) (sym (targets-same (part_of i) (part_of j) same (same_port (go_port c)) g))
            ∙ ap (λ b. some_target (same_port (go_port c)) (assigns_of i g) && b) (sym (targets-same (part_of i) (part_of j) same (is_hole_of g) g))
            ∙ bad,
      ),
      (refl, refl),
    ),
  )
