-- The list of breaks has the breaks of the rules on widths, literals, targets and sources, and no others.
use Rattle.std.proofs.Common.{◌≡◌, ◌+◌, ◌-◌, ◌<◌, ◌≤◌, ℕ, zero, suc, Bool, true, false, not, cond, List, [], ◌∷◌, ◌++◌, Option, Some, None, length, slice_get, flat_map, ◌⊎◌, inl, inr, ⊎_elim, refl, sym, ap, ◌∙◌, subst, arith, true≢false, add-one}
use Rattle.cx_text.proofs.MemberLaws.{flat_in, in_either, in_flat, in_left, in_right}
use Rattle.cx_text.specs.declared.places.Place.{Place}
use Rattle.cx_text.specs.declared.rules.Rule.{Rule}
use Rattle.cx_text.specs.declared.rules.Rule.TheVariants as rule
use Rattle.cx_meaning.specs.declared.ports.PortRef.{PortRef}
use Rattle.cx_meaning.specs.declared.ports.PortRef.TheVariants as ports
use Rattle.cx_meaning.specs.declared.ports.PlacedPort.{PlacedPort}
use Rattle.cx_meaning.specs.Designs.{PlainAssign, PlainDesign, component_at}
use Rattle.cx_meaning.specs.Instances.{Instance}
use Rattle.cx_meaning.specs.Active.{Owned, source_order}
use Rattle.cx_text.specs.Members.{In}
use Rattle.cx_rules.specs.Ports.{component_of, keeps_literal, is_source_only, is_target_only, path_of}
use Rattle.cx_rules.specs.Items.{operands_of, atoms_of, sources_of, Visited, statements_in, test_in}
use Rattle.cx_rules.specs.Spots.{ABind, AnAssign, AStatement, Spot, Tells, OnAssign, OnBind, OnStatement, AssignRule, StatementRule, binds_in}
use Rattle.cx_rules.specs.WidthRules.{pairs_of, first_unequal, first_wide, is_wide, IsBadLiteral, BreaksWidth, BreaksGuardWidth, TestBreaksGuardWidth, BreaksLiteral, TestBreaksLiteral, BreaksNotATarget, BreaksNotASource, TestBreaksNotASource}
use Rattle.cx_rules.specs.Accepted.{Breaks, stage_of, key_of}
use Rattle.cx_design_parts.specs.Breaks.{Broken, first_of}
use Rattle.cx_design_parts.specs.Answers.{AreBreaks}
use Rattle.cx_design_parts.specs.Numbered.{counted}
use Rattle.cx_design_parts.proofs.Lists.{first_append, in_numbered, numbered_in, broken, in_all, all_hold, next_counted}
use Rattle.cx_widths.specs.WidthBreaks.{told_port, port_if, is_bad, literal_break, source_break, target_break, operand_breaks, assign_breaks, condition_breaks, test_breaks, assign_breaks_at, condition_breaks_at, bind_breaks_at, assigns_breaks, conditions_breaks, binds_breaks, component_breaks, width_breaks}
use Rattle.cx_text.proofs.BoolLaws.{from_not}
use Rattle.cx_rules.proofs.KeyOrder.{before_irreflexive}

-- what the list tells is a break
abbrev Holds : PlainDesign → Broken → Type 0
Holds d b = (stage_of b.rule ≡ 3) × Breaks d b.rule b.spot b.place b.name

told_in : (r : Rule) (i : Instance) (spot : Spot) (place : Place) (port : Option PortRef) (b : Broken) → In (told_port r i spot place port) b
    → (p : PortRef) × (port ≡ Some p) × (broken r spot place (path_of i p) ≡ b)
told_in r i spot place None b h = absurd h
told_in r i spot place (Some p) b (inl e) = (p, refl, e)
told_in r i spot place (Some p) b (inr h) = absurd h

told_has : (r : Rule) (i : Instance) (spot : Spot) (at : Place) (port : Option PortRef) (p : PortRef) (place : Place) (name : List ℕ)
    → port ≡ Some p → Tells place name at (path_of i p) → In (told_port r i spot at port) (broken r spot place name)
told_has r i spot at port p place name e t =
    subst (λ o. In (told_port r i spot at o) (broken r spot place name)) (sym e)
    (inl (ap (λ q. broken r spot q (path_of i p)) (sym t.0) ∙ ap (λ n. broken r spot place n) (sym t.1)))

port_if_some : (b : Bool) (p q : PortRef) → port_if b p ≡ Some q → (b ≡ true) × (p ≡ q)
port_if_some true p q e = (refl, ap (λ o. or_else o) e)
  where
    or_else : Option PortRef → PortRef
    or_else None = p
    or_else (Some x) = x
port_if_some false p q e = absurd (cc)

port_if_true : (b : Bool) (p : PortRef) → b ≡ true → port_if b p ≡ Some p
port_if_true true p e = refl
port_if_true false p e = absurd (true≢false (sym e))

literal_in : (spot : Spot) (p : PlacedPort) (b : Broken) → In (literal_break spot p) b → (is_bad p.port ≡ true) × (broken rule.Literal spot p.place [] ≡ b)
literal_in spot p b h = choice (is_bad p.port) h
  where
    choice : (t : Bool) → In (cond t (broken rule.Literal spot p.place [] ∷ []) []) b → (t ≡ true) × (broken rule.Literal spot p.place [] ≡ b)
    choice true (inl e) = (refl, e)
    choice true (inr h) = absurd h
    choice false h = absurd h

literal_has : (spot : Spot) (p : PlacedPort) (place : Place) (name : List ℕ) → IsBadLiteral p.port → Tells place name p.place [] → In (literal_break spot p) (broken rule.Literal spot place name)
literal_has spot p place name bad t =
    let is : is_bad p.port ≡ true = ap is_bad bad.2 ∙ ap not bad.3 in
    subst (λ c. In (cond c (broken rule.Literal spot p.place [] ∷ []) []) (broken rule.Literal spot place name)) (sym is)
    (inl (ap (λ q. broken rule.Literal spot q []) (sym t.0) ∙ ap (λ n. broken rule.Literal spot place n) (sym t.1)))

bad_literal : (port : PortRef) → is_bad port ≡ true → IsBadLiteral port
bad_literal (ports.Cell c p) h = absurd (true≢false (sym h))
bad_literal (ports.Input n) h = absurd (true≢false (sym h))
bad_literal (ports.Output n) h = absurd (true≢false (sym h))
bad_literal (ports.Done g) h = absurd (true≢false (sym h))
bad_literal (ports.Literal w v) h = (w, v, refl, from_not (keeps_literal w v) h)

-- ASSIGNMENTS AND BOUND INPUTS
-- one of them breaks the rule
abbrev OnPart : AssignRule → PlainDesign → Spot → Place → List ℕ → Type 0
OnPart r d spot place name = OnAssign r d spot place name ⊎ OnBind r d spot place name

abbrev bound : PlainAssign → Owned
bound a = record { owner = None; assign = a }

guard_width_breaks : (d : PlainDesign) (spot : Spot) (place : Place) (name : List ℕ) → OnPart BreaksGuardWidth d spot place name → Breaks d rule.GuardWidth spot place name
guard_width_breaks d spot place name (inl o) = inl o
guard_width_breaks d spot place name (inr o) = inr (inr o)

literal_breaks : (d : PlainDesign) (spot : Spot) (place : Place) (name : List ℕ) → OnPart BreaksLiteral d spot place name → Breaks d rule.Literal spot place name
literal_breaks d spot place name (inl o) = inl o
literal_breaks d spot place name (inr o) = inr (inr o)

source_breaks : (d : PlainDesign) (spot : Spot) (place : Place) (name : List ℕ) → OnPart BreaksNotASource d spot place name → Breaks d rule.NotASource spot place name
source_breaks d spot place name (inl o) = inl o
source_breaks d spot place name (inr o) = inr (inr o)

on_assign : (d : PlainDesign) (k m : ℕ) (a : Owned) → k < length d.components → slice_get (source_order (component_at d k)) m ≡ Some a
    → (r : AssignRule) (place : Place) (name : List ℕ) → r (component_of d k) a place name → OnPart r d (record { component = k; part = AnAssign m }) place name
on_assign d k m a within stands r place name b = inl (record { within = within; number = m; is = refl; assign = a; stands = stands; breaks = b })

on_bind : (d : PlainDesign) (k m : ℕ) (a : PlainAssign) → k < length d.components → slice_get (binds_in (component_at d k)) m ≡ Some a
    → (r : AssignRule) (place : Place) (name : List ℕ) → r (component_of d k) (bound a) place name → OnPart r d (record { component = k; part = ABind m }) place name
on_bind d k m a within stands r place name b = inr (record { within = within; number = m; is = refl; assign = a; stands = stands; breaks = b })

module _ (d : PlainDesign) (here : Spot) (at : Instance) (a : Owned) (on_part : (r : AssignRule) (place : Place) (name : List ℕ) → r at a place name → OnPart r d here place name) where
  operand_holds : (p : PlacedPort) (b : Broken) → In (sources_of a.assign) p → In (operand_breaks at here p) b → Holds d b
  operand_holds p b i h =
      ⊎_elim
      (λ l. let found = literal_in here p b l in
      subst (Holds d) found.1 (refl, literal_breaks d here p.place [] (on_part BreaksLiteral p.place [] (p, i, bad_literal p.port found.0, (refl, refl)))))
      (λ s. let found = told_in rule.NotASource at here p.place (port_if (is_target_only at p.port) p.port) b s in
      let is = port_if_some (is_target_only at p.port) p.port found.0 found.1 in
      subst (Holds d) (ap (λ q. broken rule.NotASource here p.place (path_of at q)) is.1 ∙ found.2)
      (refl, source_breaks d here p.place (path_of at p.port) (on_part BreaksNotASource p.place (path_of at p.port) (p, i, is.0, (refl, refl)))))
      (in_either (literal_break here p) (source_break at here p) b h)

  abbrev widths : List Broken
  widths = told_port rule.Width at here a.assign.place (first_unequal at (pairs_of a.assign))

  abbrev guards : List Broken
  guards = told_port rule.GuardWidth at here a.assign.place (first_wide at (atoms_of a.assign.guard))

  widths_hold : (b : Broken) → In widths b → Holds d b
  widths_hold b h =
      let found = told_in rule.Width at here a.assign.place (first_unequal at (pairs_of a.assign)) b h in
      subst (Holds d) found.2 (refl, on_part BreaksWidth a.assign.place (path_of at found.0) (found.0, found.1, (refl, refl)))

  guards_hold : (b : Broken) → In guards b → Holds d b
  guards_hold b h =
      let found = told_in rule.GuardWidth at here a.assign.place (first_wide at (atoms_of a.assign.guard)) b h in
      subst (Holds d) found.2 (refl, guard_width_breaks d here a.assign.place (path_of at found.0) (on_part BreaksGuardWidth a.assign.place (path_of at found.0) (found.0, found.1, (refl, refl))))

  target_holds : (b : Broken) → In (target_break at here a.assign) b → Holds d b
  target_holds b h =
      let target = a.assign.target in
      let found = told_in rule.NotATarget at here a.assign.place (port_if (is_source_only at target) target) b h in
      let is = port_if_some (is_source_only at target) target found.0 found.1 in
      subst (Holds d) (ap (λ q. broken rule.NotATarget here a.assign.place (path_of at q)) is.1 ∙ found.2)
      (refl, on_part BreaksNotATarget a.assign.place (path_of at target) (is.0, (refl, refl)))

  operands_hold : (b : Broken) → In (flat_map (operand_breaks at here) (operands_of a.assign.guard)) b → Holds d b
  operands_hold b h =
      let found = flat_in (operand_breaks at here) (operands_of a.assign.guard) b h in operand_holds found.0 b (inr found.1) found.2

  assign_holds : (b : Broken) → In (assign_breaks at here a.assign) b → Holds d b
  assign_holds b h =
      ⊎_elim
      (λ w. ⊎_elim
      (λ x. ⊎_elim
      (λ y. ⊎_elim (widths_hold b) (guards_hold b) (in_either widths guards b y))
      (target_holds b)
      (in_either (widths ++ guards) (target_break at here a.assign) b x))
      (λ o. operand_holds a.assign.source b (inl refl) o)
      (in_either (widths ++ guards ++ target_break at here a.assign) (operand_breaks at here a.assign.source) b w))
      (operands_hold b)
      (in_either (widths ++ guards ++ target_break at here a.assign ++ operand_breaks at here a.assign.source) (flat_map (operand_breaks at here) (operands_of a.assign.guard)) b h)

-- CONDITIONS
module _ (d : PlainDesign) (k m : ℕ) (v : Visited) (within : k < length d.components) (stands : slice_get (statements_in (component_at d k)) m ≡ Some v) where
  abbrev there : Spot
  there = record { component = k; part = AStatement m }

  abbrev inside : Instance
  inside = component_of d k

  on_statement : (r : StatementRule) (place : Place) (name : List ℕ) → r inside v place name → OnStatement r d there place name
  on_statement r place name b = record { within = within; number = m; is = refl; statement = v; stands = stands; breaks = b }

  condition_holds : (p : PlacedPort) (b : Broken) → test_in v.form ≡ Some p → In (condition_breaks inside there v.place p) b → Holds d b
  condition_holds p b t h =
      ⊎_elim
      (λ w. let found = told_in rule.GuardWidth inside there v.place (port_if (is_wide inside p.port) p.port) b w in
      let is = port_if_some (is_wide inside p.port) p.port found.0 found.1 in
      subst (Holds d) (ap (λ q. broken rule.GuardWidth there v.place (path_of inside q)) is.1 ∙ found.2)
      (refl, inr (inl (on_statement TestBreaksGuardWidth v.place (path_of inside p.port) (p, t, is.0, (refl, refl))))))
      (λ o. ⊎_elim
      (λ l. let found = literal_in there p b l in
      subst (Holds d) found.1 (refl, inr (inl (on_statement TestBreaksLiteral p.place [] (p, t, bad_literal p.port found.0, (refl, refl))))))
      (λ s. let found = told_in rule.NotASource inside there p.place (port_if (is_target_only inside p.port) p.port) b s in
      let is = port_if_some (is_target_only inside p.port) p.port found.0 found.1 in
      subst (Holds d) (ap (λ q. broken rule.NotASource there p.place (path_of inside q)) is.1 ∙ found.2)
      (refl, inr (inl (on_statement TestBreaksNotASource p.place (path_of inside p.port) (p, t, is.0, (refl, refl))))))
      (in_either (literal_break there p) (source_break inside there p) b o))
      (in_either (told_port rule.GuardWidth inside there v.place (port_if (is_wide inside p.port) p.port)) (operand_breaks inside there p) b h)

  statement_holds : (test : Option PlacedPort) (b : Broken) → test_in v.form ≡ test → In (test_breaks inside there v.place test) b → Holds d b
  statement_holds None b t h = absurd h
  statement_holds (Some p) b t h = condition_holds p b t h

component_holds : (d : PlainDesign) (k : ℕ) (b : Broken) → k < length d.components → In (component_breaks d k) b → Holds d b
component_holds d k b within h =
    ⊎_elim
    (λ p. ⊎_elim
    (λ q. let found = numbered_in (assign_breaks_at d k) 0 (source_order (component_at d k)) b q in
    let same : 0 + found.0 ≡ found.0 = omega arith in
    assign_holds d (record { component = k; part = AnAssign found.0 }) (component_of d k) found.1 (on_assign d k found.0 found.1 within found.2) b (subst (λ n. In (assign_breaks_at d k n found.1) b) same found.3))
    (λ q. let found = numbered_in (condition_breaks_at d k) 0 (statements_in (component_at d k)) b q in
    let same : 0 + found.0 ≡ found.0 = omega arith in
    statement_holds d k found.0 found.1 within found.2 (test_in found.1.form) b refl (subst (λ n. In (condition_breaks_at d k n found.1) b) same found.3))
    (in_either (assigns_breaks d k) (conditions_breaks d k) b p))
    (λ q. let found = numbered_in (bind_breaks_at d k) 0 (binds_in (component_at d k)) b q in
    let same : 0 + found.0 ≡ found.0 = omega arith in
    assign_holds d (record { component = k; part = ABind found.0 }) (component_of d k) (bound found.1) (on_bind d k found.0 found.1 within found.2) b (subst (λ n. In (bind_breaks_at d k n found.1) b) same found.3))
    (in_either (assigns_breaks d k ++ conditions_breaks d k) (binds_breaks d k) b h)

-- where the breaks of a part stand
assign_in : (d : PlainDesign) (r : Rule) (spot : Spot) (place : Place) (name : List ℕ) (rules : AssignRule) (o : OnAssign rules d spot place name)
    → ((s : Spot) → In (assign_breaks (component_of d spot.component) s o.assign.assign) (broken r s place name)) → In (width_breaks d) (broken r spot place name)
assign_in d r spot place name rules o has =
    let k = spot.component in
    let order = source_order (component_at d k) in
    let same : o.number ≡ 0 + o.number = omega arith in
    let own : Spot = record { component = k; part = AnAssign o.number } in
    let spot_is : own ≡ spot = ap (λ part. record { component = k; part = part }) (sym o.is) in
    in_all (component_breaks d) (length d.components) k (broken r spot place name) o.within
    (in_left (assigns_breaks d k ++ conditions_breaks d k) (binds_breaks d k) (broken r spot place name)
    (in_left (assigns_breaks d k) (conditions_breaks d k) (broken r spot place name)
    (in_numbered (assign_breaks_at d k) 0 order o.number o.assign (broken r spot place name) o.stands
    (subst (λ n. In (assign_breaks_at d k n o.assign) (broken r spot place name)) same
    (subst (λ s. In (assign_breaks (component_of d k) own o.assign.assign) (broken r s place name)) spot_is (has own))))))

bind_in : (d : PlainDesign) (r : Rule) (spot : Spot) (place : Place) (name : List ℕ) (rules : AssignRule) (o : OnBind rules d spot place name)
    → ((s : Spot) → In (assign_breaks (component_of d spot.component) s o.assign) (broken r s place name)) → In (width_breaks d) (broken r spot place name)
bind_in d r spot place name rules o has =
    let k = spot.component in
    let binds = binds_in (component_at d k) in
    let same : o.number ≡ 0 + o.number = omega arith in
    let own : Spot = record { component = k; part = ABind o.number } in
    let spot_is : own ≡ spot = ap (λ part. record { component = k; part = part }) (sym o.is) in
    in_all (component_breaks d) (length d.components) k (broken r spot place name) o.within
    (in_right (assigns_breaks d k ++ conditions_breaks d k) (binds_breaks d k) (broken r spot place name)
    (in_numbered (bind_breaks_at d k) 0 binds o.number o.assign (broken r spot place name) o.stands
    (subst (λ n. In (bind_breaks_at d k n o.assign) (broken r spot place name)) same
    (subst (λ s. In (assign_breaks (component_of d k) own o.assign) (broken r s place name)) spot_is (has own)))))

part_in : (d : PlainDesign) (r : Rule) (spot : Spot) (place : Place) (name : List ℕ) (rules : AssignRule) → OnPart rules d spot place name
    → ((i : Instance) (s : Spot) (a : Owned) → rules i a place name → In (assign_breaks i s a.assign) (broken r s place name)) → In (width_breaks d) (broken r spot place name)
part_in d r spot place name rules (inl o) has = assign_in d r spot place name rules o (λ s. has (component_of d spot.component) s o.assign o.breaks)
part_in d r spot place name rules (inr o) has = bind_in d r spot place name rules o (λ s. has (component_of d spot.component) s (bound o.assign) o.breaks)

statement_in : (d : PlainDesign) (r : Rule) (spot : Spot) (place : Place) (name : List ℕ) (rules : StatementRule) (o : OnStatement rules d spot place name) (p : PlacedPort)
    → test_in o.statement.form ≡ Some p
    → ((s : Spot) → In (condition_breaks (component_of d spot.component) s o.statement.place p) (broken r s place name)) → In (width_breaks d) (broken r spot place name)
statement_in d r spot place name rules o p t has =
    let k = spot.component in
    let list = statements_in (component_at d k) in
    let same : o.number ≡ 0 + o.number = omega arith in
    let own : Spot = record { component = k; part = AStatement o.number } in
    let spot_is : own ≡ spot = ap (λ part. record { component = k; part = part }) (sym o.is) in
    in_all (component_breaks d) (length d.components) k (broken r spot place name) o.within
    (in_left (assigns_breaks d k ++ conditions_breaks d k) (binds_breaks d k) (broken r spot place name)
    (in_right (assigns_breaks d k) (conditions_breaks d k) (broken r spot place name)
    (in_numbered (condition_breaks_at d k) 0 list o.number o.statement (broken r spot place name) o.stands
    (subst (λ n. In (condition_breaks_at d k n o.statement) (broken r spot place name)) same
    (subst (λ s. In (test_breaks (component_of d k) own o.statement.place (test_in o.statement.form)) (broken r s place name)) spot_is
    (subst (λ x. In (test_breaks (component_of d k) own o.statement.place x) (broken r own place name)) (sym t) (has own)))))))

-- where the breaks of an operand stand among those of its assignment
among_operands : (i : Instance) (s : Spot) (a : PlainAssign) (p : PlacedPort) (b : Broken) → In (sources_of a) p → In (operand_breaks i s p) b → In (assign_breaks i s a) b
among_operands i s a p b (inl e) h =
    in_left (told_port rule.Width i s a.place (first_unequal i (pairs_of a)) ++ told_port rule.GuardWidth i s a.place (first_wide i (atoms_of a.guard)) ++ target_break i s a ++ operand_breaks i s a.source)
    (flat_map (operand_breaks i s) (operands_of a.guard)) b
    (in_right (told_port rule.Width i s a.place (first_unequal i (pairs_of a)) ++ told_port rule.GuardWidth i s a.place (first_wide i (atoms_of a.guard)) ++ target_break i s a) (operand_breaks i s a.source) b
    (subst (λ q. In (operand_breaks i s q) b) (sym e) h))
among_operands i s a p b (inr j) h =
    in_right (told_port rule.Width i s a.place (first_unequal i (pairs_of a)) ++ told_port rule.GuardWidth i s a.place (first_wide i (atoms_of a.guard)) ++ target_break i s a ++ operand_breaks i s a.source)
    (flat_map (operand_breaks i s) (operands_of a.guard)) b
    (in_flat (operand_breaks i s) (operands_of a.guard) p b j h)

-- the first two lists, and the third, among all
among_front : (i : Instance) (s : Spot) (a : PlainAssign) (b : Broken)
    → In (told_port rule.Width i s a.place (first_unequal i (pairs_of a)) ++ told_port rule.GuardWidth i s a.place (first_wide i (atoms_of a.guard)) ++ target_break i s a) b → In (assign_breaks i s a) b
among_front i s a b h =
    let front = told_port rule.Width i s a.place (first_unequal i (pairs_of a)) ++ told_port rule.GuardWidth i s a.place (first_wide i (atoms_of a.guard)) ++ target_break i s a in
    in_left (front ++ operand_breaks i s a.source) (flat_map (operand_breaks i s) (operands_of a.guard)) b (in_left front (operand_breaks i s a.source) b h)

source_has : (i : Instance) (s : Spot) (p : PlacedPort) (place : Place) (name : List ℕ) → is_target_only i p.port ≡ true → Tells place name p.place (path_of i p.port)
    → In (operand_breaks i s p) (broken rule.NotASource s place name)
source_has i s p place name h t =
    in_right (literal_break s p) (source_break i s p) (broken rule.NotASource s place name)
    (told_has rule.NotASource i s p.place (port_if (is_target_only i p.port) p.port) p.port place name (port_if_true (is_target_only i p.port) p.port h) t)

bad_has : (i : Instance) (s : Spot) (p : PlacedPort) (place : Place) (name : List ℕ) → IsBadLiteral p.port → Tells place name p.place [] → In (operand_breaks i s p) (broken rule.Literal s place name)
bad_has i s p place name bad t = in_left (literal_break s p) (source_break i s p) (broken rule.Literal s place name) (literal_has s p place name bad t)

-- what breaks a rule on assignments is among the breaks of the assignment
module _ (i : Instance) (s : Spot) (a : Owned) (place : Place) (name : List ℕ) where
  abbrev unequal : List Broken
  unequal = told_port rule.Width i s a.assign.place (first_unequal i (pairs_of a.assign))

  abbrev wide : List Broken
  wide = told_port rule.GuardWidth i s a.assign.place (first_wide i (atoms_of a.assign.guard))

  width_has : BreaksWidth i a place name → In (assign_breaks i s a.assign) (broken rule.Width s place name)
  width_has o = among_front i s a.assign (broken rule.Width s place name)
      (in_left (unequal ++ wide) (target_break i s a.assign) (broken rule.Width s place name)
      (in_left unequal wide (broken rule.Width s place name)
      (told_has rule.Width i s a.assign.place (first_unequal i (pairs_of a.assign)) o.0 place name o.1 o.2)))

  guard_width_has : BreaksGuardWidth i a place name → In (assign_breaks i s a.assign) (broken rule.GuardWidth s place name)
  guard_width_has o = among_front i s a.assign (broken rule.GuardWidth s place name)
      (in_left (unequal ++ wide) (target_break i s a.assign) (broken rule.GuardWidth s place name)
      (in_right unequal wide (broken rule.GuardWidth s place name)
      (told_has rule.GuardWidth i s a.assign.place (first_wide i (atoms_of a.assign.guard)) o.0 place name o.1 o.2)))

  literal_in_has : BreaksLiteral i a place name → In (assign_breaks i s a.assign) (broken rule.Literal s place name)
  literal_in_has o = among_operands i s a.assign o.0 (broken rule.Literal s place name) o.1 (bad_has i s o.0 place name o.2 o.3)

  target_has : BreaksNotATarget i a place name → In (assign_breaks i s a.assign) (broken rule.NotATarget s place name)
  target_has o =
      let target = a.assign.target in
      among_front i s a.assign (broken rule.NotATarget s place name)
      (in_right (unequal ++ wide) (target_break i s a.assign) (broken rule.NotATarget s place name)
      (told_has rule.NotATarget i s a.assign.place (port_if (is_source_only i target) target) target place name (port_if_true (is_source_only i target) target o.0) o.1))

  source_in_has : BreaksNotASource i a place name → In (assign_breaks i s a.assign) (broken rule.NotASource s place name)
  source_in_has o = among_operands i s a.assign o.0 (broken rule.NotASource s place name) o.1 (source_has i s o.0 place name o.2 o.3)

guard_width_in : (d : PlainDesign) (spot : Spot) (place : Place) (name : List ℕ) → OnPart BreaksGuardWidth d spot place name → In (width_breaks d) (broken rule.GuardWidth spot place name)
guard_width_in d spot place name o = part_in d rule.GuardWidth spot place name BreaksGuardWidth o (λ i s a b. guard_width_has i s a place name b)

literals_in : (d : PlainDesign) (spot : Spot) (place : Place) (name : List ℕ) → OnPart BreaksLiteral d spot place name → In (width_breaks d) (broken rule.Literal spot place name)
literals_in d spot place name o = part_in d rule.Literal spot place name BreaksLiteral o (λ i s a b. literal_in_has i s a place name b)

sources_in : (d : PlainDesign) (spot : Spot) (place : Place) (name : List ℕ) → OnPart BreaksNotASource d spot place name → In (width_breaks d) (broken rule.NotASource spot place name)
sources_in d spot place name o = part_in d rule.NotASource spot place name BreaksNotASource o (λ i s a b. source_in_has i s a place name b)

-- each break of the stage is in the list
all_breaks : (d : PlainDesign) (r : Rule) (spot : Spot) (place : Place) (name : List ℕ) → stage_of r ≡ 3 → Breaks d r spot place name → In (width_breaks d) (broken r spot place name)
all_breaks d rule.Width spot place name h o = part_in d rule.Width spot place name BreaksWidth o (λ i s a b. width_has i s a place name b)
all_breaks d rule.GuardWidth spot place name h (inl o) = guard_width_in d spot place name (inl o)
all_breaks d rule.GuardWidth spot place name h (inr (inl o)) =
    let i = component_of d spot.component in let p = o.breaks.0 in
    statement_in d rule.GuardWidth spot place name TestBreaksGuardWidth o p o.breaks.1 (λ s.
    in_left (told_port rule.GuardWidth i s o.statement.place (port_if (is_wide i p.port) p.port)) (operand_breaks i s p) (broken rule.GuardWidth s place name)
    (told_has rule.GuardWidth i s o.statement.place (port_if (is_wide i p.port) p.port) p.port place name (port_if_true (is_wide i p.port) p.port o.breaks.2) o.breaks.3))
all_breaks d rule.GuardWidth spot place name h (inr (inr o)) = guard_width_in d spot place name (inr o)
all_breaks d rule.Literal spot place name h (inl o) = literals_in d spot place name (inl o)
all_breaks d rule.Literal spot place name h (inr (inl o)) =
    let i = component_of d spot.component in let p = o.breaks.0 in
    statement_in d rule.Literal spot place name TestBreaksLiteral o p o.breaks.1 (λ s.
    in_right (told_port rule.GuardWidth i s o.statement.place (port_if (is_wide i p.port) p.port)) (operand_breaks i s p) (broken rule.Literal s place name) (bad_has i s p place name o.breaks.2 o.breaks.3))
all_breaks d rule.Literal spot place name h (inr (inr o)) = literals_in d spot place name (inr o)
all_breaks d rule.NotATarget spot place name h o = part_in d rule.NotATarget spot place name BreaksNotATarget o (λ i s a b. target_has i s a place name b)
all_breaks d rule.NotASource spot place name h (inl o) = sources_in d spot place name (inl o)
all_breaks d rule.NotASource spot place name h (inr (inl o)) =
    let i = component_of d spot.component in let p = o.breaks.0 in
    statement_in d rule.NotASource spot place name TestBreaksNotASource o p o.breaks.1 (λ s.
    in_right (told_port rule.GuardWidth i s o.statement.place (port_if (is_wide i p.port) p.port)) (operand_breaks i s p) (broken rule.NotASource s place name) (source_has i s p place name o.breaks.2 o.breaks.3))
all_breaks d rule.NotASource spot place name h (inr (inr o)) = sources_in d spot place name (inr o)
all_breaks d rule.BadByte spot place name h o = absurd o
all_breaks d rule.OpenComment spot place name h o = absurd o
all_breaks d rule.OpenString spot place name h o = absurd o
all_breaks d rule.BadLiteral spot place name h o = absurd o
all_breaks d rule.Unexpected spot place name h o = absurd o
all_breaks d rule.TooDeep spot place name h o = absurd o
all_breaks d rule.Duplicate spot place name h o = absurd o
all_breaks d rule.UnknownName spot place name h o = absurd o
all_breaks d rule.UnknownPrimitive spot place name h o = absurd o
all_breaks d rule.BadParameters spot place name h o = absurd o
all_breaks d rule.Recursive spot place name h o = absurd o
all_breaks d rule.NoMain spot place name h o = absurd o
all_breaks d rule.LeftOut spot place name h o = absurd o
all_breaks d rule.NoDone spot place name h o = absurd (omega (arith, h))
all_breaks d rule.DoneNotState spot place name h o = absurd (omega (arith, h))
all_breaks d rule.AlwaysEnable spot place name h o = absurd (omega (arith, h))
all_breaks d rule.CombEnable spot place name h o = absurd (omega (arith, h))
all_breaks d rule.StaticGuard spot place name h o = absurd (omega (arith, h))
all_breaks d rule.StaticShape spot place name h o = absurd (omega (arith, h))
all_breaks d rule.CallShape spot place name h o = absurd (omega (arith, h))
all_breaks d rule.OutputNotState spot place name h o = absurd (omega (arith, h))
all_breaks d rule.CombCycle spot place name h o = absurd (omega (arith, h))
all_breaks d rule.Race spot place name h o = absurd (omega (arith, h))
all_breaks d rule.Limit spot place name h o = absurd (omega (arith, h))
all_breaks d rule.TooLarge spot place name h o = absurd o

-- the list is that of the stage
pub are_breaks : (d : PlainDesign) → AreBreaks 3 d (width_breaks d)
are_breaks d = record {
  in_stage = λ b h. (all_hold (component_breaks d) (Holds d) (length d.components) b (λ k. component_holds d k b) h).0;
  break = λ b h. (all_hold (component_breaks d) (Holds d) (length d.components) b (λ k. component_holds d k b) h).1;
  all = λ r spot place name s o. (broken r spot place name, all_breaks d r spot place name s o, before_irreflexive (key_of r spot place));
}

-- one more component is looked at
pub next_component : (d : PlainDesign) (n count : ℕ) (best one two next rest : Option Broken) → n < count
    → one ≡ first_of best (assigns_breaks d n) → two ≡ first_of one (conditions_breaks d n) → next ≡ first_of two (binds_breaks d n)
    → first_of best (counted (component_breaks d) n (count - n)) ≡ rest → first_of next (counted (component_breaks d) (n + 1) (count - (n + 1))) ≡ rest
next_component d n count best one two next rest few e f g so_far =
    let joined : next ≡ first_of best (component_breaks d n) =
    g ∙ ap (λ b. first_of b (binds_breaks d n)) (f ∙ ap (λ b. first_of b (conditions_breaks d n)) e ∙ sym (first_append best (assigns_breaks d n) (conditions_breaks d n)))
    ∙ sym (first_append best (assigns_breaks d n ++ conditions_breaks d n) (binds_breaks d n)) in
    next_counted (component_breaks d) n count best next rest few joined so_far
