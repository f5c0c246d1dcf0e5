-- A PROMOTED DESIGN KEEPS THE RULES of stages 3 to 6, where the old one does.
use Rattle.std.proofs.Common.{◌≡◌, ℕ, zero, suc, ◌<◌, ◌≤◌, inl, inr, ◌⊎◌, List, length, refl, sym, ap, ◌∙◌, subst, arith}
use Rattle.std.specs.Prelude.{true, None, flat_map, slice_get}
use Rattle.std.proofs.lemmas.Bool.{cases_lt}
use Rattle.std.proofs.lemmas.List.{get_or_past}
use Rattle.cx_text.proofs.MemberLaws.{in_at, number_in}
use Rattle.cx_text.specs.declared.places.Place.{Place}
use Rattle.cx_text.proofs.BoolLaws.{not_both}
use Rattle.cx_text.specs.declared.rules.Rule.{Rule}
use Rattle.cx_text.specs.declared.rules.Rule.TheVariants as rules
use Rattle.cx_meaning.specs.Designs.{PlainGroup, PlainInvoke, PlainComponent, PlainDesign, component_at, group_at, no_component}
use Rattle.cx_meaning.specs.Instances.{Instance, part_of, tree_within}
use Rattle.cx_meaning.specs.Active.{Owned, nothing, group, source_order}
use Rattle.cx_text.specs.Members.{In}
use Rattle.cx_meaning.proofs.DesignsLemmas.{same_part}
use Rattle.cx_rules.specs.Accepted.{Breaks, stage_of, KeepsStage, IsAccepted}
use Rattle.cx_rules.specs.CallShape.{BreaksCallShape, GroupBreaksCallShape}
use Rattle.cx_rules.specs.Items.{Visited, statements_in}
use Rattle.cx_rules.specs.Ports.{component_of}
use Rattle.cx_rules.specs.InvokeShape.{BreaksStaticCell, BreaksInvoke}
use Rattle.cx_rules.specs.RaceRule.{HasCycle, arms_of, IsShared, BreaksCombCycle, GroupBreaksCombCycle, BreaksRace}
use Rattle.cx_rules.specs.ShapeRules.{BreaksNoDone, BreaksDoneNotState, BreaksAlwaysEnable, BreaksCombEnable, BreaksStaticGuard, GroupBreaksStaticShape, BreaksStaticControl, BreaksLength, BreaksInvokeLength, IsWrongControl, BreaksPartLength, BreaksStaticTest, BreaksOutputNotState, BreaksKept}
use Rattle.cx_rules.specs.Spots.{AnAssign, AStatement, Spot, AssignRule, StatementRule, GroupRule, OnAssign, OnBind, OnStatement, OnGroup}
use Rattle.cx_rules.specs.StaticControl.{is_in_static, may_stand}
use Rattle.cx_rules.specs.WidthRules.{BreaksWidth, BreaksGuardWidth, TestBreaksGuardWidth, BreaksLiteral, TestBreaksLiteral, BreaksNotATarget, BreaksNotASource, TestBreaksNotASource}
use Rattle.cx_rules.specs.Wellformed.{IsDesign}
use Rattle.cx_laws.proofs.RaceLemmas.{unshared, not_twice}
use Rattle.cx_promotion.specs.Made.{IsPromoted, GroupsMade, no_groups, a_group, PartMade, DesignMade}
use Rattle.cx_promotion.proofs.Twins.{Twins}
use Rattle.cx_promotion.proofs.Trees.{past_new, twins_within, rows_within, part_made, keeps_statics}
use Rattle.cx_promotion.proofs.PortsMade.{SameSignature}
use Rattle.cx_promotion.proofs.LeadsMade.{cycle_made}
use Rattle.cx_promotion.proofs.AssignsMade as assigns
use Rattle.cx_promotion.proofs.AssignsMade.{From, BreaksThere, OldBreak, origin_of}
use Rattle.cx_promotion.proofs.CallsMade as calls
use Rattle.cx_promotion.proofs.StatementsMade as statements
use Rattle.cx_promotion.proofs.StatementsMade.{Comes, comes}

below_seven : (m : ℕ) → m < 7 → m ≡ 7 → ⊥
below_seven m lt e = omega arith

-- as many groups
groups_count : {i : Instance} {xs ys : List PlainGroup} → GroupsMade i xs ys → length xs ≡ length ys
groups_count no_groups = refl
groups_count (a_group here later) = ap suc (groups_count later)

module _ (old new : PlainDesign) (design : IsDesign old) (accepted : IsAccepted old) (made : DesignMade old new) where
  abbrev n : ℕ
  n = length old.components

  abbrev i : ℕ → Instance
  i k = component_of old k

  abbrev j : ℕ → Instance
  j k = tree_within new n k

  j_is : (k : ℕ) → component_of new k ≡ j k
  j_is k = ap (λ m. tree_within new m k) (sym made.count)

  same_parts : (Part : PlainComponent → PlainComponent → Type 0) (m k : ℕ) → Part (component_at old k) (component_at new k) → Part (part_of (tree_within old m k)) (part_of (tree_within new m k))
  same_parts Part zero k h = h
  same_parts Part (suc m) k h = h

  -- the signatures are the same
  abbrev Signature : PlainComponent → PlainComponent → Type 0
  Signature a b = (a.inputs ≡ b.inputs) × (a.outputs ≡ b.outputs) × (a.latency ≡ b.latency)

  signatures : (k : ℕ) → Signature (component_at old k) (component_at new k)
  signatures k = by (cases_lt k n)
    where
      by : (k < n) ⊎ (n ≤ k) → Signature (component_at old k) (component_at new k)
      by (inl within) = ((made.parts k within).inputs, (made.parts k within).outputs, (made.parts k within).latency)
      by (inr past) =
          let one : component_at old k ≡ no_component = get_or_past old.components k no_component past in
          let other : component_at new k ≡ no_component = get_or_past new.components k no_component (past_new old new made k past) in
          subst (λ b. Signature (component_at old k) b) (one ∙ sym other) (refl, refl, refl)

  top : (m k : ℕ) → SameSignature (tree_within old m k) (tree_within new m k)
  top m k = let r = same_parts Signature m k (signatures k) in record { latency = r.2; inputs = r.0; outputs = r.1 }

  t : (k : ℕ) → Twins SameSignature (i k) (j k)
  t k = twins_within old new made SameSignature top n k

  module _ (k : ℕ) (within : k < n) where
    made_at : PartMade (i k) (part_of (i k)) (part_of (j k))
    made_at = part_made old new design accepted made n k within

    part_old : part_of (i k) ≡ component_at old k
    part_old = same_part old n k

    part_new : part_of (j k) ≡ component_at new k
    part_new = same_part new n k

    -- AN ASSIGNMENT
    from : (q : Owned) → In (source_order (component_at new k)) q → From (i k) (j k) (t k) made_at q
    from q stands =
        origin_of (i k) (IsPromoted (i k) (part_of (i k)) (part_of (j k))) made_at.order q (subst (λ part. In (source_order part) q) (sym part_new) stands)

    old_assign : (rule : AssignRule) → ((spot : Spot) (place : Place) (name : List ℕ) → OnAssign rule old spot place name → ⊥) → OldBreak (i k) (j k) (t k) made_at rule → ⊥
    old_assign rule keeps (o, inside, place, name, breaks) =
        let at = number_in (source_order (component_at old k)) o (subst (λ part. In (source_order part) o) part_old inside) in
        keeps (record { component = k; part = AnAssign at.0 }) place name (record { within = within; number = at.0; is = refl; assign = o; stands = at.1; breaks = breaks })

    -- A STATEMENT
    stands_static : (v : Visited) → In (statements_in (part_of (i k))) v → is_in_static v.context ≡ true → may_stand (part_of (i k)) v.context v.form ≡ true
    stands_static v inside stat =
        ap (λ part. may_stand part v.context v.form) part_old ∙ keeps_statics old design accepted k within v (subst (λ part. In (statements_in part) v) part_old inside) stat

    abbrev OldStatement : StatementRule → Type 0
    OldStatement rule = (v : Visited) × In (statements_in (part_of (i k))) v × (at : Place) × (called : List ℕ) × rule (i k) v at called

    old_statement : (rule : StatementRule) → ((spot : Spot) (place : Place) (name : List ℕ) → OnStatement rule old spot place name → ⊥) → OldStatement rule → ⊥
    old_statement rule keeps (v, inside, place, name, breaks) =
        let at = number_in (statements_in (component_at old k)) v (subst (λ part. In (statements_in part) v) part_old inside) in
        keeps (record { component = k; part = AStatement at.0 }) place name (record { within = within; number = at.0; is = refl; statement = v; stands = at.1; breaks = breaks })

    lengths : (g : ℕ) (is : IsPromoted (i k) (part_of (i k)) (part_of (j k)) g) → 1 ≤ is.0
    lengths = calls.some_length (i k) (j k) (t k) made_at (rows_within old n k)

    come : (w : Visited) → In (statements_in (component_at new k)) w → Comes (i k) (j k) (t k) made_at lengths stands_static w
    come w inside = comes (i k) (j k) (t k) made_at lengths stands_static w (subst (λ part. In (statements_in part) w) (sym part_new) inside)

    -- no arms race
    no_race : (w : Visited) → In (statements_in (component_at new k)) w → (place : Place) (name : List ℕ) → BreaksRace (j k) w place name → ⊥
    no_race w inside place name (inl (c, shared, least, tells)) =
        let r = statements.shared_back (i k) (j k) (t k) made_at lengths stands_static w c (come w inside) shared in
        unshared old accepted k within r.0 (subst (λ part. In (statements_in part) r.0) part_old r.1) c (subst (λ part. IsShared part (arms_of r.0.form) c) part_old r.2)
    no_race w inside place name (inr (none, (g, twice, least, tells))) =
        let r = statements.twice_back (i k) (j k) (t k) made_at lengths stands_static w g (come w inside) twice in
        not_twice old accepted k within r.0 (subst (λ part. In (statements_in part) r.0) part_old r.1) g r.2

  within_old : (k : ℕ) → k < length new.components → k < n
  within_old k lt = subst (λ m. k < m) (sym made.count) lt

  -- NO PART of the new design breaks a rule that the old one keeps
  no_assign : (rule : AssignRule) → ((spot : Spot) (place : Place) (name : List ℕ) → OnAssign rule old spot place name → ⊥)
      → ((k : ℕ) (within : k < n) (q : Owned) (place : Place) (name : List ℕ) → From (i k) (j k) (t k) (made_at k within) q → rule (j k) q place name → OldBreak (i k) (j k) (t k) (made_at k within) rule)
      → (spot : Spot) (place : Place) (name : List ℕ) → OnAssign rule new spot place name → ⊥
  no_assign rule keeps back spot place name on =
      let k : ℕ = spot.component in
      let within : k < n = within_old k on.within in
      old_assign k within rule keeps
      (back k within on.assign place name (from k within on.assign (in_at (source_order (component_at new k)) on.number on.assign on.stands)) (subst (λ x. rule x on.assign place name) (j_is k) on.breaks))

  no_statement : (rule : StatementRule) → ((spot : Spot) (place : Place) (name : List ℕ) → OnStatement rule old spot place name → ⊥)
      → ((k : ℕ) (within : k < n) (w : Visited) (place : Place) (name : List ℕ) → Comes (i k) (j k) (t k) (made_at k within) (lengths k within) (stands_static k within) w → rule (j k) w place name
      → OldStatement k within rule)
      → (spot : Spot) (place : Place) (name : List ℕ) → OnStatement rule new spot place name → ⊥
  no_statement rule keeps back spot place name on =
      let k : ℕ = spot.component in
      let within : k < n = within_old k on.within in
      old_statement k within rule keeps
      (back k within on.statement place name (come k within on.statement (in_at (statements_in (component_at new k)) on.number on.statement on.stands)) (subst (λ x. rule x on.statement place name) (j_is k) on.breaks))

  no_group : (rule : GroupRule) → ((spot : Spot) (place : Place) (name : List ℕ) → OnGroup rule old spot place name → ⊥)
      → ((k : ℕ) → k < n → (g : ℕ) (place : Place) (name : List ℕ) → rule (j k) g place name → (at : Place) × (called : List ℕ) × rule (i k) g at called)
      → (spot : Spot) (place : Place) (name : List ℕ) → OnGroup rule new spot place name → ⊥
  no_group rule keeps back spot place name on =
      let k : ℕ = spot.component in
      let within : k < n = within_old k on.within in
      let r = back k within on.number place name (subst (λ x. rule x on.number place name) (j_is k) on.breaks) in
      keeps spot r.0 r.1
      (record {
        within = within;
        number = on.number;
        is = on.is;
        stands = subst (λ m. on.number < m) (sym (groups_count (made.parts k within).groups)) on.stands;
        breaks = r.2;
      })

  no_bind : (rule : AssignRule) → ((spot : Spot) (place : Place) (name : List ℕ) → OnBind rule old spot place name → ⊥)
      → ((k : ℕ) (within : k < n) (q : Owned) (place : Place) (name : List ℕ) → rule (j k) q place name → BreaksThere (i k) (j k) (t k) (made_at k within) rule q)
      → (spot : Spot) (place : Place) (name : List ℕ) → OnBind rule new spot place name → ⊥
  no_bind rule keeps there spot place name on =
      let k : ℕ = spot.component in
      let within : k < n = within_old k on.within in
      let q : Owned = record { owner = None; assign = on.assign } in
      let r = there k within q place name (subst (λ x. rule x q place name) (j_is k) on.breaks) in
      keeps spot r.0 r.1
      (record {
        within = within;
        number = on.number;
        is = on.is;
        assign = on.assign;
        stands = ap (λ vs. slice_get (flat_map (λ (v : PlainInvoke). v.inputs) vs) on.number) (made.parts k within).invokes ∙ on.stands;
        breaks = r.2;
      })

  -- the control of a static component
  part_length_never : (spot : Spot) (place : Place) (name : List ℕ) → BreaksPartLength new spot place name → ⊥
  part_length_never spot place name on =
      let k : ℕ = spot.component in
      let within : k < n = within_old k on.within in
      let wrong = subst (λ part. IsWrongControl part on.latency) (sym (part_new k within)) on.control in
      accepted.shapes rules.StaticShape spot (component_at old k).place (component_at old k).name refl
      (inr (inr (inr (inr (inr (record {
        within = within;
        is = on.is;
        latency = on.latency;
        static = (made.parts k within).latency ∙ on.static;
        control = subst (λ part. IsWrongControl part on.latency) (part_old k within)
            (statements.part_length_back (i k) (j k) (t k) (made_at k within) (lengths k within) (stands_static k within) on.latency wrong);
        tells = (refl, refl);
      }))))))

  control_never : (spot : Spot) (place : Place) (name : List ℕ) → OnStatement BreaksStaticControl new spot place name → ⊥
  control_never spot place name on =
      let k : ℕ = spot.component in
      let within : k < n = within_old k on.within in
      let broken = subst (λ x. BreaksStaticControl x on.statement place name) (j_is k) on.breaks in
      not_both (may_stand (part_of (j k)) on.statement.context on.statement.form)
      (statements.control_stands (i k) (j k) (t k) (made_at k within) (lengths k within) (stands_static k within) on.statement.context on.statement.form
      (come k within on.statement (in_at (statements_in (component_at new k)) on.number on.statement on.stands)) broken.0)
      broken.1

  race_never : (spot : Spot) (place : Place) (name : List ℕ) → OnStatement BreaksRace new spot place name → ⊥
  race_never spot place name on =
      let k : ℕ = spot.component in
      let within : k < n = within_old k on.within in
      no_race k within on.statement (in_at (statements_in (component_at new k)) on.number on.statement on.stands) place name (subst (λ x. BreaksRace x on.statement place name) (j_is k) on.breaks)

  cycle_never : (spot : Spot) (place : Place) (name : List ℕ) → BreaksCombCycle new spot place name → ⊥
  cycle_never spot place name on =
      let k : ℕ = spot.component in
      let within : k < n = within_old k on.within in
      accepted.no_cycles rules.CombCycle spot (component_at old k).place (component_at old k).name refl
      (inl (record {
        within = within;
        is = on.is;
        cycle = cycle_made (i k) (i k) (j k) (t k) (made_at k within) nothing (subst (λ x. HasCycle x nothing) (j_is k) on.cycle);
        tells = (refl, refl);
      }))

  -- EVERY RULE but that on limits
  keeps_rule : (rule : Rule) (spot : Spot) (place : Place) (name : List ℕ) → (stage_of rule ≡ 7 → ⊥) → Breaks new rule spot place name → ⊥
  keeps_rule rules.Width spot place name other (inl b) =
      no_assign BreaksWidth (λ s p m on. accepted.widths rules.Width s p m refl (inl on))
      (λ k within q p m came is. assigns.width_back (i k) (j k) (t k) (made_at k within) q p m came is) spot place name b
  keeps_rule rules.Width spot place name other (inr b) =
      no_bind BreaksWidth (λ s p m on. accepted.widths rules.Width s p m refl (inr on))
      (λ k within q p m is. assigns.width_there (i k) (j k) (t k) (made_at k within) q p m is) spot place name b
  keeps_rule rules.GuardWidth spot place name other (inl b) =
      no_assign BreaksGuardWidth (λ s p m on. accepted.widths rules.GuardWidth s p m refl (inl on))
      (λ k within q p m came is. assigns.guard_width_back (i k) (j k) (t k) (made_at k within) q p m came is) spot place name b
  keeps_rule rules.GuardWidth spot place name other (inr (inl b)) =
      no_statement TestBreaksGuardWidth (λ s p m on. accepted.widths rules.GuardWidth s p m refl (inr (inl on)))
      (λ k within w p m came is. statements.test_width_back (i k) (j k) (t k) (made_at k within) (lengths k within) (stands_static k within) w p m came is) spot place name b
  keeps_rule rules.GuardWidth spot place name other (inr (inr b)) =
      no_bind BreaksGuardWidth (λ s p m on. accepted.widths rules.GuardWidth s p m refl (inr (inr on)))
      (λ k within q p m is. assigns.guard_width_there (i k) (j k) (t k) (made_at k within) q p m is) spot place name b
  keeps_rule rules.Literal spot place name other (inl b) =
      no_assign BreaksLiteral (λ s p m on. accepted.widths rules.Literal s p m refl (inl on))
      (λ k within q p m came is. assigns.literal_back (i k) (j k) (t k) (made_at k within) q p m came is) spot place name b
  keeps_rule rules.Literal spot place name other (inr (inl b)) =
      no_statement TestBreaksLiteral (λ s p m on. accepted.widths rules.Literal s p m refl (inr (inl on)))
      (λ k within w p m came is. statements.test_literal_back (i k) (j k) (t k) (made_at k within) (lengths k within) (stands_static k within) w p m came is) spot place name b
  keeps_rule rules.Literal spot place name other (inr (inr b)) =
      no_bind BreaksLiteral (λ s p m on. accepted.widths rules.Literal s p m refl (inr (inr on)))
      (λ k within q p m is. assigns.literal_there (i k) (j k) (t k) (made_at k within) q p m is) spot place name b
  keeps_rule rules.NotATarget spot place name other (inl b) =
      no_assign BreaksNotATarget (λ s p m on. accepted.widths rules.NotATarget s p m refl (inl on))
      (λ k within q p m came is. assigns.target_back (i k) (j k) (t k) (made_at k within) q p m came is) spot place name b
  keeps_rule rules.NotATarget spot place name other (inr b) =
      no_bind BreaksNotATarget (λ s p m on. accepted.widths rules.NotATarget s p m refl (inr on))
      (λ k within q p m is. assigns.target_there (i k) (j k) (t k) (made_at k within) q p m is) spot place name b
  keeps_rule rules.NotASource spot place name other (inl b) =
      no_assign BreaksNotASource (λ s p m on. accepted.widths rules.NotASource s p m refl (inl on))
      (λ k within q p m came is. assigns.not_source_back (i k) (j k) (t k) (made_at k within) q p m came is) spot place name b
  keeps_rule rules.NotASource spot place name other (inr (inl b)) =
      no_statement TestBreaksNotASource (λ s p m on. accepted.widths rules.NotASource s p m refl (inr (inl on)))
      (λ k within w p m came is. statements.test_source_back (i k) (j k) (t k) (made_at k within) (lengths k within) (stands_static k within) w p m came is) spot place name b
  keeps_rule rules.NotASource spot place name other (inr (inr b)) =
      no_bind BreaksNotASource (λ s p m on. accepted.widths rules.NotASource s p m refl (inr (inr on)))
      (λ k within q p m is. assigns.not_source_there (i k) (j k) (t k) (made_at k within) q p m is) spot place name b
  keeps_rule rules.NoDone spot place name other b =
      no_group BreaksNoDone (λ s p m on. accepted.shapes rules.NoDone s p m refl on)
      (λ k within g p m is. calls.no_done_back (i k) (j k) (t k) (made_at k within) (rows_within old n k) g p m is) spot place name b
  keeps_rule rules.DoneNotState spot place name other b =
      no_assign BreaksDoneNotState (λ s p m on. accepted.shapes rules.DoneNotState s p m refl on)
      (λ k within q p m came is. assigns.done_back (i k) (j k) (t k) (made_at k within) q p m came is) spot place name b
  keeps_rule rules.AlwaysEnable spot place name other b =
      no_assign BreaksAlwaysEnable (λ s p m on. accepted.shapes rules.AlwaysEnable s p m refl on)
      (λ k within q p m came is. assigns.always_back (i k) (j k) (t k) (made_at k within) q p m came is) spot place name b
  keeps_rule rules.CombEnable spot place name other b =
      no_assign BreaksCombEnable (λ s p m on. accepted.shapes rules.CombEnable s p m refl on)
      (λ k within q p m came is. assigns.comb_back (i k) (j k) (t k) (made_at k within) q p m came is) spot place name b
  keeps_rule rules.StaticGuard spot place name other b =
      no_assign BreaksStaticGuard (λ s p m on. accepted.shapes rules.StaticGuard s p m refl on)
      (λ k within q p m came is. assigns.static_guard_back (i k) (j k) (t k) (made_at k within) q p m came is) spot place name b
  keeps_rule rules.StaticShape spot place name other (inl b) =
      no_group GroupBreaksStaticShape (λ s p m on. accepted.shapes rules.StaticShape s p m refl (inl on))
      (λ k within g p m is. calls.static_shape_back (i k) (j k) (t k) (made_at k within) (rows_within old n k) g p m is) spot place name b
  keeps_rule rules.StaticShape spot place name other (inr (inl b)) = control_never spot place name b
  keeps_rule rules.StaticShape spot place name other (inr (inr (inl b))) =
      no_statement BreaksLength (λ s p m on. accepted.shapes rules.StaticShape s p m refl (inr (inr (inl on))))
      (λ k within w p m came is. statements.length_back (i k) (j k) (t k) (made_at k within) (lengths k within) (stands_static k within) w p m came is) spot place name b
  keeps_rule rules.StaticShape spot place name other (inr (inr (inr (inl b)))) =
      no_statement BreaksStaticTest (λ s p m on. accepted.shapes rules.StaticShape s p m refl (inr (inr (inr (inl on)))))
      (λ k within w p m came is. statements.static_test_back (i k) (j k) (t k) (made_at k within) (lengths k within) (stands_static k within) w p m came is) spot place name b
  keeps_rule rules.StaticShape spot place name other (inr (inr (inr (inr (inl b))))) =
      no_statement BreaksInvokeLength (λ s p m on. accepted.shapes rules.StaticShape s p m refl (inr (inr (inr (inr (inl on))))))
      (λ k within w p m came is. statements.invoke_length_back (i k) (j k) (t k) (made_at k within) (lengths k within) (stands_static k within) w p m came is) spot place name b
  keeps_rule rules.StaticShape spot place name other (inr (inr (inr (inr (inr b))))) = part_length_never spot place name b
  keeps_rule rules.CallShape spot place name other (inl b) =
      no_assign BreaksCallShape (λ s p m on. accepted.shapes rules.CallShape s p m refl (inl on))
      (λ k within q p m came is. calls.call_back (i k) (j k) (t k) (made_at k within) (rows_within old n k) q p m came is) spot place name b
  keeps_rule rules.CallShape spot place name other (inr (inl b)) =
      no_group GroupBreaksCallShape (λ s p m on. accepted.shapes rules.CallShape s p m refl (inr (inl on)))
      (λ k within g p m is. calls.group_call_back (i k) (j k) (t k) (made_at k within) (rows_within old n k) g p m is) spot place name b
  keeps_rule rules.CallShape spot place name other (inr (inr (inl b))) =
      no_assign BreaksStaticCell (λ s p m on. accepted.shapes rules.CallShape s p m refl (inr (inr (inl on))))
      (λ k within q p m came is. assigns.static_cell_back (i k) (j k) (t k) (made_at k within) q p m came is) spot place name b
  keeps_rule rules.CallShape spot place name other (inr (inr (inr b))) =
      no_statement BreaksInvoke (λ s p m on. accepted.shapes rules.CallShape s p m refl (inr (inr (inr on))))
      (λ k within w p m came is. statements.invoke_back (i k) (j k) (t k) (made_at k within) (lengths k within) (stands_static k within) w p m came is) spot place name b
  keeps_rule rules.OutputNotState spot place name other (inl b) =
      no_assign BreaksOutputNotState (λ s p m on. accepted.shapes rules.OutputNotState s p m refl (inl on))
      (λ k within q p m came is. assigns.output_back (i k) (j k) (t k) (made_at k within) q p m came is) spot place name b
  keeps_rule rules.OutputNotState spot place name other (inr b) =
      no_assign BreaksKept (λ s p m on. accepted.shapes rules.OutputNotState s p m refl (inr on))
      (λ k within q p m came is. assigns.kept_back (i k) (j k) (t k) (made_at k within) q p m came is) spot place name b
  keeps_rule rules.CombCycle spot place name other (inl b) = cycle_never spot place name b
  keeps_rule rules.CombCycle spot place name other (inr b) =
      no_group GroupBreaksCombCycle (λ s p m on. accepted.no_cycles rules.CombCycle s p m refl (inr on))
      (λ k within g p m is. ((group_at (part_of (i k)) g).place, (group_at (part_of (i k)) g).name, (cycle_made (i k) (i k) (j k) (t k) (made_at k within) (group g) is.0, (refl, refl)))) spot place name b
  keeps_rule rules.Race spot place name other b = race_never spot place name b
  keeps_rule rules.Limit spot place name other b = other refl
  keeps_rule _ spot place name other b = b

  -- ACCEPTED, where it keeps the limits
  pub design_is_accepted : KeepsStage 7 new → IsAccepted new
  design_is_accepted limits = record {
    widths = λ rule spot place name e b. keeps_rule rule spot place name (λ f. below_seven 3 (omega arith) (sym e ∙ f)) b;
    shapes = λ rule spot place name e b. keeps_rule rule spot place name (λ f. below_seven 4 (omega arith) (sym e ∙ f)) b;
    no_cycles = λ rule spot place name e b. keeps_rule rule spot place name (λ f. below_seven 5 (omega arith) (sym e ∙ f)) b;
    no_races = λ rule spot place name e b. keeps_rule rule spot place name (λ f. below_seven 6 (omega arith) (sym e ∙ f)) b;
    limits = limits;
  }
