-- THE SHARED DESIGN IS ACCEPTED, where the design is: what breaks a rule in it breaks the rule in the design, at the same part.
use Rattle.std.proofs.Common.{◌≡◌, ℕ, zero, suc, ◌<◌, ◌≤◌, ◌⊎◌, inl, inr, Bool, true, false, List, [], ◌∷◌, ◌++◌, length, map, Some, None, slice_get, refl, sym, ap, ◌∙◌, subst, arith}
use Rattle.std.specs.Prelude.{get_or}
use Rattle.std.proofs.lemmas.List.{length-map}
use Rattle.cx_text.proofs.MemberLaws.{in_at, in_left, in_right, number_in}
use Rattle.cx_text.specs.declared.places.Place.{Place}
use Rattle.cx_text.specs.declared.rules.Rule.{Rule}
use Rattle.cx_text.specs.declared.rules.Rule.TheVariants as rules
use Rattle.cx_text.specs.declared.limits.TheConstants.{CELLS, GROUPS, INSTANCES, INSTANCE_DEPTH, MEMORY_WORDS, WEIGHT}
use Rattle.cx_meaning.specs.declared.ports.PortRef.{PortRef}
use Rattle.cx_meaning.specs.Designs.{PlainAssign, PlainGroup, PlainComponent, PlainStatement, Placed, PlainDesign, component_at, form_of, group_at, no_group}
use Rattle.cx_meaning.specs.Instances.{Instance, part_of, tree_of}
use Rattle.cx_meaning.specs.Active.{Owned, owned, owned_by_groups, source_order}
use Rattle.cx_text.specs.Members.{In}
use Rattle.cx_meaning.proofs.ActiveLemmas.{sorted_has}
use Rattle.cx_meaning.proofs.DesignsLemmas.{same_part, owned_has}
use Rattle.cx_rules.specs.Ports.{component_of, is_source_only}
use Rattle.cx_rules.specs.Items.{InStatic, Visited, statements_in}
use Rattle.cx_rules.specs.Spots.{AnAssign, Spot, AssignRule, StatementRule, GroupRule, OnAssign, binds_in, OnBind, OnStatement, OnGroup}
use Rattle.cx_rules.specs.WidthRules.{BreaksWidth, BreaksGuardWidth, TestBreaksGuardWidth, BreaksLiteral, TestBreaksLiteral, BreaksNotATarget, BreaksNotASource, TestBreaksNotASource}
use Rattle.cx_rules.specs.ShapeRules.{BreaksNoDone, BreaksDoneNotState, BreaksAlwaysEnable, BreaksCombEnable, BreaksStaticGuard, GroupBreaksStaticShape, BreaksStaticControl, BreaksLength, BreaksInvokeLength, IsWrongControl, BreaksPartLength, BreaksStaticTest, BreaksOutputNotState, BreaksKept}
use Rattle.cx_rules.specs.InvokeShape.{BreaksStaticCell, BreaksInvoke}
use Rattle.cx_rules.specs.StaticControl.{may_stand, has_length}
use Rattle.cx_rules.specs.Invokes.{invoke_length, lasts}
use Rattle.cx_rules.specs.CallShape.{BreaksCallShape, GroupBreaksCallShape}
use Rattle.cx_rules.specs.RaceRule.{arms_of, IsShared, BreaksCombCycle, GroupBreaksCombCycle, BreaksRace}
use Rattle.cx_rules.specs.LimitRule.{Limited, OnCells, OnGroups, OnInstances, OnDepth, OnWords, OnWeight, BreaksStatement, BreaksPart, BreaksTree}
use Rattle.cx_rules.specs.Sizes.{words_below}
use Rattle.cx_rules.specs.Counts.{counted_cells, counted_groups, counted_weight, counted_instances, counted_depth}
use Rattle.cx_rules.specs.Accepted.{Breaks, KeepsStage, IsAccepted}
use Rattle.cx_rules.specs.Wellformed.{IsDesign}
use Rattle.cx_laws.proofs.RaceLemmas.{unshared}
use Rattle.cx_rewrites.specs.Moving.{moved_assign, moved_owned, moved_statement}
use Rattle.cx_rewrites.specs.Renaming.{renamed}
use Rattle.cx_sharing.specs.Giving.{new_cell}
use Rattle.cx_sharing.specs.SharedDesign.{shared_design}
use Rattle.cx_sharing.proofs.TwinLemmas.{shared_component}
use Rattle.cx_rewrites.proofs.MovedLists.{moved_visited, may_stand-moved, has_length-moved}
use Rattle.cx_rewrites.proofs.MovedInvokes.{lasts-moved}
use Rattle.cx_rewrites.proofs.PlaceRules.{ByAssign, ByStatement, ByGroup}
use Rattle.cx_sharing.proofs.SharedParts.{Shares, new_port, as_many_parts, component-shares, binds_in-shared, group_length-shared, of_invokes, words-shared, source_order-shared, statements_in-shared}
use Rattle.cx_sharing.proofs.RulesShared as kept
use Rattle.cx_sharing.proofs.RestsShared.{HasInputs}
use Rattle.cx_sharing.proofs.StateRules.{done_not_state_back, output_not_state_back, static_test_back, kept_back}
use Rattle.cx_sharing.proofs.InvokesShared.{NoneInvoked, invoke_break_back, none_invoked}
use Rattle.cx_sharing.proofs.CirclesShared.{cycle_back, group_cycle_back}
use Rattle.cx_sharing.proofs.RacesShared.{race_back}
use Rattle.cx_sharing.proofs.CallsShared.{call_shape_back, group_call_back}
use Rattle.cx_sharing.proofs.LimitsShared.{component_counts, groups_kept, occurrences_kept, instances_kept, depth_kept, words_kept, weight_less}
use Rattle.cx_text.proofs.ListLaws.{at_map}

groups_have : (n : ℕ) (groups : List PlainGroup) (g : ℕ) (a : PlainAssign) → In (get_or groups g no_group).assigns a → (o : Owned) × In (owned_by_groups n groups) o × (o.assign ≡ a)
groups_have n [] g a i = absurd i
groups_have n (x ∷ xs) zero a i = (_, in_left (owned (Some n) x.assigns) (owned_by_groups (suc n) xs) _ (owned_has (Some n) x.assigns a i), refl)
groups_have n (x ∷ xs) (suc g) a i = let r = groups_have (suc n) xs g a i in (r.0, in_right (owned (Some n) x.assigns) (owned_by_groups (suc n) xs) r.0 r.1, r.2)

group_stands : (part : PlainComponent) (g : ℕ) (a : PlainAssign) → In (group_at part g).assigns a → (o : Owned) × In (source_order part) o × (o.assign ≡ a)
group_stands part g a i =
    let r = groups_have 0 part.groups g a i in
    (r.0, sorted_has (owned None part.always ++ owned_by_groups 0 part.groups) r.0 (in_right (owned None part.always) (owned_by_groups 0 part.groups) r.0 r.1), r.2)

-- a rule is broken at a part, whatever is told
abbrev Broken : PlainDesign → Rule → Spot → Type 0
Broken d rule spot = (place : Place) × (name : List ℕ) × Breaks d rule spot place name

module _ (d : PlainDesign) (design : IsDesign d) (accepted : IsAccepted d) where
  shares_at : (k : ℕ) → Shares (component_of d k) (component_of (shared_design d) k)
  shares_at k = component-shares d k

  within_back : (k : ℕ) → k < length (shared_design d).components → k < length d.components
  within_back k lt = let many = as_many_parts d in omega (arith, lt, many)

  -- no group of a component drives an output
  inputs_driven : (k : ℕ) → k < length d.components → HasInputs (component_of d k)
  inputs_driven k within g a i = by (is_source_only (component_of d k) a.target) refl
    where
      broken : is_source_only (component_of d k) a.target ≡ true → ⊥
      broken is =
          let r = group_stands (part_of (component_of d k)) g a i in
          let n = number_in (source_order (component_at d k)) r.0 (subst (λ part. In (source_order part) r.0) (same_part d (length d.components) k) r.1) in
          accepted.widths rules.NotATarget (record { component = k; part = AnAssign n.0 }) r.0.assign.place _ refl
          (inl (record { within = within; number = n.0; is = refl; assign = r.0; stands = n.1; breaks = (ap (λ (x : PlainAssign). is_source_only (component_of d k) x.target) r.2 ∙ is, (refl, refl)) }))

      by : (b : Bool) → is_source_only (component_of d k) a.target ≡ b → b ≡ false
      by false e = refl
      by true e = absurd (broken e)

  -- PARTS
  order_is : (k : ℕ) → source_order (component_at (shared_design d) k) ≡ map (moved_owned (new_port (shares_at k))) (source_order (component_at d k))
  order_is k =
      ap source_order (sym (same_part (shared_design d) (length (shared_design d).components) k))
      ∙ source_order-shared (shares_at k)
      ∙ ap (λ part. map (moved_owned (new_port (shares_at k))) (source_order part)) (same_part d (length d.components) k)

  statements_are : (k : ℕ) → statements_in (component_at (shared_design d) k) ≡ map (moved_visited (new_port (shares_at k))) (statements_in (component_at d k))
  statements_are k =
      ap statements_in (sym (same_part (shared_design d) (length (shared_design d).components) k))
      ∙ statements_in-shared (shares_at k)
      ∙ ap (λ part. map (moved_visited (new_port (shares_at k))) (statements_in part)) (same_part d (length d.components) k)

  groups_are : (k : ℕ) → length (component_at (shared_design d) k).groups ≡ length (component_at d k).groups
  groups_are k = ap (λ (part : PlainComponent). length part.groups) (shared_component d k) ∙ length-map (component_at d k).groups _

  assign_back : (rule : AssignRule) → ((k : ℕ) → k < length d.components → (o : Owned) (place : Place) (name : List ℕ) → rule (component_of (shared_design d) k) (moved_owned (new_port (shares_at k)) o) place name → ByAssign rule (component_of d k) o)
      → (spot : Spot) (place : Place) (name : List ℕ) → OnAssign rule (shared_design d) spot place name → (at : Place) × (called : List ℕ) × OnAssign rule d spot at called
  assign_back rule carried spot place name on =
      let k = spot.component in
      let within = within_back k on.within in
      let x = at_map (moved_owned (new_port (shares_at k))) (source_order (component_at d k)) on.number on.assign (ap (λ list. slice_get list on.number) (sym (order_is k)) ∙ on.stands) in
      let r = carried k within x.0 place name (subst (λ o. rule (component_of (shared_design d) k) o place name) (sym x.2) on.breaks) in
      (r.0, r.1, record { within = within; number = on.number; is = on.is; assign = x.0; stands = x.1; breaks = r.2 })

  statement_back : (rule : StatementRule)
      → ((k : ℕ) → k < length d.components → (v : Visited) → In (statements_in (component_at d k)) v → (place : Place) (name : List ℕ) → rule (component_of (shared_design d) k) (moved_visited (new_port (shares_at k)) v) place name → ByStatement rule (component_of d k) v)
      → (spot : Spot) (place : Place) (name : List ℕ) → OnStatement rule (shared_design d) spot place name → (at : Place) × (called : List ℕ) × OnStatement rule d spot at called
  statement_back rule carried spot place name on =
      let k = spot.component in
      let within = within_back k on.within in
      let x = at_map (moved_visited (new_port (shares_at k))) (statements_in (component_at d k)) on.number on.statement (ap (λ list. slice_get list on.number) (sym (statements_are k)) ∙ on.stands) in
      let r = carried k within x.0 (in_at (statements_in (component_at d k)) on.number x.0 x.1) place name (subst (λ v. rule (component_of (shared_design d) k) v place name) (sym x.2) on.breaks) in
      (r.0, r.1, record { within = within; number = on.number; is = on.is; statement = x.0; stands = x.1; breaks = r.2 })

  -- what invokes bind
  binds_are : (k : ℕ) → binds_in (component_at (shared_design d) k) ≡ map (moved_assign (new_port (shares_at k))) (binds_in (component_at d k))
  binds_are k =
      ap binds_in (shared_component d k) ∙ binds_in-shared (component_at d k)
      ∙ ap (λ part. map (moved_assign (renamed (new_cell part))) (binds_in (component_at d k))) (sym (same_part d (length d.components) k))

  abbrev CarriesAssign : AssignRule → Type 0
  CarriesAssign rule = (k : ℕ) → k < length d.components → (o : Owned) (place : Place) (name : List ℕ) → rule (component_of (shared_design d) k) (moved_owned (new_port (shares_at k)) o) place name → ByAssign rule (component_of d k) o

  abbrev CarriesStatement : StatementRule → Type 0
  CarriesStatement rule =
      (k : ℕ) → k < length d.components → (v : Visited) → In (statements_in (component_at d k)) v → (place : Place) (name : List ℕ) → rule (component_of (shared_design d) k) (moved_visited (new_port (shares_at k)) v) place name → ByStatement rule (component_of d k) v

  bind_back : (rule : AssignRule) → CarriesAssign rule → (spot : Spot) (place : Place) (name : List ℕ) → OnBind rule (shared_design d) spot place name → (at : Place) × (called : List ℕ) × OnBind rule d spot at called
  bind_back rule carried spot place name on =
      let k = spot.component in
      let within = within_back k on.within in
      let x = at_map (moved_assign (new_port (shares_at k))) (binds_in (component_at d k)) on.number on.assign (ap (λ list. slice_get list on.number) (sym (binds_are k)) ∙ on.stands) in
      let r = carried k within (record { owner = None; assign = x.0 }) place name (subst (λ a. rule (component_of (shared_design d) k) (record { owner = None; assign = a }) place name) (sym x.2) on.breaks) in
      (r.0, r.1, record { within = within; number = on.number; is = on.is; assign = x.0; stands = x.1; breaks = r.2 })

  -- of a rule on assignments and on what invokes bind, and on conditions beside
  either_back : (rule : AssignRule) → CarriesAssign rule → (spot : Spot) (place : Place) (name : List ℕ) → OnAssign rule (shared_design d) spot place name ⊎ OnBind rule (shared_design d) spot place name
      → (at : Place) × (called : List ℕ) × (OnAssign rule d spot at called ⊎ OnBind rule d spot at called)
  either_back rule carried spot place name (inl b) = let r = assign_back rule carried spot place name b in (r.0, r.1, inl r.2)
  either_back rule carried spot place name (inr b) = let r = bind_back rule carried spot place name b in (r.0, r.1, inr r.2)

  anywhere_back : (rule : AssignRule) (test : StatementRule) → CarriesAssign rule → CarriesStatement test → (spot : Spot) (place : Place) (name : List ℕ)
      → OnAssign rule (shared_design d) spot place name ⊎ OnStatement test (shared_design d) spot place name ⊎ OnBind rule (shared_design d) spot place name
      → (at : Place) × (called : List ℕ) × (OnAssign rule d spot at called ⊎ OnStatement test d spot at called ⊎ OnBind rule d spot at called)
  anywhere_back rule test carried tested spot place name (inl b) = let r = assign_back rule carried spot place name b in (r.0, r.1, inl r.2)
  anywhere_back rule test carried tested spot place name (inr (inl b)) = let r = statement_back test tested spot place name b in (r.0, r.1, inr (inl r.2))
  anywhere_back rule test carried tested spot place name (inr (inr b)) = let r = bind_back rule carried spot place name b in (r.0, r.1, inr (inr r.2))

  group_back : (rule : GroupRule) → ((k : ℕ) → k < length d.components → (g : ℕ) (place : Place) (name : List ℕ) → rule (component_of (shared_design d) k) g place name → ByGroup rule (component_of d k) g)
      → (spot : Spot) (place : Place) (name : List ℕ) → OnGroup rule (shared_design d) spot place name → (at : Place) × (called : List ℕ) × OnGroup rule d spot at called
  group_back rule carried spot place name on =
      let k = spot.component in
      let within = within_back k on.within in
      let r = carried k within on.number place name on.breaks in
      (r.0, r.1, record { within = within; number = on.number; is = on.is; stands = subst (λ n. on.number < n) (groups_are k) on.stands; breaks = r.2 })

  -- LIMITS
  part_back : (limited : Limited) (count other limit : ℕ) (spot : Spot) (place : Place) (name : List ℕ) → count ≤ other → BreaksPart (shared_design d) limited count limit spot place name
      → (at : Place) × (called : List ℕ) × BreaksPart d limited other limit spot at called
  part_back limited count other limit spot place name le on =
      let over = on.exceeds in (_, _, record { within = within_back spot.component on.within; is = on.is; exceeds = omega (arith, over, le); tells = (refl, refl) })

  tree_back : (limited : Limited) (count other limit : ℕ) (spot : Spot) (place : Place) (name : List ℕ) → count ≤ other → BreaksTree (shared_design d) limited count limit spot place name
      → (at : Place) × (called : List ℕ) × BreaksTree d limited other limit spot at called
  tree_back limited count other limit spot place name le on = let over = on.exceeds in (_, _, record { at_main = on.at_main; is = on.is; exceeds = omega (arith, over, le); tells = (refl, refl) })

  same_le : (a b : ℕ) → a ≡ b → a ≤ b
  same_le a b e = omega (arith, e)

  limit_back : (spot : Spot) (place : Place) (name : List ℕ) → Breaks (shared_design d) rules.Limit spot place name → Broken d rules.Limit spot
  limit_back spot place name (inl b) =
      let r = part_back OnCells (counted_cells (component_of (shared_design d) spot.component)) (counted_cells (component_of d spot.component)) CELLS spot place name (component_counts d spot.component).cells b in (r.0, r.1, inl r.2)
  limit_back spot place name (inr (inl b)) =
      let r = part_back OnGroups (counted_groups (component_of (shared_design d) spot.component)) (counted_groups (component_of d spot.component)) GROUPS spot place name
      (same_le _ _ (groups_kept d spot.component)) b in
      (r.0, r.1, inr (inl r.2))
  limit_back spot place name (inr (inr (inl b))) =
      let r = statement_back BreaksStatement (λ k w v i. kept.statement_limit_back (component_of d k) (component_of (shared_design d) k) (shares_at k) v (occurrences_kept d k)) spot place name b in
      (r.0, r.1, inr (inr (inl r.2)))
  limit_back spot place name (inr (inr (inr (inl b)))) =
      let r = tree_back OnInstances (counted_instances (tree_of (shared_design d))) (counted_instances (tree_of d)) INSTANCES spot place name (same_le _ _ (instances_kept d)) b in
      (r.0, r.1, inr (inr (inr (inl r.2))))
  limit_back spot place name (inr (inr (inr (inr (inl b))))) =
      let r = tree_back OnDepth (counted_depth (tree_of (shared_design d))) (counted_depth (tree_of d)) INSTANCE_DEPTH spot place name (same_le _ _ (depth_kept d)) b in
      (r.0, r.1, inr (inr (inr (inr (inl r.2)))))
  limit_back spot place name (inr (inr (inr (inr (inr (inl b)))))) =
      let r = tree_back OnWords (words_below (tree_of (shared_design d))) (words_below (tree_of d)) MEMORY_WORDS spot place name (same_le _ _ (words_kept d)) b in
      (r.0, r.1, inr (inr (inr (inr (inr (inl r.2))))))
  limit_back spot place name (inr (inr (inr (inr (inr (inr b)))))) =
      let r = tree_back OnWeight (counted_weight (tree_of (shared_design d))) (counted_weight (tree_of d)) WEIGHT spot place name (weight_less d) b in
      (r.0, r.1, inr (inr (inr (inr (inr (inr r.2))))))

  -- EACH RULE
  circle_back : (spot : Spot) (place : Place) (name : List ℕ) → BreaksCombCycle (shared_design d) spot place name → (at : Place) × (called : List ℕ) × BreaksCombCycle d spot at called
  circle_back spot place name on =
      let k = spot.component in
      (_, _, record { within = within_back k on.within; is = on.is; cycle = cycle_back (component_of d k) (component_of (shared_design d) k) (shares_at k) on.cycle; tells = (refl, refl) })

  -- THE CONTROL OF A STATIC COMPONENT
  module _ (k : ℕ) where
    abbrev i : Instance
    i = component_of d k

    abbrev j : Instance
    j = component_of (shared_design d) k

    abbrev move : PortRef → PortRef
    move = new_port (shares_at k)

    control_is : (part_of j).control ≡ moved_statement move (part_of i).control
    control_is = ap (λ (part : PlainComponent). part.control) (shares_at k).part

    stands_kept : (s : PlainStatement) → may_stand (part_of j) InStatic (form_of (moved_statement move s)) ≡ may_stand (part_of i) InStatic (form_of s)
    stands_kept (Placed form at) = may_stand-moved move (part_of i) (part_of j) (group_length-shared (shares_at k)) (words-shared (shares_at k)) InStatic form

    has_kept : (s : PlainStatement) → has_length (part_of j) InStatic (moved_statement move s) ≡ has_length (part_of i) InStatic s
    has_kept s = has_length-moved move (part_of i) (part_of j) (group_length-shared (shares_at k)) (words-shared (shares_at k)) InStatic s

    lasts_kept : (s : PlainStatement) → lasts (part_of j) (moved_statement move s) ≡ lasts (part_of i) s
    lasts_kept s = lasts-moved move (part_of i) (part_of j) (group_length-shared (shares_at k)) (of_invokes (shares_at k) invoke_length (λ v. refl)) s

    wrong_there : (latency : ℕ) → IsWrongControl (part_of j) latency → IsWrongControl (part_of i) latency
    wrong_there latency (inl bars) = inl (sym (stands_kept (part_of i).control) ∙ ap (λ s. may_stand (part_of j) InStatic (form_of s)) (sym control_is) ∙ bars)
    wrong_there latency (inr (has, differs)) =
        inr (sym (has_kept (part_of i).control) ∙ ap (has_length (part_of j) InStatic) (sym control_is) ∙ has, λ is. differs (ap (lasts (part_of j)) control_is ∙ lasts_kept (part_of i).control ∙ is))

    wrong_control_back : (latency : ℕ) → IsWrongControl (component_at (shared_design d) k) latency → IsWrongControl (component_at d k) latency
    wrong_control_back latency wrong =
        subst (λ part. IsWrongControl part latency) (same_part d (length d.components) k)
        (wrong_there latency (subst (λ part. IsWrongControl part latency) (sym (same_part (shared_design d) (length (shared_design d).components) k)) wrong))

  part_length_back : (spot : Spot) (place : Place) (name : List ℕ) → BreaksPartLength (shared_design d) spot place name → (at : Place) × (called : List ℕ) × BreaksPartLength d spot at called
  part_length_back spot place name on = (
    _,
    _,
    record {
      within = within_back spot.component on.within;
      is = on.is;
      latency = on.latency;
      static = sym (ap (λ (part : PlainComponent). part.latency) (shared_component d spot.component)) ∙ on.static;
      control = wrong_control_back spot.component on.latency on.control;
      tells = (refl, refl);
    },
  )

  shape_back : (spot : Spot) (place : Place) (name : List ℕ) → Breaks (shared_design d) rules.StaticShape spot place name → Broken d rules.StaticShape spot
  shape_back spot place name (inl b) =
      let r = group_back GroupBreaksStaticShape (λ k w. kept.static_group_back (component_of d k) (component_of (shared_design d) k) (shares_at k)) spot place name b in (r.0, r.1, inl r.2)
  shape_back spot place name (inr (inl b)) =
      let r = statement_back BreaksStaticControl (λ k w v i. kept.static_control_back (component_of d k) (component_of (shared_design d) k) (shares_at k) v) spot place name b in (r.0, r.1, inr (inl r.2))
  shape_back spot place name (inr (inr (inl b))) =
      let r = statement_back BreaksLength (λ k w v i. kept.length_back (component_of d k) (component_of (shared_design d) k) (shares_at k) v) spot place name b in (r.0, r.1, inr (inr (inl r.2)))
  shape_back spot place name (inr (inr (inr (inl b)))) =
      let r = statement_back BreaksStaticTest (λ k w v i. static_test_back (component_of d k) (component_of (shared_design d) k) (shares_at k) (inputs_driven k w) v) spot place name b in (r.0, r.1, inr (inr (inr (inl r.2))))
  shape_back spot place name (inr (inr (inr (inr (inl b))))) =
      let r = statement_back BreaksInvokeLength (λ k w v i. kept.invoke_length_back (component_of d k) (component_of (shared_design d) k) (shares_at k) v) spot place name b in (r.0, r.1, inr (inr (inr (inr (inl r.2)))))
  shape_back spot place name (inr (inr (inr (inr (inr b))))) = let r = part_length_back spot place name b in (r.0, r.1, inr (inr (inr (inr (inr r.2)))))

  -- what static invokes name is no candidate
  none_at : (k : ℕ) → k < length d.components → NoneInvoked (part_of (component_of d k))
  none_at k w = none_invoked d design accepted k w (component_of (shared_design d) k) (shares_at k) (inputs_driven k w)

  call_back_at : (spot : Spot) (place : Place) (name : List ℕ) → Breaks (shared_design d) rules.CallShape spot place name → Broken d rules.CallShape spot
  call_back_at spot place name (inl b) =
      let r = assign_back BreaksCallShape (λ k w. call_shape_back (component_of d k) (component_of (shared_design d) k) (shares_at k)) spot place name b in (r.0, r.1, inl r.2)
  call_back_at spot place name (inr (inl b)) =
      let r = group_back GroupBreaksCallShape (λ k w. group_call_back (component_of d k) (component_of (shared_design d) k) (shares_at k)) spot place name b in (r.0, r.1, inr (inl r.2))
  call_back_at spot place name (inr (inr (inl b))) =
      let r = assign_back BreaksStaticCell (λ k w. kept.static_cell_back (component_of d k) (component_of (shared_design d) k) (shares_at k)) spot place name b in (r.0, r.1, inr (inr (inl r.2)))
  call_back_at spot place name (inr (inr (inr b))) =
      let r = statement_back BreaksInvoke (λ k w v i. invoke_break_back (component_of d k) (component_of (shared_design d) k) (shares_at k) (inputs_driven k w) (none_at k w) v) spot place name b in (r.0, r.1, inr (inr (inr r.2)))

  none_shared : (k : ℕ) → k < length d.components → (v : Visited) → In (statements_in (part_of (component_of d k))) v → (c : ℕ) → IsShared (part_of (component_of d k)) (arms_of v.form) c → ⊥
  none_shared k w v i c shared =
      unshared d accepted k w v (subst (λ part. In (statements_in part) v) (same_part d (length d.components) k) i) c (subst (λ part. IsShared part (arms_of v.form) c) (same_part d (length d.components) k) shared)

  race_back_at : (spot : Spot) (place : Place) (name : List ℕ) → OnStatement BreaksRace (shared_design d) spot place name → Broken d rules.Race spot
  race_back_at spot place name b =
      statement_back BreaksRace
      (λ k w v i. let there = subst (λ part. In (statements_in part) v) (sym (same_part d (length d.components) k)) i in
      race_back (component_of d k) (component_of (shared_design d) k) (shares_at k) (none_at k w) v there (none_shared k w v there)) spot place name b

  pub breaks_back : (rule : Rule) (spot : Spot) (place : Place) (name : List ℕ) → Breaks (shared_design d) rule spot place name → Broken d rule spot
  breaks_back rules.Width spot place name b = either_back BreaksWidth (λ k w. kept.width_back (component_of d k) (component_of (shared_design d) k) (shares_at k)) spot place name b
  breaks_back rules.GuardWidth spot place name b =
      anywhere_back BreaksGuardWidth TestBreaksGuardWidth (λ k w. kept.guard_width_back (component_of d k) (component_of (shared_design d) k) (shares_at k))
      (λ k w v i. kept.test_width_back (component_of d k) (component_of (shared_design d) k) (shares_at k) v) spot place name b
  breaks_back rules.Literal spot place name b =
      anywhere_back BreaksLiteral TestBreaksLiteral (λ k w. kept.literal_back (component_of d k) (component_of (shared_design d) k) (shares_at k))
      (λ k w v i. kept.test_literal_back (component_of d k) (component_of (shared_design d) k) (shares_at k) v) spot place name b
  breaks_back rules.NotATarget spot place name b = either_back BreaksNotATarget (λ k w. kept.not_a_target_back (component_of d k) (component_of (shared_design d) k) (shares_at k)) spot place name b
  breaks_back rules.NotASource spot place name b =
      anywhere_back BreaksNotASource TestBreaksNotASource (λ k w. kept.not_a_source_back (component_of d k) (component_of (shared_design d) k) (shares_at k))
      (λ k w v i. kept.test_source_back (component_of d k) (component_of (shared_design d) k) (shares_at k) v) spot place name b
  breaks_back rules.NoDone spot place name b = group_back BreaksNoDone (λ k w. kept.no_done_back (component_of d k) (component_of (shared_design d) k) (shares_at k)) spot place name b
  breaks_back rules.DoneNotState spot place name b = assign_back BreaksDoneNotState (λ k w. done_not_state_back (component_of d k) (component_of (shared_design d) k) (shares_at k) (inputs_driven k w)) spot place name b
  breaks_back rules.AlwaysEnable spot place name b = assign_back BreaksAlwaysEnable (λ k w. kept.always_enable_back (component_of d k) (component_of (shared_design d) k) (shares_at k)) spot place name b
  breaks_back rules.CombEnable spot place name b = assign_back BreaksCombEnable (λ k w. kept.comb_enable_back (component_of d k) (component_of (shared_design d) k) (shares_at k)) spot place name b
  breaks_back rules.StaticGuard spot place name b = assign_back BreaksStaticGuard (λ k w. kept.static_guard_back (component_of d k) (component_of (shared_design d) k) (shares_at k)) spot place name b
  breaks_back rules.StaticShape spot place name b = shape_back spot place name b
  breaks_back rules.CallShape spot place name b = call_back_at spot place name b
  breaks_back rules.OutputNotState spot place name (inl b) =
      let r = assign_back BreaksOutputNotState (λ k w. output_not_state_back (component_of d k) (component_of (shared_design d) k) (shares_at k) (inputs_driven k w)) spot place name b in (r.0, r.1, inl r.2)
  breaks_back rules.OutputNotState spot place name (inr b) =
      let r = assign_back BreaksKept (λ k w. kept_back (component_of d k) (component_of (shared_design d) k) (shares_at k) (inputs_driven k w)) spot place name b in (r.0, r.1, inr r.2)
  breaks_back rules.CombCycle spot place name (inl b) = let r = circle_back spot place name b in (r.0, r.1, inl r.2)
  breaks_back rules.CombCycle spot place name (inr b) =
      let r = group_back GroupBreaksCombCycle
      (λ k w g p n b. (_, _, (group_cycle_back (component_of d k) (component_of (shared_design d) k) (shares_at k) g b.0, (refl, refl)))) spot place name b in
      (r.0, r.1, inr r.2)
  breaks_back rules.Race spot place name b = race_back_at spot place name b
  breaks_back rules.Limit spot place name b = limit_back spot place name b
  breaks_back _ spot place name b = absurd b

  keeps_stage : (stage : ℕ) → KeepsStage stage d → KeepsStage stage (shared_design d)
  keeps_stage stage keeps rule spot place name is b = let r = breaks_back rule spot place name b in keeps rule spot r.0 r.1 is r.2

  pub shared_accepted : IsAccepted (shared_design d)
  shared_accepted = record {
    widths = keeps_stage 3 accepted.widths;
    shapes = keeps_stage 4 accepted.shapes;
    no_cycles = keeps_stage 5 accepted.no_cycles;
    no_races = keeps_stage 6 accepted.no_races;
    limits = keeps_stage 7 accepted.limits;
  }
