-- ACCEPTANCE HANGS ON NO PLACE: where one of two designs that are the same apart from places breaks a rule, so does the other, at the same part.
use Rattle.std.proofs.Common.{◌≡◌, ℕ, ◌<◌, Bool, ◌⊎◌, inl, inr, List, [], ◌∷◌, map, length, None, refl, ap, sym, ◌∙◌, subst}
use Rattle.cx_text.specs.declared.places.Place.{Place}
use Rattle.cx_text.specs.declared.rules.Rule.{Rule}
use Rattle.cx_text.specs.declared.rules.Rule.TheVariants as rules
use Rattle.cx_meaning.specs.Designs.{PlainInvoke, PlainDesign, PlainComponent, PlainStatement, Placed, component_at, form_of}
use Rattle.cx_meaning.specs.Instances.{Instance, Node, Cells, no_cells, a_primitive, an_instance, tree_within, tree_of}
use Rattle.cx_meaning.specs.Active.{Owned, nothing, source_order}
use Rattle.cx_rules.specs.Ports.{component_of}
use Rattle.cx_rules.specs.Items.{InStatic, Visited, statements_in}
use Rattle.cx_rules.specs.StaticControl.{may_stand, has_length}
use Rattle.cx_rules.specs.Invokes.{lasts}
use Rattle.cx_rules.specs.Spots.{Spot, AssignRule, StatementRule, GroupRule, OnAssign, binds_in, OnBind, OnStatement, OnGroup}
use Rattle.cx_rules.specs.WidthRules.{BreaksWidth, BreaksGuardWidth, TestBreaksGuardWidth, BreaksLiteral, TestBreaksLiteral, BreaksNotATarget, BreaksNotASource, TestBreaksNotASource}
use Rattle.cx_rules.specs.ShapeRules.{BreaksNoDone, BreaksDoneNotState, BreaksAlwaysEnable, BreaksCombEnable, BreaksStaticGuard, GroupBreaksStaticShape, BreaksStaticControl, BreaksLength, BreaksInvokeLength, IsWrongControl, BreaksPartLength, BreaksStaticTest, BreaksOutputNotState, BreaksKept}
use Rattle.cx_rules.specs.CallShape.{BreaksCallShape, GroupBreaksCallShape}
use Rattle.cx_rules.specs.InvokeShape.{BreaksStaticCell, BreaksInvoke}
use Rattle.cx_rules.specs.RaceRule.{BreaksCombCycle, GroupBreaksCombCycle, BreaksRace}
use Rattle.cx_text.specs.declared.limits.TheConstants.{CELLS, GROUPS, INSTANCES, INSTANCE_DEPTH, MEMORY_WORDS, WEIGHT}
use Rattle.cx_rules.specs.Sizes.{words_below}
use Rattle.cx_rules.specs.Counts.{counted_cells, counted_groups, counted_weight, counted_instances, counted_depth}
use Rattle.cx_rules.specs.LimitRule.{Limited, OnCells, OnGroups, OnInstances, OnDepth, OnWords, OnWeight, BreaksStatement, BreaksPart, BreaksTree}
use Rattle.cx_rules.specs.Accepted.{Breaks, KeepsStage, IsAccepted}
use Rattle.cx_rules.specs.Flat.{IsFlat}
use Rattle.cx_rules.proofs.CountsLemmas.{flat_part}
use Rattle.cx_rewrites.specs.Places.{unplaced_assign, unplaced_invoke, unplaced, unplaced_owned, unplaced_visited, SamePart, SameDesign}
use Rattle.cx_rewrites.proofs.PlaceLemmas.{SameTree, SameCells}
use Rattle.cx_rewrites.proofs.PlaceRuns.{same_part_itself}
use Rattle.cx_rewrites.proofs.PlaceDesigns.{tree_within-same, tree_of-same}
use Rattle.cx_rewrites.proofs.PlaceLeads.{has_cycle-same}
use Rattle.cx_rewrites.proofs.PlaceShapes.{twin_at, may_stand-unplaced, has_length-unplaced}
use Rattle.cx_rewrites.proofs.PlaceInvokes.{lengths-same, words-same, binds_in-same, lasts-unplaced}
use Rattle.cx_rewrites.proofs.PlaceRules as kept
use Rattle.cx_rewrites.proofs.PlaceRules.{ByAssign, ByStatement, ByGroup}
use Rattle.cx_rewrites.proofs.PlaceCalls.{call_shape_kept, group_call_kept}
use Rattle.cx_rewrites.proofs.PlaceLimits.{groups_count-same, statements_in-same, counted_cells-same, counted_groups-same, counted_weight-same, counted_instances-same, counted_depth-same, words_below-same, statement_limit_kept}

-- THE OTHER WAY ROUND
same_part_back : (part other : PlainComponent) → SamePart part other → SamePart other part
same_part_back part other same = record {
  name = sym same.name;
  inputs = sym same.inputs;
  outputs = sym same.outputs;
  cells = sym same.cells;
  groups = sym same.groups;
  always = sym same.always;
  order = sym same.order;
  latency = sym same.latency;
  invokes = sym same.invokes;
  control = sym same.control;
}

mutual
  same_tree_back : (i j : Instance) → SameTree i j → SameTree j i
  same_tree_back (Node part cells) (Node other more) (h, hs) = (same_part_back part other h, same_cells_back cells more hs)

  same_cells_back : (cells more : Cells) → SameCells cells more → SameCells more cells
  same_cells_back no_cells no_cells h = tt
  same_cells_back no_cells (a_primitive twin more) h = h
  same_cells_back no_cells (an_instance twin more) h = h
  same_cells_back (a_primitive row rest) no_cells h = h
  same_cells_back (a_primitive row rest) (a_primitive twin more) (e, h) = (sym e, same_cells_back rest more h)
  same_cells_back (a_primitive row rest) (an_instance twin more) h = h
  same_cells_back (an_instance child rest) no_cells h = h
  same_cells_back (an_instance child rest) (a_primitive twin more) h = h
  same_cells_back (an_instance child rest) (an_instance twin more) (t, h) = (same_tree_back child twin t, same_cells_back rest more h)

pub same_design_back : (d e : PlainDesign) → SameDesign d e → SameDesign e d
same_design_back d e same = record { main = sym same.main; count = sym same.count; parts = λ k. same_part_back (component_at d k) (component_at e k) (same.parts k) }

-- a rule is broken at a part, whatever is told
abbrev Broken : PlainDesign → Rule → Spot → Type 0
Broken e rule spot = (place : Place) × (name : List ℕ) × Breaks e rule spot place name

module _ (d e : PlainDesign) (same : SameDesign d e) where
  tree_there : (k : ℕ) → SameTree (component_of d k) (component_of e k)
  tree_there k = subst (λ n. SameTree (component_of d k) (tree_within e n k)) same.count (tree_within-same d e same (length d.components) k)

  tree_back : (k : ℕ) → SameTree (component_of e k) (component_of d k)
  tree_back k = same_tree_back (component_of d k) (component_of e k) (tree_there k)

  within_there : (k : ℕ) → k < length d.components → k < length e.components
  within_there k lt = subst (λ n. k < n) same.count lt

  -- PARTS
  assign_there : (rule : AssignRule) → ((i j : Instance) → SameTree i j → SameTree j i → (o w : Owned) → unplaced_owned o ≡ unplaced_owned w → (place : Place) (name : List ℕ) → rule i o place name → ByAssign rule j w)
      → (spot : Spot) (place : Place) (name : List ℕ) → OnAssign rule d spot place name → (at : Place) × (called : List ℕ) × OnAssign rule e spot at called
  assign_there rule carried spot place name on =
      let w = twin_at unplaced_owned (source_order (component_at d spot.component)) (source_order (component_at e spot.component)) on.number on.assign (same.parts spot.component).order on.stands in
      let r = carried (component_of d spot.component) (component_of e spot.component) (tree_there spot.component) (tree_back spot.component) on.assign w.0 w.2 place name on.breaks in
      (r.0, r.1, record { within = within_there spot.component on.within; number = on.number; is = on.is; assign = w.0; stands = w.1; breaks = r.2 })

  statement_there : (rule : StatementRule)
      → ((i j : Instance) → SameTree i j → SameTree j i → (v x : Visited) → unplaced_visited v ≡ unplaced_visited x → (place : Place) (name : List ℕ) → rule i v place name → ByStatement rule j x)
      → (spot : Spot) (place : Place) (name : List ℕ) → OnStatement rule d spot place name → (at : Place) × (called : List ℕ) × OnStatement rule e spot at called
  statement_there rule carried spot place name on =
      let x = twin_at unplaced_visited (statements_in (component_at d spot.component)) (statements_in (component_at e spot.component)) on.number on.statement
      (statements_in-same (component_at d spot.component) (component_at e spot.component) (same.parts spot.component)) on.stands in
      let r = carried (component_of d spot.component) (component_of e spot.component) (tree_there spot.component) (tree_back spot.component) on.statement x.0 x.2 place name on.breaks in
      (r.0, r.1, record { within = within_there spot.component on.within; number = on.number; is = on.is; statement = x.0; stands = x.1; breaks = r.2 })

  bind_there : (rule : AssignRule) → ((i j : Instance) → SameTree i j → SameTree j i → (o w : Owned) → unplaced_owned o ≡ unplaced_owned w → (place : Place) (name : List ℕ) → rule i o place name → ByAssign rule j w)
      → (spot : Spot) (place : Place) (name : List ℕ) → OnBind rule d spot place name → (at : Place) × (called : List ℕ) × OnBind rule e spot at called
  bind_there rule carried spot place name on =
      let w = twin_at unplaced_assign (binds_in (component_at d spot.component)) (binds_in (component_at e spot.component)) on.number on.assign
      (binds_in-same (component_at d spot.component) (component_at e spot.component) (same.parts spot.component)) on.stands in
      let r = carried (component_of d spot.component) (component_of e spot.component) (tree_there spot.component) (tree_back spot.component)
      (record { owner = None; assign = on.assign }) (record { owner = None; assign = w.0 }) (ap (λ a. record { owner = None; assign = a }) w.2) place name on.breaks in
      (r.0, r.1, record { within = within_there spot.component on.within; number = on.number; is = on.is; assign = w.0; stands = w.1; breaks = r.2 })

  -- of a rule on assignments and on what invokes bind
  either_there : (rule : AssignRule) → ((i j : Instance) → SameTree i j → SameTree j i → (o w : Owned) → unplaced_owned o ≡ unplaced_owned w → (place : Place) (name : List ℕ) → rule i o place name → ByAssign rule j w)
      → (spot : Spot) (place : Place) (name : List ℕ) → OnAssign rule d spot place name ⊎ OnBind rule d spot place name
      → (at : Place) × (called : List ℕ) × (OnAssign rule e spot at called ⊎ OnBind rule e spot at called)
  either_there rule carried spot place name (inl b) = let r = assign_there rule carried spot place name b in (r.0, r.1, inl r.2)
  either_there rule carried spot place name (inr b) = let r = bind_there rule carried spot place name b in (r.0, r.1, inr r.2)

  -- and on conditions beside
  anywhere_there : (rule : AssignRule) (test : StatementRule)
      → ((i j : Instance) → SameTree i j → SameTree j i → (o w : Owned) → unplaced_owned o ≡ unplaced_owned w → (place : Place) (name : List ℕ) → rule i o place name → ByAssign rule j w)
      → ((i j : Instance) → SameTree i j → SameTree j i → (v x : Visited) → unplaced_visited v ≡ unplaced_visited x → (place : Place) (name : List ℕ) → test i v place name → ByStatement test j x)
      → (spot : Spot) (place : Place) (name : List ℕ) → OnAssign rule d spot place name ⊎ OnStatement test d spot place name ⊎ OnBind rule d spot place name
      → (at : Place) × (called : List ℕ) × (OnAssign rule e spot at called ⊎ OnStatement test e spot at called ⊎ OnBind rule e spot at called)
  anywhere_there rule test carried tested spot place name (inl b) = let r = assign_there rule carried spot place name b in (r.0, r.1, inl r.2)
  anywhere_there rule test carried tested spot place name (inr (inl b)) = let r = statement_there test tested spot place name b in (r.0, r.1, inr (inl r.2))
  anywhere_there rule test carried tested spot place name (inr (inr b)) = let r = bind_there rule carried spot place name b in (r.0, r.1, inr (inr r.2))

  group_there : (rule : GroupRule) → ((i j : Instance) → SameTree i j → SameTree j i → (g : ℕ) (place : Place) (name : List ℕ) → rule i g place name → ByGroup rule j g)
      → (spot : Spot) (place : Place) (name : List ℕ) → OnGroup rule d spot place name → (at : Place) × (called : List ℕ) × OnGroup rule e spot at called
  group_there rule carried spot place name on =
      let r = carried (component_of d spot.component) (component_of e spot.component) (tree_there spot.component) (tree_back spot.component) on.number place name on.breaks in (
        r.0,
        r.1,
        record {
          within = within_there spot.component on.within;
          number = on.number;
          is = on.is;
          stands = subst (λ n. on.number < n) (groups_count-same (component_at d spot.component) (component_at e spot.component) (same.parts spot.component)) on.stands;
          breaks = r.2;
        },
      )

  -- LIMITS
  part_there : (limited : Limited) (count other limit : ℕ) (spot : Spot) (place : Place) (name : List ℕ) → count ≡ other → BreaksPart d limited count limit spot place name
      → (at : Place) × (called : List ℕ) × BreaksPart e limited other limit spot at called
  part_there limited count other limit spot place name as_many on =
      (_, _, record { within = within_there spot.component on.within; is = on.is; exceeds = subst (λ n. limit < n) as_many on.exceeds; tells = (refl, refl) })

  over_tree : (limited : Limited) (count other limit : ℕ) (spot : Spot) (place : Place) (name : List ℕ) → count ≡ other → BreaksTree d limited count limit spot place name
      → (at : Place) × (called : List ℕ) × BreaksTree e limited other limit spot at called
  over_tree limited count other limit spot place name as_many on =
      (_, _, record { at_main = on.at_main ∙ same.main; is = on.is; exceeds = subst (λ n. limit < n) as_many on.exceeds; tells = (refl, refl) })

  cycle_there : (spot : Spot) (place : Place) (name : List ℕ) → BreaksCombCycle d spot place name → (at : Place) × (called : List ℕ) × BreaksCombCycle e spot at called
  cycle_there spot place name on = (
    _,
    _,
    record {
      within = within_there spot.component on.within;
      is = on.is;
      cycle = has_cycle-same (component_of d spot.component) (component_of e spot.component) (tree_there spot.component) nothing on.cycle;
      tells = (refl, refl);
    },
  )

  -- THE CONTROL OF A STATIC COMPONENT
  wrong_control_there : (k latency : ℕ) → IsWrongControl (component_at d k) latency → IsWrongControl (component_at e k) latency
  wrong_control_there k latency wrong = by (component_at d k) (component_at e k) (same.parts k) wrong
    where
      control_is : (A : Type 0) (f : PlainComponent → PlainStatement → A) → ((part other : PlainComponent) → SamePart part other → (s : PlainStatement) → f other (unplaced s) ≡ f part s)
          → (part other : PlainComponent) → SamePart part other → f part part.control ≡ f other other.control
      control_is A f kept part other h = sym (kept part other h part.control) ∙ ap (f other) h.control ∙ kept other other (same_part_itself other) other.control

      stands_kept : (part other : PlainComponent) → SamePart part other → (s : PlainStatement) → may_stand other InStatic (form_of (unplaced s)) ≡ may_stand part InStatic (form_of s)
      stands_kept part other h (Placed form place) = may_stand-unplaced part other (lengths-same part other h) (words-same part other h) InStatic form

      by : (part other : PlainComponent) → SamePart part other → IsWrongControl part latency → IsWrongControl other latency
      by part other h (inl bars) = inl (sym (control_is Bool (λ x s. may_stand x InStatic (form_of s)) stands_kept part other h) ∙ bars)
      by part other h (inr (has, differs)) =
          inr (
            sym (control_is Bool (λ x s. has_length x InStatic s) (λ x y z s. has_length-unplaced x y (lengths-same x y z) (words-same x y z) InStatic s) part other h) ∙ has,
            λ is. differs (control_is ℕ lasts lasts-unplaced part other h ∙ is),
          )

  part_length_there : (spot : Spot) (place : Place) (name : List ℕ) → BreaksPartLength d spot place name → (at : Place) × (called : List ℕ) × BreaksPartLength e spot at called
  part_length_there spot place name on = (
    _,
    _,
    record {
      within = within_there spot.component on.within;
      is = on.is;
      latency = on.latency;
      static = sym (same.parts spot.component).latency ∙ on.static;
      control = wrong_control_there spot.component on.latency on.control;
      tells = (refl, refl);
    },
  )

  -- EACH RULE
  shape_there : (spot : Spot) (place : Place) (name : List ℕ) → Breaks d rules.StaticShape spot place name → Broken e rules.StaticShape spot
  shape_there spot place name (inl b) = let r = group_there GroupBreaksStaticShape (λ i j t u g. kept.static_group_kept i j t u g) spot place name b in (r.0, r.1, inl r.2)
  shape_there spot place name (inr (inl b)) = let r = statement_there BreaksStaticControl (λ i j t u v x h. kept.static_control_kept i j t u v x h) spot place name b in (r.0, r.1, inr (inl r.2))
  shape_there spot place name (inr (inr (inl b))) = let r = statement_there BreaksLength (λ i j t u v x h. kept.length_kept i j t u v x h) spot place name b in (r.0, r.1, inr (inr (inl r.2)))
  shape_there spot place name (inr (inr (inr (inl b)))) = let r = statement_there BreaksStaticTest (λ i j t u v x h. kept.static_test_kept i j t u v x h) spot place name b in (r.0, r.1, inr (inr (inr (inl r.2))))
  shape_there spot place name (inr (inr (inr (inr (inl b))))) =
      let r = statement_there BreaksInvokeLength (λ i j t u v x h. kept.invoke_length_kept i j t u v x h) spot place name b in (r.0, r.1, inr (inr (inr (inr (inl r.2)))))
  shape_there spot place name (inr (inr (inr (inr (inr b))))) = let r = part_length_there spot place name b in (r.0, r.1, inr (inr (inr (inr (inr r.2)))))

  call_there : (spot : Spot) (place : Place) (name : List ℕ) → Breaks d rules.CallShape spot place name → Broken e rules.CallShape spot
  call_there spot place name (inl b) = let r = assign_there BreaksCallShape (λ i j t u o w h. call_shape_kept i j t u o w h) spot place name b in (r.0, r.1, inl r.2)
  call_there spot place name (inr (inl b)) = let r = group_there GroupBreaksCallShape (λ i j t u g. group_call_kept i j t g) spot place name b in (r.0, r.1, inr (inl r.2))
  call_there spot place name (inr (inr (inl b))) = let r = assign_there BreaksStaticCell (λ i j t u o w h. kept.static_cell_kept i j t u o w h) spot place name b in (r.0, r.1, inr (inr (inl r.2)))
  call_there spot place name (inr (inr (inr b))) = let r = statement_there BreaksInvoke (λ i j t u v x h. kept.invoke_kept i j t u v x h) spot place name b in (r.0, r.1, inr (inr (inr r.2)))

  limit_there : (spot : Spot) (place : Place) (name : List ℕ) → Breaks d rules.Limit spot place name → Broken e rules.Limit spot
  limit_there spot place name (inl b) =
      let r = part_there OnCells (counted_cells (component_of d spot.component)) (counted_cells (component_of e spot.component)) CELLS spot place name
      (counted_cells-same (component_of d spot.component) (component_of e spot.component) (tree_there spot.component)) b in
      (r.0, r.1, inl r.2)
  limit_there spot place name (inr (inl b)) =
      let r = part_there OnGroups (counted_groups (component_of d spot.component)) (counted_groups (component_of e spot.component)) GROUPS spot place name
      (counted_groups-same (component_of d spot.component) (component_of e spot.component) (tree_there spot.component)) b in
      (r.0, r.1, inr (inl r.2))
  limit_there spot place name (inr (inr (inl b))) =
      let r = statement_there BreaksStatement (λ i j t u v x h. statement_limit_kept i j t v x h) spot place name b in
      (r.0, r.1, inr (inr (inl r.2)))
  limit_there spot place name (inr (inr (inr (inl b)))) =
      let r = over_tree OnInstances (counted_instances (tree_of d)) (counted_instances (tree_of e)) INSTANCES spot place name (counted_instances-same (tree_of d) (tree_of e) (tree_of-same d e same)) b in
      (r.0, r.1, inr (inr (inr (inl r.2))))
  limit_there spot place name (inr (inr (inr (inr (inl b))))) =
      let r = over_tree OnDepth (counted_depth (tree_of d)) (counted_depth (tree_of e)) INSTANCE_DEPTH spot place name (counted_depth-same (tree_of d) (tree_of e) (tree_of-same d e same)) b in
      (r.0, r.1, inr (inr (inr (inr (inl r.2)))))
  limit_there spot place name (inr (inr (inr (inr (inr (inl b)))))) =
      let r = over_tree OnWords (words_below (tree_of d)) (words_below (tree_of e)) MEMORY_WORDS spot place name (words_below-same (tree_of d) (tree_of e) (tree_of-same d e same)) b in
      (r.0, r.1, inr (inr (inr (inr (inr (inl r.2))))))
  limit_there spot place name (inr (inr (inr (inr (inr (inr b)))))) =
      let r = over_tree OnWeight (counted_weight (tree_of d)) (counted_weight (tree_of e)) WEIGHT spot place name (counted_weight-same (tree_of d) (tree_of e) (tree_of-same d e same)) b in
      (r.0, r.1, inr (inr (inr (inr (inr (inr r.2))))))

  pub breaks_there : (rule : Rule) (spot : Spot) (place : Place) (name : List ℕ) → Breaks d rule spot place name → Broken e rule spot
  breaks_there rules.Width spot place name b = either_there BreaksWidth (λ i j t u o w h. kept.width_kept i j t u o w h) spot place name b
  breaks_there rules.GuardWidth spot place name b =
      anywhere_there BreaksGuardWidth TestBreaksGuardWidth (λ i j t u o w h. kept.guard_width_kept i j t u o w h) (λ i j t u v x h. kept.test_width_kept i j t u v x h) spot place name b
  breaks_there rules.Literal spot place name b =
      anywhere_there BreaksLiteral TestBreaksLiteral (λ i j t u o w h. kept.literal_kept i j t u o w h) (λ i j t u v x h. kept.test_literal_kept i j t u v x h) spot place name b
  breaks_there rules.NotATarget spot place name b = either_there BreaksNotATarget (λ i j t u o w h. kept.not_a_target_kept i j t u o w h) spot place name b
  breaks_there rules.NotASource spot place name b =
      anywhere_there BreaksNotASource TestBreaksNotASource (λ i j t u o w h. kept.not_a_source_kept i j t u o w h) (λ i j t u v x h. kept.test_source_kept i j t u v x h) spot place name b
  breaks_there rules.NoDone spot place name b = group_there BreaksNoDone (λ i j t u g. kept.no_done_kept i j t u g) spot place name b
  breaks_there rules.DoneNotState spot place name b = assign_there BreaksDoneNotState (λ i j t u o w h. kept.done_not_state_kept i j t u o w h) spot place name b
  breaks_there rules.AlwaysEnable spot place name b = assign_there BreaksAlwaysEnable (λ i j t u o w h. kept.always_enable_kept i j t u o w h) spot place name b
  breaks_there rules.CombEnable spot place name b = assign_there BreaksCombEnable (λ i j t u o w h. kept.comb_enable_kept i j t u o w h) spot place name b
  breaks_there rules.StaticGuard spot place name b = assign_there BreaksStaticGuard (λ i j t u o w h. kept.static_guard_kept i j t u o w h) spot place name b
  breaks_there rules.StaticShape spot place name b = shape_there spot place name b
  breaks_there rules.CallShape spot place name b = call_there spot place name b
  breaks_there rules.OutputNotState spot place name (inl b) = let r = assign_there BreaksOutputNotState (λ i j t u o w h. kept.output_not_state_kept i j t u o w h) spot place name b in (r.0, r.1, inl r.2)
  breaks_there rules.OutputNotState spot place name (inr b) = let r = assign_there BreaksKept (λ i j t u o w h. kept.kept_kept i j t u o w h) spot place name b in (r.0, r.1, inr r.2)
  breaks_there rules.CombCycle spot place name (inl b) = let r = cycle_there spot place name b in (r.0, r.1, inl r.2)
  breaks_there rules.CombCycle spot place name (inr b) = let r = group_there GroupBreaksCombCycle (λ i j t u g. kept.group_cycle_kept i j t u g) spot place name b in (r.0, r.1, inr r.2)
  breaks_there rules.Race spot place name b = statement_there BreaksRace (λ i j t u v x h. kept.race_kept i j t u v x h) spot place name b
  breaks_there rules.Limit spot place name b = limit_there spot place name b
  breaks_there rules.BadByte spot place name b = absurd b
  breaks_there rules.OpenComment spot place name b = absurd b
  breaks_there rules.OpenString spot place name b = absurd b
  breaks_there rules.BadLiteral spot place name b = absurd b
  breaks_there rules.Unexpected spot place name b = absurd b
  breaks_there rules.TooDeep spot place name b = absurd b
  breaks_there rules.Duplicate spot place name b = absurd b
  breaks_there rules.UnknownName spot place name b = absurd b
  breaks_there rules.UnknownPrimitive spot place name b = absurd b
  breaks_there rules.BadParameters spot place name b = absurd b
  breaks_there rules.Recursive spot place name b = absurd b
  breaks_there rules.NoMain spot place name b = absurd b
  breaks_there rules.LeftOut spot place name b = absurd b
  breaks_there rules.TooLarge spot place name b = absurd b

stage_there : (d e : PlainDesign) → SameDesign d e → (n : ℕ) → KeepsStage n d → KeepsStage n e
stage_there d e same n keeps rule spot place name stage b = let r = breaks_there e d (same_design_back d e same) rule spot place name b in keeps rule spot r.0 r.1 stage r.2

pub accepted_there : (d e : PlainDesign) → SameDesign d e → IsAccepted d → IsAccepted e
accepted_there d e same accepted = record {
  widths = stage_there d e same 3 accepted.widths;
  shapes = stage_there d e same 4 accepted.shapes;
  no_cycles = stage_there d e same 5 accepted.no_cycles;
  no_races = stage_there d e same 6 accepted.no_races;
  limits = stage_there d e same 7 accepted.limits;
}

-- without static components neither has the other design one
pub flat_there : (d e : PlainDesign) → SameDesign d e → IsFlat d → IsFlat e
flat_there d e same flat k within =
    let own = flat_part d flat k in
    record { dynamic = sym (same.parts k).latency ∙ own.dynamic; no_invoke = nothing (component_at e k).invokes (sym (same.parts k).invokes ∙ ap (map unplaced_invoke) own.no_invoke) }
  where
    nothing : (vs : List PlainInvoke) → map unplaced_invoke vs ≡ [] → vs ≡ []
    nothing [] h = refl
    nothing (v ∷ vs) h = absurd cc
