-- AN INSTRUMENTED DESIGN IS ACCEPTED where the design is, but for the limits: no part of it breaks a rule on shapes, on circles or on races.
use Rattle.std.proofs.Common.{◌≡◌, ℕ, suc, ◌^◌, ◌<◌, ◌≤◌, ◌⊎◌, inl, inr, Bool, true, false, if◌then◌else◌, List, length, refl, subst, arith}
use Rattle.std.specs.Prelude.{nat_eq}
use Rattle.std.proofs.lemmas.Bool.{eqb-false}
use Rattle.cx_text.proofs.MemberLaws.{in_at}
use Rattle.cx_text.specs.declared.places.Place.{Place}
use Rattle.cx_text.specs.declared.rules.Rule.TheVariants as rules
use Rattle.cx_meaning.specs.Designs.{PlainDesign, component_at}
use Rattle.cx_meaning.specs.Instances.{tree_within}
use Rattle.cx_meaning.specs.Active.{nothing, Owned, source_order}
use Rattle.cx_text.specs.Members.{In}
use Rattle.cx_rules.specs.Accepted.{KeepsStage, IsAccepted}
use Rattle.cx_rules.specs.CallShape.{BreaksCallShape, GroupBreaksCallShape}
use Rattle.cx_rules.specs.Items.{Visited, statements_in}
use Rattle.cx_rules.specs.InvokeShape.{BreaksStaticCell, BreaksInvoke}
use Rattle.cx_rules.specs.RaceRule.{HasCycle, BreaksCombCycle, GroupBreaksCombCycle, BreaksRace}
use Rattle.cx_rules.specs.ShapeRules.{BreaksNoDone, BreaksDoneNotState, BreaksAlwaysEnable, BreaksCombEnable, BreaksStaticGuard, GroupBreaksStaticShape, BreaksStaticControl, BreaksLength, BreaksStaticTest, BreaksInvokeLength, BreaksPartLength, BreaksOutputNotState, BreaksKept}
use Rattle.cx_rules.specs.Spots.{Spot, AssignRule, StatementRule, GroupRule, OnAssign, OnStatement, OnGroup}
use Rattle.cx_rules.specs.Wellformed.{IsDesign}
use Rattle.cx_profiling.specs.Counters.{entry_count}
use Rattle.cx_profiling.specs.Instrumented.{instrumented, with_counts}
use Rattle.cx_profiling.proofs.AlikeLemmas.{some_levels, instrumented_is}
use Rattle.cx_profiling.proofs.CallsKept.{call_never, group_call_never}
use Rattle.cx_profiling.proofs.CirclesKept.{cycle_never, group_cycle_never}
use Rattle.cx_profiling.proofs.GainedLemmas.{components-length}
use Rattle.cx_profiling.proofs.MemoryLemmas.{few_words}
use Rattle.cx_profiling.proofs.RacesKept.{race_never}
use Rattle.cx_profiling.proofs.RoleLemmas.{Role, as_main, as_child, as_kept, role}
use Rattle.cx_profiling.proofs.ShapesKept as shapes
use Rattle.cx_profiling.proofs.StaticsKept.{invoke_length_never, part_length_never, static_cell_never, invoke_never, kept_never}
use Rattle.cx_profiling.proofs.WidthStage.{instrumented_keeps_widths}

-- a rule of another stage
apart : (n stage : ℕ) → n ≡ stage → (n ≡ stage → ⊥) → ⊥
apart n stage e other = other e

either : {A B : Type 0} → (A → ⊥) → (B → ⊥) → A ⊎ B → ⊥
either f g (inl a) = f a
either f g (inr b) = g b

module _ (d : PlainDesign) (design : IsDesign d) (accepted : IsAccepted d) (some : 1 ≤ entry_count d) (small : entry_count d < 2 ^ 32) (m : ℕ) (count : length d.components ≡ suc m) where
  there : (k : ℕ) → k < length (with_counts d).components → k < length d.components
  there k less = subst (λ n. k < n) (components-length d) less

  no_assign : (rule : AssignRule) → ((k : ℕ) → k < length d.components → (o : Owned) → In (source_order (component_at (with_counts d) k)) o → (place : Place) (name : List ℕ) → rule (tree_within (with_counts d) (suc m) k) o place name → ⊥)
      → (spot : Spot) (place : Place) (name : List ℕ) → OnAssign rule (with_counts d) spot place name → ⊥
  no_assign rule never spot place name on =
      let within : spot.component < length d.components = there spot.component on.within in
      never spot.component within on.assign (in_at (source_order (component_at (with_counts d) spot.component)) on.number on.assign on.stands) place name
      (subst (λ x. rule x on.assign place name) (shapes.j_is d design accepted m spot.component count within) on.breaks)

  no_statement : (rule : StatementRule) → ((k : ℕ) → k < length d.components → (v : Visited) → In (statements_in (component_at (with_counts d) k)) v → (place : Place) (name : List ℕ) → rule (tree_within (with_counts d) (suc m) k) v place name → ⊥)
      → (spot : Spot) (place : Place) (name : List ℕ) → OnStatement rule (with_counts d) spot place name → ⊥
  no_statement rule never spot place name on =
      let within : spot.component < length d.components = there spot.component on.within in
      never spot.component within on.statement (in_at (statements_in (component_at (with_counts d) spot.component)) on.number on.statement on.stands) place name
      (subst (λ x. rule x on.statement place name) (shapes.j_is d design accepted m spot.component count within) on.breaks)

  no_group : (rule : GroupRule) → ((k : ℕ) → k < length d.components → (g : ℕ) → g < length (component_at (with_counts d) k).groups → (place : Place) (name : List ℕ) → rule (tree_within (with_counts d) (suc m) k) g place name → ⊥)
      → (spot : Spot) (place : Place) (name : List ℕ) → OnGroup rule (with_counts d) spot place name → ⊥
  no_group rule never spot place name on =
      let within : spot.component < length d.components = there spot.component on.within in
      never spot.component within on.number on.stands place name (subst (λ x. rule x on.number place name) (shapes.j_is d design accepted m spot.component count within) on.breaks)

  no_circle : (spot : Spot) (place : Place) (name : List ℕ) → BreaksCombCycle (with_counts d) spot place name → ⊥
  no_circle spot place name on =
      let within : spot.component < length d.components = there spot.component on.within in
      cycle_never d design accepted m spot.component count within some small (subst (λ x. HasCycle x nothing) (shapes.j_is d design accepted m spot.component count within) on.cycle)

  no_part_length : (spot : Spot) (place : Place) (name : List ℕ) → BreaksPartLength (with_counts d) spot place name → ⊥
  no_part_length spot place name on = part_length_never d design accepted m spot.component count (there spot.component on.within) on.latency on.static on.control

  pub keeps_shapes : KeepsStage 4 (with_counts d)
  keeps_shapes rules.NoDone spot place name e b = no_group BreaksNoDone (λ k within g less p n is. shapes.no_done_never d design accepted m k count within g less p n is) spot place name b
  keeps_shapes rules.DoneNotState spot place name e b = no_assign BreaksDoneNotState (λ k within o i p n is. shapes.done_never d design accepted m k count within small o i p n is) spot place name b
  keeps_shapes rules.AlwaysEnable spot place name e b = no_assign BreaksAlwaysEnable (λ k within o i p n is. shapes.always_never d design accepted m k count within o i p n is) spot place name b
  keeps_shapes rules.CombEnable spot place name e b = no_assign BreaksCombEnable (λ k within o i p n is. shapes.comb_never d design accepted m k count within o i p n is) spot place name b
  keeps_shapes rules.StaticGuard spot place name e b = no_assign BreaksStaticGuard (λ k within o i p n is. shapes.guard_never d design accepted m k count within o i p n is) spot place name b
  keeps_shapes rules.StaticShape spot place name e b =
      either (no_group GroupBreaksStaticShape (λ k within g less p n is. shapes.static_group_never d design accepted m k count within g less p n is) spot place name)
      (either (no_statement BreaksStaticControl (λ k within v i p n is. shapes.control_never d design accepted m k count within v i p n is) spot place name)
      (either (no_statement BreaksLength (λ k within v i p n is. shapes.length_never d design accepted m k count within v i p n is) spot place name)
      (either (no_statement BreaksStaticTest (λ k within v i p n is. shapes.static_test_never d design accepted m k count within v i p n is) spot place name)
      (either (no_statement BreaksInvokeLength (λ k within v i p n is. invoke_length_never d design accepted m k count within v i p n is) spot place name)
      (no_part_length spot place name))))) b
  keeps_shapes rules.CallShape spot place name e b =
      either (no_assign BreaksCallShape (λ k within o i p n is. call_never d design accepted m k count within o i p n is) spot place name)
      (either (no_group GroupBreaksCallShape (λ k within g less p n is. group_call_never d design accepted m k count within g p n is) spot place name)
      (either (no_assign BreaksStaticCell (λ k within o i p n is. static_cell_never d design accepted m k count within o i p n is) spot place name)
      (no_statement BreaksInvoke (λ k within v i p n is. invoke_never d design accepted m k count within v i p n is) spot place name))) b
  keeps_shapes rules.OutputNotState spot place name e b =
      either (no_assign BreaksOutputNotState (λ k within o i p n is. shapes.output_never d design accepted m k count within o i p n is) spot place name)
      (no_assign BreaksKept (λ k within o i p n is. kept_never d design accepted m k count within o i p n is) spot place name) b
  keeps_shapes rules.Width spot place name e b = apart 3 4 e (λ z. omega arith)
  keeps_shapes rules.GuardWidth spot place name e b = apart 3 4 e (λ z. omega arith)
  keeps_shapes rules.Literal spot place name e b = apart 3 4 e (λ z. omega arith)
  keeps_shapes rules.NotATarget spot place name e b = apart 3 4 e (λ z. omega arith)
  keeps_shapes rules.NotASource spot place name e b = apart 3 4 e (λ z. omega arith)
  keeps_shapes rules.CombCycle spot place name e b = apart 5 4 e (λ z. omega arith)
  keeps_shapes rules.Race spot place name e b = apart 6 4 e (λ z. omega arith)
  keeps_shapes rules.Limit spot place name e b = apart 7 4 e (λ z. omega arith)
  keeps_shapes _ spot place name e b = b

  pub keeps_no_cycles : KeepsStage 5 (with_counts d)
  keeps_no_cycles rules.CombCycle spot place name e b =
      either (no_circle spot place name) (no_group GroupBreaksCombCycle (λ k within g less p n is. group_cycle_never d design accepted m k count within some small g is.0) spot place name) b
  keeps_no_cycles rules.Width spot place name e b = apart 3 5 e (λ z. omega arith)
  keeps_no_cycles rules.GuardWidth spot place name e b = apart 3 5 e (λ z. omega arith)
  keeps_no_cycles rules.Literal spot place name e b = apart 3 5 e (λ z. omega arith)
  keeps_no_cycles rules.NotATarget spot place name e b = apart 3 5 e (λ z. omega arith)
  keeps_no_cycles rules.NotASource spot place name e b = apart 3 5 e (λ z. omega arith)
  keeps_no_cycles rules.NoDone spot place name e b = apart 4 5 e (λ z. omega arith)
  keeps_no_cycles rules.DoneNotState spot place name e b = apart 4 5 e (λ z. omega arith)
  keeps_no_cycles rules.AlwaysEnable spot place name e b = apart 4 5 e (λ z. omega arith)
  keeps_no_cycles rules.CombEnable spot place name e b = apart 4 5 e (λ z. omega arith)
  keeps_no_cycles rules.StaticGuard spot place name e b = apart 4 5 e (λ z. omega arith)
  keeps_no_cycles rules.StaticShape spot place name e b = apart 4 5 e (λ z. omega arith)
  keeps_no_cycles rules.CallShape spot place name e b = apart 4 5 e (λ z. omega arith)
  keeps_no_cycles rules.OutputNotState spot place name e b = apart 4 5 e (λ z. omega arith)
  keeps_no_cycles rules.Race spot place name e b = apart 6 5 e (λ z. omega arith)
  keeps_no_cycles rules.Limit spot place name e b = apart 7 5 e (λ z. omega arith)
  keeps_no_cycles _ spot place name e b = b

  pub keeps_no_races : KeepsStage 6 (with_counts d)
  keeps_no_races rules.Race spot place name e b = no_statement BreaksRace (λ k within v i p n is. race_never d design accepted m k count within v i p n is) spot place name b
  keeps_no_races rules.Width spot place name e b = apart 3 6 e (λ z. omega arith)
  keeps_no_races rules.GuardWidth spot place name e b = apart 3 6 e (λ z. omega arith)
  keeps_no_races rules.Literal spot place name e b = apart 3 6 e (λ z. omega arith)
  keeps_no_races rules.NotATarget spot place name e b = apart 3 6 e (λ z. omega arith)
  keeps_no_races rules.NotASource spot place name e b = apart 3 6 e (λ z. omega arith)
  keeps_no_races rules.NoDone spot place name e b = apart 4 6 e (λ z. omega arith)
  keeps_no_races rules.DoneNotState spot place name e b = apart 4 6 e (λ z. omega arith)
  keeps_no_races rules.AlwaysEnable spot place name e b = apart 4 6 e (λ z. omega arith)
  keeps_no_races rules.CombEnable spot place name e b = apart 4 6 e (λ z. omega arith)
  keeps_no_races rules.StaticGuard spot place name e b = apart 4 6 e (λ z. omega arith)
  keeps_no_races rules.StaticShape spot place name e b = apart 4 6 e (λ z. omega arith)
  keeps_no_races rules.CallShape spot place name e b = apart 4 6 e (λ z. omega arith)
  keeps_no_races rules.OutputNotState spot place name e b = apart 4 6 e (λ z. omega arith)
  keeps_no_races rules.CombCycle spot place name e b = apart 5 6 e (λ z. omega arith)
  keeps_no_races rules.Limit spot place name e b = apart 7 6 e (λ z. omega arith)
  keeps_no_races _ spot place name e b = b

-- where the limits are kept 32 bits count the entries, for main has a group for each
few_entries : (d : PlainDesign) → IsDesign d → KeepsStage 7 (with_counts d) → entry_count d ≤ 4096
few_entries d design limits = by (role d d.main design.main_there)
  where
    by : Role d d.main → entry_count d ≤ 4096
    by (as_main names is e) = few_words d d.main design.main_there names e limits
    by (as_child names is reached e) = absurd (is refl)
    by (as_kept is reached e) = absurd (is refl)

with_counts_accepted : (d : PlainDesign) → IsDesign d → IsAccepted d → 1 ≤ entry_count d → KeepsStage 7 (with_counts d) → IsAccepted (with_counts d)
with_counts_accepted d design accepted some limits =
    let few : entry_count d ≤ 4096 = few_entries d design limits in
    let small : entry_count d < 2 ^ 32 = omega (arith, few) in
    let levels = some_levels (length d.components) d.main design.main_there in
    record {
      widths = subst (KeepsStage 3) (instrumented_is d some) (instrumented_keeps_widths d design accepted small);
      shapes = keeps_shapes d design accepted some small levels.0 levels.1;
      no_cycles = keeps_no_cycles d design accepted some small levels.0 levels.1;
      no_races = keeps_no_races d design accepted some small levels.0 levels.1;
      limits = limits;
    }

-- THE INSTRUMENTED DESIGN IS ACCEPTED, where it keeps the limits
pub accepted_kept : (d : PlainDesign) → IsDesign d → IsAccepted d → KeepsStage 7 (instrumented d) → IsAccepted (instrumented d)
accepted_kept d design accepted limits = by (nat_eq (entry_count d) 0) refl limits
  where
    by : (b : Bool) → nat_eq (entry_count d) 0 ≡ b → KeepsStage 7 (if b then d else with_counts d) → IsAccepted (if b then d else with_counts d)
    by true e kept = accepted
    by false e kept = with_counts_accepted d design accepted (omega (arith, eqb-false (entry_count d) 0 e)) kept
