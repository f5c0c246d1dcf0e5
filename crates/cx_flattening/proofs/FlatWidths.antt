-- STAGE 3 in the flat design: its assignments keep the rules on widths, literals, targets and sources.
use Rattle.std.proofs.Common.{◌≡◌, ℕ, inl, inr, ⊎_elim, true, false, List, [], length, Option, Some, None, sym, ap, ◌∙◌, subst, arith}
use Rattle.std.specs.Prelude.{slice_get, flat_map}
use Rattle.cx_text.specs.declared.places.Place.{Place}
use Rattle.cx_text.specs.declared.rules.Rule.{Rule}
use Rattle.cx_text.specs.declared.rules.Rule.TheVariants as rules
use Rattle.cx_meaning.specs.declared.ports.PortRef.{PortRef}
use Rattle.cx_meaning.specs.declared.ports.PlacedPort.{PlacedPort}
use Rattle.cx_meaning.specs.Designs.{PlainAssign, PlainInvoke, PlainComponent, PlainDesign, component_at, group_at}
use Rattle.cx_meaning.specs.Active.{source_order}
use Rattle.cx_text.specs.Members.{In}
use Rattle.cx_rules.specs.Accepted.{IsAccepted, stage_of, Breaks, KeepsStage}
use Rattle.cx_rules.specs.Items.{Dynamic, statements_in, test_in}
use Rattle.cx_rules.specs.Ports.{component_of}
use Rattle.cx_rules.specs.Spots.{AssignRule, StatementRule, Spot, OnAssign, OnBind, OnStatement}
use Rattle.cx_rules.specs.WidthRules.{differ, BreaksWidth, BreaksGuardWidth, TestBreaksGuardWidth, BreaksLiteral, TestBreaksLiteral, BreaksNotATarget, BreaksNotASource, TestBreaksNotASource}
use Rattle.cx_rules.specs.Wellformed.{IsDesign}
use Rattle.cx_flattening.specs.Ends.{NoneNamesDone}
use Rattle.cx_flattening.specs.FlatDesign.{flat_design}
use Rattle.cx_flattening.proofs.TreeLevels.{no_way}
use Rattle.cx_flattening.proofs.RestingPorts.{OfOne, owner_of}
use Rattle.cx_flattening.proofs.FlatRows.{flat_design_flat}
use Rattle.cx_flattening.proofs.FlatNumbers.{made}
use Rattle.cx_flattening.proofs.FlatStages.{good_component}
use Rattle.cx_flattening.proofs.FlatRanges.{slice_in}
use Rattle.cx_flattening.proofs.Typed.{Typed, Source, Target, same_width, good_literal, typed_equal, typed_bits, typed_sources}
use Rattle.cx_flattening.proofs.FlatTyped.{flat_always_typed, flat_groups_typed}
use Rattle.cx_flattening.proofs.TypedTests.{Tests, one_visits, flat_tested}
use Rattle.cx_flattening.proofs.TypedParts.{typed_tree, tested_tree}
use Rattle.cx_rules.proofs.WidthRulesLemmas.{written_is}

module _ (d : PlainDesign) (design : IsDesign d) (accepted : IsAccepted d) (undone : NoneNamesDone d) where
  -- an assignment of the flat design
  typed_at : (rule : AssignRule) (spot : Spot) (place : Place) (name : List ℕ) (b : OnAssign rule (flat_design d) spot place name)
      → Typed (Source (component_of (flat_design d) spot.component)) (Target (component_of (flat_design d) spot.component)) b.assign.assign
  typed_at rule spot place name b =
      let m = made d design spot.component b.within in
      let g = good_component d design accepted undone m.old m.less in
      let typed = typed_tree d design accepted undone (length d.components) m.old [] (no_way d design m.old m.less) (omega arith) in
      let part = component_at (flat_design d) spot.component in
      ⊎_elim
      (λ h. flat_always_typed (component_of d m.old) (component_of (flat_design d) spot.component) m.flattened g.fair typed b.assign.assign (subst (λ (p : PlainComponent). In p.always b.assign.assign) m.part h.1))
      (λ (h : OfOne part b.assign).
      flat_groups_typed (component_of d m.old) (component_of (flat_design d) spot.component) m.flattened g.fair typed (group_at part h.number) b.assign.assign
      (subst (λ (p : PlainComponent). In p.groups (group_at part h.number)) m.part h.is_there) h.stands)
      (owner_of part b.assign (slice_in (source_order part) b.number b.assign b.stands))

  pub keeps_widths : (spot : Spot) (place : Place) (name : List ℕ) → OnAssign BreaksWidth (flat_design d) spot place name → ⊥
  keeps_widths spot place name b =
      let bad = b.breaks in
      let clash : ◌≡◌ {A = Option PortRef} None (Some bad.0) = sym (typed_equal (component_of (flat_design d) spot.component) b.assign.assign (typed_at BreaksWidth spot place name b)) ∙ bad.1 in cc

  pub keeps_guard_widths : (spot : Spot) (place : Place) (name : List ℕ) → OnAssign BreaksGuardWidth (flat_design d) spot place name → ⊥
  keeps_guard_widths spot place name b =
      let bad = b.breaks in
      let clash : ◌≡◌ {A = Option PortRef} None (Some bad.0) = sym (typed_bits (component_of (flat_design d) spot.component) b.assign.assign (typed_at BreaksGuardWidth spot place name b)) ∙ bad.1 in cc

  pub keeps_literals : (spot : Spot) (place : Place) (name : List ℕ) → OnAssign BreaksLiteral (flat_design d) spot place name → ⊥
  keeps_literals spot place name b =
      let bad = b.breaks in
      let s = typed_sources (component_of (flat_design d) spot.component) b.assign.assign (typed_at BreaksLiteral spot place name b) bad.0 bad.1 in
      good_literal (component_of (flat_design d) spot.component) bad.0.port s.0 s.1.0 bad.2

  pub keeps_targets : (spot : Spot) (place : Place) (name : List ℕ) → OnAssign BreaksNotATarget (flat_design d) spot place name → ⊥
  keeps_targets spot place name b =
      let bad = b.breaks in
      let t = typed_at BreaksNotATarget spot place name b in
      let clash : true ≡ false = sym bad.0 ∙ t.1.1 in cc

  pub keeps_sources : (spot : Spot) (place : Place) (name : List ℕ) → OnAssign BreaksNotASource (flat_design d) spot place name → ⊥
  keeps_sources spot place name b =
      let bad = b.breaks in
      let s = typed_sources (component_of (flat_design d) spot.component) b.assign.assign (typed_at BreaksNotASource spot place name b) bad.0 bad.1 in
      let clash : true ≡ false = sym bad.2 ∙ s.1.1 in cc

  -- nothing is bound
  no_bind : (rule : AssignRule) (spot : Spot) (place : Place) (name : List ℕ) → OnBind rule (flat_design d) spot place name → ⊥
  no_bind rule spot place name b =
      let none : ◌≡◌ {A = Option PlainAssign} None (Some b.assign) =
      sym (ap (λ vs. slice_get (flat_map (λ (v : PlainInvoke). v.inputs) vs) b.number) (flat_design_flat d spot.component b.within).no_invoke) ∙ b.stands in cc

  -- a condition of flat control
  test_at : (rule : StatementRule) (spot : Spot) (place : Place) (name : List ℕ) (b : OnStatement rule (flat_design d) spot place name) (p : PlacedPort) → test_in b.statement.form ≡ Some p
      → Source (component_of (flat_design d) spot.component) 1 p.port
  test_at rule spot place name b p e =
      let m = made d design spot.component b.within in
      let g = good_component d design accepted undone m.old m.less in
      let typed = typed_tree d design accepted undone (length d.components) m.old [] (no_way d design m.old m.less) (omega arith) in
      let tested = tested_tree d design accepted undone (length d.components) m.old [] (no_way d design m.old m.less) (omega arith) in
      let flat = component_of (flat_design d) spot.component in
      one_visits (Source flat 1) Dynamic (component_at (flat_design d) spot.component).control
      (subst (λ (q : PlainComponent). Tests (Source flat 1) q.control) (sym m.part) (flat_tested (component_of d m.old) flat m.flattened g.fair g.controlled typed tested))
      b.statement p (slice_in (statements_in (component_at (flat_design d) spot.component)) b.number b.statement b.stands) e

  test_widths : (spot : Spot) (place : Place) (name : List ℕ) → OnStatement TestBreaksGuardWidth (flat_design d) spot place name → ⊥
  test_widths spot place name b =
      let bad = b.breaks in
      let s = test_at TestBreaksGuardWidth spot place name b bad.0 bad.1 in
      let narrow = ap (λ o. differ o (Some 1)) (written_is (component_of (flat_design d) spot.component) bad.0.port 1 s.0) ∙ same_width 1 in
      let clash : true ≡ false = sym bad.2 ∙ narrow in cc

  test_literals : (spot : Spot) (place : Place) (name : List ℕ) → OnStatement TestBreaksLiteral (flat_design d) spot place name → ⊥
  test_literals spot place name b =
      let bad = b.breaks in
      let s = test_at TestBreaksLiteral spot place name b bad.0 bad.1 in
      good_literal (component_of (flat_design d) spot.component) bad.0.port 1 s.0 bad.2

  test_sources : (spot : Spot) (place : Place) (name : List ℕ) → OnStatement TestBreaksNotASource (flat_design d) spot place name → ⊥
  test_sources spot place name b =
      let bad = b.breaks in
      let s = test_at TestBreaksNotASource spot place name b bad.0 bad.1 in
      let clash : true ≡ false = sym bad.2 ∙ s.1 in cc

  -- STAGE 3
  stage_three : (rule : Rule) (spot : Spot) (place : Place) (name : List ℕ) → stage_of rule ≡ 3 → Breaks (flat_design d) rule spot place name → ⊥
  stage_three rules.BadByte spot place name at b = absurd (cc)
  stage_three rules.OpenComment spot place name at b = absurd (cc)
  stage_three rules.OpenString spot place name at b = absurd (cc)
  stage_three rules.BadLiteral spot place name at b = absurd (cc)
  stage_three rules.Unexpected spot place name at b = absurd (cc)
  stage_three rules.TooDeep spot place name at b = absurd (cc)
  stage_three rules.Duplicate spot place name at b = absurd (cc)
  stage_three rules.UnknownName spot place name at b = absurd (cc)
  stage_three rules.UnknownPrimitive spot place name at b = absurd (cc)
  stage_three rules.BadParameters spot place name at b = absurd (cc)
  stage_three rules.Recursive spot place name at b = absurd (cc)
  stage_three rules.NoMain spot place name at b = absurd (cc)
  stage_three rules.LeftOut spot place name at b = absurd (cc)
  stage_three rules.Width spot place name at (inl b) = keeps_widths spot place name b
  stage_three rules.Width spot place name at (inr b) = no_bind BreaksWidth spot place name b
  stage_three rules.GuardWidth spot place name at (inl b) = keeps_guard_widths spot place name b
  stage_three rules.GuardWidth spot place name at (inr (inl b)) = test_widths spot place name b
  stage_three rules.GuardWidth spot place name at (inr (inr b)) = no_bind BreaksGuardWidth spot place name b
  stage_three rules.Literal spot place name at (inl b) = keeps_literals spot place name b
  stage_three rules.Literal spot place name at (inr (inl b)) = test_literals spot place name b
  stage_three rules.Literal spot place name at (inr (inr b)) = no_bind BreaksLiteral spot place name b
  stage_three rules.NotATarget spot place name at (inl b) = keeps_targets spot place name b
  stage_three rules.NotATarget spot place name at (inr b) = no_bind BreaksNotATarget spot place name b
  stage_three rules.NotASource spot place name at (inl b) = keeps_sources spot place name b
  stage_three rules.NotASource spot place name at (inr (inl b)) = test_sources spot place name b
  stage_three rules.NotASource spot place name at (inr (inr b)) = no_bind BreaksNotASource spot place name b
  stage_three rules.NoDone spot place name at b = absurd (cc)
  stage_three rules.DoneNotState spot place name at b = absurd (cc)
  stage_three rules.AlwaysEnable spot place name at b = absurd (cc)
  stage_three rules.CombEnable spot place name at b = absurd (cc)
  stage_three rules.StaticGuard spot place name at b = absurd (cc)
  stage_three rules.StaticShape spot place name at b = absurd (cc)
  stage_three rules.CallShape spot place name at b = absurd (cc)
  stage_three rules.OutputNotState spot place name at b = absurd (cc)
  stage_three rules.CombCycle spot place name at b = absurd (cc)
  stage_three rules.Race spot place name at b = absurd (cc)
  stage_three rules.Limit spot place name at b = absurd (cc)
  stage_three rules.TooLarge spot place name at b = absurd (cc)

  pub keeps_stage_three : KeepsStage 3 (flat_design d)
  keeps_stage_three = stage_three
