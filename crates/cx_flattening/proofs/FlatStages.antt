-- STAGES: the flat design of an accepted design keeps rules of a stage.
use Rattle.std.proofs.Common.{◌≡◌, ℕ, ◌<◌, inl, inr, List, [], length, subst, arith}
use Rattle.cx_text.specs.declared.places.Place.{Place}
use Rattle.cx_text.specs.declared.rules.Rule.{Rule}
use Rattle.cx_text.specs.declared.rules.Rule.TheVariants as rules
use Rattle.cx_meaning.specs.Designs.{PlainComponent, PlainDesign}
use Rattle.cx_rules.specs.Accepted.{IsAccepted, stage_of, Breaks, KeepsStage}
use Rattle.cx_rules.specs.Ports.{component_of}
use Rattle.cx_rules.specs.Spots.{Spot}
use Rattle.cx_rules.specs.Wellformed.{IsDesign}
use Rattle.cx_flattening.specs.Ends.{NoneNamesDone}
use Rattle.cx_flattening.specs.FlatDesign.{flat_design}
use Rattle.cx_flattening.proofs.TreeLevels.{no_way}
use Rattle.cx_flattening.proofs.AcceptedTrees.{IsGood, good_tree}
use Rattle.cx_flattening.proofs.FlatNumbers.{made}
use Rattle.cx_flattening.proofs.FlatCircles.{flat_calm, flat_group_calm}

module _ (d : PlainDesign) (design : IsDesign d) (accepted : IsAccepted d) (undone : NoneNamesDone d) where
  pub good_component : (k : ℕ) → k < length d.components → IsGood (component_of d k)
  good_component k less = good_tree d design accepted undone (length d.components) k [] (no_way d design k less) (omega arith)

  -- STAGE 5: no circles
  no_circles : (rule : Rule) (spot : Spot) (place : Place) (name : List ℕ) → stage_of rule ≡ 5 → Breaks (flat_design d) rule spot place name → ⊥
  no_circles rules.BadByte spot place name at b = absurd (cc)
  no_circles rules.OpenComment spot place name at b = absurd (cc)
  no_circles rules.OpenString spot place name at b = absurd (cc)
  no_circles rules.BadLiteral spot place name at b = absurd (cc)
  no_circles rules.Unexpected spot place name at b = absurd (cc)
  no_circles rules.TooDeep spot place name at b = absurd (cc)
  no_circles rules.Duplicate spot place name at b = absurd (cc)
  no_circles rules.UnknownName spot place name at b = absurd (cc)
  no_circles rules.UnknownPrimitive spot place name at b = absurd (cc)
  no_circles rules.BadParameters spot place name at b = absurd (cc)
  no_circles rules.Recursive spot place name at b = absurd (cc)
  no_circles rules.NoMain spot place name at b = absurd (cc)
  no_circles rules.LeftOut spot place name at b = absurd (cc)
  no_circles rules.Width spot place name at b = absurd (cc)
  no_circles rules.GuardWidth spot place name at b = absurd (cc)
  no_circles rules.Literal spot place name at b = absurd (cc)
  no_circles rules.NotATarget spot place name at b = absurd (cc)
  no_circles rules.NotASource spot place name at b = absurd (cc)
  no_circles rules.NoDone spot place name at b = absurd (cc)
  no_circles rules.DoneNotState spot place name at b = absurd (cc)
  no_circles rules.AlwaysEnable spot place name at b = absurd (cc)
  no_circles rules.CombEnable spot place name at b = absurd (cc)
  no_circles rules.StaticGuard spot place name at b = absurd (cc)
  no_circles rules.StaticShape spot place name at b = absurd (cc)
  no_circles rules.CallShape spot place name at b = absurd (cc)
  no_circles rules.OutputNotState spot place name at b = absurd (cc)
  no_circles rules.CombCycle spot place name at (inl b) =
      let m = made d design spot.component b.within in
      let g = good_component m.old m.less in
      flat_calm (component_of d m.old) (component_of (flat_design d) spot.component) m.flattened g.fair g.calm b.cycle
  no_circles rules.CombCycle spot place name at (inr b) =
      let m = made d design spot.component b.within in
      let g = good_component m.old m.less in
      flat_group_calm (component_of d m.old) (component_of (flat_design d) spot.component) m.flattened g.fair g.rules g.controlled g.calm b.number
      (subst (λ (p : PlainComponent). b.number < length p.groups) m.part b.stands) b.breaks.0
  no_circles rules.Race spot place name at b = absurd (cc)
  no_circles rules.Limit spot place name at b = absurd (cc)
  no_circles rules.TooLarge spot place name at b = absurd (cc)

  pub keeps_circles : KeepsStage 5 (flat_design d)
  keeps_circles = no_circles
