-- STAGE 7: the flat design of an accepted design keeps all limits.
use Rattle.std.proofs.Common.{◌≡◌, ℕ, inl, inr, List}
use Rattle.cx_text.specs.declared.places.Place.{Place}
use Rattle.cx_text.specs.declared.rules.Rule.{Rule}
use Rattle.cx_text.specs.declared.rules.Rule.TheVariants as rules
use Rattle.cx_meaning.specs.Designs.{PlainDesign}
use Rattle.cx_rules.specs.Accepted.{IsAccepted, stage_of}
use Rattle.cx_rules.specs.Spots.{Spot}
use Rattle.cx_rules.specs.Wellformed.{IsDesign}
use Rattle.cx_rewrites.specs.FlatRules.{Breaks, KeepsStage}
use Rattle.cx_flattening.specs.Ends.{NoneNamesDone}
use Rattle.cx_flattening.specs.FlatDesign.{flat_design}
use Rattle.cx_flattening.proofs.FlatCounts.{keeps_groups}
use Rattle.cx_flattening.proofs.FlatIslandLimits.{keeps_statements}
use Rattle.cx_flattening.proofs.FlatLimits.{keeps_cells, keeps_instances, keeps_depth, keeps_words}
use Rattle.cx_flattening.proofs.FlatWeights.{keeps_weight}

module _ (d : PlainDesign) (design : IsDesign d) (accepted : IsAccepted d) (undone : NoneNamesDone d) where
  no_excess : (rule : Rule) (spot : Spot) (place : Place) (name : List ℕ) → stage_of rule ≡ 7 → Breaks (flat_design d) rule spot place name → ⊥
  no_excess rules.BadByte spot place name at b = absurd (cc)
  no_excess rules.OpenComment spot place name at b = absurd (cc)
  no_excess rules.OpenString spot place name at b = absurd (cc)
  no_excess rules.BadLiteral spot place name at b = absurd (cc)
  no_excess rules.Unexpected spot place name at b = absurd (cc)
  no_excess rules.TooDeep spot place name at b = absurd (cc)
  no_excess rules.Duplicate spot place name at b = absurd (cc)
  no_excess rules.UnknownName spot place name at b = absurd (cc)
  no_excess rules.UnknownPrimitive spot place name at b = absurd (cc)
  no_excess rules.BadParameters spot place name at b = absurd (cc)
  no_excess rules.Recursive spot place name at b = absurd (cc)
  no_excess rules.NoMain spot place name at b = absurd (cc)
  no_excess rules.LeftOut spot place name at b = absurd (cc)
  no_excess rules.Width spot place name at b = absurd (cc)
  no_excess rules.GuardWidth spot place name at b = absurd (cc)
  no_excess rules.Literal spot place name at b = absurd (cc)
  no_excess rules.NotATarget spot place name at b = absurd (cc)
  no_excess rules.NotASource spot place name at b = absurd (cc)
  no_excess rules.NoDone spot place name at b = absurd (cc)
  no_excess rules.DoneNotState spot place name at b = absurd (cc)
  no_excess rules.AlwaysEnable spot place name at b = absurd (cc)
  no_excess rules.CombEnable spot place name at b = absurd (cc)
  no_excess rules.StaticGuard spot place name at b = absurd (cc)
  no_excess rules.StaticShape spot place name at b = absurd (cc)
  no_excess rules.CallShape spot place name at b = absurd (cc)
  no_excess rules.OutputNotState spot place name at b = absurd (cc)
  no_excess rules.CombCycle spot place name at b = absurd (cc)
  no_excess rules.Race spot place name at b = absurd (cc)
  no_excess rules.Limit spot place name at (inl b) = keeps_cells d design accepted spot place name b
  no_excess rules.Limit spot place name at (inr (inl b)) = keeps_groups d design accepted undone spot place name b
  no_excess rules.Limit spot place name at (inr (inr (inl b))) = keeps_statements d design accepted undone spot place name b
  no_excess rules.Limit spot place name at (inr (inr (inr (inl b)))) = keeps_instances d design accepted spot place name b
  no_excess rules.Limit spot place name at (inr (inr (inr (inr (inl b))))) = keeps_depth d design accepted spot place name b
  no_excess rules.Limit spot place name at (inr (inr (inr (inr (inr (inl b)))))) = keeps_words d design accepted spot place name b
  no_excess rules.Limit spot place name at (inr (inr (inr (inr (inr (inr b)))))) = keeps_weight d design accepted undone spot place name b
  no_excess rules.TooLarge spot place name at b = absurd (cc)

  pub keeps_limits : KeepsStage 7 (flat_design d)
  keeps_limits = no_excess
