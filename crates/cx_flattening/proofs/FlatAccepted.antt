-- THE FLAT DESIGN of an accepted design is accepted: it breaks no rule of any stage.
use Rattle.std.proofs.Common.{◌≡◌, ℕ, inl, inr, List}
use Rattle.cx_text.specs.declared.places.Place.{Place}
use Rattle.cx_text.specs.declared.rules.Rule.{Rule}
use Rattle.cx_text.specs.declared.rules.Rule.TheVariants as rules
use Rattle.cx_meaning.specs.Designs.{PlainDesign}
use Rattle.cx_rules.specs.Accepted.{IsAccepted, Breaks, stage_of}
use Rattle.cx_rules.specs.Spots.{Spot}
use Rattle.cx_rules.specs.Wellformed.{IsDesign}
use Rattle.cx_rewrites.specs.FlatRules as flat
use Rattle.cx_rewrites.proofs.FlatRulesLemmas.{stage_whole, accepted_flat}
use Rattle.cx_flattening.specs.Ends.{NoneNamesDone}
use Rattle.cx_flattening.specs.FlatDesign.{flat_design}
use Rattle.cx_flattening.proofs.CallsKept.{keeps_calls, keeps_call_groups}
use Rattle.cx_flattening.proofs.FlatAbsent.{no_static_cell, no_bad_invoke, no_invoke_length, no_part_length, no_kept}
use Rattle.cx_flattening.proofs.FlatKinds.{keeps_dones, keeps_combs}
use Rattle.cx_flattening.proofs.FlatLasts.{keeps_lengths}
use Rattle.cx_flattening.proofs.FlatRaces.{keeps_races}
use Rattle.cx_flattening.proofs.FlatRanges.{keeps_guards, keeps_always}
use Rattle.cx_flattening.proofs.FlatRests.{keeps_done_states, keeps_static_tests, keeps_outputs}
use Rattle.cx_flattening.proofs.FlatRows.{flat_design_flat}
use Rattle.cx_flattening.proofs.FlatShapes.{keeps_shapes}
use Rattle.cx_flattening.proofs.FlatStageSeven.{keeps_limits}
use Rattle.cx_flattening.proofs.FlatStages.{keeps_circles}
use Rattle.cx_flattening.proofs.FlatStands.{keeps_stands}
use Rattle.cx_flattening.proofs.FlatWidths.{keeps_stage_three}

module _ (d : PlainDesign) (design : IsDesign d) (accepted : IsAccepted d) (undone : NoneNamesDone d) where
  -- STAGE 4: shapes
  shapes_kept : (rule : Rule) (spot : Spot) (place : Place) (name : List ℕ) → stage_of rule ≡ 4 → Breaks (flat_design d) rule spot place name → ⊥
  shapes_kept rules.BadByte spot place name at b = absurd (cc)
  shapes_kept rules.OpenComment spot place name at b = absurd (cc)
  shapes_kept rules.OpenString spot place name at b = absurd (cc)
  shapes_kept rules.BadLiteral spot place name at b = absurd (cc)
  shapes_kept rules.Unexpected spot place name at b = absurd (cc)
  shapes_kept rules.TooDeep spot place name at b = absurd (cc)
  shapes_kept rules.Duplicate spot place name at b = absurd (cc)
  shapes_kept rules.UnknownName spot place name at b = absurd (cc)
  shapes_kept rules.UnknownPrimitive spot place name at b = absurd (cc)
  shapes_kept rules.BadParameters spot place name at b = absurd (cc)
  shapes_kept rules.Recursive spot place name at b = absurd (cc)
  shapes_kept rules.NoMain spot place name at b = absurd (cc)
  shapes_kept rules.LeftOut spot place name at b = absurd (cc)
  shapes_kept rules.Width spot place name at b = absurd (cc)
  shapes_kept rules.GuardWidth spot place name at b = absurd (cc)
  shapes_kept rules.Literal spot place name at b = absurd (cc)
  shapes_kept rules.NotATarget spot place name at b = absurd (cc)
  shapes_kept rules.NotASource spot place name at b = absurd (cc)
  shapes_kept rules.NoDone spot place name at b = keeps_dones d design accepted undone spot place name b
  shapes_kept rules.DoneNotState spot place name at b = keeps_done_states d design accepted undone spot place name b
  shapes_kept rules.AlwaysEnable spot place name at b = keeps_always d design accepted undone spot place name b
  shapes_kept rules.CombEnable spot place name at b = keeps_combs d design accepted undone spot place name b
  shapes_kept rules.StaticGuard spot place name at b = keeps_guards d design accepted spot place name b
  shapes_kept rules.StaticShape spot place name at (inl b) = keeps_shapes d design accepted spot place name b
  shapes_kept rules.StaticShape spot place name at (inr (inl b)) = keeps_stands d design accepted undone spot place name b
  shapes_kept rules.StaticShape spot place name at (inr (inr (inl b))) = keeps_lengths d design accepted undone spot place name b
  shapes_kept rules.StaticShape spot place name at (inr (inr (inr (inl b)))) = keeps_static_tests d design accepted undone spot place name b
  shapes_kept rules.StaticShape spot place name at (inr (inr (inr (inr (inl b))))) = no_invoke_length (flat_design d) (flat_design_flat d) spot place name b
  shapes_kept rules.StaticShape spot place name at (inr (inr (inr (inr (inr b))))) = no_part_length (flat_design d) (flat_design_flat d) spot place name b
  shapes_kept rules.CallShape spot place name at (inl b) = keeps_calls d design accepted undone spot place name b
  shapes_kept rules.CallShape spot place name at (inr (inl b)) = keeps_call_groups d design accepted undone spot place name b
  shapes_kept rules.CallShape spot place name at (inr (inr (inl b))) = no_static_cell (flat_design d) (flat_design_flat d) spot place name b
  shapes_kept rules.CallShape spot place name at (inr (inr (inr b))) = no_bad_invoke (flat_design d) (flat_design_flat d) spot place name b
  shapes_kept rules.OutputNotState spot place name at (inl b) = keeps_outputs d design accepted undone spot place name b
  shapes_kept rules.OutputNotState spot place name at (inr b) = no_kept (flat_design d) (flat_design_flat d) spot place name b
  shapes_kept rules.CombCycle spot place name at b = absurd (cc)
  shapes_kept rules.Race spot place name at b = absurd (cc)
  shapes_kept rules.Limit spot place name at b = absurd (cc)
  shapes_kept rules.TooLarge spot place name at b = absurd (cc)

  -- IT IS ACCEPTED
  pub is_accepted : IsAccepted (flat_design d)
  is_accepted = record {
    widths = keeps_stage_three d design accepted undone;
    shapes = shapes_kept;
    no_cycles = keeps_circles d design accepted undone;
    no_races = keeps_races d design accepted undone;
    limits = stage_whole (flat_design d) (flat_design_flat d) 7 (keeps_limits d design accepted undone);
  }

  pub is_accepted_flat : flat.IsAccepted (flat_design d)
  is_accepted_flat = accepted_flat (flat_design d) (flat_design_flat d) is_accepted
