-- What a check of a stage answers.
use Rattle.std.specs.Prelude.{◌≡◌, ℕ, false, List, Option, Some, None, Result, Ok, Err}
use Rattle.cx_text.specs.declared.places.Place.{Place}
use Rattle.cx_text.specs.declared.rules.Rule.{Rule}
use Rattle.cx_text.specs.declared.diagnostics.Diagnostic.{Diagnostic}
use Rattle.cx_design.specs.declared.refusals.Refusal as refusals
use Rattle.cx_design.specs.declared.refusals.Refusal.TheVariants as refused
use Rattle.cx_meaning.specs.Designs.{PlainDesign}
use Rattle.cx_text.specs.Members.{In}
use Rattle.cx_rules.specs.Spots.{Spot}
use Rattle.cx_rules.specs.Accepted.{Breaks, stage_of, key_of, comes_before, KeepsStage, IsFirstOf}
use Rattle.cx_design_parts.specs.Breaks.{Broken, key}

-- the list has breaks of the stage alone, and for each break of the stage one that no break comes before
pub record AreBreaks (stage : ℕ) (d : PlainDesign) (found : List Broken) : Type 0 where
  pub in_stage : (b : Broken) → In found b → stage_of b.rule ≡ stage
  pub break : (b : Broken) → In found b → Breaks d b.rule b.spot b.place b.name
  pub all : (rule : Rule) (spot : Spot) (place : Place) (name : List ℕ) → stage_of rule ≡ stage
      → Breaks d rule spot place name
      → (b : Broken) × In found b × (comes_before (key_of rule spot place) (key b) ≡ false)

-- the list has breaks of a family alone, and for each break of the family one that no break comes before
pub record AreBreaksBy (family : Rule → Spot → Place → List ℕ → Type 0) (found : List Broken) : Type 0 where
  pub by_family : (b : Broken) → In found b → family b.rule b.spot b.place b.name
  pub all_family : (rule : Rule) (spot : Spot) (place : Place) (name : List ℕ) → family rule spot place name
      → (b : Broken) × In found b × (comes_before (key_of rule spot place) (key b) ≡ false)

-- the breaks of a stage
abbrev pub StageBreaks : ℕ → PlainDesign → Rule → Spot → Place → List ℕ → Type 0
StageBreaks stage d rule spot place name = (stage_of rule ≡ stage) × Breaks d rule spot place name

-- what is told of a break
abbrev pub told : Broken → Diagnostic
told b = record { rule = b.rule; place = b.place; name = b.name }

abbrev pub answer_of : Option Broken → Result (Unit {0}) refusals.Refusal
answer_of None = Ok tt
answer_of (Some b) = Err (refused.Rule (told b))

-- THE ANSWER OF A CHECK: no rule of the stage is broken, or the stage's first break; or memory ran out
abbrev pub IsAnswer : ℕ → PlainDesign → Result (Unit {0}) refusals.Refusal → Type 0
IsAnswer stage d (Ok _) = KeepsStage stage d
IsAnswer stage d (Err (refused.Rule told)) = IsFirstOf stage d told
IsAnswer stage d (Err refused.Memory) = Unit {0}
