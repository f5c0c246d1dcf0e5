-- The instrumented design is accepted where it keeps the limits, and refused by a limit alone.
use Rattle.std.proofs.Common.{◌≡◌, sym, subst}
use Rattle.std.proofs.Math.Logic.{∥∥₁_elim}
use Rattle.cx_text.specs.declared.diagnostics.Diagnostic.{Diagnostic}
use Rattle.cx_meaning.specs.Designs.{PlainDesign}
use Rattle.cx_rules.specs.Accepted.{KeepsStage, IsFirstOf, IsAccepted}
use Rattle.cx_rules.specs.Wellformed.{IsDesign}
use Rattle.cx_rules.proofs.OneBreak.{one_rule, one_place, one_name}
use Rattle.cx_design.specs.declared.refusals.Refusal.{Refusal}
use Rattle.cx_design.specs.declared.refusals.Refusal.TheVariants as refusals
use Rattle.cx_check.specs.Verdicts.{TellsAs}
use Rattle.cx_limits.specs.First.{IsFirstBreak}
use Rattle.cx_profiling.specs.Instrumented.{instrumented}
use Rattle.cx_profiling.proofs.AcceptedStages.{accepted_kept}
use Rattle.cx_profile.specs.Profiles.{IsLimit}

-- IT IS ACCEPTED, where it keeps the limits
pub accepted_within : (d made : PlainDesign) → ∥ IsDesign d ∥₁ → IsAccepted d → made ≡ instrumented d → KeepsStage 7 made → IsAccepted made
accepted_within d made keeps accepted is limits = subst IsAccepted (sym is) (record {
  widths = λ rule spot place name stage b. never (λ a. a.widths rule spot place name stage b);
  shapes = λ rule spot place name stage b. never (λ a. a.shapes rule spot place name stage b);
  no_cycles = λ rule spot place name stage b. never (λ a. a.no_cycles rule spot place name stage b);
  no_races = λ rule spot place name stage b. never (λ a. a.no_races rule spot place name stage b);
  limits = kept;
})
  where
    kept : KeepsStage 7 (instrumented d)
    kept = subst (KeepsStage 7) is limits

    never : (IsAccepted (instrumented d) → ⊥) → ⊥
    never breaks = ∥∥₁_elim keeps (λ p q. absurd p) (λ design. breaks (accepted_kept d design accepted kept))

-- A LIMIT that is told is the first one
pub limit_is : (d : PlainDesign) (refusal : Refusal) → IsFirstBreak 7 d refusal → IsLimit d refusal
limit_is d (refusals.Rule told) h = h
limit_is d refusals.Memory h = tt

-- where the limits are kept none is exceeded
pub none_exceeded : (d : PlainDesign) (told : Diagnostic) → KeepsStage 7 d → IsFirstOf 7 d told → ⊥
none_exceeded d told keeps b = keeps told.rule b.spot told.place told.name b.in_stage b.breaks

-- two first breaks of the last stage are one
pub limit_told : (d : PlainDesign) (told : Diagnostic) (refusal : Refusal) → IsLimit d refusal → IsFirstOf 7 d told → TellsAs d told refusal
limit_told d told (refusals.Rule own) h b = record { rule = one_rule d 7 own told h b; place = one_place d 7 own told h b; name = λ placed. one_name d 7 own told placed h b }
limit_told d told refusals.Memory h b = tt
