-- A text whose instrumented design keeps the limits is not refused, and what is told of one that is refused is one rule.
use Rattle.std.proofs.Common.{◌≡◌, inl, inr, ℕ, ◌^◌, ◌<◌, List, sym, subst, arith}
use Rattle.cx_text.specs.declared.diagnostics.Diagnostic.{Diagnostic}
use Rattle.cx_text.specs.declared.rules.Rule.{Rule}
use Rattle.cx_text.specs.declared.rules.Rule.TheVariants.{NotASource}
use Rattle.cx_meaning.specs.Designs.{PlainDesign}
use Rattle.cx_rules.specs.Accepted.{IsAccepted, KeepsStage, IsFirstOf, stage_of}
use Rattle.cx_rules.specs.OneBreak.{IsPlaced}
use Rattle.cx_rules.specs.Sizes.{design_size}
use Rattle.cx_rules.specs.Wellformed.{IsDesign}
use Rattle.cx_rules.proofs.OneBreak.{one_rule, one_place, one_name}
use Rattle.cx_profiling.specs.Instrumented.{instrumented}
use Rattle.cx_compiler.specs.Runnable.{CanBeFlattened}
use Rattle.cx_compiler.proofs.KeptTexts.{flattens}
use Rattle.cx_compiler.specs.Texts.{IsDesignOf}
use Rattle.cx_compiler.proofs.TextLayers.{few_parts, text_flattens}
use Rattle.cx_compiler.proofs.TextLemmas.{accepted_once, break_once, one_design, same_diagnostic, text_of_design}
use Rattle.cx_compiler.proofs.WrittenNets.{design_parts, design_words}
use Rattle.cx_driver.specs.Counting.{CanCount, CountBreak}
use Rattle.cx_profile.proofs.LimitLemmas.{none_exceeded}

-- the first limit that a design exceeds is one
not_a_source : (d : PlainDesign) (rule : Rule) → stage_of rule ≡ 7 → rule ≡ NotASource → IsPlaced d
not_a_source d rule in_stage is = let three : 3 ≡ 7 = subst (λ r. stage_of r ≡ 7) is in_stage in absurd (omega (arith, three))

exceeds_once : (d : PlainDesign) (a b : Diagnostic) → IsFirstOf 7 d a → IsFirstOf 7 d b → a ≡ b
exceeds_once d a b h k = same_diagnostic a b (one_rule d 7 a b h k) (one_place d 7 a b h k) (one_name d 7 a b (not_a_source d a.rule h.in_stage) h k)

-- WHAT A TEXT IS REFUSED FOR is one rule, at one place, with one name
pub count_once : (text : List ℕ) (a b : Diagnostic) → CountBreak text a → CountBreak text b → a ≡ b
count_once text a b (inl h) (inl k) = break_once text a b h k
count_once text a b (inl h) (inr k) = absurd (accepted_once text a (text_of_design text k.0 k.1) h)
count_once text a b (inr h) (inl k) = absurd (accepted_once text b (text_of_design text h.0 h.1) k)
count_once text a b (inr h) (inr k) =
    exceeds_once (instrumented k.0) a b (subst (λ (d : PlainDesign). IsFirstOf 7 (instrumented d) a) (one_design text h.0 k.0 h.1 k.1) h.2) k.2

-- and one whose instrumented design keeps the limits is not refused
pub counted_once : (text : List ℕ) (d : PlainDesign) (told : Diagnostic) → IsDesignOf text d → KeepsStage 7 (instrumented d) → CountBreak text told → ⊥
counted_once text d told is keeps (inl h) = accepted_once text told (text_of_design text d is) h
counted_once text d told is keeps (inr h) =
    none_exceeded (instrumented d) told keeps (subst (λ (e : PlainDesign). IsFirstOf 7 (instrumented e) told) (one_design text h.0 d h.1 is) h.2)

-- THE DESIGN OF A TEXT can be counted
pub text_counts : (text : List ℕ) (d : PlainDesign) → IsDesignOf text d → ∥ IsDesign d ∥₁ → CanCount d
text_counts text d h keeps =
    let can = text_flattens text d h (few_parts d keeps) in
    record {
      flattens = can;
      guards = design_parts h.0 d h.3;
      words = λ cell i external. design_words text d h d.main can.design.main_there cell i;
    }

-- WHAT IS RUN of its instrumented design
module _ (d e : PlainDesign) (can : CanCount d) (same : e ≡ instrumented d) (keeps : ∥ IsDesign e ∥₁) (accepted : IsAccepted (instrumented d)) where
  pub few_new : design_size (instrumented d) < 2 ^ 32
  few_new = subst (λ (x : PlainDesign). design_size x < 2 ^ 32) same (few_parts e keeps)

  pub new_flattens : CanBeFlattened (instrumented d)
  new_flattens = flattens d can.flattens few_new accepted

  pub made_flattens : CanBeFlattened e
  made_flattens = subst CanBeFlattened (sym same) new_flattens
