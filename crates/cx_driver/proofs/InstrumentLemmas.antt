-- What `instrument` does with a text is one thing.
use Rattle.std.proofs.Common.{◌≡◌, ◌⊎◌, inl, inr, ℕ, ◌^◌, ◌<◌, ◌≤◌, List, Result, Ok, Err, IfOk, IfErr, MatchResult, refl, sym, ap, ◌∙◌, subst, arith}
use Rattle.cx_text.specs.declared.diagnostics.Diagnostic.{Diagnostic}
use Rattle.cx_text.specs.declared.limits.TheConstants.{COMPILE_SIZE}
use Rattle.cx_meaning.specs.Designs.{PlainDesign}
use Rattle.cx_rules.specs.Accepted.{IsAccepted, KeepsStage}
use Rattle.cx_rules.specs.Counts.{counted_design_size}
use Rattle.cx_rules.specs.Sizes.{design_size}
use Rattle.cx_rules.specs.Wellformed.{IsDesign}
use Rattle.cx_profiling.specs.Instrumented.{instrumented}
use Rattle.cx_emitted.specs.ScriptLaws.{SourcesRealiseAlways}
use Rattle.cx_compiler.specs.Runnable.{runnable}
use Rattle.cx_compiler.proofs.KeptTexts.{run_emits, run_rules, run_text}
use Rattle.cx_commands.specs.Statuses.{status_of}
use Rattle.cx_commands.specs.declared.refusals.Refusal.TheVariants as refusals
use Rattle.cx_commands.specs.declared.stops.Stop.{Stop}
use Rattle.cx_commands.specs.declared.stops.Stop.TheVariants as stops
use Rattle.cx_compiler.specs.Compiled.{IsRealised, IsRunTooLarge, IsRunWritten, KeepsRules, RunEmitsWithin, counted_too_large}
use Rattle.cx_compiler.specs.Texts.{IsDesignOf, IsTextRefusal}
use Rattle.cx_compiler.proofs.RunLayers.{RunLaws}
use Rattle.cx_compiler.proofs.TextLemmas.{one_design}
use Rattle.cx_driver.specs.Counting.{CanCount}
use Rattle.cx_driver.specs.Instrumenting.{InstrumentBreak, Instruments, IsInstrumentable, IsInstrumented, IsInstrumentedDesign, IsInstrumentedStop, IsInstrumentStop, IsTooLargeToCount}
use Rattle.cx_driver.proofs.CountLemmas.{count_once, counted_once, few_new}

-- an instrumented design is not within the size and over it
over_once : (text : List ℕ) (d : PlainDesign) (told : Diagnostic) → IsDesignOf text d → counted_design_size (instrumented d) ≤ COMPILE_SIZE → IsTooLargeToCount text told → ⊥
over_once text d told is within h =
    let same : counted_design_size (instrumented d) ≡ counted_design_size (instrumented h.0) = ap (λ x. counted_design_size (instrumented x)) (one_design text d h.0 is h.1) in
    let over = h.3 in
    omega (arith, same, within, over)

fits_not_refused : (text : List ℕ) (d : PlainDesign) (told : Diagnostic) → IsDesignOf text d → KeepsStage 7 (instrumented d) → counted_design_size (instrumented d) ≤ COMPILE_SIZE → InstrumentBreak text told → ⊥
fits_not_refused text d told is keeps within (inl h) = counted_once text d told is keeps h
fits_not_refused text d told is keeps within (inr h) = over_once text d told is within h

pub instrumentable_once : (text : List ℕ) (stop : Stop) → IsInstrumentable text → Instruments text (Err stop) → ⊥
instrumentable_once text stop can k = fits_not_refused text can.0 k.0 can.1 can.2 can.3 k.1

pub instruments_once : (text answer : List ℕ) (stop : Stop) → Instruments text (Ok answer) → Instruments text (Err stop) → ⊥
instruments_once text answer stop h k = fits_not_refused text h.design k.0 h.stands h.accepted.limits h.within k.1

pub instruments_status : (text other : List ℕ) (a b : Stop) → Instruments text (Err a) → Instruments other (Err b) → status_of (refusals.Stop a) ≡ status_of (refusals.Stop b)
instruments_status text other a b h k = ap (λ stop. status_of (refusals.Stop stop)) h.2 ∙ sym (ap (λ stop. status_of (refusals.Stop stop)) k.2)

-- what a text is refused for is one rule
pub one_break : (text : List ℕ) (a b : Diagnostic) → InstrumentBreak text a → InstrumentBreak text b → a ≡ b
one_break text a b (inl h) (inl k) = count_once text a b h k
one_break text a b (inl h) (inr k) = absurd (counted_once text k.0 a k.1 k.2 h)
one_break text a b (inr h) (inl k) = absurd (counted_once text h.0 b h.1 h.2 k)
one_break text a b (inr h) (inr k) = h.4 ∙ ap (λ d. counted_too_large (instrumented d)) (one_design text h.0 k.0 h.1 k.1) ∙ sym k.4

instrument_stop : (text : List ℕ) (told : Diagnostic) (stop : Stop) → InstrumentBreak text told → IsInstrumentStop text stop → (stop ≡ stops.Memory) ⊎ (stop ≡ stops.Rule told)
instrument_stop text told stop b (inl memory) = inl memory
instrument_stop text told stop b (inr own) = inr (own.2 ∙ ap (λ d. stops.Rule d) (one_break text own.0 told own.1 b))

-- from a text that is refused
pub refused_instrument : (text : List ℕ) (stop : Stop) → IsTextRefusal text stop → IsInstrumentStop text stop
refused_instrument text stop (inl memory) = inl memory
refused_instrument text stop (inr h) = inr (h.0, inl (inl h.1), h.2)

module _ {X : Type 0} (bytes : X → List ℕ) (text : List ℕ) where
  -- from a design to its text
  pub text_instrumented : (d : PlainDesign) (r : Result X Stop) → IsDesignOf text d → IfOk r (λ x. IsInstrumentedDesign d (bytes x)) → IfOk r (λ x. IsInstrumented text (bytes x))
  text_instrumented d (Ok x) is h = record { design = d; stands = is; accepted = h.0; within = h.1; written = h.2; exact = h.3 }
  text_instrumented d (Err stop) is h = tt

  pub text_instrument_stops : (d : PlainDesign) (r : Result X Stop) → IsDesignOf text d → IfErr r (IsInstrumentedStop d) → IfErr r (IsInstrumentStop text)
  text_instrument_stops d (Ok x) is h = tt
  text_instrument_stops d (Err stop) is (inl (inl memory)) = inl memory
  text_instrument_stops d (Err stop) is (inl (inr h)) = inr (h.0, inl (inr (d, is, h.1)), h.2)
  text_instrument_stops d (Err stop) is (inr (keeps, inl memory)) = inl memory
  text_instrument_stops d (Err stop) is (inr (keeps, inr h)) = inr (counted_too_large (instrumented d), inr (d, is, keeps, h.0, refl), h.1)

  -- a text that can be instrumented is, and one that is refused is told, unless memory is wanting
  pub all_instrumented : (r : Result X Stop) → IfErr r (IsInstrumentStop text) → IsInstrumentable text → MatchResult r (λ _. Unit {0}) (λ stop. stop ≡ stops.Memory)
  all_instrumented (Ok x) cause can = tt
  all_instrumented (Err stop) (inl memory) can = memory
  all_instrumented (Err stop) (inr h) can = absurd (instrumentable_once text stop can h)

  pub all_refused : (r : Result X Stop) → IfOk r (λ x. IsInstrumented text (bytes x)) → IfErr r (IsInstrumentStop text) → (told : Diagnostic) → InstrumentBreak text told
      → MatchResult r (λ _. ⊥) (λ stop. (stop ≡ stops.Memory) ⊎ (stop ≡ stops.Rule told))
  all_refused (Ok x) answer cause told b = fits_not_refused text answer.design told answer.stands answer.accepted.limits answer.within b
  all_refused (Err stop) answer cause told b = instrument_stop text told stop b cause

-- THE TEXT of what is run of an instrumented design
module _ (d e : PlainDesign) (can : CanCount d) (same : e ≡ instrumented d) (keeps : ∥ IsDesign e ∥₁) (accepted : IsAccepted (instrumented d)) (laws : RunLaws) where
  few : design_size (instrumented d) < 2 ^ 32
  few = few_new d e can same keeps accepted

  pub keeps_rules : KeepsRules (runnable e)
  keeps_rules = subst (λ (x : PlainDesign). KeepsRules (runnable x)) (sym same) (run_rules d can.flattens few accepted laws)

  pub emits : RunEmitsWithin e
  emits = subst RunEmitsWithin (sym same) (run_emits d can.flattens few accepted laws can.guards can.words)

  pub design_instrumented : SourcesRealiseAlways → {X : Type 0} (bytes : X → List ℕ) (r : Result X Stop) → IfOk r (λ _. IsRealised (runnable e)) → IfOk r (λ x. IsRunWritten e (bytes x)) → IfOk r (λ x. IsInstrumentedDesign d (bytes x))
  design_instrumented always bytes (Ok x) realised h =
      let own = subst (λ (c : PlainDesign). IsRunWritten c (bytes x)) same h in
      let runs = subst (λ (c : PlainDesign). IsRealised (runnable c)) same realised in
      (accepted, own.0, run_text d can.flattens few accepted laws can.guards can.words always runs (bytes x) own, own.1.spelled)
  design_instrumented always bytes (Err stop) realised h = tt

  pub design_over : {X : Type 0} (r : Result X Stop) → IfErr r (IsRunTooLarge e) → IfErr r (IsInstrumentedStop d)
  design_over (Ok x) h = tt
  design_over (Err stop) h = inr (accepted.limits, subst (λ (c : PlainDesign). IsRunTooLarge c stop) same h)
