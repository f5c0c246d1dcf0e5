-- A text is compiled or refused, and not both; and what is told of it is one thing.
use Rattle.std.proofs.Common.{◌≡◌, ◌⊎◌, inl, inr, ℕ, ◌≤◌, ◌<◌, ◌^◌, List, Result, Ok, Err, IfOk, IfErr, MatchResult, refl, sym, ap, ◌∙◌, arith}
use Rattle.cx_text.specs.declared.diagnostics.Diagnostic.{Diagnostic}
use Rattle.cx_text.specs.declared.limits.TheConstants.{COMPILE_SIZE}
use Rattle.cx_meaning.specs.Designs.{PlainDesign}
use Rattle.cx_rules.specs.Counts.{counted_design_size}
use Rattle.cx_rules.specs.Sizes.{design_size}
use Rattle.cx_compiler.specs.Runnable.{runnable}
use Rattle.cx_commands.specs.declared.stops.Stop.{Stop}
use Rattle.cx_commands.specs.declared.stops.Stop.TheVariants as stops
use Rattle.cx_compiler.specs.Texts.{IsDesignOf, IsTextRefusal}
use Rattle.cx_compiler.specs.Compiled.{IsCompiled, IsCompilable, counted_too_large, CompileBreak, Compiles, IsCompileStop, IsRealised, IsRunTooLarge, IsRunWritten, written_net, written_source}
use Rattle.cx_compiler.specs.Promise.{KeepsPromise}
use Rattle.cx_emitted.proofs.SourceResets.{source_reset}
use Rattle.cx_emitted.specs.ScriptLaws.{SourcesRealiseAlways}
use Rattle.cx_compiler.proofs.MeantLemmas.{TextsRunAsMeant, text_runs}
use Rattle.cx_compiler.proofs.PromiseLemmas.{promise_is_kept}
use Rattle.cx_compiler.proofs.RunLayers.{RunLaws, can_bytes, can_nets, text_can}
use Rattle.cx_compiler.proofs.WrittenCells.{written_cells}
use Rattle.cx_compiler.proofs.WrittenShape.{written_shape, written_names}
use Rattle.cx_compiler.proofs.WrittenUses.{written_used}
use Rattle.cx_compiler.proofs.TextLemmas.{one_design, text_of_design, accepted_once, break_once}

-- an accepted text whose design is within the size is not refused
fits_not_refused : (text : List ℕ) (d : PlainDesign) (told : Diagnostic) → IsDesignOf text d → counted_design_size d ≤ COMPILE_SIZE → CompileBreak text told → ⊥
fits_not_refused text d told stands within (inl b) = accepted_once text told (text_of_design text d stands) b
fits_not_refused text d told stands within (inr b) =
    let same : counted_design_size d ≡ counted_design_size b.0 = ap (λ x. counted_design_size x) (one_design text d b.0 stands b.1) in
    let over = b.2 in
    omega (arith, same, within, over)

-- a text that can be compiled is not refused
pub compilable_once : (text : List ℕ) (stop : Stop) → IsCompilable text → Compiles text (Err stop) → ⊥
compilable_once text stop can k = fits_not_refused text can.0 k.0 can.1 can.2 k.1

-- what compile does with a text is one thing
pub compiles_once : (text answer : List ℕ) (stop : Stop) → Compiles text (Ok answer) → Compiles text (Err stop) → ⊥
compiles_once text answer stop h k = fits_not_refused text h.design k.0 h.stands h.within k.1

-- what a text is refused for is one rule, at one place, with one name
pub one_refusal : (text : List ℕ) (a b : Diagnostic) → CompileBreak text a → CompileBreak text b → a ≡ b
one_refusal text a b (inl h) (inl k) = break_once text a b h k
one_refusal text a b (inl h) (inr k) = absurd (accepted_once text a (text_of_design text k.0 k.1) h)
one_refusal text a b (inr h) (inl k) = absurd (accepted_once text b (text_of_design text h.0 h.1) k)
one_refusal text a b (inr h) (inr k) = h.3 ∙ ap counted_too_large (one_design text h.0 k.0 h.1 k.1) ∙ sym k.3

compile_stop : (text : List ℕ) (told : Diagnostic) (stop : Stop) → CompileBreak text told → IsCompileStop text stop → (stop ≡ stops.Memory) ⊎ (stop ≡ stops.Rule told)
compile_stop text told stop b (inl memory) = inl memory
compile_stop text told stop b (inr own) = inr (own.2 ∙ ap (λ d. stops.Rule d) (one_refusal text own.0 told own.1 b))

-- from a design to its text, by what the passes promise
pub text_written : {X : Type 0} (bytes : X → List ℕ) (laws : RunLaws) (meant : TextsRunAsMeant) (text : List ℕ) (d : PlainDesign) (r : Result X Stop)
    → IsDesignOf text d → design_size d < 2 ^ 32 → SourcesRealiseAlways → IfOk r (λ _. IsRealised (runnable d)) → IfOk r (λ x. IsRunWritten d (bytes x)) → IfOk r (λ x. IsCompiled text (bytes x))
text_written bytes laws meant text d (Ok x) stands few always realised h =
    let e = runnable d in
    let can = text_can laws text d stands few h.0 in
    record {
      design = d;
      stands = stands;
      few = few;
      within = h.0;
      runs = text_runs meant text d stands few;
      written = record {
        source = written_source e;
        spelled = h.1;
        realises = realised can.design can.flat can.accepted;
        always = always e can.design can.flat can.accepted h.1.sound;
        reset = source_reset (written_net e);
        shape = written_shape e can.design can.flat can.accepted h.1.sound;
        cells = written_cells e can.design can.flat can.accepted;
        used = written_used e can.design can.flat can.accepted h.1.sound;
        names = written_names e;
        nets = can_nets e can;
        small = λ shallow. can_bytes e can (bytes x) h.1 shallow;
      };
      exact = h.1.spelled;
    }
text_written bytes laws meant text d (Err stop) stands few always realised h = tt

-- and what is written of it keeps the promise
pub text_keeps : {X : Type 0} (bytes : X → List ℕ) (text : List ℕ) (r : Result X Stop) → IfOk r (λ x. IsCompiled text (bytes x)) → IfOk r (λ x. KeepsPromise text (bytes x))
text_keeps bytes text (Ok x) h = promise_is_kept text (bytes x) h
text_keeps bytes text (Err stop) h = tt

pub text_too_large : {X : Type 0} (text : List ℕ) (d : PlainDesign) (r : Result X Stop) → IsDesignOf text d → IfErr r (IsRunTooLarge d) → IfErr r (IsCompileStop text)
text_too_large text d (Ok x) stands h = tt
text_too_large text d (Err stop) stands (inl memory) = inl memory
text_too_large text d (Err stop) stands (inr h) = inr (counted_too_large d, inr (d, stands, h.0, refl), h.1)

-- from a text that is refused
pub refused_compile : (text : List ℕ) (stop : Stop) → IsTextRefusal text stop → IsCompileStop text stop
refused_compile text stop (inl memory) = inl memory
refused_compile text stop (inr h) = inr (h.0, inl h.1, h.2)

module _ {X : Type 0} (bytes : X → List ℕ) (text : List ℕ) where
  -- a text that can be compiled is, unless memory is wanting
  pub all_compiled : (r : Result X Stop) → IfErr r (IsCompileStop text) → IsCompilable text → MatchResult r (λ _. Unit {0}) (λ stop. stop ≡ stops.Memory)
  all_compiled (Ok x) k can = tt
  all_compiled (Err stop) (inl memory) can = memory
  all_compiled (Err stop) (inr own) can = absurd (fits_not_refused text can.0 own.0 can.1 can.2 own.1)

  -- and one that is refused is told so
  pub all_refused : (r : Result X Stop) → IfOk r (λ x. IsCompiled text (bytes x)) → IfErr r (IsCompileStop text) → (told : Diagnostic) → CompileBreak text told
      → MatchResult r (λ _. ⊥) (λ stop. (stop ≡ stops.Memory) ⊎ (stop ≡ stops.Rule told))
  all_refused (Ok x) h k told b = fits_not_refused text h.design told h.stands h.within b
  all_refused (Err stop) h k told b = compile_stop text told stop b k
