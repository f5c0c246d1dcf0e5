-- WHAT IS RUN of an instrumented design can be compiled, and what spells its source is its text.
use Rattle.std.proofs.Common.{ℕ, ◌^◌, ◌<◌, ◌≤◌, List, arith}
use Rattle.cx_text.specs.declared.limits.TheConstants.{COMPILE_SIZE}
use Rattle.cx_meaning.specs.Designs.{PlainDesign}
use Rattle.cx_rules.specs.Accepted.{IsAccepted}
use Rattle.cx_rules.specs.Counts.{counted_design_size}
use Rattle.cx_rules.specs.Sizes.{design_size}
use Rattle.cx_compiler.specs.Runnable.{CanBeFlattened, runnable}
use Rattle.cx_compiler.proofs.RunnableLemmas.{by_static}
use Rattle.cx_emitted.proofs.SourceResets.{source_reset}
use Rattle.cx_emitted.specs.ScriptLaws.{SourcesRealiseAlways}
use Rattle.cx_emitted.specs.ByteLaws.{HasGuards}
use Rattle.cx_compiler.specs.Compiled.{IsRealised, IsRunWritten, IsTextOf, KeepsRules, RunEmitsWithin, written_net, written_source}
use Rattle.cx_compiler.proofs.FlatGuards.{flat_has_guards}
use Rattle.cx_compiler.proofs.FlatWords.{flat_has_words}
use Rattle.cx_compiler.proofs.RunLayers.{CanBeCompiled, RunLaws, can_bytes, can_emitted, can_nets, run_keeps_rules}
use Rattle.cx_compiler.proofs.WrittenCells.{written_cells}
use Rattle.cx_compiler.specs.Words.{HasWords}
use Rattle.cx_compiler.proofs.WrittenShape.{written_shape, written_names}
use Rattle.cx_compiler.proofs.WrittenUses.{written_used}
use Rattle.cx_profiling.specs.Instrumented.{instrumented}
use Rattle.cx_profiling.proofs.DesignLemmas.{instrumented_keeps}
use Rattle.cx_compiler.proofs.KeptEnds.{none_names_done}
use Rattle.cx_compiler.proofs.KeptNames.{plain_names_kept}
use Rattle.cx_compiler.proofs.KeptParts.{keeps_guards, keeps_words}

module _ (d : PlainDesign) (can : CanBeFlattened d) (few : design_size (instrumented d) < 2 ^ 32) (accepted : IsAccepted (instrumented d)) where
  -- it can be flattened
  pub flattens : CanBeFlattened (instrumented d)
  flattens = record { design = instrumented_keeps d can.design few; accepted = accepted; undone = none_names_done d can.design can.undone; plain = plain_names_kept d can.design can.plain few }

  module _ (laws : RunLaws) where
    pub run_rules : KeepsRules (runnable (instrumented d))
    run_rules = run_keeps_rules laws (instrumented d) flattens

    module _ (guards : HasGuards d) (words : HasWords d) where
      new_guards : HasGuards (instrumented d)
      new_guards = keeps_guards d can.design guards

      new_words : HasWords (instrumented d)
      new_words = keeps_words d can.design few words

      can_compile : counted_design_size (instrumented d) ≤ COMPILE_SIZE → CanBeCompiled (runnable (instrumented d))
      can_compile within = record {
        design = laws.design (instrumented d) flattens;
        flat = laws.flat (instrumented d);
        accepted = laws.accepted (instrumented d) flattens;
        guards = by_static (instrumented d) HasGuards (flat_has_guards (instrumented d) new_guards) (λ flat. new_guards);
        words = by_static (instrumented d) HasWords (flat_has_words (instrumented d) flattens.design new_words) (λ flat. new_words);
        within = let small = laws.size (instrumented d) flattens in omega (arith, small, within);
      }

      pub run_emits : RunEmitsWithin (instrumented d)
      run_emits within = can_emitted (runnable (instrumented d)) (can_compile within)

      pub run_text : SourcesRealiseAlways → IsRealised (runnable (instrumented d)) → (answer : List ℕ) → IsRunWritten (instrumented d) answer → IsTextOf (runnable (instrumented d)) answer
      run_text always realised answer h =
          let e = runnable (instrumented d) in
          let own = can_compile h.0 in
          record {
            source = written_source e;
            spelled = h.1;
            realises = realised own.design own.flat own.accepted;
            always = always e own.design own.flat own.accepted h.1.sound;
            reset = source_reset (written_net e);
            shape = written_shape e own.design own.flat own.accepted h.1.sound;
            cells = written_cells e own.design own.flat own.accepted;
            used = written_used e own.design own.flat own.accepted h.1.sound;
            names = written_names e;
            nets = can_nets e own;
            small = λ shallow. can_bytes e own answer h.1 shallow;
          }
