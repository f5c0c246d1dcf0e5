use Rattle.std.proofs.Common.{[], Err}
use Rattle.cx_design.specs.PlainDesigns.{plain_design}
use Rattle.cx_compiler.specs.Compiled.{IsCompileStop}
use Rattle.cx_compiler.proofs.CompileLemmas.{all_compiled, all_refused, refused_compile, text_keeps, text_too_large, text_written}
use Rattle.cx_compiler.proofs.RunLayers.{RunLaws, run_keeps_rules, text_emits}
use Rattle.cx_compiler.proofs.TextLayers.{few_parts, text_flattens}
use Rattle.cx_compiler.proofs.compiling.compile.Goals as goal

pub compile_accepted-requires : goal.compile_accepted-requires
compile_accepted-requires c =
    let text = c.args.text.now in
    let d = plain_design c.in-Ok.design in
    let few = few_parts d c.in-Ok.design.keeps in
    let run = c.what_is_run_is_accepted.ensures in
    let laws : RunLaws = record { flat = c.what_is_run_is_flat.ensures.flat; design = run.design; accepted = run.accepted; size = run.size } in
    let flattens = text_flattens text d c.in-Ok.ensures.design few in
    record { flattens = flattens; rules = run_keeps_rules laws d flattens; net = text_emits laws text d c.in-Ok.ensures.design few }

pub returns-in-Ok : goal.returns-in-Ok
returns-in-Ok c =
    let text = c.args.text.now in
    let d = plain_design c.in-Ok.design in
    let r = c.compile_accepted.result in
    let few = few_parts d c.in-Ok.design.keeps in
    let run = c.what_is_run_is_accepted.ensures in
    let laws : RunLaws = record { flat = c.what_is_run_is_flat.ensures.flat; design = run.design; accepted = run.accepted; size = run.size } in
    let own = c.compile_accepted.ensures in
    let answer = text_written (λ v. v.items) laws c.accepted_texts_run_as_meant.ensures text d r c.in-Ok.ensures.design few c.sources_realise_always.ensures own.meaning own.answer in
    let cause = text_too_large text d r c.in-Ok.ensures.design own.cause in
    record {
      answer = answer;
      promise = text_keeps (λ v. v.items) text r answer;
      cause = cause;
      all_answers = λ can. all_compiled (λ v. v.items) text r cause can;
      all_refusals = λ told b. all_refused (λ v. v.items) text r answer cause told b;
    }

pub returns-in-Err : goal.returns-in-Err
returns-in-Err c =
    let text = c.args.text.now in
    let cause : IsCompileStop text c.in-Err.stop = refused_compile text c.in-Err.stop c.in-Err.ensures.cause in
    record {
      answer = tt;
      promise = tt;
      cause = cause;
      all_answers = λ can. all_compiled {X = Unit {0}} (λ _. []) text (Err c.in-Err.stop) cause can;
      all_refusals = λ told b. all_refused {X = Unit {0}} (λ _. []) text (Err c.in-Err.stop) tt cause told b;
    }
