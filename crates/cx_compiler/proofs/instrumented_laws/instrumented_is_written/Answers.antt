use Rattle.cx_profiling.proofs.AcceptedStages.{accepted_kept}
use Rattle.cx_compiler.proofs.RunLayers.{RunLaws}
use Rattle.cx_compiler.proofs.KeptTexts.{flattens, run_emits, run_text}
use Rattle.cx_compiler.proofs.instrumented_laws.instrumented_is_written.Goals as goal

pub returns : goal.returns
returns c =
    let run = c.what_is_run_is_accepted.ensures in
    let laws : RunLaws = record { flat = c.what_is_run_is_flat.ensures.flat; design = run.design; accepted = run.accepted; size = run.size } in
    record {
      flattens = λ d can few limits. flattens d can few (accepted_kept d can.design can.accepted limits);
      emitted = λ d can few limits guards words. run_emits d can few (accepted_kept d can.design can.accepted limits) laws guards words;
      text = λ d can few limits guards words realised answer h. run_text d can few (accepted_kept d can.design can.accepted limits) laws guards words c.sources_realise_always.ensures realised answer h;
    }
