use Rattle.std.proofs.Common.{inl}
use Rattle.cx_design.specs.PlainDesigns.{plain_design}
use Rattle.cx_compiler.proofs.RunLayers.{RunLaws}
use Rattle.cx_driver.proofs.CountLemmas.{made_flattens}
use Rattle.cx_driver.proofs.InstrumentLemmas.{design_instrumented, design_over, emits, keeps_rules}
use Rattle.cx_driver.proofs.instrumenting.instrument_design.Goals as goal

pub compile_accepted-requires : goal.compile_accepted-requires
compile_accepted-requires c =
    let d = plain_design c.args.design.now in
    let e = plain_design c.in-Ok.profiled.design in
    let own = c.in-Ok.ensures in
    let keeps = c.in-Ok.profiled.design.keeps in
    let run = c.what_is_run_is_accepted.ensures in
    let laws : RunLaws = record { flat = c.what_is_run_is_flat.ensures.flat; design = run.design; accepted = run.accepted; size = run.size } in
    record {
      flattens = made_flattens d e c.requires.counted own.design keeps own.accepted;
      rules = keeps_rules d e c.requires.counted own.design keeps own.accepted laws;
      net = emits d e c.requires.counted own.design keeps own.accepted laws;
    }

pub returns-in-Ok : goal.returns-in-Ok
returns-in-Ok c =
    let d = plain_design c.args.design.now in
    let e = plain_design c.in-Ok.profiled.design in
    let own = c.in-Ok.ensures in
    let keeps = c.in-Ok.profiled.design.keeps in
    let run = c.what_is_run_is_accepted.ensures in
    let laws : RunLaws = record { flat = c.what_is_run_is_flat.ensures.flat; design = run.design; accepted = run.accepted; size = run.size } in
    let r = c.compile_accepted.result in
    record {
      answer = design_instrumented d e c.requires.counted own.design keeps own.accepted laws c.sources_realise_always.ensures (λ v. v.items) r c.compile_accepted.ensures.meaning c.compile_accepted.ensures.answer;
      cause = design_over d e c.requires.counted own.design keeps own.accepted laws r c.compile_accepted.ensures.cause;
    }

pub returns-in-Err : goal.returns-in-Err
returns-in-Err c = record { answer = tt; cause = inl c.in-Err.ensures.limit }
