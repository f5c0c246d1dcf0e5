use Rattle.cx_compiler.specs.Runnable.{runnable}
use Rattle.cx_compiler.proofs.MeantLemmas.{run_of_text}
use Rattle.cx_compiler.proofs.RunLayers.{RunLaws}
use Rattle.cx_compile_tests.proofs.AlikeLemmas.{ends_alike, waits_alike, refused_alike}
use Rattle.cx_compile_tests.proofs.laws.comes_to.Goals as goal

pub returns-in-Ok : goal.returns-in-Ok
returns-in-Ok c =
    let text = c.args.text.now in
    let own = c.in-Ok.ensures.answer in
    let machines = c.machine_runs.ensures in
    let nets = c.design_is_realised.ensures in
    let kept = c.what_is_run_is_accepted.ensures in
    let laws : RunLaws = record { flat = c.what_is_run_is_flat.ensures.flat; design = kept.design; accepted = kept.accepted; size = kept.size } in
    let run = run_of_text c.accepted_texts_run_as_meant.ensures laws.flat text own.design own.stands own.few in
    record {
      ends = ends_alike laws text c.args.json.now c.args.budget (runnable own.design) run machines nets (λ v. v.items) c.interp.result c.interp.ensures.answer;
      waits = waits_alike laws text c.args.json.now c.args.budget (runnable own.design) run machines nets c.interp.result c.interp.ensures.cause;
    }

pub returns : goal.returns
returns c = record { ends = tt; waits = refused_alike c.args.text.now c.args.json.now c.args.budget c.in-Err.stop c.in-Err.ensures.cause }
