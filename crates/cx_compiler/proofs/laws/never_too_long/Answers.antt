use Rattle.cx_compiler.proofs.RunLayers as lemmas
use Rattle.cx_compiler.proofs.laws.never_too_long.Goals as goal

pub returns : goal.returns
returns c =
    let run = c.what_is_run_is_accepted.ensures in
    lemmas.never_too_long (record { flat = c.what_is_run_is_flat.ensures.flat; design = run.design; accepted = run.accepted; size = run.size })
