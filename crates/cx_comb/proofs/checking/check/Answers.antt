use Rattle.cx_design.specs.PlainDesigns.{plain_design}
use Rattle.cx_comb.proofs.checking.check.Goals as goal

pub returns-in-Ok : goal.returns-in-Ok
returns-in-Ok c =
    let r = c.in-Ok.ensures.value in
    record { answer = c.result.ensures.answer 5 (plain_design c.args.design.now) r.0 r.1 r.2 }
