use Rattle.cx_design.specs.PlainDesigns.{plain_design}
use Rattle.cx_check.proofs.Verdicts.{none_first, first_told}
use Rattle.cx_check.proofs.checking.check.Goals as goal

pub returns-in-Ok-clause-all_refusals : goal.returns-in-Ok-clause-all_refusals
returns-in-Ok-clause-all_refusals c told b = none_first (plain_design c.args.design) told c.in-Ok.ensures.accepted b

pub returns-in-Err-clause-all_refusals : goal.returns-in-Err-clause-all_refusals
returns-in-Err-clause-all_refusals c told b = first_told (plain_design c.args.design) told c.in-Err.refusal b c.in-Err.ensures.rule
