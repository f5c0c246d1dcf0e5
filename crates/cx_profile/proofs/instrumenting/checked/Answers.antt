use Rattle.cx_design.specs.PlainDesigns.{plain_design}
use Rattle.cx_profile.proofs.LimitLemmas.{limit_is, limit_told, none_exceeded}
use Rattle.cx_profile.proofs.instrumenting.checked.Goals as goal

pub returns-in-Ok-clause-all_limits : goal.returns-in-Ok-clause-all_limits
returns-in-Ok-clause-all_limits c told b = none_exceeded (plain_design c.args.made.design) told c.in-Ok.ensures.ok b

pub returns-in-Err-clause-limit : goal.returns-in-Err-clause-limit
returns-in-Err-clause-limit c = limit_is (plain_design c.args.made.design) c.in-Err.refusal c.in-Err.ensures.rule

pub returns-in-Err-clause-all_limits : goal.returns-in-Err-clause-all_limits
returns-in-Err-clause-all_limits c told b =
    limit_told (plain_design c.args.made.design) told c.in-Err.refusal (limit_is (plain_design c.args.made.design) c.in-Err.refusal c.in-Err.ensures.rule) b
