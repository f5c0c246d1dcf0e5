use Rattle.cx_design.specs.PlainDesigns.{plain_design}
use Rattle.cx_driver.specs.Leaving.{plain_left}
use Rattle.cx_driver.proofs.TrialLemmas.{unleft}
use Rattle.cx_driver.proofs.trying.try_design.Goals as goal

pub try_text-requires-clause-ends : goal.try_text-requires-clause-ends
try_text-requires-clause-ends c = (plain_left c.in-Ok.field-0, c.in-Ok.ensures.answer)

pub returns : goal.returns
returns c = record { answer = tt; cause = unleft c.args.seed (plain_design c.args.design.now) c.in-Err.stop c.in-Err.ensures.cause }
