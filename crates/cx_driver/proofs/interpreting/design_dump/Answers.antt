use Rattle.cx_design.specs.PlainDesigns.{plain_design}
use Rattle.cx_driver.specs.Leaving.{plain_left}
use Rattle.cx_driver.proofs.InterpLemmas.{left_dumped, left_stopped}
use Rattle.cx_driver.proofs.interpreting.design_dump.Goals as goal

pub returns-in_ok-dump-in-Ok : goal.returns-in_ok-dump-in-Ok
returns-in_ok-dump-in-Ok c = record {
  answer = left_dumped (plain_design c.args.design.now) c.args.json.now c.args.turns (plain_left c.in-Ok.left) c.in_ok-dump-in-Ok.dump.items c.in-Ok.ensures.answer c.in_ok-dump-in-Ok.ensures;
  cause = tt;
}

pub returns-in-Err : goal.returns-in-Err
returns-in-Err c = record {
  answer = tt;
  cause = left_stopped (plain_design c.args.design.now) c.args.json.now c.args.turns c.in-Err.stop c.in-Err.ensures.cause;
}
