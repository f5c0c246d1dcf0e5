use Rattle.cx_vtree.specs.PlainSources.{plain_source}
use Rattle.cx_driver.specs.Leaving.{plain_left}
use Rattle.cx_driver.proofs.SimLemmas.{sim_stops, text_leaves, unread_stops}
use Rattle.cx_driver.proofs.simulating.simulate.Goals as goal

pub returns-in-Ok : goal.returns-in-Ok
returns-in-Ok c =
    let s = plain_source c.in-Ok.source in
    let r = c.run_source.result in
    record {
      answer = text_leaves plain_left c.args.verilog.now c.args.json.now s c.args.cycles r c.in-Ok.ensures.source c.run_source.ensures.answer;
      ready = c.run_source.ensures.ready;
      cause = sim_stops c.args.verilog.now c.args.json.now s c.args.cycles r c.in-Ok.ensures.source c.run_source.ensures.cause;
    }

pub returns-in-Err : goal.returns-in-Err
returns-in-Err c = record {
  answer = tt;
  ready = tt;
  cause = unread_stops c.args.verilog.now c.args.json.now c.args.cycles c.in-Err.stop c.in-Err.ensures.cause;
}
