use Rattle.std.proofs.Common.{sym, ◌∙◌}
use Rattle.cx_text.specs.Loading.{plain_loaded}
use Rattle.cx_vtree.specs.PlainSources.{plain_source}
use Rattle.cx_driver.specs.Leaving.{plain_left}
use Rattle.cx_driver.proofs.SimLemmas.{done_is_done, run_leaves, loop_stops, more_stops}
use Rattle.cx_driver.proofs.simulating.end.Goals as goal

pub finished-requires-clause-done : goal.finished-requires-clause-done
finished-requires-clause-done c = done_is_done c.args.ran.now.outcome c.in-Done.cycle (sym c.answer.ensures.value ∙ c.in-Done.is)

pub returns-in-Done : goal.returns-in-Done
returns-in-Done c = record {
  answer = run_leaves (plain_source c.args.source.now) (plain_loaded c.args.loaded) c.args.cycles c.in-Done.cycle c.args.ran.now.outcome (plain_left c.finished.result) (sym c.answer.ensures.value ∙ c.in-Done.is) c.requires.run c.finished.ensures.count c.finished.ensures.words;
  ready = c.finished.ensures.ready;
  cause = tt;
}

pub returns-in-Loop : goal.returns-in-Loop
returns-in-Loop c = record {
  answer = tt;
  ready = tt;
  cause = loop_stops (plain_source c.args.source.now) (plain_loaded c.args.loaded) c.args.cycles c.in-Loop.instance c.in-Loop.net c.args.ran.now.outcome c.looped.result (sym c.answer.ensures.value ∙ c.in-Loop.is) c.requires.run c.looped.ensures;
}

pub returns-in-More : goal.returns-in-More
returns-in-More c = record {
  answer = tt;
  ready = tt;
  cause = more_stops (plain_source c.args.source.now) (plain_loaded c.args.loaded) c.args.cycles c.args.ran.now.outcome (sym c.answer.ensures.value ∙ c.in-More.is) c.requires.run;
}
