use Rattle.std.proofs.Common.{sym, ◌∙◌}
use Rattle.cx_text.specs.Loading.{plain_loaded, words_loaded}
use Rattle.cx_design.specs.PlainDesigns.{plain_design}
use Rattle.cx_state.specs.States.{plain_state}
use Rattle.cx_meaning.specs.Running.{run_main}
use Rattle.cx_driver.specs.Leaving.{plain_left}
use Rattle.cx_driver.proofs.RanLemmas.{ended, faulted, unfinished, fault_within, run_leaves, fault_stops, more_stops}
use Rattle.cx_driver.proofs.interpreting.end.Goals as goal

pub returns-in-End : goal.returns-in-End
returns-in-End c =
    let d = plain_design c.args.design.now in
    let memories = plain_loaded c.args.loaded in
    let words = words_loaded memories in
    let own = ended d (plain_state c.args.ran.now.state) c.args.ran.now.answer (run_main d words c.args.turns) c.in-End.ended c.requires.run.answered (sym c.answer.ensures ∙ c.in-End.is) in
    record {
      answer = run_leaves d memories c.args.turns c.in-End.ended own.0 (plain_left c.finished.result) own.1 c.finished.ensures.count (c.finished.ensures.words words c.args.turns own.0 c.requires.run own.1);
      ready = c.finished.ensures.ready;
      cause = tt;
    }

pub faulted-requires : goal.faulted-requires
faulted-requires c =
    let d = plain_design c.args.design.now in
    let own = faulted d (plain_state c.args.ran.now.state) c.args.ran.now.answer (run_main d (words_loaded (plain_loaded c.args.loaded)) c.args.turns) c.in-Fault.fault c.in-Fault.turn c.requires.run.answered (sym c.answer.ensures ∙ c.in-Fault.is) in
    record { instance = fault_within d own.0 c.in-Fault.fault own.1 }

pub returns-in-Fault : goal.returns-in-Fault
returns-in-Fault c =
    let d = plain_design c.args.design.now in
    let memories = plain_loaded c.args.loaded in
    let own = faulted d (plain_state c.args.ran.now.state) c.args.ran.now.answer (run_main d (words_loaded memories) c.args.turns) c.in-Fault.fault c.in-Fault.turn c.requires.run.answered (sym c.answer.ensures ∙ c.in-Fault.is) in
    record {
      answer = tt;
      ready = tt;
      cause = fault_stops d memories c.args.turns c.in-Fault.turn own.0 c.faulted.result own.2 (c.faulted.ensures own.0 own.1);
    }

pub returns-in-More : goal.returns-in-More
returns-in-More c =
    let d = plain_design c.args.design.now in
    let memories = plain_loaded c.args.loaded in
    record {
      answer = tt;
      ready = tt;
      cause = more_stops d memories c.args.turns (unfinished d (plain_state c.args.ran.now.state) c.args.ran.now.answer (run_main d (words_loaded memories) c.args.turns) c.requires.run.answered (sym c.answer.ensures ∙ c.in-More.is));
    }
