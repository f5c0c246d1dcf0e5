use Rattle.std.proofs.Common.{[], Err}
use Rattle.cx_design.specs.PlainDesigns.{plain_design}
use Rattle.cx_driver.specs.Instrumenting.{IsInstrumentStop}
use Rattle.cx_driver.proofs.CountLemmas.{text_counts}
use Rattle.cx_driver.proofs.InstrumentLemmas.{all_instrumented, all_refused, refused_instrument, text_instrumented, text_instrument_stops}
use Rattle.cx_driver.proofs.instrumenting.instrument.Goals as goal

pub instrument_design-requires : goal.instrument_design-requires
instrument_design-requires c = record { counted = text_counts c.args.text.now (plain_design c.in-Ok.design) c.in-Ok.ensures.design c.in-Ok.design.keeps }

pub returns-in-Ok : goal.returns-in-Ok
returns-in-Ok c =
    let text = c.args.text.now in
    let d = plain_design c.in-Ok.design in
    let r = c.instrument_design.result in
    let answer = text_instrumented (λ v. v.items) text d r c.in-Ok.ensures.design c.instrument_design.ensures.answer in
    let cause = text_instrument_stops (λ v. v.items) text d r c.in-Ok.ensures.design c.instrument_design.ensures.cause in
    record {
      answer = answer;
      cause = cause;
      all_answers = λ can. all_instrumented (λ v. v.items) text r cause can;
      all_refusals = λ told b. all_refused (λ v. v.items) text r answer cause told b;
    }

pub returns-in-Err : goal.returns-in-Err
returns-in-Err c =
    let text = c.args.text.now in
    let cause : IsInstrumentStop text c.in-Err.stop = refused_instrument text c.in-Err.stop c.in-Err.ensures.cause in
    record {
      answer = tt;
      cause = cause;
      all_answers = λ can. all_instrumented {X = Unit {0}} (λ _. []) text (Err c.in-Err.stop) cause can;
      all_refusals = λ told b. all_refused {X = Unit {0}} (λ _. []) text (Err c.in-Err.stop) tt cause told b;
    }
