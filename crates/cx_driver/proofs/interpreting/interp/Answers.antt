use Rattle.std.proofs.Common.{[], Err}
use Rattle.cx_design.specs.PlainDesigns.{plain_design}
use Rattle.cx_compiler.specs.Interpreted.{IsInterpStop, Interprets}
use Rattle.cx_compiler.proofs.Once.{Told, all_answered, all_stopped}
use Rattle.cx_driver.proofs.InterpLemmas.{one_result, text_answers, text_stops, refused_stops}
use Rattle.cx_driver.proofs.interpreting.interp.Goals as goal

pub design_dump-requires : goal.design_dump-requires
design_dump-requires c = record { flat = c.in-Ok.ensures.run.flat }

pub returns-in-Ok : goal.returns-in-Ok
returns-in-Ok c =
    let text = c.args.text.now in
    let json = c.args.json.now in
    let does : Told → Type 0 = Interprets text json c.args.turns in
    let d = plain_design c.in-Ok.run' in
    let r = c.design_dump.result in
    let answer = text_answers (λ v. v.items) text json d c.args.turns r c.in-Ok.ensures.run c.design_dump.ensures.answer in
    let cause = text_stops text json d c.args.turns r c.in-Ok.ensures.run c.design_dump.ensures.cause in
    record {
      answer = answer;
      cause = cause;
      all_answers = λ bytes i. all_answered (λ v. v.items) does does (one_result text json c.args.turns) r answer cause bytes i;
      all_stops = λ why i. all_stopped (λ v. v.items) does does (one_result text json c.args.turns) r answer cause why i;
    }

pub returns-in-Err : goal.returns-in-Err
returns-in-Err c =
    let text = c.args.text.now in
    let json = c.args.json.now in
    let does : Told → Type 0 = Interprets text json c.args.turns in
    let cause : IsInterpStop text json c.args.turns c.in-Err.stop = refused_stops text json c.args.turns c.in-Err.stop c.in-Err.ensures.cause in
    record {
      answer = tt;
      cause = cause;
      all_answers = λ bytes i. all_answered {X = Unit {0}} (λ _. []) does does (one_result text json c.args.turns) (Err c.in-Err.stop) tt cause bytes i;
      all_stops = λ why i. all_stopped {X = Unit {0}} (λ _. []) does does (one_result text json c.args.turns) (Err c.in-Err.stop) tt cause why i;
    }
