use Rattle.cx_compiler.proofs.TextLemmas.{accepted_once, accepted_stop, text_of_design, text_stop}
use Rattle.cx_compiler.proofs.accepting.check_text.Goals as goal

pub returns-in-Ok : goal.returns-in-Ok
returns-in-Ok c =
    let accepted = text_of_design c.args.text.now _ c.in-Ok.ensures.design in
    record {
      accepted = accepted;
      cause = tt;
      all_answers = λ is. tt;
      all_refusals = λ told b. accepted_once c.args.text.now told accepted b;
    }

pub returns : goal.returns
returns c = record {
  accepted = tt;
  cause = c.in-Err.ensures.cause;
  all_answers = λ is. accepted_stop c.args.text.now c.in-Err.stop is c.in-Err.ensures.cause;
  all_refusals = λ told b. text_stop c.args.text.now told c.in-Err.stop b c.in-Err.ensures.cause;
}
