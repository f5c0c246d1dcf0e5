use Rattle.std.proofs.Common.{[], Err, sym, subst}
use Rattle.cx_design.specs.PlainDesigns.{plain_design}
use Rattle.cx_rules.specs.Accepted.{IsAccepted}
use Rattle.cx_compiler.proofs.RunLayers.{RunLaws}
use Rattle.cx_compiler.proofs.TextLayers.{text_flattens}
use Rattle.cx_compiler.proofs.Once.{Told, all_answered, all_stopped}
use Rattle.cx_driver.specs.Weaving.{IsWeaveStop, Weaves}
use Rattle.cx_driver.proofs.ListLemmas.{lists_end}
use Rattle.cx_driver.proofs.OrderLemmas.{never_faults}
use Rattle.cx_driver.proofs.WovenLemmas.{one_woven, text_woven, text_stops, refused_stops}
use Rattle.cx_driver.proofs.weaving.weave.Goals as goal

pub weave_design-requires : goal.weave_design-requires
weave_design-requires c = record { flat = c.in-Ok.ensures.run.flat; some = c.requires.some }

pub returns-in-Ok : goal.returns-in-Ok
returns-in-Ok c =
    let text = c.args.text.now in
    let json = c.args.json.now in
    let steps = c.args.steps in
    let list = c.args.list.now in
    let does : Told → Type 0 = Weaves text json steps list in
    let d = plain_design c.in-Ok.run' in
    let is = c.in-Ok.ensures.run in
    let run = c.what_is_run_is_accepted.ensures in
    let laws : RunLaws = record { flat = c.what_is_run_is_flat.ensures.flat; design = run.design; accepted = run.accepted; size = run.size } in
    let accepted = subst IsAccepted (sym is.is) (laws.accepted is.design (text_flattens text is.design is.stands is.few)) in
    let r = c.weave_design.result in
    let answer = text_woven text json steps list (λ v. v.items) d r is c.weave_design.ensures.answer in
    let cause = text_stops text json steps list d r is c.weave_design.ensures.cause in
    record {
      answer = answer;
      cause = cause;
      no_fault = never_faults c.none_ends.ensures d c.in-Ok.run'.keeps accepted list (λ v. v.items) text json steps r is c.weave_design.ensures.answer;
      every_list = lists_end c.orders_end.ensures laws c.accepted_texts_run_as_meant.ensures text json;
      all_answers = λ bytes i. all_answered (λ v. v.items) does does (one_woven text json steps list) r answer cause bytes i;
      all_stops = λ why i. all_stopped (λ v. v.items) does does (one_woven text json steps list) r answer cause why i;
    }

pub returns-in-Err : goal.returns-in-Err
returns-in-Err c =
    let text = c.args.text.now in
    let run = c.what_is_run_is_accepted.ensures in
    let laws : RunLaws = record { flat = c.what_is_run_is_flat.ensures.flat; design = run.design; accepted = run.accepted; size = run.size } in
    let json = c.args.json.now in
    let steps = c.args.steps in
    let list = c.args.list.now in
    let does : Told → Type 0 = Weaves text json steps list in
    let cause : IsWeaveStop text json steps list c.in-Err.stop = refused_stops text json steps list c.in-Err.stop c.in-Err.ensures.cause in
    record {
      answer = tt;
      cause = cause;
      no_fault = tt;
      every_list = lists_end c.orders_end.ensures laws c.accepted_texts_run_as_meant.ensures text json;
      all_answers = λ bytes i. all_answered {X = Unit {0}} (λ _. []) does does (one_woven text json steps list) (Err c.in-Err.stop) tt cause bytes i;
      all_stops = λ why i. all_stopped {X = Unit {0}} (λ _. []) does does (one_woven text json steps list) (Err c.in-Err.stop) tt cause why i;
    }
