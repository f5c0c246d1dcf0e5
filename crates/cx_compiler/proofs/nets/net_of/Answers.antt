use Rattle.std.proofs.Common.{[], Err}
use Rattle.cx_text.specs.Loading.{plain_rows}
use Rattle.cx_design.specs.PlainDesigns.{plain_design}
use Rattle.cx_net.specs.NetsAsData.{plain_net}
use Rattle.cx_compiler.specs.Compiled.{IsCompileStop}
use Rattle.cx_compiler.proofs.CompileLemmas.{all_compiled, all_refused, refused_compile, text_too_large}
use Rattle.cx_compiler.proofs.NetLemmas.{net_of_text, net_refused, rows_of_text}
use Rattle.cx_compiler.proofs.RunLayers.{RunLaws, run_keeps_rules}
use Rattle.cx_compiler.proofs.TextLayers.{few_parts, text_flattens}
use Rattle.cx_compiler.proofs.nets.net_of.Goals as goal

pub sized_net-requires : goal.sized_net-requires
sized_net-requires c =
    let d = plain_design c.in-Ok.design in
    let flattens = text_flattens c.args.text.now d c.in-Ok.ensures.design (few_parts d c.in-Ok.design.keeps) in
    let run = c.what_is_run_is_accepted.ensures in
    let laws : RunLaws = record { flat = c.what_is_run_is_flat.ensures.flat; design = run.design; accepted = run.accepted; size = run.size } in
    record { flattens = flattens; rules = run_keeps_rules laws d flattens }

pub returns-in-Ok : goal.returns-in-Ok
returns-in-Ok c =
    let text = c.args.text.now in
    let d = plain_design c.in-Ok.design in
    let r = c.sized_net.result in
    let own = c.sized_net.ensures in
    let stands = c.in-Ok.ensures.design in
    let few = few_parts d c.in-Ok.design.keeps in
    let run = c.what_is_run_is_accepted.ensures in
    let laws : RunLaws = record { flat = c.what_is_run_is_flat.ensures.flat; design = run.design; accepted = run.accepted; size = run.size } in
    let answer = net_of_text (λ x. plain_net x.net) (λ x. plain_rows x.rows.items) text laws d stands few r own.answer in
    let cause = text_too_large text d r stands own.cause in
    record {
      answer = answer;
      rows = rows_of_text (λ x. plain_net x.net) (λ x. plain_rows x.rows.items) text laws d stands few r own.answer own.rows;
      widths = own.widths;
      cause = cause;
      all_answers = λ can. all_compiled (λ _. []) text r cause can;
      all_refusals = λ told b. net_refused (λ x. plain_net x.net) (λ x. plain_rows x.rows.items) text r answer cause told b;
    }

pub returns-in-Err : goal.returns-in-Err
returns-in-Err c =
    let text = c.args.text.now in
    let cause : IsCompileStop text c.in-Err.stop = refused_compile text c.in-Err.stop c.in-Err.ensures.cause in
    record {
      answer = tt;
      rows = tt;
      widths = tt;
      cause = cause;
      all_answers = λ can. all_compiled {X = Unit {0}} (λ _. []) text (Err c.in-Err.stop) cause can;
      all_refusals = λ told b. all_refused {X = Unit {0}} (λ _. []) text (Err c.in-Err.stop) tt cause told b;
    }
