use Rattle.std.proofs.Common.{◌+◌, length, sym, ap, ◌∙◌}
use Rattle.std.proofs.lemmas.List.{length-append}
use Rattle.cx_eval.proofs.SourceLemmas.{ports_more}
use Rattle.cx_eval.proofs.closing.port_sources.Goals as goal

pub loop-port-preserved : goal.loop-port-preserved
loop-port-preserved c =
    let sized = c.loop-port.invariant.sized in
    let more = c.in_ok-add_source-in-Some.ensures.items in
    record {
      sized = ap length more ∙ length-append c.loop-port.sources.items _ ∙ ap (λ k. k + 1) sized;
      each = λ i operators h known.
          ports_more i c.args.of.now.active.now operators c.args.cell c.loop-port.sources.items _ c.in_ok-narrow.field-0 c.in-Some.source (sized ∙ sym c.in_ok-narrow.ensures.value) (c.in-Some.ensures.value i operators h known) more
          (c.loop-port.invariant.each i operators h known);
    }
