use Rattle.std.proofs.Common.{◌+◌, length, sym, ap, ◌∙◌}
use Rattle.std.proofs.lemmas.List.{length-append}
use Rattle.cx_eval.proofs.SourceLemmas.{groups_known_more}
use Rattle.cx_eval.proofs.groups.part_sources.Goals as goal

pub loop-number-preserved : goal.loop-number-preserved
loop-number-preserved c =
    let sized = c.loop-number.invariant.sized in
    let more = c.in_ok-push.ensures.items in
    record {
      sized = ap length more ∙ length-append c.loop-number.groups.items _ ∙ ap (λ k. k + 1) sized;
      each = λ i part plans.
          groups_known_more i c.loop-number.groups.items _ c.in_ok-group.group c.in_ok-sources_of.field-0 (sized ∙ sym c.in_ok-group.ensures.value) (c.in_ok-sources_of.ensures.value i (record { part = part; plans = plans })) more
          (c.loop-number.invariant.each i part plans);
    }
