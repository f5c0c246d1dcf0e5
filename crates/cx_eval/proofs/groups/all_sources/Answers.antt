use Rattle.std.proofs.Common.{◌+◌, length, ap, ◌∙◌}
use Rattle.std.proofs.lemmas.List.{length-append}
use Rattle.cx_design.specs.PlainDesigns.{plain_design}
use Rattle.cx_eval.proofs.SourceLemmas.{sources_more}
use Rattle.cx_eval.proofs.groups.all_sources.Goals as goal

pub loop-number-preserved : goal.loop-number-preserved
loop-number-preserved c =
    let sized = c.loop-number.invariant.sized in
    let more = c.in_ok-push.ensures.items in
    record {
      sized = ap length more ∙ length-append c.loop-number.all.items _ ∙ ap (λ k. k + 1) sized;
      each = sources_more (plain_design c.args.design.now) c.loop-number.all.items _ c.loop-number.number c.in_ok-own_sources.field-0 sized c.in_ok-own_sources.ensures.value more c.loop-number.invariant.each;
    }
