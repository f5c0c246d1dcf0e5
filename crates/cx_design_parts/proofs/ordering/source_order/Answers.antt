use Rattle.std.proofs.Common.{◌≡◌, rules, ap, ◌∙◌}
use Rattle.std.proofs.lemmas.List.Sorted.{answers_always}
use Rattle.cx_meaning.specs.Active.{by_place}
use Rattle.cx_design_parts.proofs.SourceOrder.{sorted_is, place_key}
use Rattle.cx_design_parts.proofs.ordering.source_order.Goals as goal

pub returns : goal.returns
returns c = record {
  value = sorted_is _ _ (c.in_ok-sort_by_key.ensures.sorted place_key (answers_always _ _ _ (λ q a r q' k. search rules))) (c.in_ok-sort_by_key.ensures.stable place_key (answers_always _ _ _ (λ q a r q' k. search rules))) ∙ ap by_place c.in_ok-list.ensures.value;
}
