use Rattle.std.proofs.Common.{rules}
use Rattle.std.proofs.lemmas.List.Sorted.{answers_always}
use Rattle.cx_fsm.proofs.TargetOrder.{sorted_is, rank_key}
use Rattle.cx_fsm.proofs.trees.by_target.Goals as goal

pub returns : goal.returns
returns c = record {
  value = sorted_is _ _ (c.in_ok-sort_by_key.ensures.sorted rank_key (answers_always _ _ _ (λ q a r q' k. search rules))) (c.in_ok-sort_by_key.ensures.stable rank_key (answers_always _ _ _ (λ q a r q' k. search rules)));
}
