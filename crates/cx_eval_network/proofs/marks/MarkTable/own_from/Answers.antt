use Rattle.std.proofs.Common.{drop, sym, ap, ◌∙◌}
use Rattle.std.proofs.lemmas.List.{drop-map}
use Rattle.cx_eval_network.specs.Stamps.{mark_at, marks_at}
use Rattle.cx_eval_network.proofs.marks.MarkTable.own_from.Goals as goal

pub returns : goal.returns
returns c = record {
  value = ap (marks_at c.self.inside.stamp) c.marks_behind.ensures.value
      ∙ ap (λ ms. marks_at c.self.inside.stamp (drop c.args.first ms)) c.deref.ensures.value
      ∙ sym (drop-map (mark_at c.self.inside.stamp) c.args.first c.self.inside.marks.items)
      ∙ ap (drop c.args.first) c.self.view_is;
}
