use Rattle.std.proofs.Common.{drop, slice_get, sym, ap, ◌∙◌, subst}
use Rattle.cx_eval_network.specs.Stamps.{AreStamped, followed, marks_at}
use Rattle.cx_eval_network.proofs.StampLemmas.{copied_follows, copied_stamped}
use Rattle.cx_eval_network.proofs.marks.MarkTable.follow.Goals as goal

pub invariant_of-self : goal.invariant_of-self
invariant_of-self c =
    subst (AreStamped c.self.inside.stamp) (sym c.copy_known.ensures.value)
    (copied_stamped c.self.inside.stamp c.self.inside.marks.items c.args.node (slice_get (drop c.args.first c.self.inside.marks.items) c.args.number) c.self.invariant)

pub returns : goal.returns
returns c = record {
  marks = ap (marks_at c.self.inside.stamp) c.copy_known.ensures.value
      ∙ copied_follows c.self.inside.stamp c.self.inside.marks.items c.args.node c.args.first c.args.number
      ∙ ap (λ ms. followed ms c.args.node (slice_get (drop c.args.first ms) c.args.number)) c.self.view_is;
}
