use Rattle.std.proofs.Common.{set, sym, ap, ◌∙◌, subst, arith}
use Rattle.cx_eval_network.specs.Stamps.{AreStamped, marks_at}
use Rattle.cx_eval_network.specs.declared.marks.NodeMark.TheVariants.{Known}
use Rattle.cx_eval_network.proofs.StampLemmas.{known_put, stamped_put}
use Rattle.cx_eval_network.proofs.marks.MarkTable.know.Goals as goal

pub invariant_of-self : goal.invariant_of-self
invariant_of-self c = subst (AreStamped c.self.inside.stamp) (sym c.put.ensures.value) (stamped_put c.self.inside.stamp c.self.inside.marks.items c.args.node _ (omega arith) c.self.invariant)

pub returns : goal.returns
returns c = record {
  marks = ap (marks_at c.self.inside.stamp) c.put.ensures.value
      ∙ known_put c.self.inside.stamp c.self.inside.marks.items c.args.node c.args.seen
      ∙ ap (λ ms. set ms c.args.node (Known c.args.seen)) c.self.view_is;
}
