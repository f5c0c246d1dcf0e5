use Rattle.std.proofs.Common.{set, sym, ap, ◌∙◌, subst, arith}
use Rattle.cx_meaning.specs.declared.sights.Seen.TheVariants.{Undefined}
use Rattle.cx_eval_network.specs.Stamps.{AreStamped, marks_at}
use Rattle.cx_eval_network.specs.declared.marks.NodeMark.TheVariants.{Open}
use Rattle.cx_eval_network.proofs.StampLemmas.{open_put, stamped_put}
use Rattle.cx_eval_network.proofs.marks.MarkTable.open.Goals as goal

pub invariant_of-self : goal.invariant_of-self
invariant_of-self c = subst (AreStamped c.self.inside.stamp) (sym c.put.ensures.value) (stamped_put c.self.inside.stamp c.self.inside.marks.items c.args.node _ (omega arith) c.self.invariant)

pub returns : goal.returns
returns c = record {
  marks = ap (marks_at c.self.inside.stamp) c.put.ensures.value
      ∙ open_put c.self.inside.stamp c.self.inside.marks.items c.args.node Undefined c.self.invariant.counts
      ∙ ap (λ ms. set ms c.args.node Open) c.self.view_is;
}
