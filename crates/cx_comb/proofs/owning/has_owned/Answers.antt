use Rattle.std.proofs.Common.{◌∙◌, ⊎_elim, get_or, sym, subst, take, true≢false}
use Rattle.std.proofs.lemmas.List.{take_more}
use Rattle.cx_text.specs.Members.{In}
use Rattle.cx_graphs.specs.Owners.{Covers, owners_at}
use Rattle.cx_graphs.proofs.Lists.{in_last}
use Rattle.cx_graphs.proofs.Marks.{in_at}
use Rattle.cx_comb.proofs.owning.has_owned.Goals as goal

pub bounds-owners-node : goal.bounds-owners-node
bounds-owners-node c = c.requires.within _ (in_at c.args.nodes.now c.loop-node.node-index c.loop-node-test.true)

pub loop-node-preserved : goal.loop-node-preserved
loop-node-preserved c =
    let nodes = c.args.nodes.now in
    let k = c.loop-node.node-index in
    λ n i h. ⊎_elim
    (λ j. c.loop-node.invariant n j h)
    (λ same. true≢false (sym (c.may_own.ensures.covers.1 (subst (λ m. Covers (owners_at c.args.owners.now m) c.args.group) (sym same) h)) ∙ c.if-may_own.false))
    (in_last (take k nodes) (get_or nodes k 0) n (subst (λ l. In l n) (take_more nodes k 0 c.loop-node-test.true) i))
