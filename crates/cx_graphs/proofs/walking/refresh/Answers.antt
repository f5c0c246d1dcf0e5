use Rattle.std.proofs.Common.{rules, ◌<◌, length, sym, subst}
use Rattle.std.proofs.lemmas.List.{length-set}
use Rattle.cx_text.proofs.MemberLaws.{in_left}
use Rattle.cx_text.specs.Members.{In}
use Rattle.cx_graphs.specs.declared.walking.Mark.TheVariants.{Fresh}
use Rattle.cx_graphs.proofs.Lists.{the_last}
use Rattle.cx_graphs.proofs.WalkLemmas.{refreshes}
use Rattle.cx_graphs.proofs.walking.refresh.Goals as goal

pub index_mut-requires : goal.index_mut-requires
index_mut-requires c =
    let node = c.in-Some.node in
    let h : node < length c.loop-node.marks.items = c.loop-node.invariant.within node (subst (λ l. In l node) (sym c.in-Some.ensures.some) (the_last c.last.new.waiting.items node)) in
    search rules

pub loop-node-preserved : goal.loop-node-preserved
loop-node-preserved c =
    let node = c.in-Some.node in
    let marks = c.loop-node.marks.items in
    let rest = c.last.new.waiting.items in
    record {
      within = λ n i. subst (λ k. n < k) (sym (length-set marks node Fresh)) (c.loop-node.invariant.within n (subst (λ l. In l n) (sym c.in-Some.ensures.some) (in_left rest _ n i)));
      known = λ count k. refreshes count marks c.loop-node.entered.items rest node c.in-Some.ensures.some (c.loop-node.invariant.known count k);
    }
