use Rattle.std.proofs.Common.{◌≡◌, ◌<◌, ◌∷◌, [], ◌++◌, ⊎_elim, sym, ◌∙◌, subst, arith}
use Rattle.cx_text.proofs.MemberLaws.{in_left}
use Rattle.cx_text.specs.Members.{In}
use Rattle.cx_graphs.proofs.Lists.{in_last, the_last}
use Rattle.cx_text.proofs.NumberLaws.{same_or_not}
use Rattle.cx_graphs.proofs.walking.all_nodes.Goals as goal

pub loop-node-preserved : goal.loop-node-preserved
loop-node-preserved c =
    let old = c.loop-node.nodes.items in
    let k = c.loop-node.node in
    let node = c.in_ok-narrow.field-0 in
    let items : c.push.new.self.items ≡ old ++ node ∷ [] = c.in_ok-push.ensures.items in
    let same : node ≡ k = c.in_ok-narrow.ensures.value in
    record {
      within = λ n i. ⊎_elim
          (λ j. let below : n < k = c.loop-node.invariant.within n j in omega arith)
          (λ e. let at : n ≡ k = sym e ∙ same in omega arith)
          (in_last old node n (subst (λ l. In l n) items i));
      all = λ n h. subst (λ l. In l n) (sym items)
          (⊎_elim
          (λ e. subst (In (old ++ node ∷ [])) (same ∙ e) (the_last old node))
          (λ d. let below : n < k = omega (arith, d) in in_left old (node ∷ []) n (c.loop-node.invariant.all n below))
          (same_or_not k n));
    }
