use Rattle.std.proofs.Common.{true, false, true≢false, Bool, Some, sym, ap, ◌∙◌, subst}
use Rattle.cx_text.proofs.MemberLaws.{in_left}
use Rattle.cx_text.specs.Members.{In}
use Rattle.cx_graphs.proofs.Lists.{in_last, the_last, some_is}
use Rattle.cx_comb.proofs.pruning.add_marked.Goals as goal

pub returns-in_ok-push : goal.returns-in_ok-push
returns-in_ok-push c =
    let e = c.in_ok-push.ensures.items in
    let before = c.args.marked.now.items in
    let node = c.args.node in
    record {
      kept = λ n i. subst (λ l. In l n) (sym e) (in_left before _ n i);
      known = λ n i. in_last before node n (subst (λ l. In l n) e i);
      has = λ m. subst (λ l. In l node) (sym e) (the_last before node);
    }

pub returns-else-is_marked-clause-has : goal.returns-else-is_marked-clause-has
returns-else-is_marked-clause-has c = λ m. absurd (true≢false (some_is true false (sym m ∙ c.is_marked.ensures.value ∙ ap (λ (b : Bool). Some b) c.if-is_marked.false)))
