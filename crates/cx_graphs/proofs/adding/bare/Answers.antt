use Rattle.std.proofs.Common.{rules, ◌≡◌, ◌+◌, ◌≤◌, ◌∷◌, [], ◌++◌, length, sym, ap, ◌∙◌, subst, arith}
use Rattle.std.proofs.lemmas.List.{length-append}
use Rattle.cx_graphs.specs.Graphs.{edges_of}
use Rattle.cx_graphs.specs.Additions.{IsBare}
use Rattle.cx_graphs.proofs.Additions.{bare_more}
use Rattle.cx_graphs.proofs.adding.bare.Goals as goal

pub nodes-preserved : goal.nodes-preserved
nodes-preserved c =
    let lists = c.nodes.graph.items in
    let list = c.new.result in
    let items : c.push.new.self.items ≡ lists ++ list ∷ [] = c.in_ok-push.ensures.items in
    let long : length c.push.new.self.items ≡ length lists + 1 = ap length items ∙ length-append lists (list ∷ []) in
    record {
      few = let more : length lists + 1 ≤ c.args.count = search rules in omega (arith, long, more);
      none = subst (λ k. IsBare k (edges_of c.push.new.self.items)) (sym long) (bare_more (length lists) lists c.push.new.self.items list items c.new.ensures.items c.nodes.invariant.none);
    }
