use Rattle.std.proofs.Common.{rules, ◌+◌, ◌<◌, subst, get_or, drop, arith}
use Rattle.std.proofs.lemmas.List.{length-map, drop_more}
use Rattle.cx_graphs.specs.Graphs.{edges_of}
use Rattle.cx_graphs.specs.GroundSearch.{IsSearch}
use Rattle.cx_graphs.proofs.Takes.{in_at}
use Rattle.cx_graphs.proofs.grounding.settle_all.Goals as goal

pub settle-requires-clause-within : goal.settle-requires-clause-within
settle-requires-clause-within c =
    let nodes = c.args.nodes.now in
    let k = c.loop-node.node-index in
    subst (λ n. get_or nodes k 0 < n) (length-map c.args.graph.now _) (c.requires.way.few_todo _ (in_at nodes k (search rules)))

pub loop-node-preserved : goal.loop-node-preserved
loop-node-preserved c =
    let nodes = c.args.nodes.now in
    let k = c.loop-node.node-index in
    let s = c.loop-node.search in
    record {
      way = c.in_ok-settle.ensures.way (drop (k + 1) nodes)
          (subst (λ l. IsSearch (edges_of c.args.graph.now) s l) (drop_more nodes k 0 (search rules)) c.loop-node.invariant.way);
      less = let one = c.in_ok-settle.ensures.less in let before = c.loop-node.invariant.less in omega (arith, one, before);
    }
