use Rattle.std.proofs.Common.{◌≡◌, ◌+◌, sym, subst}
use Rattle.cx_graphs.specs.Graphs.{edges_of}
use Rattle.cx_graphs.specs.Edges.{no_edges}
use Rattle.cx_graphs.proofs.EdgeLemmas.{one_more}
use Rattle.cx_graphs.proofs.edges.no_edges.Goals as goal

pub loop-preserved : goal.loop-preserved
loop-preserved c =
    subst (λ l. edges_of l ≡ no_edges (c.loop.counter + 1)) (sym c.in_ok-push.ensures.items)
    (one_more c.loop.graph.items c.loop.counter c.new.result c.new.ensures.items c.loop.invariant)
