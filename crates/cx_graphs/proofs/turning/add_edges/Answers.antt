use Rattle.std.proofs.Common.{rules, ◌<◌, get_or, take, sym, subst}
use Rattle.cx_graphs.specs.Graphs.{edges_of}
use Rattle.cx_graphs.specs.Additions.{Adds, IntoNode}
use Rattle.cx_graphs.proofs.Marks.{in_at, take_more}
use Rattle.cx_graphs.proofs.Additions.{no_nodes, more_nodes, same_nodes}
use Rattle.cx_graphs.proofs.turning.add_edges.Goals as goal

pub loop-node-init : goal.loop-node-init
loop-node-init c = no_nodes (edges_of c.args.graph.now.items) c.args.to

pub add_edge-requires : goal.add_edge-requires
add_edge-requires c =
    let ns = c.args.nodes.now in
    let k = c.loop-node.node-index in
    let long = same_nodes c.args.graph.now.items c.loop-node.graph.items (IntoNode (take k ns) c.args.to) c.loop-node.invariant in
    record { within = subst (λ n. get_or ns k 0 < n) (sym long) (c.requires.within (get_or ns k 0) (in_at ns k (search rules))) }

pub loop-node-preserved : goal.loop-node-preserved
loop-node-preserved c =
    let ns = c.args.nodes.now in
    let k = c.loop-node.node-index in
    let g = edges_of c.args.graph.now.items in
    let h = edges_of c.loop-node.graph.items in
    let after = edges_of c.add_edge.new.graph.items in
    subst (λ l. Adds g (IntoNode l c.args.to) after) (sym (take_more ns k (search rules)))
    (more_nodes g h after (take k ns) (get_or ns k 0) c.args.to c.loop-node.invariant c.in_ok-add_edge.ensures.value)
