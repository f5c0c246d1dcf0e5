use Rattle.std.proofs.Common.{rules, ◌≡◌, ◌<◌, length, sym, ◌∙◌, subst}
use Rattle.std.proofs.lemmas.List.{length-map}
use Rattle.cx_text.specs.Members.{In}
use Rattle.cx_graphs.specs.Graphs.{edges_of, targets_of}
use Rattle.cx_graphs.specs.Additions.{Adds, IntoNode, IsBackOfFirst}
use Rattle.cx_graphs.proofs.Members.{targets_are}
use Rattle.cx_graphs.proofs.Additions.{none_back, more_back, all_back, same_nodes}
use Rattle.cx_graphs.proofs.turning.turned.Goals as goal

pub loop-node-init : goal.loop-node-init
loop-node-init c = none_back (edges_of c.args.graph.now) (edges_of c.in_ok-turned.turned.items)

pub add_edges-requires : goal.add_edges-requires
add_edges-requires c =
    let lists = c.args.graph.now in
    let node = c.loop-node.node in
    let here : node < length lists = search rules in
    let same : targets_of (edges_of lists) node ≡ c.as_slice.result.now = targets_are lists node c.index-graph-node.result here c.index-graph-node.is ∙ sym c.as_slice.ensures.value in
    let start = c.in_ok-turned.ensures.value in
    let long : length lists ≡ length c.loop-node.turned.items =
    sym (same_nodes c.in_ok-turned.turned.items c.loop-node.turned.items (IsBackOfFirst (edges_of lists) node) c.loop-node.invariant ∙ sym (length-map c.in_ok-turned.turned.items (λ v. v.items)) ∙ start.same_length) in
    record { within = λ n i. subst (λ k. n < k) (length-map lists (λ v. v.items) ∙ long) (c.requires.graph node n (subst (λ l. In l n) (sym same) i)) }

pub loop-node-preserved : goal.loop-node-preserved
loop-node-preserved c =
    let lists = c.args.graph.now in
    let g = edges_of lists in
    let node = c.loop-node.node in
    let here : node < length lists = search rules in
    let same : targets_of g node ≡ c.as_slice.result.now = targets_are lists node c.index-graph-node.result here c.index-graph-node.is ∙ sym c.as_slice.ensures.value in
    let k = edges_of c.loop-node.turned.items in
    let l = edges_of c.add_edges.new.graph.items in
    more_back g (edges_of c.in_ok-turned.turned.items) k l node c.loop-node.invariant
    (subst (λ n. Adds k (IntoNode (targets_of g node) n) l) c.in_ok-to.ensures.value (subst (λ ns. Adds k (IntoNode ns c.in_ok-to.to) l) (sym same) c.in_ok-add_edges.ensures.value))

pub returns : goal.returns
returns c =
    let lists = c.args.graph.now in
    let end : c.loop-node.node ≡ length lists = search rules in
    record {
      value = all_back (edges_of lists) (edges_of c.in_ok-turned.turned.items) (edges_of c.loop-node.turned.items) (length lists) (length-map lists (λ v. v.items)) c.in_ok-turned.ensures.value
          (subst (λ n. Adds (edges_of c.in_ok-turned.turned.items) (IsBackOfFirst (edges_of lists) n) (edges_of c.loop-node.turned.items)) end c.loop-node.invariant);
    }
