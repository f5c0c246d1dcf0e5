use Rattle.std.proofs.Common.{rules, ◌≡◌, ◌<◌, length, sym, ◌∙◌, subst}
use Rattle.std.proofs.lemmas.List.{length-map}
use Rattle.cx_text.specs.Members.{In}
use Rattle.cx_graphs.specs.Graphs.{edges_of, targets_of}
use Rattle.cx_graphs.proofs.EdgeLemmas.{targets_are}
use Rattle.cx_graphs.proofs.WalkLemmas.{targets_within}
use Rattle.cx_comb.specs.Pruning.{AreMarked}
use Rattle.cx_comb.proofs.TargetLemmas.{IsKeptSo, none_kept, more_kept, all_kept}
use Rattle.cx_comb.proofs.pruning.kept.Goals as goal

pub loop-node-init : goal.loop-node-init
loop-node-init c = subst (λ l. IsKeptSo (edges_of c.args.graph.now) c.args.marks.now 0 (edges_of l)) (sym c.new-kept.ensures.items) (none_kept (edges_of c.args.graph.now) c.args.marks.now)

pub marked-requires : goal.marked-requires
marked-requires c =
    let lists = c.args.graph.now in
    let node = c.loop-node.node in
    let here : node < length lists = search rules in
    let same : targets_of (edges_of lists) node ≡ c.as_slice.result.now = sym (targets_are lists node c.index-graph-node.result here c.index-graph-node.is) ∙ sym c.as_slice.ensures.value in
    record { within = λ n i. subst (λ k. n < k) (length-map lists (λ v. v.items) ∙ sym c.requires.marks) (c.requires.graph node n (subst (λ l. In l n) (sym same) i)) }

pub loop-node-preserved : goal.loop-node-preserved
loop-node-preserved c =
    let lists = c.args.graph.now in
    let node = c.loop-node.node in
    let here : node < length lists = search rules in
    let same : targets_of (edges_of lists) node ≡ c.as_slice.result.now = sym (targets_are lists node c.index-graph-node.result here c.index-graph-node.is) ∙ sym c.as_slice.ensures.value in
    more_kept (edges_of lists) c.args.marks.now node c.loop-node.kept.items c.push.new.self.items c.in_ok-list.list c.in_ok-push.ensures.items c.loop-node.invariant
    (subst (λ l. AreMarked l c.args.marks.now c.in_ok-list.list.items) (sym same) c.in_ok-list.ensures.value)

pub returns : goal.returns
returns c =
    let lists = c.args.graph.now in
    let end : c.loop-node.node ≡ length lists = search rules in
    record {
      value = all_kept (edges_of lists) c.args.marks.now (edges_of c.loop-node.kept.items)
          (subst (λ n. IsKeptSo (edges_of lists) c.args.marks.now n (edges_of c.loop-node.kept.items)) (end ∙ sym (length-map lists (λ v. v.items))) c.loop-node.invariant) (targets_within (edges_of lists));
    }
