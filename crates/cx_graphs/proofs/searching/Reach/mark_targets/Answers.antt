use Rattle.std.proofs.Common.{◌≡◌, OnOk, sym, subst, ◌∙◌}
use Rattle.cx_text.specs.Members.{In}
use Rattle.cx_graphs.specs.Graphs.{Appends, edges_of, targets_of}
use Rattle.cx_graphs.proofs.Members.{targets_are}
use Rattle.cx_graphs.proofs.searching.Reach.mark_targets.Goals as goal

pub mark_all-requires : goal.mark_all-requires
mark_all-requires c =
    let same : targets_of (edges_of c.args.graph.now) c.args.node ≡ c.as_slice-targets.result.now =
    targets_are c.args.graph.now c.args.node c.index-graph-node.result c.requires.node c.index-graph-node.is ∙ sym c.as_slice-targets.ensures.value in
    record { within = λ n i. c.requires.graph c.args.node n (subst (λ l. In l n) (sym same) i) }

pub returns : goal.returns
returns c =
    let s = c.args.self.now in
    let same : targets_of (edges_of c.args.graph.now) c.args.node ≡ c.as_slice-targets.result.now =
    targets_are c.args.graph.now c.args.node c.index-graph-node.result c.requires.node c.index-graph-node.is ∙ sym c.as_slice-targets.ensures.value in
    record {
      appends = subst (λ l. OnOk c.mark_all.result (Appends s.marks.items s.touched.items l c.mark_all.new.marks.items c.mark_all.new.waiting.items)) (sym same) c.mark_all.ensures.appends;
    }
