use Rattle.std.proofs.Common.{◌≡◌, ◌∙◌, map, sym, ap, subst}
use Rattle.cx_design.specs.PlainForms.{plain_component}
use Rattle.cx_design.specs.PlainDesigns.{plain_design}
use Rattle.cx_graphs.specs.Graphs.{IsGraph, edges_of}
use Rattle.cx_design_copies.specs.Reaching.{edges_between}
use Rattle.cx_design_copies.proofs.EdgeLemmas.{is_graph, starts_within, marked_made}
use Rattle.cx_design_copies.proofs.reaching.made_of.Goals as goal

pub reached-requires-clause-graph : goal.reached-requires-clause-graph
reached-requires-clause-graph c =
    let edges : edges_of c.as_slice.result.now ≡ edges_between (plain_design c.args.design.now).components =
    ap edges_of c.as_slice.ensures.value ∙ c.in_ok-graph.ensures.value ∙ ap (λ cs. edges_between (map plain_component cs)) c.deref.ensures.value in
    subst IsGraph (sym edges) (is_graph (plain_design c.args.design.now) c.args.design.now.keeps)

pub reached-requires-clause-starts : goal.reached-requires-clause-starts
reached-requires-clause-starts c =
    let edges : edges_of c.as_slice.result.now ≡ edges_between (plain_design c.args.design.now).components =
    ap edges_of c.as_slice.ensures.value ∙ c.in_ok-graph.ensures.value ∙ ap (λ cs. edges_between (map plain_component cs)) c.deref.ensures.value in
    starts_within (plain_design c.args.design.now) c.args.design.now.keeps c.as_slice.result.now edges

pub returns : goal.returns
returns c =
    let edges : edges_of c.as_slice.result.now ≡ edges_between (plain_design c.args.design.now).components =
    ap edges_of c.as_slice.ensures.value ∙ c.in_ok-graph.ensures.value ∙ ap (λ cs. edges_between (map plain_component cs)) c.deref.ensures.value in
    record { value = marked_made (plain_design c.args.design.now) c.as_slice.result.now edges c.reached.result c.reached.ensures.len c.reached.ensures.sound c.reached.ensures.all }
