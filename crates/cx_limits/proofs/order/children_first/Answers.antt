use Rattle.std.proofs.Common.{◌≡◌, map, sym, ap, ◌∙◌, subst}
use Rattle.cx_graphs.specs.Graphs.{Edges, edges_of, targets_of, IsGraph}
use Rattle.cx_graphs.specs.Ways.{HasCircle, IsOrder}
use Rattle.cx_design.specs.PlainDesigns.{plain_design}
use Rattle.cx_design.specs.PlainForms.{plain_component}
use Rattle.cx_limits.specs.Order.{component_edges, edges_from}
use Rattle.cx_limits.proofs.OrderLemmas.{told_none, told_some, is_graph, no_circle}
use Rattle.cx_limits.proofs.order.children_first.Goals as goal

pub order-requires : goal.order-requires
order-requires c =
    let d = plain_design c.args.design.now in
    let same : edges_of c.as_slice-2.result.now ≡ component_edges d =
    ap edges_of c.as_slice-2.ensures.value ∙ c.in_ok-graph.ensures ∙ ap (λ parts. edges_from (map plain_component parts)) c.as_slice.ensures.value in
    record { graph = subst IsGraph (sym same) (is_graph d c.args.design.now.keeps) }

pub unreachable-requires : goal.unreachable-requires
unreachable-requires c =
    let d = plain_design c.args.design.now in
    let g = edges_of c.as_slice-2.result.now in
    let same : g ≡ component_edges d =
    ap edges_of c.as_slice-2.ensures.value ∙ c.in_ok-graph.ensures ∙ ap (λ parts. edges_from (map plain_component parts)) c.as_slice.ensures.value in
    no_circle d c.args.design.now.keeps
    (subst (λ (h : Edges). HasCircle (targets_of h)) same (told_none (HasCircle (targets_of g)) (λ order. IsOrder g order.items) c.in_ok-order.field-0 c.in-None.is c.in_ok-order.ensures.value))

pub returns : goal.returns
returns c =
    let d = plain_design c.args.design.now in
    let g = edges_of c.as_slice-2.result.now in
    let same : g ≡ component_edges d =
    ap edges_of c.as_slice-2.ensures.value ∙ c.in_ok-graph.ensures ∙ ap (λ parts. edges_from (map plain_component parts)) c.as_slice.ensures.value in
    subst (λ (h : Edges). IsOrder h c.in-Some.order.items) same
    (told_some (HasCircle (targets_of g)) (λ order. IsOrder g order.items) c.in_ok-order.field-0 c.in-Some.order c.in-Some.is c.in_ok-order.ensures.value)
