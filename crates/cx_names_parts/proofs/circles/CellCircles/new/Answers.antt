use Rattle.std.proofs.Common.{◌≡◌, ◌↔◌, ◌∙◌, ap, IsTrue, sym, subst}
use Rattle.cx_ast.specs.PlainTree.{plain_tree}
use Rattle.cx_graphs.specs.Graphs.{IsGraph, edges_of, targets_of}
use Rattle.cx_graphs.specs.Ways.{HasCircle, IsTurned}
use Rattle.cx_names_parts.specs.Leading.{component_edges}
use Rattle.cx_names_parts.proofs.Leads.{edges_graph}
use Rattle.cx_names_parts.proofs.circles.CellCircles.new.Goals as goal

pub has_circle-requires : goal.has_circle-requires
has_circle-requires c =
    let same : edges_of c.deref.result.now ≡ component_edges (plain_tree c.args.tree.now) = ap (λ l. edges_of l) c.deref.ensures.value ∙ c.in_ok-edges.ensures.value in
    record { graph = subst (λ g. IsGraph g) (sym same) (edges_graph (plain_tree c.args.tree.now)) }

pub turned-requires : goal.turned-requires
turned-requires c =
    let same : edges_of c.deref-2.result.now ≡ component_edges (plain_tree c.args.tree.now) = ap (λ l. edges_of l) c.deref-2.ensures.value ∙ c.in_ok-edges.ensures.value in
    record { graph = subst (λ g. IsGraph g) (sym same) (edges_graph (plain_tree c.args.tree.now)) }

pub returns : goal.returns
returns c =
    let one : edges_of c.deref.result.now ≡ component_edges (plain_tree c.args.tree.now) = ap (λ l. edges_of l) c.deref.ensures.value ∙ c.in_ok-edges.ensures.value in
    let other : edges_of c.deref-2.result.now ≡ component_edges (plain_tree c.args.tree.now) = ap (λ l. edges_of l) c.deref-2.ensures.value ∙ c.in_ok-edges.ensures.value in
    record {
      value = record {
        users = subst (λ g. IsTurned g (edges_of c.in_ok-users.users.items)) other c.in_ok-users.ensures.value;
        circular = subst (λ g. IsTrue c.in_ok-is_circular.is_circular ↔ HasCircle (targets_of g)) one c.in_ok-is_circular.ensures.value;
      };
    }
