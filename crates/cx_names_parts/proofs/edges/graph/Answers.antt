use Rattle.std.proofs.Common.{◌≡◌, ◌≤◌, ◌∷◌, ◌++◌, ◌+◌, [], drop, length, map, append-nil, sym, ap, ◌∙◌, arith}
use Rattle.std.proofs.lemmas.List.{drop_all, length-map}
use Rattle.cx_ast.specs.PlainTree.{plain_component, plain_tree}
use Rattle.cx_graphs.specs.Graphs.{edges_of}
use Rattle.cx_names_scopes.proofs.NameLemmas.{drop_found}
use Rattle.cx_names_scopes.specs.Scopes.{part_in}
use Rattle.cx_names_parts.specs.Leading.{numbers_in, component_edges}
use Rattle.cx_names_parts.proofs.Steps.{edges_step}
use Rattle.cx_names_parts.proofs.edges.graph.Goals as goal

pub loop-number-preserved : goal.loop-number-preserved
loop-number-preserved c =
    let tree = plain_tree c.args.tree.now in
    let parts = map plain_component c.args.tree.now.components.items in
    let part = part_in c.new-scope.result in
    let other : drop c.loop-number.number parts ≡ part ∷ drop (c.loop-number.number + 1) parts = drop_found parts c.loop-number.number part c.new-scope.ensures.part in
    record {
      end = c.loop-number.invariant.end;
      behind = edges_step _ _ _ (numbers_in tree part.cells) (map (λ p. numbers_in tree p.cells) (drop (c.loop-number.number + 1) parts)) (component_edges tree)
          (c.in_ok-part_edges.ensures.value ∙ ap (λ t. numbers_in t part.cells) c.new-scope.ensures.tree)
          c.in_ok-push.ensures.items
          (ap (λ ps. edges_of c.loop-number.graph.items ++ map (λ p. numbers_in tree p.cells) ps) (sym other) ∙ c.loop-number.invariant.behind);
    }

pub returns : goal.returns
returns c =
    let tree = plain_tree c.args.tree.now in
    let parts = map plain_component c.args.tree.now.components.items in
    let past : length parts ≤ c.loop-number.number = omega (arith, length-map c.args.tree.now.components.items plain_component, c.loop-number.invariant.end, c.loop-number-test.false) in
    let none : drop c.loop-number.number parts ≡ [] = drop_all _ _ past in
    record { value = sym (append-nil (edges_of c.loop-number.graph.items)) ∙ ap (λ ps. edges_of c.loop-number.graph.items ++ map (λ p. numbers_in tree p.cells) ps) (sym none) ∙ c.loop-number.invariant.behind }
