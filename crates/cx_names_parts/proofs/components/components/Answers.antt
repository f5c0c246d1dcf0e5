use Rattle.std.proofs.Common.{◌≡◌, ◌≤◌, ◌∷◌, ◌+◌, [], Some, drop, flat_map, length, map, slice_get, sym, ap, ◌∙◌, subst, arith}
use Rattle.std.proofs.lemmas.List.{drop_all, length-map}
use Rattle.cx_ast.specs.PlainTree.{plain_component, plain_tree}
use Rattle.cx_numbering.specs.NameRules.{component_breaks}
use Rattle.cx_names_scopes.proofs.NameLemmas.{drop_found}
use Rattle.cx_names_scopes.specs.Scopes.{part_in}
use Rattle.cx_names_parts.specs.Leading.{AreCircles}
use Rattle.cx_names_rules.specs.Found.{first_of}
use Rattle.cx_names_rules.proofs.FoundLemmas.{item_step}
use Rattle.cx_names_parts.proofs.components.components.Goals as goal

pub component-requires-clause-circles : goal.component-requires-clause-circles
component-requires-clause-circles c = subst (λ t. AreCircles t c.in_ok-circles.circles) (sym c.new-scope.ensures.tree) c.in_ok-circles.ensures.value

pub component-requires-clause-number : goal.component-requires-clause-number
component-requires-clause-number c = subst (λ t. slice_get t.components c.loop-number.number ≡ Some (part_in c.new-scope.result)) (sym c.new-scope.ensures.tree) c.new-scope.ensures.part

pub loop-number-preserved : goal.loop-number-preserved
loop-number-preserved c =
    let tree = plain_tree c.args.tree.now in
    let parts = map plain_component c.args.tree.now.components.items in
    let part = part_in c.new-scope.result in
    let other : drop c.loop-number.number parts ≡ part ∷ drop (c.loop-number.number + 1) parts = drop_found parts c.loop-number.number part c.new-scope.ensures.part in
    record {
      end = c.loop-number.invariant.end;
      behind = item_step (component_breaks tree) part (drop (c.loop-number.number + 1) parts) c.loop-number.found c.component.new.found _
          (ap (λ ps. first_of c.loop-number.found (flat_map (component_breaks tree) ps)) (sym other) ∙ c.loop-number.invariant.behind)
          (c.in_ok-component.ensures ∙ ap (λ t. first_of c.loop-number.found (component_breaks t part)) c.new-scope.ensures.tree);
    }

pub returns : goal.returns
returns c =
    let tree = plain_tree c.args.tree.now in
    let parts = map plain_component c.args.tree.now.components.items in
    let past : length parts ≤ c.loop-number.number = omega (arith, length-map c.args.tree.now.components.items plain_component, c.loop-number.invariant.end, c.loop-number-test.false) in
    let none : drop c.loop-number.number parts ≡ [] = drop_all _ _ past in
    sym (ap (λ ps. first_of c.loop-number.found (flat_map (component_breaks tree) ps)) none) ∙ c.loop-number.invariant.behind
