use Rattle.std.proofs.Common.{◌≡◌, ◌∷◌, ◌+◌, [], drop, map, refl}
use Rattle.std.proofs.lemmas.List.{drop_all}
use Rattle.cx_ast.specs.PlainTree.{plain_component}
use Rattle.cx_numbering.specs.NameRules.{named}
use Rattle.cx_names_rules.proofs.FoundLemmas.{sees_start, sees_step}
use Rattle.cx_text.proofs.ListLaws.{drop_item}
use Rattle.cx_names_rules.proofs.duplicates.see_components.Goals as goal

pub loop-component-init : goal.loop-component-init
loop-component-init c = λ before sees. sees_start _ _ _ _ before sees refl

pub loop-component-preserved : goal.loop-component-preserved
loop-component-preserved c = λ before sees.
    let other : drop c.loop-component.component-index c.args.components.now ≡ c.component-item.result ∷ drop (c.loop-component.component-index + 1) c.args.components.now = drop_item _ _ _ c.component-item.is c.loop-component-test.true in
    sees_step before (map (λ part. named part.name part.place) (map plain_component c.args.components.now)) (map (λ part. named part.name part.place) (map plain_component (drop (c.loop-component.component-index + 1) c.args.components.now))) (named c.component-item.result.name c.component-item.result.place) _ c.loop-component.found c.see.new.found c.loop-component.seen c.see.new.seen
    (rw other at (c.loop-component.invariant before sees)) c.in_ok-see.ensures

pub returns : goal.returns
returns c = λ before sees.
    let none : drop c.loop-component.component-index c.args.components.now ≡ [] = drop_all _ _ c.loop-component-test.false in
    rw none at (c.loop-component.invariant before sees)
