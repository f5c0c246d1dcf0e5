use Rattle.std.proofs.Common.{◌≡◌, ◌∷◌, ◌+◌, drop, map, [], append-nil}
use Rattle.std.proofs.lemmas.List.{drop_all}
use Rattle.cx_ast.specs.PlainTree.{plain_component}
use Rattle.cx_names.proofs.PortLemmas.{all_step}
use Rattle.cx_text.proofs.ListLaws.{drop_item}
use Rattle.cx_names.proofs.ports.all_port_numbers.Goals as goal

pub loop-part-preserved : goal.loop-part-preserved
loop-part-preserved c = λ rest h.
    let other : drop c.loop-part.part-index c.args.parts.now ≡ c.part-item.result ∷ drop (c.loop-part.part-index + 1) c.args.parts.now = drop_item _ _ _ c.part-item.is c.loop-part-test.true in
    all_step _ (plain_component c.part-item.result) _ (map plain_component (drop (c.loop-part.part-index + 1) c.args.parts.now)) _ _ rest c.in_ok-port_numbers.ensures c.in_ok-push.ensures.items (rw other at c.loop-part.invariant) h

pub returns : goal.returns
returns c =
    let none : drop c.loop-part.part-index c.args.parts.now ≡ [] = drop_all _ _ c.loop-part-test.false in
    rw (← append-nil c.loop-part.all.items) (c.loop-part.invariant [] (rw none tt))
