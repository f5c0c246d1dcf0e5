use Rattle.std.proofs.Common.{◌≡◌, ◌∷◌, ◌+◌, [], drop, map, refl}
use Rattle.std.proofs.lemmas.List.{drop_all}
use Rattle.cx_ast.specs.PlainTree.{plain_port}
use Rattle.cx_numbering.specs.NameRules.{named}
use Rattle.cx_names_rules.proofs.FoundLemmas.{sees_start, sees_step}
use Rattle.cx_text.proofs.ListLaws.{drop_item}
use Rattle.cx_names_rules.proofs.duplicates.see_ports.Goals as goal

pub loop-port-init : goal.loop-port-init
loop-port-init c = λ before sees. sees_start _ _ _ _ before sees refl

pub loop-port-preserved : goal.loop-port-preserved
loop-port-preserved c = λ before sees.
    let other : drop c.loop-port.port-index c.args.ports.now ≡ c.port-item.result ∷ drop (c.loop-port.port-index + 1) c.args.ports.now = drop_item _ _ _ c.port-item.is c.loop-port-test.true in
    sees_step before (map (λ p. named p.name p.place) (map plain_port c.args.ports.now)) (map (λ p. named p.name p.place) (map plain_port (drop (c.loop-port.port-index + 1) c.args.ports.now))) (named c.port-item.result.name c.port-item.result.place) _ c.loop-port.found c.see.new.found c.loop-port.seen c.see.new.seen
    (rw other at (c.loop-port.invariant before sees)) c.in_ok-see.ensures

pub returns : goal.returns
returns c = λ before sees.
    let none : drop c.loop-port.port-index c.args.ports.now ≡ [] = drop_all _ _ c.loop-port-test.false in
    rw none at (c.loop-port.invariant before sees)
