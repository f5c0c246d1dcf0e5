use Rattle.std.proofs.Common.{◌≡◌, ◌∷◌, ◌+◌, drop, map}
use Rattle.cx_ast.specs.PlainTree.{plain_port}
use Rattle.cx_numbering.specs.NameRules.{port_breaks}
use Rattle.cx_names_scopes.specs.Scopes.{tree_in, part_in}
use Rattle.cx_names_rules.proofs.FoundLemmas.{item_step}
use Rattle.cx_text.proofs.ListLaws.{drop_item}
use Rattle.cx_names_rules.proofs.ports.signature_ports.Goals as goal

pub loop-item-preserved : goal.loop-item-preserved
loop-item-preserved c =
    let other : drop c.loop-item.item-index c.args.ports.now ≡ c.item-item.result ∷ drop (c.loop-item.item-index + 1) c.args.ports.now = drop_item _ _ _ c.item-item.is c.loop-item-test.true in
    item_step (port_breaks (tree_in c.args.scope.now) (part_in c.args.scope.now) c.args.is_input) (plain_port c.item-item.result) (map plain_port (drop (c.loop-item.item-index + 1) c.args.ports.now)) c.loop-item.found c.port.new.found _
    (rw other at c.loop-item.invariant) c.in_ok-port.ensures
