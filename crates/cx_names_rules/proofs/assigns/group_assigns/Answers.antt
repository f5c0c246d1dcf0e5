use Rattle.std.proofs.Common.{◌≡◌, ◌∷◌, ◌+◌, drop, map, Some}
use Rattle.cx_ast.specs.PlainTree.{plain_assign}
use Rattle.cx_numbering.specs.NameRules.{assign_breaks}
use Rattle.cx_names_scopes.specs.Scopes.{tree_in, part_in}
use Rattle.cx_names_rules.proofs.FoundLemmas.{item_step}
use Rattle.cx_text.proofs.ListLaws.{drop_item}
use Rattle.cx_names_rules.proofs.assigns.group_assigns.Goals as goal

pub loop-item-preserved : goal.loop-item-preserved
loop-item-preserved c =
    let other : drop c.loop-item.item-index c.deref-item-items.result.now ≡ c.item-item.result ∷ drop (c.loop-item.item-index + 1) c.deref-item-items.result.now = drop_item _ _ _ c.item-item.is c.loop-item-test.true in
    item_step (assign_breaks (tree_in c.args.scope.now) (part_in c.args.scope.now)) (record { group = Some c.args.group.now.name; assign = plain_assign c.item-item.result })
    (map (λ a. record { group = Some c.args.group.now.name; assign = a }) (map plain_assign (drop (c.loop-item.item-index + 1) c.deref-item-items.result.now))) c.loop-item.found c.assign.new.found _
    (rw other at c.loop-item.invariant) c.in_ok-assign.ensures
