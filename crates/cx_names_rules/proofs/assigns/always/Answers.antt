use Rattle.std.proofs.Common.{◌≡◌, ◌∷◌, ◌+◌, drop, map, None}
use Rattle.cx_ast.specs.declared.wiring.WireItem.TheVariants as items
use Rattle.cx_ast.specs.PlainTree.{plain_assign, plain_wire}
use Rattle.cx_numbering.specs.Names.{always_in}
use Rattle.cx_numbering.specs.NameRules.{assign_breaks}
use Rattle.cx_names_scopes.specs.Scopes.{tree_in, part_in}
use Rattle.cx_names_rules.proofs.FoundLemmas.{item_step, drop_known}
use Rattle.cx_names_rules.proofs.assigns.always.Goals as goal

pub loop-wire-preserved : goal.loop-wire-preserved
loop-wire-preserved c =
    let other : drop c.loop-wire.wire-index c.args.wires.now ≡ items.Assign c.in-Assign.item ∷ drop (c.loop-wire.wire-index + 1) c.args.wires.now = drop_known _ _ c.wire-item.result _ c.wire-item.is c.in-Assign.is c.loop-wire-test.true in
    item_step (assign_breaks (tree_in c.args.scope.now) (part_in c.args.scope.now)) (record { group = None; assign = plain_assign c.in-Assign.item }) (map (λ a. record { group = None; assign = a }) (always_in (map plain_wire (drop (c.loop-wire.wire-index + 1) c.args.wires.now)))) c.loop-wire.found c.assign.new.found _
    (rw other at c.loop-wire.invariant) c.in_ok-assign.ensures
