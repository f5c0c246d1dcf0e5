use Rattle.std.proofs.Common.{◌≡◌, ◌∷◌, ◌+◌, drop, flat_map, map, Some}
use Rattle.cx_ast.specs.declared.wiring.WireItem.TheVariants as items
use Rattle.cx_ast.specs.PlainTree.{plain_assign, plain_wire}
use Rattle.cx_numbering.specs.Names.{groups_in}
use Rattle.cx_numbering.specs.NameRules.{assign_breaks}
use Rattle.cx_names_scopes.specs.Scopes.{tree_in, part_in}
use Rattle.cx_names_rules.proofs.FoundLemmas.{parts_step, drop_known}
use Rattle.cx_names_rules.proofs.assigns.groups_assigns.Goals as goal

pub loop-wire-preserved : goal.loop-wire-preserved
loop-wire-preserved c =
    let other : drop c.loop-wire.wire-index c.args.wires.now ≡ items.Group c.in-Group.group ∷ drop (c.loop-wire.wire-index + 1) c.args.wires.now = drop_known _ _ c.wire-item.result _ c.wire-item.is c.in-Group.is c.loop-wire-test.true in
    parts_step (assign_breaks (tree_in c.args.scope.now) (part_in c.args.scope.now)) (map (λ a. record { group = Some c.in-Group.group.name; assign = a }) (map plain_assign c.in-Group.group.assigns.items))
    (flat_map (λ g. map (λ a. record { group = Some g.name; assign = a }) g.assigns) (groups_in (map plain_wire (drop (c.loop-wire.wire-index + 1) c.args.wires.now)))) c.loop-wire.found c.group_assigns.new.found _
    (rw other at c.loop-wire.invariant) c.in_ok-group_assigns.ensures
