use Rattle.std.proofs.Common.{◌≡◌, ◌∷◌, ◌+◌, [], drop, map, refl}
use Rattle.std.proofs.lemmas.List.{drop_all}
use Rattle.cx_ast.specs.declared.wiring.WireItem.TheVariants as items
use Rattle.cx_ast.specs.PlainTree.{plain_wire}
use Rattle.cx_numbering.specs.Names.{groups_in}
use Rattle.cx_numbering.specs.NameRules.{named}
use Rattle.cx_names_rules.proofs.FoundLemmas.{sees_start, sees_step, drop_known}
use Rattle.cx_names_rules.proofs.duplicates.see_groups.Goals as goal

pub loop-wire-init : goal.loop-wire-init
loop-wire-init c = λ before sees. sees_start _ _ _ _ before sees refl

pub loop-wire-preserved : goal.loop-wire-preserved
loop-wire-preserved c = λ before sees.
    let other : drop c.loop-wire.wire-index c.args.wires.now ≡ items.Group c.in-Group.group ∷ drop (c.loop-wire.wire-index + 1) c.args.wires.now = drop_known _ _ c.wire-item.result _ c.wire-item.is c.in-Group.is c.loop-wire-test.true in
    sees_step before (map (λ g. named g.name g.place) (groups_in (map plain_wire c.args.wires.now))) (map (λ g. named g.name g.place) (groups_in (map plain_wire (drop (c.loop-wire.wire-index + 1) c.args.wires.now)))) (named c.in-Group.group.name c.in-Group.group.place) _ c.loop-wire.found c.see.new.found c.loop-wire.seen c.see.new.seen
    (rw other at (c.loop-wire.invariant before sees)) c.in_ok-see.ensures

pub returns : goal.returns
returns c = λ before sees.
    let none : drop c.loop-wire.wire-index c.args.wires.now ≡ [] = drop_all _ _ c.loop-wire-test.false in
    rw none at (c.loop-wire.invariant before sees)

pub loop-wire-preserved-in_default : goal.loop-wire-preserved-in_default
loop-wire-preserved-in_default c = λ before sees.
    let other : drop c.loop-wire.wire-index c.args.wires.now ≡ items.Assign c.in_default.field-0 ∷ drop (c.loop-wire.wire-index + 1) c.args.wires.now = drop_known _ _ c.wire-item.result _ c.wire-item.is c.in_default.is c.loop-wire-test.true in
    rw other at (c.loop-wire.invariant before sees)
