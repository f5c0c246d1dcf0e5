use Rattle.std.proofs.Common.{◌≡◌, ◌∷◌, ◌+◌, ◌<◌, drop, length, map, sym, arith}
use Rattle.std.proofs.lemmas.List.{map_push}
use Rattle.cx_text.proofs.ListLaws.{drop_item}
use Rattle.cx_ast.specs.declared.components.ComponentItem.{ComponentItem}
use Rattle.cx_design.specs.declared.components.Component.{Component}
use Rattle.cx_ast.specs.PlainTree as ast
use Rattle.cx_design.specs.PlainForms.{plain_component}
use Rattle.cx_share.proofs.TreeLemmas.{counts_at, counts_long, keepers_at, components_step}
use Rattle.cx_share.proofs.components.shared_components.Goals as goal

pub shared_component-requires-clause-keepers : goal.shared_component-requires-clause-keepers
shared_component-requires-clause-keepers c =
    let long : length c.args.parts.now ≡ length c.args.items.now = counts_long (λ (part : Component). length part.cells.items) (λ (item : ComponentItem). length item.cells.items) c.args.parts.now c.args.items.now c.requires.alike in
    let lt : c.loop-number.number < length c.args.parts.now = omega (arith, long, c.loop-number-test.true) in
    rw c.as_slice.ensures.value
    (keepers_at _ c.args.parts.now c.args.keepers.now c.loop-number.number c.index-parts-number.result c.index-keepers-number.result c.requires.keepers lt c.index-parts-number.is c.index-keepers-number.is)

pub shared_component-requires-clause-count : goal.shared_component-requires-clause-count
shared_component-requires-clause-count c =
    let long : length c.args.parts.now ≡ length c.args.items.now = counts_long (λ (part : Component). length part.cells.items) (λ (item : ComponentItem). length item.cells.items) c.args.parts.now c.args.items.now c.requires.alike in
    let lt : c.loop-number.number < length c.args.parts.now = omega (arith, long, c.loop-number-test.true) in
    sym (counts_at (λ (part : Component). length part.cells.items) (λ (item : ComponentItem). length item.cells.items) c.args.parts.now c.args.items.now c.loop-number.number c.index-parts-number.result c.index-items-number.result c.requires.alike lt
    c.loop-number-test.true c.index-parts-number.is c.index-items-number.is)

pub loop-number-preserved : goal.loop-number-preserved
loop-number-preserved c =
    let parts = c.args.parts.now in
    let items = c.args.items.now in
    let n = c.loop-number.number in
    let part = c.index-parts-number.result in
    let item = c.index-items-number.result in
    let long : length parts ≡ length items = counts_long (λ (part : Component). length part.cells.items) (λ (item : ComponentItem). length item.cells.items) parts items c.requires.alike in
    let lt : n < length parts = omega (arith, long, c.loop-number-test.true) in
    let first : drop n parts ≡ part ∷ drop (n + 1) parts = drop_item parts n part c.index-parts-number.is lt in
    let second : drop n items ≡ item ∷ drop (n + 1) items = drop_item items n item c.index-items-number.is c.loop-number-test.true in
    rw (c.in_ok-push.ensures.items, map_push ast.plain_component c.loop-number.components.items c.in_ok-shared_component.field-0)
    (components_step (plain_component part) (ast.plain_component item) (ast.plain_component c.in_ok-shared_component.field-0) (map plain_component (drop (n + 1) parts)) (map ast.plain_component (drop (n + 1) items))
    (map ast.plain_component c.loop-number.components.items) _ c.in_ok-shared_component.ensures.value (rw (first, second) at c.loop-number.invariant))
