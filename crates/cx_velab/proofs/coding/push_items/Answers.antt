use Rattle.std.proofs.Common.{◌+◌, ◌<◌, map, drop, length, ap, arith}
use Rattle.cx_vtree.specs.PlainParts.{plain_item}
use Rattle.cx_vnets.specs.ModuleCodes.{IsCode}
use Rattle.cx_vnets.specs.Numberings.{nets_by, arrays_by}
use Rattle.cx_velab.specs.Coded.{item_exprs, items_exprs}
use Rattle.cx_velab.proofs.AddedLemmas.{rest_at, done_more}
use Rattle.cx_text.proofs.ListLaws.{item_at}
use Rattle.cx_velab.proofs.coding.push_items.Goals as goal

pub push_item-requires : goal.push_item-requires
push_item-requires c =
    let lt : c.loop-item.item-index < length c.args.items.now = omega arith in
    c.requires c.loop-item.item-index (plain_item c.item-item.result) (item_at plain_item c.args.items.now c.loop-item.item-index c.item-item.result lt c.item-item.is)

pub loop-item-preserved : goal.loop-item-preserved
loop-item-preserved c =
    let lt : c.loop-item.item-index < length c.args.items.now = omega arith in
    done_more (IsCode (nets_by c.args.numbers.now) (arrays_by c.args.numbers.now)) c.args.codes.now.items c.loop-item.codes.items c.push_item.new.codes.items
    (item_exprs (plain_item c.item-item.result)) (items_exprs (map plain_item (drop c.loop-item.item-index c.args.items.now)))
    (items_exprs (map plain_item (drop (c.loop-item.item-index + 1) c.args.items.now))) (items_exprs (map plain_item c.args.items.now))
    c.loop-item.invariant c.in_ok-push_item.ensures
    (ap items_exprs (rest_at plain_item c.args.items.now c.loop-item.item-index c.item-item.result lt c.item-item.is))
