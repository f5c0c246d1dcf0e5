use Rattle.std.proofs.Common.{◌+◌, ◌<◌, ◌++◌, map, drop, length, ap, sym, ◌∙◌, arith}
use Rattle.cx_vtree.specs.PlainParts.{plain_item}
use Rattle.cx_vnets.specs.Numberings.{nets_by, arrays_by}
use Rattle.cx_velab.specs.Changes.{item_sets, item_stores, numbered_sets, numbered_stores, IsSet, IsStore}
use Rattle.cx_velab.proofs.AddedLemmas.{rest_at, done_more}
use Rattle.cx_velab.proofs.ChangeLemmas.{exprs_at}
use Rattle.cx_text.proofs.ListLaws.{item_at}
use Rattle.cx_velab.proofs.changes.push_items.Goals as goal

pub push_item-requires-clause-named : goal.push_item-requires-clause-named
push_item-requires-clause-named c =
    let lt : c.loop-item.item-index < length c.args.items.now = omega arith in
    c.requires.named c.loop-item.item-index (plain_item c.item-item.result) (item_at plain_item c.args.items.now c.loop-item.item-index c.item-item.result lt c.item-item.is)

pub push_item-requires-clause-codes : goal.push_item-requires-clause-codes
push_item-requires-clause-codes c =
    let lt : c.loop-item.item-index < length c.args.items.now = omega arith in
    let e = exprs_at c.args.items.now c.loop-item.item-index c.item-item.result lt c.item-item.is in
    omega (arith, e, c.loop-item.invariant.code, c.requires.codes)

pub loop-item-preserved : goal.loop-item-preserved
loop-item-preserved c =
    let lt : c.loop-item.item-index < length c.args.items.now = omega arith in
    let i = c.loop-item.item-index in
    let items = c.args.items.now in
    let x = plain_item c.item-item.result in
    let rest = map plain_item (drop (i + 1) items) in
    let e = exprs_at items i c.item-item.result lt c.item-item.is in
    let at = rest_at plain_item items i c.item-item.result lt c.item-item.is in
    record {
      code = omega (arith, e, c.loop-item.invariant.code, c.in_ok-code.ensures.next);
      sets = done_more (IsSet (nets_by c.args.numbers.now) c.args.place) c.args.sets.now.items c.loop-item.sets.items c.push_item.new.sets.items
          (item_sets c.loop-item.code x) (numbered_sets c.loop-item.code (map plain_item (drop i items))) (numbered_sets c.in_ok-code.code rest) (numbered_sets c.args.first (map plain_item items))
          c.loop-item.invariant.sets c.in_ok-code.ensures.sets
          (ap (numbered_sets c.loop-item.code) at ∙ ap (λ k. item_sets c.loop-item.code x ++ numbered_sets k rest) (sym c.in_ok-code.ensures.next));
      stores = done_more (IsStore (arrays_by c.args.numbers.now) c.args.place) c.args.stores.now.items c.loop-item.stores.items c.push_item.new.stores.items
          (item_stores c.loop-item.code x) (numbered_stores c.loop-item.code (map plain_item (drop i items))) (numbered_stores c.in_ok-code.code rest) (numbered_stores c.args.first (map plain_item items))
          c.loop-item.invariant.stores c.in_ok-code.ensures.stores
          (ap (numbered_stores c.loop-item.code) at ∙ ap (λ k. item_stores c.loop-item.code x ++ numbered_stores k rest) (sym c.in_ok-code.ensures.next));
    }
