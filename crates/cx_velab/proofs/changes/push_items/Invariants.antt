use Rattle.std.proofs.Common.{◌≡◌, ◌+◌, length, map, drop}
use Rattle.cx_vtree.specs.PlainParts.{plain_item}
use Rattle.cx_vnets.specs.Numberings.{nets_by, arrays_by}
use Rattle.cx_velab.specs.Coded.{items_exprs}
use Rattle.cx_velab.specs.Changes.{numbered_sets, numbered_stores, IsSet, IsStore}
use Rattle.cx_velab.proofs.AddedLemmas.{Done}
use Rattle.cx_velab.proofs.changes.push_items.Given as goal

abbrev pub invariant-loop-item : goal.invariant-loop-item
invariant-loop-item l = record {
  code : l.code + length (items_exprs (map plain_item (drop l.item-index l.items))) ≡ l.first + length (items_exprs (map plain_item l.items));
  sets : Done (IsSet (nets_by l.numbers) l.place) l.fn.sets.items l.sets.items (numbered_sets l.code (map plain_item (drop l.item-index l.items))) (numbered_sets l.first (map plain_item l.items));
  stores : Done (IsStore (arrays_by l.numbers) l.place) l.fn.stores.items l.stores.items (numbered_stores l.code (map plain_item (drop l.item-index l.items))) (numbered_stores l.first (map plain_item l.items));
}
