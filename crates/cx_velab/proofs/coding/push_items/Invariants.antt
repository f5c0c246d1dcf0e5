use Rattle.std.proofs.Common.{map, drop}
use Rattle.cx_vtree.specs.PlainParts.{plain_item}
use Rattle.cx_vnets.specs.ModuleCodes.{IsCode}
use Rattle.cx_vnets.specs.Numberings.{nets_by, arrays_by}
use Rattle.cx_velab.specs.Coded.{items_exprs}
use Rattle.cx_velab.proofs.AddedLemmas.{Done}
use Rattle.cx_velab.proofs.coding.push_items.Given as goal

abbrev pub invariant-loop-item : goal.invariant-loop-item
invariant-loop-item l =
    Done (IsCode (nets_by l.numbers) (arrays_by l.numbers)) l.fn.codes.items l.codes.items (items_exprs (map plain_item (drop l.item-index l.items))) (items_exprs (map plain_item l.items))
