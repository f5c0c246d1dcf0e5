use Rattle.std.proofs.Common.{◌++◌, map, option_map, ap, sym, ◌∙◌}
use Rattle.cx_vtree.specs.PlainParts.{plain_assign, plain_item, plain_edge}
use Rattle.cx_vnets.specs.ModuleCodes.{IsCode}
use Rattle.cx_vnets.specs.Numberings.{nets_by, arrays_by}
use Rattle.cx_velab.specs.Coded.{values_of, items_exprs, edge_exprs}
use Rattle.cx_velab.proofs.AddedLemmas.{adds_both, adds_as}
use Rattle.cx_velab.proofs.coding.push_edge.Goals as goal

pub returns-in_ok-push_items-in-Some : goal.returns-in_ok-push_items-in-Some
returns-in_ok-push_items-in-Some c =
    adds_as (IsCode (nets_by c.args.numbers.now) (arrays_by c.args.numbers.now)) c.args.codes.now.items c.push_items.new.codes.items
    (values_of (map plain_assign c.deref.result.now) ++ items_exprs (map plain_item c.deref-in-Some.result.now)) (edge_exprs (option_map plain_edge c.args.edge.now))
    (ap (λ l. values_of (map plain_assign l) ++ items_exprs (map plain_item c.deref-in-Some.result.now)) c.deref.ensures.value
    ∙ ap (λ l. values_of (map plain_assign c.in-Some.edge.reset.items) ++ items_exprs (map plain_item l)) c.deref-in-Some.ensures.value
    ∙ ap (λ o. edge_exprs (option_map plain_edge o)) (sym c.in-Some.is))
    (adds_both (IsCode (nets_by c.args.numbers.now) (arrays_by c.args.numbers.now)) c.args.codes.now.items c.push_assigns.new.codes.items c.push_items.new.codes.items
    (values_of (map plain_assign c.deref.result.now)) (items_exprs (map plain_item c.deref-in-Some.result.now)) c.in_ok-push_assigns-in-Some.ensures c.in_ok-push_items-in-Some.ensures)
