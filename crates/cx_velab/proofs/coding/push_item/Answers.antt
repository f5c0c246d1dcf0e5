use Rattle.std.proofs.Common.{[], ◌∷◌, ap, sym}
use Rattle.cx_vtree.specs.PlainParts.{plain_expr, plain_item}
use Rattle.cx_vnets.specs.ModuleCodes.{IsCode}
use Rattle.cx_vnets.specs.Numberings.{nets_by, arrays_by}
use Rattle.cx_velab.specs.Coded.{item_exprs}
use Rattle.cx_velab.proofs.AddedLemmas.{adds_both, adds_as}
use Rattle.cx_velab.proofs.coding.push_item.Goals as goal

pub returns-in_ok-push_code-in-Store-3 : goal.returns-in_ok-push_code-in-Store-3
returns-in_ok-push_code-in-Store-3 c =
    adds_as (IsCode (nets_by c.args.numbers.now) (arrays_by c.args.numbers.now)) c.args.codes.now.items c.push_code-in-Store-3.new.codes.items
    (plain_expr c.in-Store.guard ∷ plain_expr c.in-Store.index ∷ plain_expr c.in-Store.value ∷ []) (item_exprs (plain_item c.args.item.now))
    (ap (λ x. item_exprs (plain_item x)) (sym c.in-Store.is))
    (adds_both (IsCode (nets_by c.args.numbers.now) (arrays_by c.args.numbers.now)) c.args.codes.now.items c.push_code-in-Store.new.codes.items c.push_code-in-Store-3.new.codes.items
    (plain_expr c.in-Store.guard ∷ []) (plain_expr c.in-Store.index ∷ plain_expr c.in-Store.value ∷ []) c.in_ok-push_code-in-Store.ensures
    (adds_both (IsCode (nets_by c.args.numbers.now) (arrays_by c.args.numbers.now)) c.push_code-in-Store.new.codes.items c.push_code-in-Store-2.new.codes.items c.push_code-in-Store-3.new.codes.items
    (plain_expr c.in-Store.index ∷ []) (plain_expr c.in-Store.value ∷ []) c.in_ok-push_code-in-Store-2.ensures c.in_ok-push_code-in-Store-3.ensures))
