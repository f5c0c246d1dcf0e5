use Rattle.std.proofs.Common.{[], ◌∷◌, ap, sym, refl}
use Rattle.cx_vtree.specs.Plain.{PlainStore}
use Rattle.cx_vtree.specs.PlainParts.{plain_expr, plain_assign, plain_item}
use Rattle.cx_vnets.specs.Numberings.{nets_by, arrays_by}
use Rattle.cx_velab.specs.Changes.{item_sets, item_stores, IsSet, IsStore}
use Rattle.cx_velab.proofs.AddedLemmas.{adds_one, adds_as}
use Rattle.cx_velab.proofs.changes.push_item.Goals as goal

pub returns-in_ok-push-in-Set-clause-sets : goal.returns-in_ok-push-in-Set-clause-sets
returns-in_ok-push-in-Set-clause-sets c =
    adds_as (IsSet (nets_by c.args.numbers.now) c.args.place) c.args.sets.now.items c.push.new.self.items
    ((c.args.code, plain_assign c.in-Set.assign) ∷ []) (item_sets c.args.code (plain_item c.args.item.now))
    (ap (λ x. item_sets c.args.code (plain_item x)) (sym c.in-Set.is))
    (adds_one (IsSet (nets_by c.args.numbers.now) c.args.place) c.args.sets.now.items c.push.new.self.items c.set_of.result (c.args.code, plain_assign c.in-Set.assign)
    c.in_ok-push-in-Set.ensures.items (c.set_of.ensures (plain_assign c.in-Set.assign) refl))

pub returns-in_ok-push-in-Store-clause-stores : goal.returns-in_ok-push-in-Store-clause-stores
returns-in_ok-push-in-Store-clause-stores c =
    let s : PlainStore = record { guard = plain_expr c.in-Store.guard; array = c.in-Store.array; index = plain_expr c.in-Store.index; value = plain_expr c.in-Store.value } in
    adds_as (IsStore (arrays_by c.args.numbers.now) c.args.place) c.args.stores.now.items c.push-in-Store.new.self.items
    ((c.args.code, s) ∷ []) (item_stores c.args.code (plain_item c.args.item.now))
    (ap (λ x. item_stores c.args.code (plain_item x)) (sym c.in-Store.is))
    (adds_one (IsStore (arrays_by c.args.numbers.now) c.args.place) c.args.stores.now.items c.push-in-Store.new.self.items c.store_of.result (c.args.code, s)
    c.in_ok-push-in-Store.ensures.items (c.store_of.ensures s refl))
