-- Sets and stores, step by step.
use Rattle.std.proofs.Common.{◌≡◌, ℕ, ◌+◌, ◌<◌, List, map, length, get_or, drop, Some, option_map, ap, ◌∙◌, length-append}
use Rattle.cx_vtree.specs.declared.modules.EdgeItem.{EdgeItem}
use Rattle.cx_vtree.specs.Plain.{PlainAssign, PlainStore}
use Rattle.cx_vtree.specs.PlainParts.{plain_item}
use Rattle.cx_vnets.specs.declared.codes.NetPosition.{NetPosition}
use Rattle.cx_vnets.specs.declared.edges.Set.{Set}
use Rattle.cx_vnets.specs.declared.stores.Store.{Store}
use Rattle.cx_vnets.specs.ModuleCodes.{Numbering}
use Rattle.cx_velab.specs.Coded.{item_exprs, items_exprs}
use Rattle.cx_velab.specs.Changes.{IsSet, IsStore}
use Rattle.cx_velab.proofs.AddedLemmas.{rest_at}

pub set_is : (nets : Numbering) (place : NetPosition) (name : List ℕ) (k code : ℕ) (a : PlainAssign) → nets name ≡ Some k → a.name ≡ name
    → IsSet nets place (record { net = place.nets + k; code = code; place = place }) (code, a)
set_is nets place name k code a is e =
    ap (λ n. option_map (λ k. let x : Set = record { net = place.nets + k; code = code; place = place } in x) (nets n)) e
    ∙ ap (option_map (λ k. let x : Set = record { net = place.nets + k; code = code; place = place } in x)) is

pub store_is : (arrays : Numbering) (place : NetPosition) (name : List ℕ) (k code : ℕ) (s : PlainStore) → arrays name ≡ Some k → s.array ≡ name
    → IsStore arrays place (record { array = place.arrays + k; guard = code; index = code + 1; value = code + 2; place = place }) (code, s)
store_is arrays place name k code s is e =
    ap (λ n. option_map (λ k. let x : Store = record { array = place.arrays + k; guard = code; index = code + 1; value = code + 2; place = place } in x) (arrays n)) e
    ∙ ap (option_map (λ k. let x : Store = record { array = place.arrays + k; guard = code; index = code + 1; value = code + 2; place = place } in x)) is

-- the expressions of an item, and of those after it
pub exprs_at : (items : List EdgeItem) (i : ℕ) (x : EdgeItem) → i < length items → x ≡ get_or items i x
    → length (items_exprs (map plain_item (drop i items))) ≡ length (item_exprs (plain_item x)) + length (items_exprs (map plain_item (drop (i + 1) items)))
exprs_at items i x lt at =
    ap (λ l. length (items_exprs l)) (rest_at plain_item items i x lt at) ∙ length-append (item_exprs (plain_item x)) (items_exprs (map plain_item (drop (i + 1) items)))
