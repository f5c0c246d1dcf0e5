-- The sets and stores of an instance, with the numbers of their codes.
use Rattle.std.specs.Prelude.{◌≡◌, ℕ, ◌+◌, ◌<◌, ◌^◌, List, [], ◌∷◌, ◌++◌, length, Some, IsSome, option_map, slice_get}
use Rattle.cx_vtree.specs.Plain.{PlainAssign, PlainStore, PlainItem, SetTo, StoreTo}
use Rattle.cx_vnets.specs.declared.codes.NetPosition.{NetPosition}
use Rattle.cx_vnets.specs.declared.edges.Set.{Set}
use Rattle.cx_vnets.specs.declared.stores.Store.{Store}
use Rattle.cx_vnets.specs.ModuleCodes.{Numbering}
use Rattle.cx_velab.specs.Added.{Adds}
use Rattle.cx_velab.specs.Coded.{item_exprs}

-- assigns with the numbers of their codes, from `first` on
abbrev pub numbered : ℕ → List PlainAssign → List (ℕ × PlainAssign)
numbered first [] = []
numbered first (a ∷ rest) = (first, a) ∷ numbered (first + 1) rest

-- the set or the store of an item with the number of its first code
abbrev pub item_sets : ℕ → PlainItem → List (ℕ × PlainAssign)
item_sets first (SetTo a) = (first, a) ∷ []
item_sets first (StoreTo s) = []

abbrev pub item_stores : ℕ → PlainItem → List (ℕ × PlainStore)
item_stores first (SetTo a) = []
item_stores first (StoreTo s) = (first, s) ∷ []

-- those of items, where each has as many codes as expressions
abbrev pub numbered_sets : ℕ → List PlainItem → List (ℕ × PlainAssign)
numbered_sets first [] = []
numbered_sets first (x ∷ items) = item_sets first x ++ numbered_sets (first + length (item_exprs x)) items

abbrev pub numbered_stores : ℕ → List PlainItem → List (ℕ × PlainStore)
numbered_stores first [] = []
numbered_stores first (x ∷ items) = item_stores first x ++ numbered_stores (first + length (item_exprs x)) items

-- the set of a numbered assign in an instance that begins there
abbrev pub IsSet : Numbering → NetPosition → Set → ℕ × PlainAssign → Type 0
IsSet nets place x p =
    option_map (λ k. record { net = place.nets + k; code = p.0; place = place }) (nets p.1.name) ≡ Some x

abbrev pub IsStore : Numbering → NetPosition → Store → ℕ × PlainStore → Type 0
IsStore arrays place x p =
    option_map (λ a.
    record { array = place.arrays + a; guard = p.0; index = p.0 + 1; value = p.0 + 2; place = place })
    (arrays p.1.array) ≡ Some x

abbrev pub AddsSets : Numbering → NetPosition → List Set → List Set → List (ℕ × PlainAssign) → Type 0
AddsSets nets place old new assigns = Adds (IsSet nets place) old new assigns

abbrev pub AddsStores : Numbering → NetPosition → List Store → List Store → List (ℕ × PlainStore) → Type 0
AddsStores arrays place old new stores = Adds (IsStore arrays place) old new stores

-- what is numbered from `start` on has small numbers
abbrev pub AreSmall : Numbering → ℕ → Type 0
AreSmall numbering start = (name : List ℕ) (k : ℕ) → numbering name ≡ Some k → start + k < 2 ^ 32

-- what is set has a number
abbrev pub AreNamed : Numbering → List PlainAssign → Type 0
AreNamed nets assigns = (j : ℕ) (a : PlainAssign) → slice_get assigns j ≡ Some a → IsSome (nets a.name)

abbrev pub ItemIsNamed : Numbering → Numbering → PlainItem → Type 0
ItemIsNamed nets arrays (SetTo a) = IsSome (nets a.name)
ItemIsNamed nets arrays (StoreTo s) = IsSome (arrays s.array)

-- what is set or stored has a number
abbrev pub ItemsAreNamed : Numbering → Numbering → List PlainItem → Type 0
ItemsAreNamed nets arrays items = (j : ℕ) (x : PlainItem) → slice_get items j ≡ Some x → ItemIsNamed nets arrays x
