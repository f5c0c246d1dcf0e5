-- When numbered nets fit what is stored.
use Rattle.std.specs.Prelude.{◌≡◌, ℕ, ◌+◌, List, false, Some, length, map, slice_get}
use Rattle.cx_vtree.specs.Plain.{PlainExpr, PlainAssign, PlainStore}
use Rattle.cx_vtree.specs.Edges.{edge_at, acting_sets, acting_stores}
use Rattle.cx_vtree.specs.InstanceTree.{Placed, decls_at, nets_at, Origin, Outside, Tied, Held, Given, origin_of, arrays_at}
use Rattle.cx_vtree.specs.Sound.{Scope, misnames, fitting_width}
use Rattle.cx_vnets.specs.declared.nets.Nets.{Nets}
use Rattle.cx_vnets.specs.declared.nets.Stored.{Stored}
use Rattle.cx_vnets.specs.declared.codes.Code.{Code}
use Rattle.cx_vnets.specs.declared.edges.Set.{Set}
use Rattle.cx_vnets.specs.declared.stores.Store.{Store}
use Rattle.cx_vnets.specs.Arrays.{array_width, IsEven}
use Rattle.cx_vnets.specs.Edges.{SetsFit}
use Rattle.cx_vnets.specs.Fits.{width_at, Fits}
use Rattle.cx_vnets.specs.Stores.{plain_words, StoresFit}
use Rattle.cx_vtree.specs.NameNumbers.{position}
use Rattle.cx_vnets.specs.CodeLaws.{array_widths}
use Rattle.cx_vnets.specs.EdgesFlat.{SetsStand, StoresStand}
use Rattle.cx_vnets.specs.Numbers.{nets_before, arrays_before}
use Rattle.cx_vnets.specs.Flat.{NetsStand}
use Rattle.cx_velab.specs.Tables.{all_zeros, all_zero_arrays}
use Rattle.cx_velab.specs.Zeros.{widths_at}
pub use Rattle.cx_vlaws.specs.Widths.{scope_at}

-- what is stored has the widths of the nets and the arrays
pub record StoredHasWidths (tree : List Placed) (s : Stored) : Type 0 where
  pub count : length s.nets.items ≡ nets_before tree (length tree)
  pub nets : (i k w : ℕ) → slice_get (widths_at tree i) k ≡ Some w
      → width_at s.nets.items (nets_before tree i + k) ≡ Some w
  pub arrays : (i a w : ℕ) → slice_get (array_widths (decls_at tree i)) a ≡ Some w
      → array_width s.arrays.items (arrays_before tree i + a) ≡ Some w
  pub even : IsEven s.arrays.items

-- an expression names what is there, and its widths fit and give this one
abbrev pub IsSound : Scope → PlainExpr → ℕ → Type 0
IsSound scope e w = (misnames scope e ≡ false) × (fitting_width scope e ≡ Some w)

-- what gives a net of this width its value is as wide
abbrev pub IsAsWide : List Placed → ℕ → ℕ → Origin → Type 0
IsAsWide tree i w Outside = Unit {0}
IsAsWide tree i w (Tied j net) =
    (h : ℕ) × (position (nets_at tree j) net ≡ Some h) × (slice_get (widths_at tree j) h ≡ Some w)
IsAsWide tree i w (Held v) = Unit {0}
IsAsWide tree i w (Given e) = IsSound (scope_at tree i) e w

-- what gives each net its value is as wide
abbrev pub OriginsAreAsWide : List Placed → Type 0
OriginsAreAsWide tree =
    (i k w : ℕ) (name : List ℕ) (o : Origin) → slice_get (nets_at tree i) k ≡ Some name
    → slice_get (widths_at tree i) k ≡ Some w
    → origin_of tree i name ≡ Some o → IsAsWide tree i w o

-- nets that stand for those of a tree fit what is stored
abbrev pub NetsFit : Type 0
NetsFit =
    (tree : List Placed) (n : Nets) (s : Stored) → NetsStand tree n → StoredHasWidths tree s
    → OriginsAreAsWide tree → Fits n s

-- a register takes a value of its width
pub record SetIsAsWide (tree : List Placed) (i : ℕ) (a : PlainAssign) : Type 0 where
  pub number : ℕ
  pub width : ℕ
  pub net : position (nets_at tree i) a.name ≡ Some number
  pub there : slice_get (widths_at tree i) number ≡ Some width
  pub value : IsSound (scope_at tree i) a.value width

abbrev pub SetsAreAsWide : List Placed → ℕ → Type 0
SetsAreAsWide tree reset =
    (i j : ℕ) (a : PlainAssign) → slice_get (acting_sets reset (edge_at tree i)) j ≡ Some a
    → SetIsAsWide tree i a

-- sets that stand for those of a tree fit what is stored
abbrev pub AllSetsFit : Type 0
AllSetsFit =
    (tree : List Placed) (table : List Code) (s : Stored) (sets : List Set) (reset : ℕ)
    → SetsStand tree table reset sets → StoredHasWidths tree s → SetsAreAsWide tree reset
    → SetsFit table s.nets.items s.arrays.items sets

-- a word takes a value of its width, by a guard of one bit and an index of some width
pub record StoreIsAsWide (tree : List Placed) (i : ℕ) (a : PlainStore) : Type 0 where
  pub number : ℕ
  pub width : ℕ
  pub index_width : ℕ
  pub array : position (arrays_at tree i) a.array ≡ Some number
  pub there : slice_get (array_widths (decls_at tree i)) number ≡ Some width
  pub guard : IsSound (scope_at tree i) a.guard 1
  pub index : IsSound (scope_at tree i) a.index index_width
  pub value : IsSound (scope_at tree i) a.value width

abbrev pub StoresAreAsWide : List Placed → ℕ → Type 0
StoresAreAsWide tree reset =
    (i j : ℕ) (a : PlainStore) → slice_get (acting_stores reset (edge_at tree i)) j ≡ Some a
    → StoreIsAsWide tree i a

-- stores that stand for those of a tree fit what is stored
abbrev pub AllStoresFit : Type 0
AllStoresFit =
    (tree : List Placed) (table : List Code) (s : Stored) (stores : List Store) (reset : ℕ)
    → StoresStand tree table reset stores → StoredHasWidths tree s → StoresAreAsWide tree reset
    → StoresFit table s.nets.items s.arrays.items stores

-- zeros have the widths of the nets and the arrays
abbrev pub ZerosFit : Type 0
ZerosFit =
    (tree : List Placed) (s : Stored) → s.nets.items ≡ all_zeros tree
    → map plain_words s.arrays.items ≡ all_zero_arrays tree → StoredHasWidths tree s
