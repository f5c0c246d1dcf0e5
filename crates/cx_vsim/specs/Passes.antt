-- What is made of the instances one after another.
use Rattle.std.specs.Prelude.{◌≡◌, ℕ, ◌<◌, List, Some, slice_get}
use Rattle.cx_vtree.specs.Plain.{PlainPort, PlainAssign, PlainConn}
use Rattle.cx_vtree.specs.InstanceTree.{Placed, nets_at, Origin, origin_of}
use Rattle.cx_vtree.specs.Edges.{edge_at, acting_sets, acting_stores}
use Rattle.cx_vnets.specs.declared.codes.Code.{Code}
use Rattle.cx_vnets.specs.declared.nets.Driver.{Driver}
use Rattle.cx_vnets.specs.declared.edges.Set.{Set}
use Rattle.cx_vnets.specs.declared.stores.Store.{Store}
use Rattle.cx_vtree.specs.NameNumbers.{position}
use Rattle.cx_vnets.specs.EdgesFlat.{SetStands, StoreStands}
use Rattle.cx_velab.specs.Added.{Adds}
use Rattle.cx_velab.specs.Driven.{IsRight, IsWhole, IsTied}
use Rattle.cx_velab.specs.Covered.{IsStored}

-- what the ports of an instance are connected to has right drivers
abbrev pub RowTied : List Placed → List Code → List Driver → ℕ → Type 0
RowTied tree codes drivers i =
    (k n : ℕ) (p : Placed) (port : PlainPort) (c : PlainConn) → slice_get tree i ≡ Some p → (i ≡ 0 → ⊥)
    → slice_get p.part.ports k ≡ Some port
    → slice_get p.conns k ≡ Some c → position (nets_at tree p.holder) c.net ≡ Some n
    → IsTied tree codes drivers i p.holder k n port.output

-- what is assigned in an instance has right drivers
abbrev pub RowGiven : List Placed → List Code → List Driver → ℕ → Type 0
RowGiven tree codes drivers i =
    (j n : ℕ) (p : Placed) (a : PlainAssign) → slice_get tree i ≡ Some p
    → slice_get p.part.assigns j ≡ Some a → position (nets_at tree i) a.name ≡ Some n
    → IsRight tree codes drivers i n

-- what is stored has right drivers, and all of the instances below `count`
pub record DrivenBelow (tree : List Placed) (codes : List Code) (count : ℕ) (drivers : List Driver) : Type 0 where
  pub whole : IsWhole tree drivers
  pub stored : (i k : ℕ) (name : List ℕ) (o : Origin) → slice_get (nets_at tree i) k ≡ Some name
      → origin_of tree i name ≡ Some o → IsStored o → IsRight tree codes drivers i k
  pub ties : (i : ℕ) → i < count → RowTied tree codes drivers i
  pub givens : (i : ℕ) → i < count → RowGiven tree codes drivers i

-- each of the things of the instances below `count` has one that stands for it, and there are no others
pub record StandBelow {A B : Type 0} (acting : ℕ → List A) (Stands : ℕ → A → B → Type 0) (count : ℕ)
    (made : List B) : Type 0 where
  pub each : (i j : ℕ) (a : A) → i < count → slice_get (acting i) j ≡ Some a
      → (h : ℕ) × (x : B) × (slice_get made h ≡ Some x) × Stands i a x
  pub only : (h : ℕ) (x : B) → slice_get made h ≡ Some x
      → (i : ℕ) × (j : ℕ) × (a : A) × (i < count) × (slice_get (acting i) j ≡ Some a) × Stands i a x

-- the sets of the acting branch of an instance come behind others
abbrev pub AddsRowSets : List Placed → List Code → ℕ → ℕ → List Set → List Set → Type 0
AddsRowSets tree codes reset i old new =
    Adds (λ x a. SetStands tree codes i a x) old new (acting_sets reset (edge_at tree i))

abbrev pub AddsRowStores : List Placed → List Code → ℕ → List Store → List Store → Type 0
AddsRowStores tree codes i old new =
    Adds (λ x s. StoreStands tree codes i s x) old new (acting_stores 0 (edge_at tree i))
