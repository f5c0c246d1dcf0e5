-- Which numbered sets and stores stand for those of the edges of a tree of instances.
use Rattle.std.specs.Prelude.{◌≡◌, ℕ, List, Some, slice_get}
use Rattle.cx_vtree.specs.Plain.{PlainAssign, PlainStore}
use Rattle.cx_vtree.specs.InstanceTree.{Placed, nets_at, Held, origin_of, arrays_at}
use Rattle.cx_vtree.specs.Edges.{edge_at, acting_sets, acting_stores}
use Rattle.cx_vnets.specs.declared.codes.Code.{Code}
use Rattle.cx_vnets.specs.declared.edges.Set.{Set}
use Rattle.cx_vnets.specs.declared.stores.Store.{Store}
use Rattle.cx_vnets.specs.Numbers.{net_number, array_number, place_of}
use Rattle.cx_vnets.specs.Flat.{CodeStands}

-- the set is that of an assignment to a register in the instance
pub record SetStands (tree : List Placed) (table : List Code) (i : ℕ) (a : PlainAssign) (x : Set) : Type 0 where
  pub net : net_number tree i a.name ≡ Some x.net
  pub place : x.place ≡ place_of tree i
  pub code : CodeStands tree table i x.code a.value

pub record StoreStands (tree : List Placed) (table : List Code) (i : ℕ) (s : PlainStore) (x : Store) : Type 0 where
  pub array : array_number tree i s.array ≡ Some x.array
  pub place : x.place ≡ place_of tree i
  pub guard : CodeStands tree table i x.guard s.guard
  pub index : CodeStands tree table i x.index s.index
  pub value : CodeStands tree table i x.value s.value

-- the sets are those of the acting branches of all instances, and no others
pub record SetsStand (tree : List Placed) (table : List Code) (reset : ℕ) (sets : List Set) : Type 0 where
  pub each : (i j : ℕ) (a : PlainAssign) → slice_get (acting_sets reset (edge_at tree i)) j ≡ Some a
      → (h : ℕ) × (x : Set) × (slice_get sets h ≡ Some x) × SetStands tree table i a x
  pub only : (h : ℕ) (x : Set) → slice_get sets h ≡ Some x
      → (i : ℕ) × (j : ℕ) × (a : PlainAssign)
      × (slice_get (acting_sets reset (edge_at tree i)) j ≡ Some a) × SetStands tree table i a x

pub record StoresStand (tree : List Placed) (table : List Code) (reset : ℕ) (stores : List Store) : Type 0 where
  pub each : (i j : ℕ) (s : PlainStore) → slice_get (acting_stores reset (edge_at tree i)) j ≡ Some s
      → (h : ℕ) × (x : Store) × (slice_get stores h ≡ Some x) × StoreStands tree table i s x
  pub only : (h : ℕ) (x : Store) → slice_get stores h ≡ Some x
      → (i : ℕ) × (j : ℕ) × (s : PlainStore)
      × (slice_get (acting_stores reset (edge_at tree i)) j ≡ Some s) × StoreStands tree table i s x

-- no instance has two nets or two arrays of one name
pub record AreApart (tree : List Placed) : Type 0 where
  pub nets : (i k h : ℕ) (name : List ℕ) → slice_get (nets_at tree i) k ≡ Some name
      → slice_get (nets_at tree i) h ≡ Some name → k ≡ h
  pub arrays : (i a b : ℕ) (name : List ℕ) → slice_get (arrays_at tree i) a ≡ Some name
      → slice_get (arrays_at tree i) b ≡ Some name → a ≡ b

-- an edge sets registers, each once at most, and stores into an array once at most
pub record EdgesAreApart (tree : List Placed) : Type 0 where
  pub registers : (reset i j : ℕ) (a : PlainAssign)
      → slice_get (acting_sets reset (edge_at tree i)) j ≡ Some a
      → (w : ℕ) × (origin_of tree i a.name ≡ Some (Held w))
  pub sets : (reset i j h : ℕ) (a b : PlainAssign)
      → slice_get (acting_sets reset (edge_at tree i)) j ≡ Some a
      → slice_get (acting_sets reset (edge_at tree i)) h ≡ Some b
      → a.name ≡ b.name → j ≡ h
  pub stores : (reset i j h : ℕ) (s t : PlainStore)
      → slice_get (acting_stores reset (edge_at tree i)) j ≡ Some s
      → slice_get (acting_stores reset (edge_at tree i)) h ≡ Some t
      → s.array ≡ t.array → j ≡ h
