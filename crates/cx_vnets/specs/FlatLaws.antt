-- What the numbered nets of a source do is what the source means.
use Rattle.std.specs.Prelude.{◌≡◌, ℕ, ◌+◌, ◌<◌, ◌↔◌, List, Some, length, slice_get}
use Rattle.cx_bits.specs.BitVector.{BitVector}
use Rattle.cx_vtree.specs.Plain.{PlainSource}
use Rattle.cx_vtree.specs.InstanceTree.{Placed, nets_at, instances_of}
use Rattle.cx_vtree.specs.Meaning as named
use Rattle.cx_vtree.specs.Meaning.{Moment, Look}
use Rattle.cx_vtree.specs.Edges.{state_after}
use Rattle.cx_vtree.specs.SimRun as source
use Rattle.cx_vtree.specs.SimRun.{IsFirstLoop, IsWhole, start_state, SimRun}
use Rattle.cx_vnets.specs.declared.codes.Code.{Code}
use Rattle.cx_vnets.specs.declared.edges.Set.{Set}
use Rattle.cx_vnets.specs.declared.stores.Store.{Store}
use Rattle.cx_vnets.specs.declared.nets.Nets.{Nets}
use Rattle.cx_vnets.specs.declared.nets.Stored.{Stored}
use Rattle.cx_vnets.specs.Edges.{SetsFit}
use Rattle.cx_vnets.specs.Search.{SameWidths, AllHave, IsFirstWithout}
use Rattle.cx_vnets.specs.Stores.{StoresFit}
use Rattle.cx_vnets.specs.Values.{HasValue}
use Rattle.cx_vnets.specs.declared.machines.Machine.{Machine}
use Rattle.cx_vnets.specs.declared.machines.Bench.{Bench}
use Rattle.cx_vnets.specs.Machines.{IsAfter}
use Rattle.cx_vnets.specs.Runs as flat
use Rattle.cx_vnets.specs.Runs.{IsReady, FlatRun}
use Rattle.cx_vnets.specs.Numbers.{nets_before, look_by}
use Rattle.cx_vnets.specs.Flat.{NetsStand}
use Rattle.cx_vnets.specs.Memory.{StoredStands}
use Rattle.cx_vnets.specs.EdgesFlat.{SetsStand, StoresStand, AreApart, EdgesAreApart}
use Rattle.cx_vnets.specs.RunsFlat.{MachineStands, MemoriesStand, IsNet, OutcomeStands}

-- a net has a value by its number exactly where it has that by instance and name
abbrev pub ValuesAreSame : Type 0
ValuesAreSame = (tree : List Placed) (m : Moment) (n : Nets) (s : Stored) → NetsStand tree n → StoredStands tree m s
    → (i k : ℕ) (name : List ℕ) (v : BitVector) → slice_get (nets_at tree i) k ≡ Some name
    → HasValue n s (nets_before tree i + k) v ↔ named.HasValue tree m i name v

-- the first net without a value by its number is the first by instance and place
abbrev pub LoopsAreSame : Type 0
LoopsAreSame = (tree : List Placed) (m : Moment) (n : Nets) (s : Stored) → NetsStand tree n → StoredStands tree m s
    → (f i k : ℕ) → IsNet tree f i k → IsFirstWithout n s f ↔ IsFirstLoop tree m i k

-- each number below the count is that of a net
abbrev pub AllAreNets : Type 0
AllAreNets =
    (tree : List Placed) (n : Nets) (f : ℕ) → NetsStand tree n → f < length n.drivers.items
    → (i : ℕ) × (k : ℕ) × IsNet tree f i k

-- values are those of all nets exactly where they are a whole look
abbrev pub WholesAreSame : Type 0
WholesAreSame =
    (tree : List Placed) (m : Moment) (n : Nets) (s : Stored) → NetsStand tree n → StoredStands tree m s
    → AreApart tree
    → (values : List BitVector) → length values ≡ length n.drivers.items
    → AllHave n s values ↔ IsWhole tree m (look_by tree values)

-- what is stored after an edge is what the source has stored after it
abbrev pub EdgesAreSame : Type 0
EdgesAreSame =
    (tree : List Placed) (m : Moment) (table : List Code) (values : List BitVector) (s after : Stored)
    (sets : List Set) (stores : List Store)
    → StoredStands tree m s → AreApart tree → EdgesAreApart tree → SetsStand tree table m.reset sets
    → StoresStand tree table m.reset stores
    → SameWidths values s.nets.items → SetsFit table values s.arrays.items sets
    → StoresFit table values s.arrays.items stores → IsAfter table sets stores values s after
    → StoredStands tree (record { state = state_after tree m (look_by tree values); reset = m.reset; go = m.go }) after

-- the run of a machine that stands for a source is the run of the source: what the machine tells, the source tells
abbrev pub RunsAreSame : Type 0
RunsAreSame =
    (s : PlainSource) (loaded : List (List ℕ)) (last : ℕ) (m : Machine) (start : Stored) (b : Bench)
    (reset go : ℕ) (o : flat.Outcome)
    → AreApart (instances_of s) → EdgesAreApart (instances_of s) → MemoriesStand s → MachineStands (instances_of s) m
    → StoredStands (instances_of s)
    (record { state = start_state s loaded; reset = reset; go = go }) start → IsReady m start b
    → FlatRun m start last o → (q : source.Outcome) × OutcomeStands s o q × SimRun s loaded last q
