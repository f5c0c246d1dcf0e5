-- Which machine stands for a source, and which outcome of its run for an outcome of the source's.
use Rattle.std.specs.Prelude.{◌≡◌, ℕ, ◌+◌, List, [], ◌∷◌, Some, map, slice_get, codes}
use Rattle.cx_text.specs.Loading.{word_count}
use Rattle.cx_vtree.specs.Plain.{PlainExternal, PlainSource}
use Rattle.cx_vtree.specs.InstanceTree.{Placed, decls_at, nets_at, Outside, origin_of, instances_of, arrays_at}
use Rattle.cx_vtree.specs.Edges.{array_size}
use Rattle.cx_vtree.specs.SimRun as source
use Rattle.cx_vtree.specs.SimRun.{instance_named, first_array}
use Rattle.cx_vnets.specs.Stores.{PlainWords}
use Rattle.cx_vnets.specs.Runs as flat
use Rattle.cx_vnets.specs.declared.machines.Machine.{Machine}
use Rattle.cx_vnets.specs.Numbers.{nets_before, net_number, array_number}
use Rattle.cx_vnets.specs.Flat.{NetsStand}
use Rattle.cx_vnets.specs.EdgesFlat.{SetsStand, StoresStand}

-- the net is the input of a name of `main`
pub record IsInput (tree : List Placed) (name : List ℕ) (f : ℕ) : Type 0 where
  pub number : net_number tree 0 name ≡ Some f
  pub outside : origin_of tree 0 name ≡ Some Outside

pub record MachineStands (tree : List Placed) (m : Machine) : Type 0 where
  pub nets : NetsStand tree m.nets
  pub resets : SetsStand tree m.nets.codes.items 1 m.resets.items
  pub sets : SetsStand tree m.nets.codes.items 0 m.sets.items
  pub stores : StoresStand tree m.nets.codes.items 0 m.stores.items
  pub reset : IsInput tree (codes "reset") m.reset
  pub go : IsInput tree (codes "go") m.go
  pub done : net_number tree 0 (codes "done") ≡ Some m.done

-- the external memory is the first array of an instance, which has as many words
pub record IsMemory (tree : List Placed) (e : PlainExternal) (j : ℕ) : Type 0 where
  pub instance : instance_named tree 0 e.instance ≡ Some j
  pub there : slice_get (arrays_at tree j) 0 ≡ Some (first_array (decls_at tree j))
  pub size : array_size (decls_at tree j) (first_array (decls_at tree j)) ≡ word_count e.sizes

abbrev pub MemoriesStand : PlainSource → Type 0
MemoriesStand s =
    (k : ℕ) (e : PlainExternal) → slice_get s.externals k ≡ Some e → (j : ℕ) × IsMemory (instances_of s) e j

-- these words of an external memory are those of its array
abbrev pub AreWordsOf : List Placed → List PlainWords → PlainExternal → List ℕ → Type 0
AreWordsOf tree arrays e words =
    (j : ℕ) × (a : ℕ) × (x : PlainWords) × (instance_named tree 0 e.instance ≡ Some j)
    × (array_number tree j (first_array (decls_at tree j)) ≡ Some a)
    × (slice_get arrays a ≡ Some x) × (words ≡ map (λ b. b.value) x.words)

abbrev pub AreAllWords : List Placed → List PlainWords → List PlainExternal → List (List ℕ) → Type 0
AreAllWords tree arrays [] [] = Unit {0}
AreAllWords tree arrays (e ∷ es) (words ∷ rest) = AreWordsOf tree arrays e words × AreAllWords tree arrays es rest
AreAllWords tree arrays [] (words ∷ rest) = ⊥
AreAllWords tree arrays (e ∷ es) [] = ⊥

-- the net of a number is this net of this instance
pub record IsNet (tree : List Placed) (f instance net : ℕ) : Type 0 where
  pub name : List ℕ
  pub stands_there : slice_get (nets_at tree instance) net ≡ Some name
  pub number : f ≡ nets_before tree instance + net

-- an outcome of the machine is one of the source
abbrev pub OutcomeStands : PlainSource → flat.Outcome → source.Outcome → Type 0
OutcomeStands s (flat.DoneIn t arrays) (source.DoneAt u words) =
    (t ≡ u) × AreAllWords (instances_of s) arrays s.externals words
OutcomeStands s (flat.LoopOf f) (source.LoopAt i k) = IsNet (instances_of s) f i k
OutcomeStands s flat.NotDone source.NotDone = Unit {0}
OutcomeStands s o p = ⊥
