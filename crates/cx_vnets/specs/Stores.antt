-- The stores of an edge.
use Rattle.std.specs.Prelude.{◌≡◌, ℕ, ◌==◌, List, [], ◌∷◌, Option, Some, None, IsSome, slice_get, slice_set, if◌then◌else◌}
use Rattle.std.specs.Option.{option_map_or}
use Rattle.cx_bits.specs.BitVector.{BitVector}
use Rattle.cx_vnets.specs.declared.arrays.Words.{Words}
use Rattle.cx_vnets.specs.declared.codes.Code.{Code}
use Rattle.cx_vnets.specs.declared.codes.NetPosition.{NetPosition}
use Rattle.cx_vnets.specs.declared.stores.Store.{Store}
use Rattle.cx_vnets.specs.declared.stores.Write.{Write}
use Rattle.cx_vnets.specs.Arrays.{array_width}
use Rattle.cx_vnets.specs.Edges.{width_of, numbered}

-- an array without where its words lie in memory
pub record PlainWords : Type 0 where
  pub zero : BitVector
  pub words : List BitVector

abbrev pub plain_words : Words → PlainWords
plain_words x = record { zero = x.zero; words = x.words.items }

abbrev pub guarded : Option BitVector → Option BitVector → Option BitVector → Option Write
guarded None i v = None
guarded (Some g) None v = None
guarded (Some g) (Some i) None = None
guarded (Some g) (Some i) (Some v) = if g.value == 0 then None else Some (record { index = i.value; value = v })

-- what a store writes, by the values and the words before the edge; None where its guard is 0
abbrev pub write_of : List Code → List BitVector → List Words → Store → Option Write
write_of codes values arrays x =
    guarded (numbered codes values arrays x.place x.guard) (numbered codes values arrays x.place x.index)
    (numbered codes values arrays x.place x.value)

-- an array after a write; as it was where it has no such word
abbrev pub written : PlainWords → Write → PlainWords
written a w = record { zero = a.zero; words = slice_set a.words w.index w.value }

abbrev pub write_word : ℕ → Option Write → List PlainWords → List PlainWords
write_word a None arrays = arrays
write_word a (Some w) arrays = option_map_or (λ x. slice_set arrays a (written x w)) (slice_get arrays a) arrays

-- all arrays after the writes of stores, one for each
abbrev pub after_writes : List Store → List (Option Write) → List PlainWords → List PlainWords
after_writes [] ws arrays = arrays
after_writes (x ∷ xs) [] arrays = arrays
after_writes (x ∷ xs) (w ∷ ws) arrays = after_writes xs ws (write_word x.array w arrays)

-- a code is there, and its widths fit
abbrev pub HasCode : List Code → List BitVector → List Words → NetPosition → ℕ → Type 0
HasCode codes values arrays p k = (c : Code) × (slice_get codes k ≡ Some c) × (IsSome (width_of values arrays p c))

-- the codes of a store are there, and the value has the width of the array
pub record StoreFits (codes : List Code) (values : List BitVector) (arrays : List Words) (x : Store) : Type 0 where
  pub guard : HasCode codes values arrays x.place x.guard
  pub index : HasCode codes values arrays x.place x.index
  pub value : HasCode codes values arrays x.place x.value
  pub wide : (c : Code) → slice_get codes x.value ≡ Some c
      → width_of values arrays x.place c ≡ array_width arrays x.array

abbrev pub StoresFit : List Code → List BitVector → List Words → List Store → Type 0
StoresFit codes values arrays stores =
    (j : ℕ) (x : Store) → slice_get stores j ≡ Some x → StoreFits codes values arrays x

-- what is written has the width of its array
abbrev pub WritesFit : List Words → List Store → List (Option Write) → Type 0
WritesFit arrays stores writes =
    (j : ℕ) (x : Store) (w : Write) → slice_get stores j ≡ Some x → slice_get writes j ≡ Some (Some w)
    → array_width arrays x.array ≡ Some w.value.width
