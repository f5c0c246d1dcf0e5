-- Words that go from memories to arrays and back.
use Rattle.std.specs.Prelude.{◌≡◌, ℕ, ◌<◌, ◌^◌, List, [], ◌∷◌, Some, All, length, slice_get, slice_set}
use Rattle.std.specs.Option.{option_map_or}
use Rattle.cx_text.specs.Loading.{PlainMemory}
use Rattle.cx_vnets.specs.Stores.{PlainWords}
use Rattle.cx_bits.specs.BitVector.{Fits}
use Rattle.cx_vsim.specs.WordNumbers.{AreNarrow, words_of_width}

-- an array with other words
abbrev pub rewritten : PlainWords → List ℕ → PlainWords
rewritten x words = record { zero = x.zero; words = words_of_width x.zero.width words }

abbrev pub with_array : ℕ → List ℕ → List PlainWords → List PlainWords
with_array a words arrays = option_map_or (λ x. slice_set arrays a (rewritten x words)) (slice_get arrays a) arrays

-- the arrays with the words of memories in those of these numbers
abbrev pub with_arrays : List ℕ → List PlainMemory → List PlainWords → List PlainWords
with_arrays [] ms arrays = arrays
with_arrays (a ∷ as_) [] arrays = arrays
with_arrays (a ∷ as_) (m ∷ ms) arrays = with_arrays as_ ms (with_array a m.words arrays)

-- there is an array for each memory, with as many words, wide enough
pub record Takes (arrays : List PlainWords) (a : ℕ) (m : PlainMemory) : Type 0 where
  pub array : PlainWords
  pub there : slice_get arrays a ≡ Some array
  pub size : length m.words ≡ length array.words
  pub below : All (λ n. n < 2 ^ array.zero.width) m.words

pub record CanTake (numbers : List ℕ) (arrays : List PlainWords) (ms : List PlainMemory) : Type 0 where
  pub count : length numbers ≡ length ms
  pub each : (k a : ℕ) (m : PlainMemory) → slice_get numbers k ≡ Some a → slice_get ms k ≡ Some m → Takes arrays a m

-- there is an array for each memory, with as many words, each of 64 bits at most
pub record Gives (arrays : List PlainWords) (a : ℕ) (m : PlainMemory) : Type 0 where
  pub array : PlainWords
  pub there : slice_get arrays a ≡ Some array
  pub size : length m.words ≡ length array.words
  pub narrow : AreNarrow array.words

pub record CanGive (numbers : List ℕ) (arrays : List PlainWords) (ms : List PlainMemory) : Type 0 where
  pub count : length numbers ≡ length ms
  pub each : (k a : ℕ) (m : PlainMemory) → slice_get numbers k ≡ Some a → slice_get ms k ≡ Some m → Gives arrays a m

-- the words of the arrays of these numbers fit their widths
abbrev pub AllGivenFit : List ℕ → List PlainWords → Type 0
AllGivenFit numbers arrays =
    (k a : ℕ) (x : PlainWords) → slice_get numbers k ≡ Some a → slice_get arrays a ≡ Some x
    → All Fits x.words
