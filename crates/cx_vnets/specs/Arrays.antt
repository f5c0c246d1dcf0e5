-- The words of arrays.
use Rattle.std.specs.Prelude.{◌≡◌, ℕ, List, slice_get, Option, Some, option_map, unwrap_or}
use Rattle.cx_bits.specs.BitVector.{BitVector}
use Rattle.cx_vnets.specs.declared.arrays.Words.{Words}

-- the word at an index; the zero where there is no such word
abbrev pub word_of : Words → ℕ → BitVector
word_of a index = unwrap_or (slice_get a.words.items index) a.zero

-- the same of the array of a number; where there is none, a word without bits
abbrev pub word_at : List Words → ℕ → ℕ → BitVector
word_at arrays a index =
    unwrap_or (option_map (λ x. word_of x index) (slice_get arrays a)) (record { width = 0; value = 0 })

abbrev pub array_width : List Words → ℕ → Option ℕ
array_width arrays a = option_map (λ x. x.zero.width) (slice_get arrays a)

-- the words of an array have the width of its zero
abbrev pub IsEven : List Words → Type 0
IsEven arrays =
    (a : ℕ) (x : Words) (k : ℕ) (b : BitVector) → slice_get arrays a ≡ Some x
    → slice_get x.words.items k ≡ Some b → b.width ≡ x.zero.width
