-- What changes at an edge.
use Rattle.std.specs.Prelude.{◌≡◌, ℕ, ◌+◌, List, [], ◌∷◌, Option, Some, slice_get, slice_set, option_and_then}
use Rattle.std.specs.Option.{option_map_or}
use Rattle.cx_bits.specs.BitVector.{BitVector}
use Rattle.cx_vnets.specs.declared.arrays.Words.{Words}
use Rattle.cx_vnets.specs.declared.codes.Code.{Code}
use Rattle.cx_vnets.specs.declared.codes.NetPosition.{NetPosition}
use Rattle.cx_vnets.specs.declared.edges.Set.{Set}
use Rattle.cx_vnets.specs.Arrays.{word_at, array_width}
use Rattle.cx_vnets.specs.Codes.{code_in, code_width}
use Rattle.cx_vnets.specs.Fits.{width_at}

-- the value of a code of an instance, where all nets have these values
abbrev pub code_of : List BitVector → List Words → NetPosition → Code → Option BitVector
code_of values arrays p c = code_in (λ k. slice_get values (p.nets + k)) (λ a. word_at arrays (p.arrays + a)) c

abbrev pub width_of : List BitVector → List Words → NetPosition → Code → Option ℕ
width_of values arrays p c = code_width (λ k. width_at values (p.nets + k)) (λ a. array_width arrays (p.arrays + a)) c

-- the value of the code of a number
abbrev pub numbered : List Code → List BitVector → List Words → NetPosition → ℕ → Option BitVector
numbered codes values arrays p c = option_and_then (code_of values arrays p) (slice_get codes c)

abbrev pub after_sets : List Code → List BitVector → List Words → List Set → List BitVector → List BitVector
after_sets codes values arrays [] registers = registers
after_sets codes values arrays (x ∷ xs) registers =
    after_sets codes values arrays xs (option_map_or (λ v. slice_set registers x.net v)
    (numbered codes values arrays x.place x.code) registers)

-- the code of a set is there, and has the width of its net
abbrev pub SetsFit : List Code → List BitVector → List Words → List Set → Type 0
SetsFit codes values arrays sets = (j : ℕ) (x : Set) → slice_get sets j ≡ Some x
    → (c : Code) × (slice_get codes x.code ≡ Some c)
    × ((w : ℕ) × (width_of values arrays x.place c ≡ Some w) × (width_at values x.net ≡ Some w))
