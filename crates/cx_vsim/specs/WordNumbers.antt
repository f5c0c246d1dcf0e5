-- Words as numbers.
use Rattle.std.specs.Prelude.{ℕ, ◌<◌, ◌≤◌, ◌^◌, List, map, All}
use Rattle.cx_bits.specs.BitVector.{BitVector}

abbrev pub numbers_of : List BitVector → List ℕ
numbers_of words = map (λ b. b.value) words

-- the words of this width
abbrev pub words_of_width : ℕ → List ℕ → List BitVector
words_of_width width numbers = map (λ n. record { width = width; value = n }) numbers

-- each number is below two to the width
abbrev pub AreBelow : ℕ → List ℕ → Type 0
AreBelow width numbers = All (λ n. n < 2 ^ width) numbers

-- each word has 64 bits at most
abbrev pub AreNarrow : List BitVector → Type 0
AreNarrow words = All (λ b. b.width ≤ 64) words
