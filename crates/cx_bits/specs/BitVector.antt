-- Values of a fixed width: what `Bits` stands for.
use Rattle.std.specs.Prelude.{ℕ, ◌^◌, ◌<◌, ◌≤◌}

-- a width in bits, and a number
pub record BitVector : Type 0 where
  pub width : ℕ
  pub value : ℕ

abbrev pub of_width : ℕ → ℕ → BitVector
of_width width value = record { width = width; value = value }

abbrev pub zero_of : ℕ → BitVector
zero_of width = of_width width 0

-- the width is 1 to 128, and the number is below two to the width
pub record Fits (b : BitVector) : Type 0 where
  pub some_bits : 1 ≤ b.width
  pub few_bits : b.width ≤ 128
  pub in_range : b.value < 2 ^ b.width
