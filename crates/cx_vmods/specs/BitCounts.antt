-- How many bits a counter or an index needs.
use Rattle.std.specs.Prelude.{ℕ, zero, suc, ◌+◌, ◌^◌, nat_le, if◌then◌else◌}

-- of the widths from `width` on, `more` of them and one, the first that has so many numbers, or else the last
unfoldable pub bits_from : ℕ → ℕ → ℕ → ℕ
bits_from zero width numbers = width
bits_from (suc more) width numbers = if nat_le numbers (2 ^ width) then width else bits_from more (width + 1) numbers

-- the least width, from 1 to 32, that has so many numbers
unfoldable pub bits_for : ℕ → ℕ
bits_for numbers = bits_from 31 1 numbers
