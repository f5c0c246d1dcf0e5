-- The word of a list: decimal numbers with commas between.
use Rattle.std.specs.Prelude.{◌≡◌, ℕ, ◌≤◌, ◌<◌, ◌^◌, ◌==◌, All, List, length, get_or, map}
use Rattle.std.specs.List.{slice_split}
use Rattle.std.specs.Str.Parse.{IsNumeral, digits_value}

-- what stands between commas
abbrev pub parts_of : List ℕ → List (List ℕ)
parts_of word = slice_split (λ b. b == 44) word

-- one decimal digit or more, with a value below 2^32; a zero stands first only alone
pub record IsChoice (digits : List ℕ) : Type 0 where
  pub numeral : IsNumeral 10 digits
  pub small : digits_value 10 digits < 2 ^ 32
  pub short : get_or digits 0 0 ≡ 48 → length digits ≡ 1

-- 1 to 4,096 of them
pub record IsList (word : List ℕ) : Type 0 where
  pub each : All IsChoice (parts_of word)
  pub most : length (parts_of word) ≤ 4096

-- its numbers
abbrev pub numbers_in : List ℕ → List ℕ
numbers_in word = map (digits_value 10) (parts_of word)
