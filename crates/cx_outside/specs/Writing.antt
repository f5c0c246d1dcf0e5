-- What a sink has taken, where it is told.
use Rattle.std.specs.Prelude.{◌≡◌, ℕ, ◌<◌, List, ◌++◌, Option, length, take, option_map}

-- what is written after this piece too; where it was told it stays told
abbrev pub grown : Option (List ℕ) → List ℕ → Option (List ℕ)
grown before piece = option_map (λ bytes. bytes ++ piece) before

-- a front of the bytes that is not the whole was written
abbrev pub GrowsByPart : Option (List ℕ) → List ℕ → Option (List ℕ) → Type 0
GrowsByPart before bytes after = (n : ℕ) × (n < length bytes) × (after ≡ grown before (take n bytes))
