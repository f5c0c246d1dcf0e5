-- The words that the tests start memories with.
use Rattle.std.specs.Prelude.{◌≡◌, ℕ, List, [], ◌∷◌}
use Rattle.cx_prim.specs.CellStates.{TakesWords}
use Rattle.cx_prim.specs.PrimitiveNames.{IsNamed}
use Rattle.cx_prim.specs.Table.{PrimitiveRow, row_of}

abbrev pub twelve : List ℕ
twelve = 10 ∷ 11 ∷ 12 ∷ 13 ∷ 14 ∷ 15 ∷ 16 ∷ 17 ∷ 18 ∷ 19 ∷ 20 ∷ 21 ∷ []

-- a primitive of this name and these numbers starts with the twelve words
abbrev pub TakesTwelve : List ℕ → List ℕ → Type 0
TakesTwelve name numbers =
    (p : PrimitiveRow) → IsNamed p.name name → p.numbers ≡ numbers → TakesWords (row_of p).shape twelve
