-- The bytes from the front of a text on that pass a test, and those behind them.
use Rattle.std.specs.Prelude.{ℕ, ◌≡◌, Bool, false, List, [], ◌∷◌, if◌then◌else◌}

abbrev pub front : (ℕ → Bool) → List ℕ → List ℕ
front test [] = []
front test (b ∷ bs) = if test b then b ∷ front test bs else []

abbrev pub back : (ℕ → Bool) → List ℕ → List ℕ
back test [] = []
back test (b ∷ bs) = if test b then back test bs else b ∷ bs

-- the text ends here, or the next byte fails the test
abbrev pub Stops : (ℕ → Bool) → List ℕ → Type 0
Stops test [] = Unit {0}
Stops test (b ∷ bs) = test b ≡ false
