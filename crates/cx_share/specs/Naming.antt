-- Names by numbers, in lists of names in place of others.
use Rattle.std.specs.Prelude.{◌≡◌, ℕ, ◌<◌, List, Option, None, Some, get_or, length}
use Rattle.cx_meaning.specs.Designs.{PlainComponent}
use Rattle.cx_rules.specs.Ports.{cell_name}
use Rattle.cx_sharing.specs.Giving.{keeper}

-- in place of a name that has a number the one at that number
abbrev pub name_by : Option ℕ → List (List ℕ) → List ℕ → List ℕ
name_by None names name = name
name_by (Some number) names name = get_or names number name

-- for the first cells the names of the cells that stand for them
pub record AreKeeperNames (part : PlainComponent) (count : ℕ) (names : List (List ℕ)) : Type 0 where
  pub long : length names ≡ count
  pub named : (c : ℕ) → c < count → (other : List ℕ) → get_or names c other ≡ cell_name part.cells (keeper part c)
