-- For each group of a component whether an island has it.
use Rattle.std.specs.Prelude.{◌≡◌, ℕ, ◌<◌, Bool, false, List, length, get_or}
use Rattle.cx_static.specs.Islands.{PlainIsland}
use Rattle.cx_wiring.specs.Assignments.{occurs_in}

-- the marks tell of so many groups whether an island has them
pub record MarkGroups (marks : List Bool) (groups : ℕ) (islands : List PlainIsland) : Type 0 where
  pub count : length marks ≡ groups
  pub right : (g : ℕ) → g < groups → get_or marks g false ≡ occurs_in g islands
