-- A walk through the tree of instances, past an instance and all below it, or past the instances of cells.
use Rattle.std.specs.Prelude.{◌≡◌, ℕ, ◌+◌, List, [], ◌∷◌, ◌++◌, if◌then◌else◌}
use Rattle.cx_meaning.specs.Designs.{PlainCell, PlainGroup}
use Rattle.cx_meaning.specs.Instances.{Instance, Cells}
use Rattle.cx_rules.specs.Sizes.{instances_below, instances_in}
use Rattle.cx_profile.specs.declared.entries.ProfiledGroup.{ProfiledGroup}
use Rattle.cx_profile.specs.declared.entries.Walk.{Walk}
use Rattle.cx_profile.specs.Counted.{counts_group}
use Rattle.cx_profile.specs.Rows.{rows_in, rows_below}

-- the row of a group of an instance, where it is counted, and those of its groups from group g on, by the cells of its component
abbrev pub counted_row : List PlainCell → ℕ → List ℕ → ℕ → PlainGroup → List ProfiledGroup
counted_row cells n names g x =
    if counts_group cells x then record { instance = n; group = g; path = names ++ x.name } ∷ [] else []

abbrev pub counted_rows : List PlainCell → ℕ → List ℕ → ℕ → List PlainGroup → List ProfiledGroup
counted_rows cells n names g [] = []
counted_rows cells n names g (x ∷ gs) = counted_row cells n names g x ++ counted_rows cells n names (g + 1) gs

pub record IsPast (i : Instance) (names : List ℕ) (before past : Walk) : Type 0 where
  pub groups : past.groups.items ≡ before.groups.items ++ rows_in i before.instance names
  pub instance : past.instance ≡ before.instance + instances_below i

pub record IsPastCells (cells : Cells) (cs : List PlainCell) (names : List ℕ) (before past : Walk) : Type 0 where
  pub groups : past.groups.items ≡ before.groups.items ++ rows_below cells cs before.instance names
  pub instance : past.instance ≡ before.instance + instances_in cells
