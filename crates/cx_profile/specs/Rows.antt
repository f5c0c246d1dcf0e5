-- The entries of a profile as rows: each group of each instance by their numbers and its path.
use Rattle.std.specs.Prelude.{ℕ, ◌+◌, List, [], ◌∷◌, ◌++◌, codes, if◌then◌else◌}
use Rattle.cx_meaning.specs.Designs.{PlainCell, PlainGroup}
use Rattle.cx_meaning.specs.Instances.{Instance, Node, Cells, no_cells, a_primitive, an_instance}
use Rattle.cx_rules.specs.Sizes.{instances_below}
use Rattle.cx_profiling.specs.Counters.{is_counted}
use Rattle.cx_profile.specs.declared.entries.ProfiledGroup.{ProfiledGroup}

-- the rows of an instance's own groups, from group g on: the instance has a number, and names lead to it
abbrev pub own_rows : Cells → ℕ → List ℕ → ℕ → List PlainGroup → List ProfiledGroup
own_rows cells n names g [] = []
own_rows cells n names g (x ∷ gs) =
    if is_counted cells x
    then record { instance = n; group = g; path = names ++ x.name } ∷ own_rows cells n names (g + 1) gs
    else own_rows cells n names (g + 1) gs

-- the name of the first cell, and the other cells
abbrev pub first_name : List PlainCell → List ℕ
first_name [] = []
first_name (cell ∷ cells) = cell.name

abbrev pub others : List PlainCell → List PlainCell
others [] = []
others (cell ∷ cells) = cells

abbrev pub names_below : List ℕ → List ℕ → List ℕ
names_below names name = (names ++ name) ++ codes "."

-- the rows of an instance and all below it, in pre-order. The instance has a number, and those behind it follow
abbrev mutual
  pub rows_in : Instance → ℕ → List ℕ → List ProfiledGroup
  rows_in (Node part cells) n names = own_rows cells n names 0 part.groups ++ rows_below cells part.cells (n + 1) names

  pub rows_below : Cells → List PlainCell → ℕ → List ℕ → List ProfiledGroup
  rows_below no_cells cs n names = []
  rows_below (a_primitive row rest) cs n names = rows_below rest (others cs) n names
  rows_below (an_instance child rest) cs n names =
      rows_in child n (names_below names (first_name cs))
      ++ rows_below rest (others cs) (n + instances_below child) names
