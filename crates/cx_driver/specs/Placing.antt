-- Instances by the cells that lead to them, and what is counted of their groups.
use Rattle.std.specs.Prelude.{ℕ, ◌%◌, ◌^◌, List, [], ◌∷◌, get_or, sum_by}
use Rattle.cx_meaning.specs.Instances.{Path}
use Rattle.cx_state.specs.declared.tables.InstanceRow.{InstanceRow}
use Rattle.cx_state.specs.Tables.{child_of}
use Rattle.cx_profiling.specs.Counters.{ProfileEntry}
use Rattle.cx_interp.specs.Counts.{count_at}
use Rattle.cx_flat.specs.Places.{Standing}

-- the number of the instance to which a path leads from instance n
abbrev pub number_along : List InstanceRow → List ℕ → ℕ → Path → ℕ
number_along rows children n [] = n
number_along rows children n (c ∷ path) = number_along rows children (child_of rows children n c) path

-- what a table of counts has of a group of the instance at a path, and of some groups together, in 64 bits
abbrev pub count_of : List InstanceRow → List ℕ → List (List ℕ) → ProfileEntry → ℕ
count_of rows children counts e = count_at counts (number_along rows children 0 e.path) e.group

abbrev pub total_in : List InstanceRow → List ℕ → List (List ℕ) → List ProfileEntry → ℕ
total_in rows children counts list = sum_by (count_of rows children counts) list % 2 ^ 64

-- what stands for group g of instance n, where it is listed
abbrev pub standing_at : List Standing → ℕ → ℕ → List ProfileEntry
standing_at places n g = get_or (get_or places n []) g []
