-- The run of what is run of a design, counted beside it.
use Rattle.std.specs.Prelude.{◌≡◌, ◌⊎◌, ◌<◌, ◌%◌, ◌^◌, ℕ, List, Ok, Err, Some, length, map, slice_get}
use Rattle.cx_meaning.specs.Designs.{PlainDesign}
use Rattle.cx_meaning.specs.Instances.{Path, instance_at, part_of, paths_of, tree_of}
use Rattle.cx_profiling.specs.Counters.{entries_of}
use Rattle.cx_profiling.specs.Counting.{tally_of}
use Rattle.cx_profile.specs.declared.entries.ProfiledGroup.{ProfiledGroup}
use Rattle.cx_state.specs.Tables.{IsNumber}
use Rattle.cx_interp.specs.Counts.{count_at}
use Rattle.cx_commands.specs.declared.stops.Stop.{Stop}
use Rattle.cx_commands.specs.declared.stops.Stop.TheVariants as stops
use Rattle.cx_driver.specs.Leaving.{plain_left}
use Rattle.cx_driver.specs.Profiling.{PlainCounted, design_counted}
use Rattle.cx_driver.specs.declared.counted.Counted.{Counted}

abbrev pub plain_counted : Counted → PlainCounted
plain_counted counted = record { left = plain_left counted.left; counts = counted.counts.items }

-- these groups are the entries of the profile of a design, each by its number and that of its instance
pub record AreEntries (d : PlainDesign) (groups : List ProfiledGroup) : Type 0 where
  pub numbers : map (λ g. g.group) groups ≡ map (λ e. e.group) (entries_of (tree_of d))
  pub instances : map (λ g. slice_get (paths_of (tree_of d)) g.instance) groups ≡
      map (λ e. Some e.path) (entries_of (tree_of d))

-- a table has of each group of each instance of a design what the run of main counts, modulo two to the 64
abbrev pub AreTallied : PlainDesign → List (List ℕ) → ℕ → List (List ℕ) → Type 0
AreTallied d words budget counts =
    (n g : ℕ) (path : Path) → IsNumber d n path → g < length (part_of (instance_at (tree_of d) path)).groups
    → count_at counts n g % 2 ^ 64 ≡ tally_of d words budget path g % 2 ^ 64

-- what a design leaves on a data file, with its counts, or why it does not
abbrev pub CountsLoaded : PlainDesign → List ℕ → ℕ → PlainCounted → Type 0
CountsLoaded d json budget counted = design_counted d json budget ≡ Ok counted

abbrev pub StopsLoaded : PlainDesign → List ℕ → ℕ → Stop → Type 0
StopsLoaded d json budget stop = (stop ≡ stops.Memory) ⊎ (design_counted d json budget ≡ Err stop)
