-- Where the groups of a child stand in the flat component of its caller, by numbers that are looked up once for its cell.
use Rattle.std.specs.Prelude.{ℕ, ◌+◌, List, [], ◌∷◌, map, flat_map, if◌then◌else◌}
use Rattle.cx_meaning.specs.Instances.{Path}
use Rattle.cx_rules.specs.Counts.{is_one_of}
use Rattle.cx_profiling.specs.Counters.{ProfileEntry}
use Rattle.cx_profiling.specs.FlatEntries.{entry_at}
use Rattle.cx_flat.specs.declared.enabled.Enabled.{Enabled}
use Rattle.cx_flat.specs.declared.placing.FlatPlace.{FlatPlace}
use Rattle.cx_flat.specs.declared.placing.Inlining.{Inlining}
use Rattle.cx_flat.specs.declared.placing.Placing.{Placing}
use Rattle.cx_flat.specs.declared.placing.Placing.TheVariants.{Kept, Inlined}
use Rattle.cx_flat.specs.Enabling.{copy_by}

-- a place is an entry of the profile of the flat design
abbrev pub plain_place : FlatPlace → ProfileEntry
plain_place p = entry_at p.path.items p.group

abbrev pub plain_places : List FlatPlace → List ProfileEntry
plain_places places = map plain_place places

-- where a group of a static child's own stands: once for each invoke, and nowhere where the child's control never enables it
abbrev pub copies_at : Enabled → ℕ → List ℕ → List ProfileEntry
copies_at enabled g firsts = map (λ first. entry_at [] (copy_by first enabled g)) firsts

abbrev pub copies_by : Inlining → ℕ → List ProfileEntry
copies_by child g = if is_one_of g child.used.items then copies_at child.enabled g child.firsts.items else []

abbrev pub inlined_by : Inlining → Path → ℕ → List ProfileEntry
inlined_by child [] g = copies_by child g
inlined_by child (e ∷ path) g = entry_at ((child.cells + e) ∷ path) g ∷ []

abbrev pub placed_by : Placing → Path → ℕ → List ProfileEntry
placed_by (Kept n) path g = entry_at (n ∷ path) g ∷ []
placed_by (Inlined child) path g = inlined_by child path g

-- where entries stand
abbrev pub placed_list : (Path → ℕ → List ProfileEntry) → List ProfileEntry → List ProfileEntry
placed_list place list = flat_map (λ e. place e.path e.group) list
