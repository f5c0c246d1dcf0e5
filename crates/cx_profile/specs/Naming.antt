-- Free names, by the numbers of those that are taken.
use Rattle.std.specs.Prelude.{ℕ, not, List, filter, is_some, map, take}
use Rattle.std.specs.List.{range_with_len}
use Rattle.cx_names_scopes.specs.declared.numbers.Numbers.{Numbers}
use Rattle.cx_names_scopes.specs.Numbered.{number_in}
use Rattle.cx_profiling.specs.FreeNames.{profile_name}

-- of the names with numbers below a bound the first k that are not taken
abbrev pub first_free : Numbers → ℕ → ℕ → List (List ℕ)
first_free taken k last =
    take k
    (filter (λ name. not (is_some (number_in taken name))) (map profile_name (range_with_len 0 last)))
