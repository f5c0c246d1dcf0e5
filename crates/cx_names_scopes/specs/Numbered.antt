-- The numbers of names: each name has the place of the first part with it.
use Rattle.std.specs.Prelude.{◌≡◌, ℕ, ◌+◌, Bool, true, false, List, [], ◌∷◌, Option, Some, None, nat_eq, if◌then◌else◌}
use Rattle.std.specs.Cmp.Lexicographic.{pointwise}
use Rattle.indexmap.specs.IndexMap.{get}
use Rattle.cx_numbering.specs.Names.{number_of, same_name}
use Rattle.cx_names_scopes.specs.declared.numbers.Numbers.{Numbers}

-- the number of a name among these
abbrev pub number_in : Numbers → List ℕ → Option ℕ
number_in numbers name = get (pointwise nat_eq) numbers.first name

abbrev pub or_else : Option ℕ → Option ℕ → Option ℕ
or_else (Some n) other = Some n
or_else None other = other

-- a name with its number, where no earlier part has the name
abbrev pub number_if : Bool → ℕ → Option ℕ
number_if true n = Some n
number_if false n = None

abbrev pub IsAddedTo : Numbers → List ℕ → ℕ → Numbers → Type 0
IsAddedTo old name number new =
    (n : List ℕ) → number_in new n ≡ or_else (number_in old n) (number_if (same_name name n) number)

-- these are the numbers of the names of a list
abbrev pub AreNumbersOf : List (List ℕ) → Numbers → Type 0
AreNumbersOf names numbers = (n : List ℕ) → number_in numbers n ≡ number_of n names

-- the number of a name in a list whose first has the number k
abbrev pub number_from : ℕ → List ℕ → List (List ℕ) → Option ℕ
number_from k name [] = None
number_from k name (x ∷ xs) = if same_name x name then Some k else number_from (k + 1) name xs
