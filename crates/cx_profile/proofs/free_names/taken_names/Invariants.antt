use Rattle.std.proofs.Common.{◌≡◌, ℕ, List, drop}
use Rattle.cx_numbering.specs.Names.{number_of}
use Rattle.cx_names_scopes.specs.Numbered.{number_in, number_from, or_else}
use Rattle.cx_profile.proofs.free_names.taken_names.Given as goal

-- the numbers so far, and those that the names behind will have, are those of all
abbrev pub invariant-loop-number : goal.invariant-loop-number
invariant-loop-number l = (n : List ℕ) → or_else (number_in l.taken n) (number_from l.number n (drop l.number l.names)) ≡ number_of n l.names
