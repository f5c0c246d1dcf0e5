use Rattle.std.proofs.Common.{◌≡◌, ℕ, List, drop, map}
use Rattle.cx_numbering.specs.Names.{number_of}
use Rattle.cx_design.specs.PlainForms.{plain_cell}
use Rattle.cx_names_scopes.specs.Numbered.{number_in, number_from, or_else}
use Rattle.cx_share.proofs.naming.cell_numbers.Given as goal

-- the numbers so far, and those that the cells behind will have, are those of all
abbrev pub invariant-loop-number : goal.invariant-loop-number
invariant-loop-number l = (n : List ℕ) → or_else (number_in l.numbers n) (number_from l.number n (map (λ cell. cell.name) (map plain_cell (drop l.number l.cells)))) ≡ number_of n (map (λ cell. cell.name) (map plain_cell l.cells))
