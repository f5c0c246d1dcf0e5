-- Words of external memories that a data file can hold.
use Rattle.std.specs.Prelude.{◌≡◌, ◌≤◌, true}
use Rattle.cx_meaning.specs.Designs.{PlainCell}
use Rattle.cx_rules.specs.Wellformed.{first_number}
use Rattle.cx_rules.specs.Externals.{numbers_of}

-- an external cell has words of at most 64 bits
abbrev pub IsNarrow : PlainCell → Type 0
IsNarrow cell = cell.external ≡ true → first_number (numbers_of cell.kind) ≤ 64
