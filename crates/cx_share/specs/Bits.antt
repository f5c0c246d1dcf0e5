-- Marks as bits of words, 64 to a word, the first the lowest.
use Rattle.std.specs.Prelude.{ℕ, ◌/◌, ◌%◌, Bool, nat_eq, List, get_or}
use Rattle.std.specs.Int.{bit_at}
use Rattle.cx_meaning.specs.Instances.{Set}
use Rattle.cx_share.specs.Marks.{marks_by}

-- the cells whose bit is 1
abbrev pub bit_in : List ℕ → Set
bit_in words c = nat_eq (bit_at (get_or words (c / 64) 0) (c % 64)) 1

-- the marks of so many cells
abbrev pub marks_of : ℕ → List ℕ → List Bool
marks_of count words = marks_by count (bit_in words)
