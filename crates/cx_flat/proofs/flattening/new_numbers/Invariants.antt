use Rattle.std.proofs.Common.{◌≡◌, ◌++◌, drop}
use Rattle.cx_flat.specs.Flats.{numbers_of}
use Rattle.cx_flat.proofs.flattening.new_numbers.Given as goal

-- the numbers so far, and those of the components that are left, are all
abbrev pub invariant-loop-mark : goal.invariant-loop-mark
invariant-loop-mark l = l.numbers.items ++ numbers_of l.next (drop l.mark-index l.marks) ≡ numbers_of 0 l.marks
