use Rattle.std.proofs.Common.{◌≡◌, ◌++◌, drop}
use Rattle.cx_emit.specs.Names.{joined_numbers}
use Rattle.cx_emit.proofs.names.add_numbers.Given as goal

-- those so far, and those that are left, are all
abbrev pub invariant-loop-number : goal.invariant-loop-number
invariant-loop-number l = l.bytes.items ++ joined_numbers (drop l.number-index l.numbers) ≡ l.initial.bytes.items ++ joined_numbers l.numbers
