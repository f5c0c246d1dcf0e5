use Rattle.std.proofs.Common.{◌≡◌, ◌++◌, drop}
use Rattle.cx_design.specs.PlainForms.{plain_component}
use Rattle.cx_race.specs.Cells.{named_in_invokes}
use Rattle.cx_race.proofs.invokes.add_fed.Given as goal

-- what is added so far, and what the static invokes that are left name, is all
abbrev pub invariant-loop-number : goal.invariant-loop-number
invariant-loop-number l =
    l.cells.items ++ named_in_invokes (plain_component l.part) (drop l.number-index l.numbers) ≡ l.initial.cells.items ++ named_in_invokes (plain_component l.part) l.numbers
