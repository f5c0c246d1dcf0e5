use Rattle.std.proofs.Common.{◌≡◌, ◌++◌, drop}
use Rattle.cx_design.specs.PlainForms.{plain_assigns}
use Rattle.cx_race.specs.Cells.{named_in_all}
use Rattle.cx_race.proofs.cells.add_assigns.Given as goal

-- what is added so far, and what the assignments that are left name, is all
abbrev pub invariant-loop-assign : goal.invariant-loop-assign
invariant-loop-assign l = l.cells.items ++ named_in_all (plain_assigns (drop l.assign-index l.assigns)) ≡ l.initial.cells.items ++ named_in_all (plain_assigns l.assigns)
