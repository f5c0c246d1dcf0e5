use Rattle.std.proofs.Common.{◌≡◌, ◌++◌, drop}
use Rattle.cx_design.specs.PlainForms.{plain_assigns}
use Rattle.cx_race.specs.Cells.{driven_in}
use Rattle.cx_race.proofs.cells.add_targets.Given as goal

-- what is added so far, and what the assignments that are left drive, is all
abbrev pub invariant-loop-assign : goal.invariant-loop-assign
invariant-loop-assign l = l.cells.items ++ driven_in (plain_assigns (drop l.assign-index l.assigns)) ≡ l.initial.cells.items ++ driven_in (plain_assigns l.assigns)
