use Rattle.std.proofs.Common.{◌≡◌, [], drop, map}
use Rattle.cx_design.specs.PlainForms.{plain_assign}
use Rattle.cx_turns.proofs.DriveLemmas.{with_targets}
use Rattle.cx_turns.proofs.driving.driven_cells.Given as goal

-- the cells so far, with those of the assignments that are left, are all
abbrev pub invariant-loop-assign : goal.invariant-loop-assign
invariant-loop-assign l = with_targets l.found.keys (map plain_assign (drop l.assign-index l.assigns)) ≡ with_targets [] (map plain_assign l.assigns)
