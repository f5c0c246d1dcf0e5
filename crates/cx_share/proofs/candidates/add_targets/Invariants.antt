use Rattle.std.proofs.Common.{take}
use Rattle.cx_meaning.specs.Control.{targets_cell}
use Rattle.cx_share.specs.Marks.{Adds, any_of}
use Rattle.cx_share.proofs.candidates.add_targets.Given as goal

-- the cells that the assignments so far drive are added
abbrev pub invariant-loop-assign : goal.invariant-loop-assign
invariant-loop-assign l = Adds l.initial.marks l.marks (any_of (λ a. targets_cell a.target) (take l.assign-index l.assigns))
