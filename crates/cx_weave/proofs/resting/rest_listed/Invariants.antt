use Rattle.std.proofs.Common.{take}
use Rattle.cx_eval_cycle.specs.Passes.{listed_in}
use Rattle.cx_turns.specs.Machines.{design_of, rows_of, IsAt}
use Rattle.cx_weave.specs.Deep.{IsDeep}
use Rattle.cx_weave.proofs.resting.rest_listed.Given as goal

-- what is below the listed children so far is idle
abbrev pub invariant-loop-cell : goal.invariant-loop-cell
invariant-loop-cell l = IsAt l.plan l.machine × IsDeep (design_of l.plan) (rows_of l.fn.machine) (rows_of l.machine) l.instance (listed_in (take l.cell-index l.listed)) (listed_in l.listed)
