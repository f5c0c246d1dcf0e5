use Rattle.std.proofs.Common.{◌+◌, ◌*◌}
use Rattle.cx_meaning.specs.Cycles.{every_cell}
use Rattle.cx_turns.specs.Machines.{design_of, rows_of, IsAt}
use Rattle.cx_turns.proofs.Measures.{below}
use Rattle.cx_weave.specs.Deep.{IsDeep}
use Rattle.cx_weave.proofs.RestSteps.{below_number}
use Rattle.cx_weave.proofs.resting.+rest.Given as goal

abbrev pub decreases-rest_instance : goal.decreases-rest_instance
decreases-rest_instance l = 2 * below (design_of l.plan.now) l.instance + 1

abbrev pub decreases-rest_below : goal.decreases-rest_below
decreases-rest_below l = 2 * below (design_of l.plan.now) l.instance

-- what is below the children so far is idle
abbrev pub invariant-rest_instance-loop-cell : goal.invariant-rest_instance-loop-cell
invariant-rest_instance-loop-cell l = IsAt l.plan l.machine × IsDeep (design_of l.plan) (rows_of l.fn.machine) (rows_of l.machine) l.instance (below_number l.cell) every_cell
