use Rattle.cx_turns.specs.Machines.{design_of, rows_of, IsAt}
use Rattle.cx_weave.proofs.HeldSteps.{HoldsSoFar}
use Rattle.cx_weave.proofs.calls.hold_listed.Given as goal

abbrev pub invariant-loop-input : goal.invariant-loop-input
invariant-loop-input l = IsAt l.plan l.machine × HoldsSoFar (design_of l.plan) (rows_of l.fn.machine) (rows_of l.machine) l.child l.inputs l.input
