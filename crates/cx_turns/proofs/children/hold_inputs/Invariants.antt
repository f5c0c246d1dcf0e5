use Rattle.cx_turns.specs.Children.{HoldsFirst}
use Rattle.cx_turns.specs.Machines.{design_of, rows_of, IsAt}
use Rattle.cx_turns.proofs.children.hold_inputs.Given as goal

abbrev pub invariant-loop-input : goal.invariant-loop-input
invariant-loop-input l = IsAt l.plan l.machine × HoldsFirst (design_of l.plan) (rows_of l.initial.machine) (rows_of l.machine) l.instance l.group l.cell l.child l.input
