use Rattle.cx_eval_cycle.proofs.SteppingLemmas.{AreSoFar}
use Rattle.cx_eval_cycle.proofs.stepping.stepping_numbers.Given as goal

-- the numbers so far, with those of the cells that are left, are all
abbrev pub invariant-loop-cell : goal.invariant-loop-cell
invariant-loop-cell l = AreSoFar l.cells l.numbers.items l.cell
