use Rattle.std.proofs.Common.{map}
use Rattle.cx_design.specs.PlainForms.{plain_cell}
use Rattle.cx_eval_cycle.proofs.SteppingLemmas.{AreKept}
use Rattle.cx_eval_cycle.proofs.stepping.stepping_cells.Given as goal

-- the cells so far
abbrev pub invariant-loop-cell : goal.invariant-loop-cell
invariant-loop-cell l = AreKept (map plain_cell l.cells) l.cell l.kept.items
